use Rattle.system_state.specs.State.{with_inputs}
use Rattle.xm_alone.proofs.BootLemmas.{booted-lone, booted-there}
use Rattle.xm_alone.proofs.alone.Alone.new.Goals as goal

pub invariant_of-result : goal.invariant_of-result
invariant_of-result c =
    booted-there c.keeps_numbers.ensures.boots (with_inputs c.args.system c.args.inputs) c.in_ok-boot.field-0.state c.args.p c.requires.partition c.in_ok-boot.ensures.state

pub returns : goal.returns
returns c =
    booted-lone c.boots_alone.ensures.law c.keeps_numbers.ensures.boots (with_inputs c.args.system c.args.inputs) c.in_ok-boot.field-0.state c.args.p c.requires.partition c.in_ok-boot.ensures.state
