use Rattle.std.proofs.Common.{ap, sym, arith, ◌∙◌}
use Rattle.machine_model.specs.Lists.{is_number}
use Rattle.cue_scripts.proofs.NameLemmas.{from_first, from_next}
use Rattle.cue_scripts.proofs.channels.name_of.Goals as goal

pub loop-port-init : goal.loop-port-init
loop-port-init c = record { rest = from_first c.args.conf.now c.args.p c.args.chan c.port_count-ports.result c.port_count-ports.ensures; within = omega arith }

pub loop-port-preserved : goal.loop-port-preserved
loop-port-preserved c = record {
  rest = from_next c.args.conf.now c.args.p c.args.chan c.port_count-ports.result c.loop-port.port (omega (arith, c.loop-port-test.true)) (ap (λ found. is_number found c.args.chan) (sym c.channel_of.ensures.value) ∙ sym c.is_number.ensures ∙ c.if-is_number.false) ∙ c.loop-port.invariant.rest;
  within = omega (arith, c.loop-port-test.true);
}
