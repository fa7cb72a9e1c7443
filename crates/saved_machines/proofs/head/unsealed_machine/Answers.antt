use Rattle.std.proofs.Common.{codes}
use Rattle.std.proofs.lemmas.Result.{err_from_is_err_and}
use Rattle.file_headers.specs.Known.{head_faults}
use Rattle.file_headers.specs.lemmas.LiftedLemmas.{refused_so, unsealed_so}
use Rattle.saved_machines.specs.SavedFields.{saved_fault}
use Rattle.saved_machines.proofs.head.unsealed_machine.Goals as goal

pub returns-in_err-unsealed : goal.returns-in_err-unsealed
returns-in_err-unsealed c =
    let p = err_from_is_err_and c.from_residual.result c.from_residual.ensures.1 in
    rw (p.1, p.2) (refused_so saved_fault head_faults (codes "XMSM") 1 c.args.bytes.now c.in_err-unsealed.field-0.0 c.in_err-unsealed.ensures.value)

pub returns : goal.returns
returns c = unsealed_so saved_fault head_faults (codes "XMSM") 1 c.args.bytes.now c.in_ok-unsealed.field-0.now c.in_ok-unsealed.ensures.value
