use Rattle.std.proofs.lemmas.Result.{err_from_is_err_and}
use Rattle.std.proofs.Common.{codes}
use Rattle.file_headers.specs.lemmas.DigestLemmas.{unsealed_fails}
use Rattle.xm_container.specs.Reading.{box_faults}
use Rattle.xm_container.proofs.DigestLemmas.{apart, reports_given}
use Rattle.xm_container.proofs.reading.whole.Goals as goal

pub returns-in_err-front-clause-digest : goal.returns-in_err-front-clause-digest
returns-in_err-front-clause-digest c =
    let p = err_from_is_err_and c.from_residual.result c.from_residual.ensures.1 in
    rw (p.1, p.2) (unsealed_fails box_faults apart (codes "XMPK") 2 c.args.bytes.now c.in_err-front.field-0.0 c.in_err-front.ensures)

pub returns-clause-digest : goal.returns-clause-digest
returns-clause-digest c = reports_given (λ system. system) c.args.bytes.now c.in_ok-front.front.now c.system.result c.in_ok-front.ensures c.system.ensures
