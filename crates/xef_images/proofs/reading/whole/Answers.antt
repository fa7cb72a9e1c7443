use Rattle.std.proofs.lemmas.Result.{err_from_is_err_and}
use Rattle.std.proofs.Common.{codes}
use Rattle.file_headers.specs.lemmas.DigestLemmas.{unsealed_fails}
use Rattle.xef_images.proofs.DigestLemmas.{apart, reports_given}
use Rattle.xef_images.specs.Reading.{xef_faults}
use Rattle.xef_images.proofs.reading.whole.Goals as goal

pub returns-in_err-front-clause-digest : goal.returns-in_err-front-clause-digest
returns-in_err-front-clause-digest c =
    let p = err_from_is_err_and c.from_residual.result c.from_residual.ensures.1 in
    rw (p.1, p.2) (unsealed_fails xef_faults apart (codes "XMEF") 1 c.args.bytes.now c.in_err-front.field-0.0 c.in_err-front.ensures)

pub returns-clause-digest : goal.returns-clause-digest
returns-clause-digest c =
    reports_given (λ image. record { entry = image.0; segments = image.1.items }) c.args.bytes.now c.in_ok-front.front.now c.image.result c.in_ok-front.ensures c.image.ensures
