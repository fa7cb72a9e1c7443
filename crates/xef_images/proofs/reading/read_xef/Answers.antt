use Rattle.std.proofs.Common.{ap, subst, sym, ◌∙◌, arith}
use Rattle.std.proofs.lemmas.Result.{err_from_is_err_and}
use Rattle.xef_images.specs.Gives.{Fails}
use Rattle.xef_images.specs.Image.{Image}
use Rattle.xef_images.specs.Reading.{xef, xef_faults}
use Rattle.xef_images.specs.lemmas.XefLemmas.{xef_takes, xef_again}
use Rattle.std.proofs.Common.{codes}
use Rattle.file_headers.specs.lemmas.DigestLemmas.{reports_moved, reports_other}
use Rattle.xef_images.proofs.reading.read_xef.Goals as goal

pub returns-in_err-entry-clause-only : goal.returns-in_err-entry-clause-only
returns-in_err-entry-clause-only c = λ image spelled.
    let p = err_from_is_err_and c.from_residual.result c.from_residual.ensures.1 in
    rw (p.1, p.2) (subst (λ read. Fails c.in_err-entry.field-0.0 read) (ap xef spelled.text ∙ xef_again image spelled.loads) c.in_err-entry.ensures.exact)

pub returns-in_err-entry-clause-digest : goal.returns-in_err-entry-clause-digest
returns-in_err-entry-clause-digest c =
    let p = err_from_is_err_and c.from_residual.result c.from_residual.ensures.1 in
    rw (p.1, p.2) (reports_moved xef_faults (codes "XMEF") 1 c.args.bytes.now c.in_err-entry.field-0.0 c.in_err-entry.ensures.digest)

pub invariant_of-result : goal.invariant_of-result
invariant_of-result c =
    let image : Image = record { entry = c.in_ok-entry.entry; segments = c.in_ok-entry.segments.items } in
    (xef_takes c.args.bytes.now image (λ i. omega (arith, c.type_inv.bytes i)) c.in_ok-entry.ensures.exact).loads

pub returns-clause-found : goal.returns-clause-found
returns-clause-found c =
    let image : Image = record { entry = c.in_ok-entry.entry; segments = c.in_ok-entry.segments.items } in
    xef_takes c.args.bytes.now image (λ i. omega (arith, c.type_inv.bytes i)) c.in_ok-entry.ensures.exact

pub returns-clause-only : goal.returns-clause-only
returns-clause-only c = λ image spelled. sym (ap xef spelled.text ∙ xef_again image spelled.loads) ∙ c.in_ok-entry.ensures.exact

pub returns-clause-digest : goal.returns-clause-digest
returns-clause-digest c = reports_other xef_faults (codes "XMEF") 1 c.args.bytes.now (c.in_ok-entry.entry, c.in_ok-entry.segments) _ c.in_ok-entry.ensures.digest
