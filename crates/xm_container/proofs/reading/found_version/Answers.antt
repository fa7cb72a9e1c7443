use Rattle.std.proofs.Common.{codes}
use Rattle.std.proofs.lemmas.Result.{err_from_is_err_and}
use Rattle.file_headers.specs.Known.{head_faults}
use Rattle.file_headers.specs.lemmas.LiftedLemmas.{version_refused_so, version_so}
use Rattle.fault_messages.specs.OfHeads.{box_fault}
use Rattle.xm_container.proofs.reading.found_version.Goals as goal

pub returns-in_err-stated_version : goal.returns-in_err-stated_version
returns-in_err-stated_version c =
    let p = err_from_is_err_and c.from_residual.result c.from_residual.ensures.1 in
    rw (p.1, p.2) (version_refused_so box_fault head_faults (codes "XMPK") 2 c.args.bytes.now c.in_err-stated_version.field-0.0 c.in_err-stated_version.ensures.value)

pub returns : goal.returns
returns c = version_so box_fault head_faults (codes "XMPK") 2 c.args.bytes.now c.in_ok-stated_version.field-0 c.in_ok-stated_version.ensures.value
