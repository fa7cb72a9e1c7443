use Rattle.std.proofs.Common.{◌≡◌, take}
use Rattle.machine_restore.specs.lemmas.RestoreTerms.{paged}
use Rattle.machine_restore.proofs.parts.put_pages.Given as goal

abbrev pub invariant-loop-page : goal.invariant-loop-page
invariant-loop-page l = l.sys ≡ paged l.p (take l.page-index l.pages) l.fn.sys
