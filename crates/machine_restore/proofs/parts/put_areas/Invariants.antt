use Rattle.std.proofs.Common.{◌≡◌, map, take}
use Rattle.machine_restore.specs.lemmas.RestoreTerms.{all_paged}
use Rattle.machine_restore.proofs.parts.put_areas.Given as goal

abbrev pub invariant-loop-n : goal.invariant-loop-n
invariant-loop-n l = l.sys ≡ all_paged l.p (take l.n (map (λ pages. pages.items) l.areas)) l.fn.sys
