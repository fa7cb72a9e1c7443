use Rattle.std.proofs.Common.{◌≡◌, ◌≤◌, ℕ, List, Option, Bor, drop}
use Rattle.xm_conf.specs.Along.{added_by_each, each_from, head_of}
use Rattle.xm_conf.proofs.first.first_of_each.Given as goal

abbrev pub invariant-loop-n : goal.invariant-loop-n
invariant-loop-n g l = record {
  rest : (f : ℕ → g.row.T.Denot → List g.row.Y.Denot) → ((n : ℕ) (item : Bor g.row.T.Denot) (found : Option g.row.Y.Denot) → goal.F-post g l.adds n item found → found ≡ head_of (f n item.now)) → head_of (each_from f l.n (drop l.n l.items)) ≡ head_of (added_by_each f l.items);
  few : l.n ≤ 255;
}
