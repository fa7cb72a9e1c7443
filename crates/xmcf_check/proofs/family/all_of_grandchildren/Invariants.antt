use Rattle.std.proofs.Common.{◌≡◌, ◌++◌, Option, Bor, drop}
use Rattle.xmcf_reader.specs.declared.draft.Element.{Element}
use Rattle.xmcf_check.specs.Described.{among, with_grandparent}
use Rattle.xmcf_check.proofs.family.all_of_grandchildren.Given as goal

abbrev pub invariant-loop-entry : goal.invariant-loop-entry
invariant-loop-entry g l =
    (picks : Element → Option g.row.T.Denot) → ((element : Bor Element) (found : Option g.row.T.Denot) → goal.P-post g l.pick element found → found ≡ picks element.now)
    → l.all.items ++ among picks (with_grandparent l.entries l.number (drop l.entry-index l.inside)) ≡ among picks (with_grandparent l.entries l.number l.inside)
