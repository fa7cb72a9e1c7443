use Rattle.std.proofs.Common.{◌≡◌, Option, Bor, drop}
use Rattle.xmcf_reader.specs.declared.draft.Element.{Element}
use Rattle.xmcf_check.specs.Described.{first_among, with_parent}
use Rattle.xmcf_check.proofs.family.first_of_children.Given as goal

abbrev pub invariant-loop-entry : goal.invariant-loop-entry
invariant-loop-entry g l =
    (picks : Element → Option g.row.T.Denot) → ((element : Bor Element) (found : Option g.row.T.Denot) → goal.P-post g l.pick element found → found ≡ picks element.now)
    → first_among picks (with_parent l.number (drop l.entry-index l.inside)) ≡ first_among picks (with_parent l.number l.inside)
