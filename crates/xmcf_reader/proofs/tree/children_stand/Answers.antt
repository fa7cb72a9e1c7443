use Rattle.xmcf_reader.specs.Draft.{lacks_child}
use Rattle.xmcf_reader.specs.Faults.{missing_children}
use Rattle.xmcf_reader.specs.lemmas.FaultsLemmas.{first_passes}
use Rattle.xmcf_reader.specs.Table.{allowed_children}
use Rattle.xmcf_reader.specs.declared.fault.ReadFault.TheVariants as fault
use Rattle.xmcf_reader.proofs.tree.children_stand.Goals as goal

pub returns-in-Some : goal.returns-in-Some
unfolding missing_children
returns-in-Some c =
    rw c.lacks_child.ensures
    (first_passes (lacks_child c.args.noted.now) (λ child. fault.MissingChild c.args.at child.word) (allowed_children c.args.word) c.in-Some.child c.in-Some.ensures)
