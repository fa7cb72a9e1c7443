use Rattle.xmcf_reader.specs.Draft.{lacks_attribute}
use Rattle.xmcf_reader.specs.Faults.{missing_attributes}
use Rattle.xmcf_reader.specs.lemmas.FaultsLemmas.{first_passes}
use Rattle.xmcf_reader.specs.lemmas.Seen.{pairs_of}
use Rattle.xmcf_reader.specs.Table.{attributes}
use Rattle.xmcf_reader.specs.declared.fault.ReadFault.TheVariants as fault
use Rattle.xmcf_reader.proofs.tree.attributes_stand.Goals as goal

pub returns-in-Some : goal.returns-in-Some
unfolding missing_attributes
returns-in-Some c =
    rw c.lacks_attribute.ensures
    (first_passes (lacks_attribute (pairs_of c.args.given.now)) (λ attribute. fault.MissingAttribute c.args.at attribute.word) (attributes c.args.word) c.in-Some.attribute c.in-Some.ensures)
