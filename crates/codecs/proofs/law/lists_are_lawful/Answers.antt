use Rattle.codecs.specs.lemmas.ItemLemmas.{counted_items_lawful, counted_lawful, each_lawful, items_lawful}
use Rattle.codecs.proofs.law.lists_are_lawful.Goals as goal

pub returns-clause-items : goal.returns-clause-items
returns-clause-items g c = items_lawful

pub returns-clause-counted : goal.returns-clause-counted
returns-clause-counted g c = counted_lawful

pub returns-clause-each : goal.returns-clause-each
returns-clause-each g c = each_lawful

pub returns-clause-numbered : goal.returns-clause-numbered
returns-clause-numbered g c = counted_items_lawful
