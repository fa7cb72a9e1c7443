use Rattle.codecs.specs.lemmas.SteadyLemmas.{counted_items_steady, counted_steady, each_steady, items_steady}
use Rattle.codecs.proofs.law.lists_are_steady.Goals as goal

pub returns-clause-items : goal.returns-clause-items
returns-clause-items g c = λ short done item next most state each. items_steady short done item next each most state

pub returns-clause-counted : goal.returns-clause-counted
returns-clause-counted g c = counted_steady

pub returns-clause-each : goal.returns-clause-each
returns-clause-each g c = λ short part known all. each_steady short part all known

pub returns-clause-numbered : goal.returns-clause-numbered
returns-clause-numbered g c = counted_items_steady
