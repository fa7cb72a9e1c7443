use Rattle.span_engine.proofs.NotedLemmas.{as_many}
use Rattle.span_engine.proofs.engine.read_noted.Goals as goal

pub read_first-requires-clause-few : goal.read_first-requires-clause-few
read_first-requires-clause-few c = as_many _ c.in-Put.at c.in-Put.size _ (rw c.in-Put.is at c.requires.few)

pub read_first-requires-in-Saw-clause-few : goal.read_first-requires-in-Saw-clause-few
read_first-requires-in-Saw-clause-few c = as_many _ c.in-Saw.at c.in-Saw.size _ (rw c.in-Saw.is at c.requires.few)
