use Rattle.std.proofs.Common.{length}
use Rattle.xmcf_reader.specs.lemmas.Trees.{context_of}
use Rattle.xmcf_reader.proofs.Progress.{Progress}
use Rattle.xmcf_reader.proofs.reading.read_tokens.Given as goal

abbrev pub invariant-loop-token : goal.invariant-loop-token
invariant-loop-token l = Progress l.text (context_of l.tree) l.tokens.place l.tokens.rest.now

abbrev pub decreases-loop-token : goal.decreases-loop-token
decreases-loop-token l = length l.tokens.rest.now
