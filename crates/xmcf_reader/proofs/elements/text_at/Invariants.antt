use Rattle.std.proofs.Common.{◌≡◌, drop}
use Rattle.xmcf_reader.specs.Elements.{attribute_text}
use Rattle.xmcf_reader.specs.lemmas.Seen.{pairs_of}
use Rattle.xmcf_reader.proofs.elements.text_at.Given as goal

abbrev pub invariant-loop-pair : goal.invariant-loop-pair
invariant-loop-pair l = attribute_text l.word (pairs_of (drop l.pair-index l.given)) ≡ attribute_text l.word (pairs_of l.given)
