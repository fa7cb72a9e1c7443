use Rattle.std.proofs.Common.{◌≡◌, ◌-◌, false, length, take}
use Rattle.codecs.specs.Codec.{items_read}
use Rattle.codecs.specs.lemmas.LoopLemmas.{with_front}
use Rattle.saved_machines.specs.SavedFields.{any_word}
use Rattle.saved_machines.proofs.fields.words.Given as goal

abbrev pub invariant-loop-place : goal.invariant-loop-place
invariant-loop-place l =
    (length l.into ≡ length l.fn.into)
    × (with_front (take l.place l.into) (items_read (λ (u : Unit {0}). false) (λ u. any_word) (λ u x. u) (length l.fn.into - l.place) tt l.cursor)
    ≡ items_read (λ (u : Unit {0}). false) (λ u. any_word) (λ u x. u) (length l.fn.into) tt l.fn.cursor)
