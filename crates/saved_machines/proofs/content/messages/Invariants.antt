use Rattle.std.proofs.Common.{◌≡◌, ◌-◌, false, map}
use Rattle.codecs.specs.Codec.{items_read}
use Rattle.codecs.specs.lemmas.LoopLemmas.{with_front}
use Rattle.saved_machines.specs.SavedFields.{message_field}
use Rattle.saved_machines.proofs.content.messages.Given as goal

abbrev pub invariant-loop : goal.invariant-loop
invariant-loop l =
    with_front (map (λ message. message.items) l.messages.items) (items_read (λ (u : Unit {0}). false) (λ u. message_field l.most) (λ u x. u) (l.count - l.counter) tt l.cursor)
    ≡ items_read (λ (u : Unit {0}). false) (λ u. message_field l.most) (λ u x. u) l.count tt l.fn.cursor
