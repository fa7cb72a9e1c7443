use Rattle.std.proofs.Common.{◌≡◌, false, ◌-◌}
use Rattle.codecs.specs.Codec.{Codec, items_read}
use Rattle.codecs.specs.Gives.{ReadsOr}
use Rattle.codecs.specs.lemmas.LoopLemmas.{with_front}
use Rattle.codecs.proofs.items.read_items.Given as goal

abbrev pub invariant-loop : goal.invariant-loop
invariant-loop g l =
    (item : g.row.S.Denot → Codec g.row.E.Denot g.row.T.Denot) (step : g.row.S.Denot → g.row.T.Denot → g.row.S.Denot)
    → ((old : _) (state : _) (found : _) (new : _) → goal.F-post g l.element old state found new → ReadsOr l.memory (λ value. value) found new.now ((item state).read old.now))
    → ((state : _) (one : _) (made : _) → goal.N-post g l.next state one made → made ≡ step state one.now)
    → with_front l.found.items (items_read (λ state. false) item step (l.count - l.counter) l.state l.cursor) ≡ items_read (λ state. false) item step l.count l.fn.first l.fn.cursor
