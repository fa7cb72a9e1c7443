-- The rows on links.
use Rattle.std.proofs.Common.{◌≡◌, ℕ, [], ◌∷◌, List, Option, Some, None, refl, sym, ap, ◌∙◌}
use Rattle.machine_model.specs.Cue.{cue, cue_in}
use Rattle.machine_model.specs.rows.LinkRows.{ReceivesTraffic, LinkCallRows, LinkRows, SignalIsDelivered, SignalRows, SignalsHalted, SignalsNotBack, SignalsOther}
use Rattle.machine_model.specs.Machine.{Machine}
use Rattle.machine_model.specs.Emission.{OwnTraffic}
use Rattle.machine_model.proofs.Computing.{computing}
use Rattle.machine_model.proofs.WordLemmas.{Fetches, happened_same, happened_with, leaves_words, prints_words}

pub link_call_rows : LinkCallRows
unfolding computing
link_call_rows = record { sent = λ memory. (refl, refl); no_link = λ memory. (refl, refl, refl) }

pub signal_rows : SignalRows
unfolding computing
signal_rows = record { first = λ memory. (refl, refl, refl); last = λ memory. refl; halted = λ memory. (refl, refl) }

pub link_rows : LinkRows
unfolding computing
link_rows = record { own = (refl, refl); numbered = (refl, refl); heard = (refl, refl); back = (refl, refl); no_link = (refl, refl); itself = refl }

-- what a partition receives of the traffic of others, by the word of the instruction
received_by : (w : Option ℕ) (g : Machine) (p : ℕ) (traffic : OwnTraffic) → Fetches w g → (cue_in g (happened_with w g) p).traffic ≡ traffic → ReceivesTraffic g p traffic
unfolding cue
received_by w g p traffic fetches is = record { received = sym (ap (λ h. (cue_in g h p).traffic) (happened_same w g fetches)) ∙ is }

abbrev call_words : List (Option ℕ)
call_words = Some 0x91d02070 ∷ []

pub signals_other : SignalsOther
unfolding computing cue_in
signals_other one other calls = (
  leaves_words call_words _ _ _ (calls, tt) refl,
  received_by (Some 0x91d02070) _ 1 _ calls refl,
  received_by (Some 0x91d02070) _ 0 _ calls refl,
)

pub signals_halted : SignalsHalted
unfolding computing cue_in
signals_halted one other calls = (leaves_words call_words _ _ _ (calls, tt) refl, received_by (Some 0x91d02070) _ 1 _ calls refl)

pub signals_not_back : SignalsNotBack
unfolding computing cue_in
signals_not_back one other calls = (leaves_words call_words _ _ _ (calls, tt) refl, received_by (Some 0x91d02070) _ 1 _ calls refl)

pub signal_is_delivered : SignalIsDelivered
unfolding computing
signal_is_delivered one other = (prints_words (None ∷ []) _ _ (tt, tt) refl, leaves_words (None ∷ []) _ _ _ (tt, tt) refl)
