-- The rows on slots: each is the run by its words.
use Rattle.std.proofs.Common.{[], ◌∷◌, Some, None, refl}
use Rattle.machine_model.specs.rows.SlotRows.{AskedInLastTick, ExecutionTimerRows, IsDueInAnothersSlot, LastAskedStarts, RestRows, RunInTheirSlots, WaitsOn, WakesByInterrupt, WakesInItsSlot}
use Rattle.machine_model.proofs.Computing.{computing}
use Rattle.machine_model.proofs.WordLemmas.{leaves_words, prints_words}

pub run_in_their_slots : RunInTheirSlots
unfolding computing
run_in_their_slots one other loop loops = prints_words (Some 0x10800000 ∷ Some 0x01000000 ∷ Some 0x10800000 ∷ Some 0x01000000 ∷ []) _ _ (loop.0, (loop.1.0, (loops.0, (loops.1.0, tt)))) refl

pub waits_on : WaitsOn
unfolding computing
waits_on one other = (prints_words (None ∷ []) _ _ (tt, tt) refl, leaves_words (None ∷ []) _ _ _ (tt, tt) refl)

pub wakes_in_its_slot : WakesInItsSlot
unfolding computing
wakes_in_its_slot one other loop = prints_words (Some 0x10800000 ∷ []) _ _ (loop.0, tt) refl

pub wakes_by_interrupt : WakesByInterrupt
unfolding computing
wakes_by_interrupt one other loop = (
  prints_words (Some 0x10800000 ∷ []) _ _ (loop.0, tt) refl,
  leaves_words (Some 0x10800000 ∷ []) _ _ _ (loop.0, tt) refl,
  prints_words (None ∷ []) _ _ (tt, tt) refl,
  leaves_words (None ∷ []) _ _ _ (tt, tt) refl,
)

pub is_due_in_anothers_slot : IsDueInAnothersSlot
unfolding computing
is_due_in_anothers_slot one other = (
  leaves_words (None ∷ []) _ _ _ (tt, tt) refl,
  leaves_words (None ∷ []) _ _ _ (tt, tt) refl,
  leaves_words (None ∷ []) _ _ _ (tt, tt) refl,
)

pub rest_rows : RestRows
unfolding computing
rest_rows = record {
  ready = λ one other. leaves_words (None ∷ []) _ _ _ (tt, tt) refl;
  idle = λ one other. leaves_words (None ∷ []) _ _ _ (tt, tt) refl;
  suspended = λ one other. leaves_words (None ∷ []) _ _ _ (tt, tt) refl;
  own_slot = λ one other. leaves_words (None ∷ []) _ _ _ (tt, tt) refl;
  halted = λ one other. leaves_words (None ∷ []) _ _ _ (tt, tt) refl;
}

pub execution_timer_rows : ExecutionTimerRows
unfolding computing
execution_timer_rows = record {
  moved_on = λ one other loop. (leaves_words (Some 0x10800000 ∷ []) _ _ _ (loop.0, tt) refl, leaves_words (Some 0x10800000 ∷ []) _ _ _ (loop.0, tt) refl);
  disarmed = λ one other loop. (leaves_words (Some 0x10800000 ∷ []) _ _ _ (loop.0, tt) refl, leaves_words (Some 0x10800000 ∷ []) _ _ _ (loop.0, tt) refl);
  early = λ one other loop. (leaves_words (Some 0x10800000 ∷ []) _ _ _ (loop.0, tt) refl, leaves_words (Some 0x10800000 ∷ []) _ _ _ (loop.0, tt) refl);
}

pub last_asked_starts : LastAskedStarts
unfolding computing
last_asked_starts memory call = (
  prints_words (Some 0x91d02070 ∷ []) _ _ (call, tt) refl,
  leaves_words (Some 0x91d02070 ∷ []) _ _ _ (call, tt) refl,
  prints_words (Some 0x91d02070 ∷ []) _ _ (call, tt) refl,
  leaves_words (Some 0x91d02070 ∷ []) _ _ _ (call, tt) refl,
  prints_words (None ∷ []) _ _ (tt, tt) refl,
  leaves_words (None ∷ []) _ _ _ (tt, tt) refl,
)

pub asked_in_last_tick : AskedInLastTick
unfolding computing
asked_in_last_tick memory call = (
  prints_words (Some 0x91d02070 ∷ []) _ _ (call, tt) refl,
  leaves_words (Some 0x91d02070 ∷ []) _ _ _ (call, tt) refl,
)
