-- The rows on traps: each is the run by its words.
use Rattle.std.proofs.Common.{ℕ, [], ◌∷◌, Option, Some, None, refl}
use Rattle.machine_model.specs.rows.TrapRows.{HaltsAtSpill, HaltsAtStrayLoad, TakesTrap, TimerIsDelivered, TimerWaitsForSlot, WaitsWhileDisabled}
use Rattle.machine_model.proofs.Computing.{computing}
use Rattle.machine_model.proofs.WordLemmas.{leaves_words, prints_words}

pub takes_trap : TakesTrap
unfolding computing
takes_trap memory illegal = (
  prints_words (Some 0 ∷ []) _ _ (illegal, tt) refl,
  leaves_words (Some 0 ∷ []) _ _ _ (illegal, tt) refl,
  leaves_words (Some 0 ∷ []) _ _ _ (illegal, tt) refl,
  leaves_words (Some 0 ∷ []) _ _ _ (illegal, tt) refl,
)

pub timer_is_delivered : TimerIsDelivered
unfolding computing
timer_is_delivered one other = (prints_words (None ∷ []) _ _ (tt, tt) refl, leaves_words (None ∷ []) _ _ _ (tt, tt) refl)

pub waits_while_disabled : WaitsWhileDisabled
unfolding computing
waits_while_disabled one other loop = (prints_words (Some 0x10800000 ∷ []) _ _ (loop.0, tt) refl, leaves_words (Some 0x10800000 ∷ []) _ _ _ (loop.0, tt) refl)

pub timer_waits_for_slot : TimerWaitsForSlot
unfolding computing
timer_waits_for_slot one other = (
  prints_words (None ∷ None ∷ []) _ _ (tt, (tt, tt)) refl,
  leaves_words (None ∷ None ∷ []) _ _ _ (tt, (tt, tt)) refl,
  prints_words (None ∷ None ∷ None ∷ []) _ _ (tt, (tt, (tt, tt))) refl,
  leaves_words (None ∷ None ∷ None ∷ []) _ _ _ (tt, (tt, (tt, tt))) refl,
)

-- SAVE %sp, -96, %sp
abbrev save : Option ℕ
save = Some 0x9de3bfa0

pub halts_at_spill : HaltsAtSpill
unfolding computing
halts_at_spill memory all =
    prints_words (save ∷ save ∷ save ∷ save ∷ save ∷ save ∷ save ∷ None ∷ None ∷ None ∷ []) _ _
    (all.0, (all.1.0, (all.1.1.0, (all.1.1.1.0, (all.1.1.1.1.0, (all.1.1.1.1.1.0, (all.1.1.1.1.1.1.0, (tt, (tt, (tt, tt)))))))))) refl

pub halts_at_stray_load : HaltsAtStrayLoad
unfolding computing
halts_at_stray_load one other all = (
  prints_words (Some 0x13100000 ∷ Some 0xd4026100 ∷ []) _ _ all refl,
  leaves_words (Some 0x13100000 ∷ Some 0xd4026100 ∷ []) _ _ _ all refl,
)
