-- The rows on health events: each is the run by its words.
use Rattle.std.proofs.Common.{[], ◌∷◌, Some, None, refl}
use Rattle.machine_model.specs.rows.HealthRows.{HaltsAll, HaltsAtIllegal, HaltsInLastTick, IgnoresIllegal, PropagatesToHalt, ResetsAllByCall, ResetsAllWarm, RestsInHaltingTick, SwitchesInMidFrame}
use Rattle.machine_model.proofs.Computing.{computing}
use Rattle.machine_model.proofs.WordLemmas.{leaves_words, prints_words}

pub halts_at_illegal : HaltsAtIllegal
unfolding computing
halts_at_illegal memory illegal = (prints_words (Some 0 ∷ []) _ _ (illegal, tt) refl, leaves_words (Some 0 ∷ []) _ _ _ (illegal, tt) refl)

pub ignores_illegal : IgnoresIllegal
unfolding computing
ignores_illegal memory illegal = (prints_words (Some 0 ∷ []) _ _ (illegal, tt) refl, leaves_words (Some 0 ∷ []) _ _ _ (illegal, tt) refl)

pub propagates_to_halt : PropagatesToHalt
unfolding computing
propagates_to_halt memory illegal = (prints_words (Some 0 ∷ []) _ _ (illegal, tt) refl, leaves_words (Some 0 ∷ []) _ _ _ (illegal, tt) refl)

pub resets_all_warm : ResetsAllWarm
unfolding computing
resets_all_warm one other illegal = (
  prints_words (Some 0 ∷ []) _ _ (illegal, tt) refl,
  leaves_words (Some 0 ∷ []) _ _ _ (illegal, tt) refl,
  leaves_words (Some 0 ∷ []) _ _ _ (illegal, tt) refl,
  leaves_words (Some 0 ∷ []) _ _ _ (illegal, tt) refl,
)

pub halts_all : HaltsAll
unfolding computing
halts_all one other illegal = (
  prints_words (Some 0 ∷ None ∷ None ∷ None ∷ []) _ _ (illegal, (tt, (tt, (tt, tt)))) refl,
  leaves_words (Some 0 ∷ None ∷ None ∷ None ∷ []) _ _ _ (illegal, (tt, (tt, (tt, tt)))) refl,
)

pub halts_in_last_tick : HaltsInLastTick
unfolding computing
halts_in_last_tick memory illegal = (prints_words (Some 0 ∷ []) _ _ (illegal, tt) refl, leaves_words (Some 0 ∷ []) _ _ _ (illegal, tt) refl)

pub switches_in_mid_frame : SwitchesInMidFrame
unfolding computing
switches_in_mid_frame memory illegal = (prints_words (Some 0 ∷ []) _ _ (illegal, tt) refl, leaves_words (Some 0 ∷ []) _ _ _ (illegal, tt) refl)

pub resets_all_by_call : ResetsAllByCall
unfolding computing
resets_all_by_call one other all =
    prints_words (Some 0x9010201b ∷ Some 0x9210202a ∷ Some 0x91d02070 ∷ Some 0x9010201b ∷ []) _ _ (all.0, (all.1.0, (all.1.1.0, (all.0, tt)))) refl

pub rests_in_halting_tick : RestsInHaltingTick
unfolding computing
rests_in_halting_tick one other illegal = (leaves_words (Some 0 ∷ []) _ _ _ (illegal, tt) refl, leaves_words (Some 0 ∷ []) _ _ _ (illegal, tt) refl)
