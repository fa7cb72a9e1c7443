-- The rows on the calls that a partition makes for itself: each is the run by its words.
use Rattle.std.proofs.Common.{ℕ, List, [], ◌∷◌, Option, Some, None, refl}
use Rattle.machine_model.specs.rows.OwnRows.{HaltsSystem, Idles, ReachesNotAll, ReadsInput, ReadsOwnLog, RefusesDeadline, ResetsSystemCold, ReturnsFromTrap, SeesSystem, SetsTimer, ShowsClocks, TracesInMask, TracesNotElse, UnknownCall}
use Rattle.machine_model.proofs.Computing.{computing}
use Rattle.machine_model.proofs.WordLemmas.{leaves_words, prints_words}

-- one call
abbrev call_words : List (Option ℕ)
call_words = Some 0x91d02070 ∷ []

pub traces_in_mask : TracesInMask
unfolding computing
traces_in_mask memory calls = (prints_words call_words _ _ (calls, tt) refl, leaves_words call_words _ _ _ (calls, tt) refl)

pub traces_not_else : TracesNotElse
unfolding computing
traces_not_else memory calls = (prints_words call_words _ _ (calls, tt) refl, leaves_words call_words _ _ _ (calls, tt) refl)

pub sets_timer : SetsTimer
unfolding computing
sets_timer memory calls = leaves_words call_words _ _ _ (calls, tt) refl

pub refuses_deadline : RefusesDeadline
unfolding computing
refuses_deadline memory calls = leaves_words call_words _ _ _ (calls, tt) refl

pub shows_clocks : ShowsClocks
unfolding computing
shows_clocks memory calls = (leaves_words call_words _ _ _ (calls, tt) refl, leaves_words call_words _ _ _ (calls, tt) refl)

pub reads_input : ReadsInput
unfolding computing
reads_input memory calls = (leaves_words call_words _ _ _ (calls, tt) refl, leaves_words call_words _ _ _ (calls, tt) refl)

pub idles : Idles
unfolding computing
idles memory calls = leaves_words call_words _ _ _ (calls, tt) refl

pub unknown_call : UnknownCall
unfolding computing
unknown_call memory calls = (leaves_words call_words _ _ _ (calls, tt) refl, leaves_words call_words _ _ _ (calls, tt) refl)

pub returns_from_trap : ReturnsFromTrap
unfolding computing
returns_from_trap memory calls = (prints_words call_words _ _ (calls, tt) refl, leaves_words call_words _ _ _ (calls, tt) refl, leaves_words call_words _ _ _ (calls, tt) refl)

pub reads_own_log : ReadsOwnLog
unfolding computing
reads_own_log memory calls = leaves_words call_words _ _ _ (calls, tt) refl

pub halts_system : HaltsSystem
unfolding computing
halts_system memory calls = prints_words (Some 0x91d02070 ∷ None ∷ []) _ _ (calls, (tt, tt)) refl

pub resets_system_cold : ResetsSystemCold
unfolding computing
resets_system_cold memory calls = (prints_words call_words _ _ (calls, tt) refl, leaves_words call_words _ _ _ (calls, tt) refl)

pub reaches_not_all : ReachesNotAll
unfolding computing
reaches_not_all memory calls = (leaves_words call_words _ _ _ (calls, tt) refl, leaves_words call_words _ _ _ (calls, tt) refl)

pub sees_system : SeesSystem
unfolding computing
sees_system memory calls = leaves_words call_words _ _ _ (calls, tt) refl
