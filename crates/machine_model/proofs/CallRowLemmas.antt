-- The rows on hypercalls: each is the run by its words.
use Rattle.std.proofs.Common.{ℕ, List, [], ◌∷◌, Option, Some, refl}
use Rattle.machine_model.specs.rows.CallRows.{CountsWarm, HaltsAnother, IsRefusedAnother, KeepsLogsCold, OrdersNone, ResetsAnother, ResumesAnother, ResumesNothing, SeesAnother, ShutsDownAnother, SuspendsAnother}
use Rattle.machine_model.proofs.Computing.{computing}
use Rattle.machine_model.proofs.WordLemmas.{leaves_words, prints_words}

-- one call
abbrev call_words : List (Option ℕ)
call_words = Some 0x91d02070 ∷ []

pub suspends_another : SuspendsAnother
unfolding computing
suspends_another one other calls = (prints_words call_words _ _ (calls, tt) refl, leaves_words call_words _ _ _ (calls, tt) refl)

pub sees_another : SeesAnother
unfolding computing
sees_another one other calls = leaves_words call_words _ _ _ (calls, tt) refl

pub is_refused_another : IsRefusedAnother
unfolding computing
is_refused_another one other calls = leaves_words call_words _ _ _ (calls, tt) refl

pub keeps_logs_cold : KeepsLogsCold
unfolding computing
keeps_logs_cold one other calls = (prints_words call_words _ _ (calls, tt) refl, leaves_words call_words _ _ _ (calls, tt) refl)

pub counts_warm : CountsWarm
unfolding computing
counts_warm one other calls = (prints_words call_words _ _ (calls, tt) refl, leaves_words call_words _ _ _ (calls, tt) refl)

pub halts_another : HaltsAnother
unfolding computing
halts_another one other calls = (prints_words call_words _ _ (calls, tt) refl, leaves_words call_words _ _ _ (calls, tt) refl)

pub resumes_another : ResumesAnother
unfolding computing
resumes_another one other calls = prints_words call_words _ _ (calls, tt) refl

pub resumes_nothing : ResumesNothing
unfolding computing
resumes_nothing one other calls = (prints_words call_words _ _ (calls, tt) refl, leaves_words call_words _ _ _ (calls, tt) refl)

pub shuts_down_another : ShutsDownAnother
unfolding computing
shuts_down_another one other calls = (prints_words call_words _ _ (calls, tt) refl, leaves_words call_words _ _ _ (calls, tt) refl)

pub resets_another : ResetsAnother
unfolding computing
resets_another one other calls = (prints_words call_words _ _ (calls, tt) refl, leaves_words call_words _ _ _ (calls, tt) refl)

pub orders_none : OrdersNone
unfolding computing
orders_none one other calls = leaves_words call_words _ _ _ (calls, tt) refl
