-- The files that are made of a run.
use Rattle.std.proofs.Common.{◌≡◌, ℕ, Bool, true, false, nat_lt, if◌then◌else◌, List, [], ◌∷◌, ◌++◌, length, Some, Result, Ok, Err, ap, ◌∙◌}
use Rattle.xm_base.specs.declared.limits.TheConstants.{FILE_BYTES}
use Rattle.file_commands.specs.Denial.{Denial}
use Rattle.file_commands.specs.Ending.{Ending, Done, Usage, ReadFault, Refused, WriteFaultReport, WriteFaultFile, UartFault, NoMemory, saved_text}
use Rattle.file_commands.specs.Outcome.{Output, made_after, made_both, save_for}
use Rattle.file_commands.specs.Packing.{denial}
use Rattle.file_commands.specs.lemmas.EndingValuesTerms.{IsDenied}
use Rattle.machine_model.specs.Facts.{RunsKeepNumbers}
use Rattle.machine_model.specs.Machine.{Machine}
use Rattle.run_commands.specs.lemmas.Made.{saved_or}
use Rattle.run_commands.specs.lemmas.StruckRuns.{struck_numbered}
use Rattle.saved_machines.specs.Saving.{saved_file, stored_digest}
use Rattle.upset_model.specs.Upsets.{Schedule, upset_run}

-- The first refusal.

-- of a script
pub scripts_denied : (e : Ending) (scripts saved : Result (List Output) Denial) → IsDenied e scripts → IsDenied e (made_both scripts saved)
scripts_denied Done scripts saved denied = absurd denied
scripts_denied Usage scripts saved denied = absurd denied
scripts_denied (ReadFault file) scripts saved denied = absurd denied
scripts_denied (Refused file text) scripts saved denied = ap (λ (made : Result (List Output) Denial). made_both made saved) denied
scripts_denied WriteFaultReport scripts saved denied = absurd denied
scripts_denied (WriteFaultFile file) scripts saved denied = absurd denied
scripts_denied (UartFault place) scripts saved denied = absurd denied
scripts_denied NoMemory scripts saved denied = tt

-- of the saved machine
pub saved_denied : (e : Ending) (outputs : List Output) (file box : List ℕ) (g : Machine) → IsDenied e (saved_or file (saved_file (stored_digest box) g)) → IsDenied e (made_after outputs (save_for (Some file) box g))
unfolding saved_or
saved_denied Done outputs file box g denied = absurd denied
saved_denied Usage outputs file box g denied = absurd denied
saved_denied (ReadFault other) outputs file box g denied = absurd denied
saved_denied (Refused other text) outputs file box g denied =
    at (nat_lt FILE_BYTES (length (saved_file (stored_digest box) g))) (denial file (saved_text (length (saved_file (stored_digest box) g)))) (record { file = other; text = text })
    (record { file = file; bytes = saved_file (stored_digest box) g }) denied
  where
    at : (long : Bool) (refusal found : Denial) (output : Output) → (if long then Err refusal else Ok output) ≡ Err found → made_after outputs (if long then Err refusal else Ok (output ∷ [])) ≡ Err found
    at true refusal found output denied = (let same : refusal ≡ found = cc in ap Err same)
    at false refusal found output denied = absurd cc
saved_denied WriteFaultReport outputs file box g denied = absurd denied
saved_denied (WriteFaultFile other) outputs file box g denied = absurd denied
saved_denied (UartFault place) outputs file box g denied = absurd denied
saved_denied NoMemory outputs file box g denied = tt

-- All of them.

-- the saved machine after others
pub saved_made : (outputs : List Output) (file box : List ℕ) (g : Machine) (output : Output) → saved_or file (saved_file (stored_digest box) g) ≡ Ok output → made_after outputs (save_for (Some file) box g) ≡ Ok (outputs ++ output ∷ [])
unfolding saved_or
saved_made outputs file box g output made =
    at (nat_lt FILE_BYTES (length (saved_file (stored_digest box) g))) (denial file (saved_text (length (saved_file (stored_digest box) g)))) (record { file = file; bytes = saved_file (stored_digest box) g }) made
  where
    at : (long : Bool) (refusal : Denial) (saved : Output) → (if long then Err refusal else Ok saved) ≡ Ok output → made_after outputs (if long then Err refusal else Ok (saved ∷ [])) ≡ Ok (outputs ++ output ∷ [])
    at true refusal saved made = absurd cc
    at false refusal saved made = (let same : saved ≡ output = cc in ap (λ (o : Output). Ok (outputs ++ o ∷ [])) same)

-- a run keeps the system
pub system_kept : RunsKeepNumbers → (s : Schedule) (g new : Machine) (count : ℕ) → new ≡ upset_run s g count → new.system ≡ g.system
system_kept law s g new count is = ap (λ (m : Machine). m.system) is ∙ (struck_numbered law count s g).1
