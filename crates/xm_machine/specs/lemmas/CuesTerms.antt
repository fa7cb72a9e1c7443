-- For proofs and private clauses: what ticks and runs leave of what each partition received.
use Rattle.std.specs.Prelude.{◌≡◌, ℕ, ◌<◌, ◌≤◌, Result, Ok, Err}
use Rattle.xm_report.specs.declared.output.WriteFault.{WriteFault}
use Rattle.machine_model.specs.Machine.{run}
use Rattle.tick_steps.specs.lemmas.KeptTerms.{kept_after}
use Rattle.xm_machine.specs.Machine.{Meaning}

-- at least one tick was done, and at most this many, and the last is kept
pub record KeepsLastTick (most : ℕ) (old new : Meaning) : Type 0 where
  pub done : ℕ
  pub some : 0 < done
  pub within : done ≤ most
  pub state : new.state ≡ run old.state done
  pub kept : new.kept ≡ kept_after old.state done old.kept

-- this many of the ticks asked were done, and the last is kept
pub record KeepsUpTo (asked : ℕ) (old new : Meaning) : Type 0 where
  pub done : ℕ
  pub within : done ≤ asked
  pub state : new.state ≡ run old.state done
  pub kept : new.kept ≡ kept_after old.state done old.kept

-- all ticks asked were done, or those up to one whose lines did not go out
abbrev pub KeepsTicks : Result ℕ WriteFault → ℕ → Meaning → Meaning → Type 0
KeepsTicks (Ok printed) asked old new = new.kept ≡ kept_after old.state asked old.kept
KeepsTicks (Err fault) asked old new = KeepsUpTo asked old new
