-- A whole machine is what is read up to the digest, with nothing after it.
use Rattle.std.proofs.Common.{◌≡◌, ℕ, ◌<◌, ◌⊎◌, inl, inr, true, false, List, Ok, Err, refl, subst, arith}
use Rattle.std.specs.Prelude.{◌==◌}
use Rattle.std.proofs.lemmas.Bool.Decides.{nat_tests}
use Rattle.codecs.specs.Codec.{Codec}
use Rattle.codecs.specs.Files.{read_to_end}
use Rattle.guest_bus.specs.Memory.{Memory}
use Rattle.saved_machines.specs.Saved.{SavedMachine}
use Rattle.saved_machines.specs.SavedFields.{saved_faults}
use Rattle.saved_machines.specs.SavedFormat.{machine_format}
use Rattle.saved_machines.specs.declared.fault.SavedFault.{SavedFault}
use Rattle.saved_machines.specs.declared.fault.SavedFault.TheVariants as fault
use Rattle.saved_machines.specs.lemmas.ReadTerms.{machine_in}
use Rattle.xm_base.specs.Cursor.{Place, cursor_start, left, past}
use Rattle.xm_conf.specs.Configuration.{Conf}

-- a value with nothing after it, with something after it, and none
ends : {F X : Type 0} (trailing : ℕ → F) (c : Codec F X) (place : Place) (x : X) (after : Place) → c.read place ≡ Ok (x, after) → left after ≡ 0 → read_to_end trailing c place ≡ Ok x
ends trailing c place x after read none =
    let test : (left after == 0) ≡ true = grind (arith, nat_tests) in
    rw (read, test) refl

goes_on : {F X : Type 0} (trailing : ℕ → F) (c : Codec F X) (place : Place) (x : X) (after : Place) → c.read place ≡ Ok (x, after) → 0 < left after → read_to_end trailing c place ≡ Err (trailing after.at)
goes_on trailing c place x after read more =
    let test : (left after == 0) ≡ false = grind (arith, nat_tests) in
    rw (read, test) refl

stops : {F X : Type 0} (trailing : ℕ → F) (c : Codec F X) (place : Place) (fault : F) → c.read place ≡ Err fault → read_to_end trailing c place ≡ Err fault
stops trailing c place fault read = rw read refl

module _ (conf : Conf) (loaded : ℕ → Memory) (container before : List ℕ) (start : Place) (from : start ≡ cursor_start before) where
  pub machine_ends : (saved : SavedMachine) (after : Place) → (machine_format conf loaded container).read (past 10 start) ≡ Ok (saved, after) → left after ≡ 0 → machine_in conf loaded container before ≡ Ok saved
  unfolding machine_in
  machine_ends saved after read none =
      ends saved_faults.trailing (machine_format conf loaded container) (past 10 (cursor_start before)) saved after (subst (λ (place : Place). (machine_format conf loaded container).read (past 10 place) ≡ Ok (saved, after)) from read) none

  pub machine_goes_on : (saved : SavedMachine) (after : Place) (at : ℕ) → (machine_format conf loaded container).read (past 10 start) ≡ Ok (saved, after) → 0 < left after → at ≡ after.at
      → machine_in conf loaded container before ≡ Err (fault.Trailing at)
  unfolding machine_in
  machine_goes_on saved after at read more here =
      rw here (goes_on saved_faults.trailing (machine_format conf loaded container) (past 10 (cursor_start before)) saved after (subst (λ (place : Place). (machine_format conf loaded container).read (past 10 place) ≡ Ok (saved, after)) from read) more)

  pub machine_stops : (found : SavedFault) → (found ≡ fault.Memory) ⊎ ((machine_format conf loaded container).read (past 10 start) ≡ Err found) → (found ≡ fault.Memory) ⊎ (machine_in conf loaded container before ≡ Err found)
  unfolding machine_in
  machine_stops found (inl out) = inl out
  machine_stops found (inr read) =
      inr (stops saved_faults.trailing (machine_format conf loaded container) (past 10 (cursor_start before)) found (subst (λ (place : Place). (machine_format conf loaded container).read (past 10 place) ≡ Err found) from read))
