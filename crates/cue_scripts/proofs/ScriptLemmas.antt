-- What entries that are read make of a script.
use Rattle.std.proofs.Common.{◌≡◌, ℕ, zero, suc, ◌-◌, ◌<◌, ◌≤◌, Bool, true, false, List, [], ◌∷◌, ◌++◌, length, Option, Some, None, refl, sym, subst, arith}
use Rattle.std.specs.Prelude.{◌==◌, replicate, if◌then◌else◌}
use Rattle.std.specs.List.{AllByRecursion}
use Rattle.std.proofs.lemmas.Bool.{eqb-true}
use Rattle.std.proofs.lemmas.List.{length-append}
use Rattle.xm_conf.specs.Configuration.{Conf}
use Rattle.machine_model.specs.Cue.{Cue, CueSlot}
use Rattle.machine_model.specs.Emission.{AllHalted, NotKept, OwnPuts, OwnSignals, OwnStill, OwnTakes, OwnTraffic, Sight, Unseen, Words}
use Rattle.cue_scripts.specs.Entries.{Alike, AreLongest, Entry, Other, cue_count, cues_of, expanded, plain_cue_of, bare_cue}
use Rattle.cue_scripts.specs.Kept.{HasEntryRanges, HasSightRange, HasTrafficRange, AreKeptEntries}
use Rattle.cue_scripts.specs.Script.{CanHear, CanSee, HaltsLast, IsCue, IsScript, is_shown, is_system_partition}
use Rattle.cue_scripts.proofs.CountLemmas.{length_cues}
use Rattle.cue_scripts.proofs.WholeTakeLemmas.{AreEntries, IsEntry}

-- the entries are as long as they can be
pub are_longest : (conf : Conf) (p cues : ℕ) (last : Option Bool) (entries : List Entry) → AreEntries conf p cues last entries → AreLongest last entries
are_longest conf p cues last [] are = tt
are_longest conf p cues last (Alike own count ∷ later) are = ((are.0.0, are.0.1), are_longest conf p (cues - count) (Some own) later are.2)
are_longest conf p cues last (Other cue ∷ later) are = (are.0.0, are_longest conf p (cues - 1) None later are.2)

-- an entry has no more cues than are left
within : (conf : Conf) (p cues : ℕ) (last : Option Bool) (entry : Entry) → IsEntry conf p cues last entry → 1 ≤ cues → cue_count entry ≤ cues
within conf p cues last (Alike own count) is some = is.2
within conf p cues last (Other cue) is some = some

-- they have the cues that were left
pub have_cues : (conf : Conf) (p cues : ℕ) (last : Option Bool) (entries : List Entry) → AreEntries conf p cues last entries → length (expanded entries) ≡ cues
have_cues conf p cues last [] are = sym are
have_cues conf p cues last (entry ∷ later) are =
    let some = within conf p cues last entry are.0 are.1 in
    let others = have_cues conf p (cues - cue_count entry) (plain_cue_of entry) later are.2 in
    omega (arith, length-append (cues_of entry) (expanded later), length_cues entry, others, some)

-- the bytes that were shown are few
pub few_shown : (count : ℕ) → is_shown count ≡ true → count < 256
few_shown count e = at (count == 4) (count == 8) (count == 20) (count == 24) refl refl refl refl e
  where
    at : (a b c d : Bool) → (count == 4) ≡ a → (count == 8) ≡ b → (count == 20) ≡ c → (count == 24) ≡ d
        → (if a then true else if b then true else if c then true else d) ≡ true → count < 256
    at true b c d fa fb fc fd e = omega (arith, eqb-true count 4 fa)
    at false true c d fa fb fc fd e = omega (arith, eqb-true count 8 fb)
    at false false true d fa fb fc fd e = omega (arith, eqb-true count 20 fc)
    at false false false true fa fb fc fd e = omega (arith, eqb-true count 24 fd)
    at false false false false fa fb fc fd e = absurd cc

-- the lengths of a message and of what was seen are in the ranges of their fields
hears : (conf : Conf) (p : ℕ) (traffic : OwnTraffic) → CanHear conf p traffic → HasTrafficRange traffic
hears conf p OwnStill can = tt
hears conf p (OwnPuts name bytes) can = can.short
hears conf p (OwnTakes name) can = tt
hears conf p (OwnSignals number) can = tt

sees : (system : Bool) (mine : CueSlot) (seen : Sight) → CanSee system mine seen → HasSightRange seen
sees system mine Unseen can = tt
sees system mine NotKept can = tt
sees system mine (Words bytes) can = few_shown (length bytes) can.2

pub have_ranges : (conf : Conf) (p cues : ℕ) (last : Option Bool) (entries : List Entry) → AreEntries conf p cues last entries → AllByRecursion HasEntryRanges entries
have_ranges conf p cues last [] are = tt
have_ranges conf p cues last (Alike own count ∷ later) are = (tt, have_ranges conf p (cues - count) (Some own) later are.2)
have_ranges conf p cues last (Other cue ∷ later) are =
    (record { traffic = hears conf p cue.traffic are.0.1.traffic; seen = sees (is_system_partition conf p) cue.mine cue.seen are.0.1.seen }, have_ranges conf p (cues - 1) None later are.2)

-- so they can be kept
pub are_kept : (conf : Conf) (p cues : ℕ) (entries : List Entry) → cues ≤ 4000000000 → AreEntries conf p cues None entries → AreKeptEntries entries
are_kept conf p cues entries few are = record {
  longest = are_longest conf p cues None entries are;
  few = subst (λ n. n ≤ 4000000000) (sym (have_cues conf p cues None entries are)) few;
  ranges = have_ranges conf p cues None entries are;
}

-- a plain cue may be received
plain_cue : (conf : Conf) (p : ℕ) (own : Bool) → IsCue conf p (bare_cue own)
unfolding bare_cue
plain_cue conf p true = record { traffic = tt; order = tt; alone = (refl, refl); seen = tt }
plain_cue conf p false = record { traffic = tt; order = tt; alone = tt; seen = tt }

-- and many of them, before others
plain_cues : (conf : Conf) (p : ℕ) (own : Bool) (count : ℕ) (later : List Cue) → AllByRecursion (IsCue conf p) later → AllByRecursion (IsCue conf p) (replicate count (bare_cue own) ++ later)
plain_cues conf p own zero later each = each
plain_cues conf p own (suc count) later each = (plain_cue conf p own, plain_cues conf p own count later each)

-- each cue may be received
pub are_cues : (conf : Conf) (p cues : ℕ) (last : Option Bool) (entries : List Entry) → AreEntries conf p cues last entries → AllByRecursion (IsCue conf p) (expanded entries)
are_cues conf p cues last [] are = tt
are_cues conf p cues last (Alike own count ∷ later) are = plain_cues conf p own count (expanded later) (are_cues conf p (cues - count) (Some own) later are.2)
are_cues conf p cues last (Other cue ∷ later) are = (are.0.1, are_cues conf p (cues - 1) None later are.2)

-- a plain cue does not halt the system
no_halt : (own : Bool) → (bare_cue own).whole ≡ AllHalted → ⊥
unfolding bare_cue
no_halt own e = cc

plain_halts : (own : Bool) (count : ℕ) (later : List Cue) → HaltsLast later → HaltsLast (replicate count (bare_cue own) ++ later)
plain_halts own zero later halts = halts
plain_halts own (suc count) later halts = (λ e. absurd (no_halt own e), plain_halts own count later halts)

-- no cue is left
none : (cues : List Cue) → length cues ≡ 0 → cues ≡ []
none [] e = refl
none (cue ∷ later) e = absurd cc

-- a halt is the last
pub halt_last : (conf : Conf) (p cues : ℕ) (last : Option Bool) (entries : List Entry) → AreEntries conf p cues last entries → HaltsLast (expanded entries)
halt_last conf p cues last [] are = tt
halt_last conf p cues last (Alike own count ∷ later) are = plain_halts own count (expanded later) (halt_last conf p (cues - count) (Some own) later are.2)
halt_last conf p cues last (Other cue ∷ later) are =
    (λ halts. none (expanded later) (omega (arith, have_cues conf p (cues - 1) None later are.2, are.0.2 halts)), halt_last conf p (cues - 1) None later are.2)

-- so they make a script
pub are_script : (conf : Conf) (p cues : ℕ) (entries : List Entry) → cues ≤ 4000000000 → AreEntries conf p cues None entries → IsScript conf p (expanded entries)
are_script conf p cues entries few are = record {
  few = subst (λ n. n ≤ 4000000000) (sym (have_cues conf p cues None entries are)) few;
  each = are_cues conf p cues None entries are;
  halts = halt_last conf p cues None entries are;
}
