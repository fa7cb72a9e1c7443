-- The entries of cues: they have these cues, are as long as they can be, and are the only ones that are.
use Rattle.std.proofs.Common.{◌≡◌, ℕ, zero, suc, Bool, true, false, List, [], ◌∷◌, ◌++◌, Option, Some, None, refl, ap, ◌∙◌, arith}
use Rattle.std.specs.Prelude.{replicate, ◌&&◌, is_none, if◌then◌else◌}
use Rattle.xm_base.specs.declared.partition.Order.{Order}
use Rattle.machine_model.specs.Cue.{Away, Cue, Mine, CueSlot}
use Rattle.machine_model.specs.Emission.{AllHalted, AllReset, NoEvent, NotKept, OwnPuts, OwnSignals, OwnStill, OwnTakes, OwnTraffic, Sight, Unseen, WholeEvent, Words}
use Rattle.cue_scripts.specs.Entries.{Alike, AreLongest, Entry, Other, cue_before, expanded, is_bare, is_no_event, is_still, is_unseen, longer, bare_cue, plain_kind, running_in, runs}

-- five parts with nothing but whose running slot it is
bare_parts : (own : Bool) (mine : CueSlot) (traffic : OwnTraffic) (order : Option Order) (whole : WholeEvent) (seen : Sight)
    → (if is_still traffic && is_none order && is_no_event whole && is_unseen seen then running_in mine else None) ≡ Some own
    → bare_cue own ≡ record { mine = mine; traffic = traffic; order = order; whole = whole; seen = seen }
unfolding bare_cue
bare_parts own mine (OwnPuts name bytes) order whole seen e = absurd cc
bare_parts own mine (OwnTakes name) order whole seen e = absurd cc
bare_parts own mine (OwnSignals number) order whole seen e = absurd cc
bare_parts own mine OwnStill (Some order) whole seen e = absurd cc
bare_parts own mine OwnStill None (AllReset mode) seen e = absurd cc
bare_parts own mine OwnStill None AllHalted seen e = absurd cc
bare_parts own mine OwnStill None NoEvent NotKept e = absurd cc
bare_parts own mine OwnStill None NoEvent (Words bytes) e = absurd cc
bare_parts own (Mine true) OwnStill None NoEvent Unseen e = absurd cc
bare_parts true (Mine false) OwnStill None NoEvent Unseen e = refl
bare_parts true Away OwnStill None NoEvent Unseen e = absurd cc
bare_parts false (Mine false) OwnStill None NoEvent Unseen e = absurd cc
bare_parts false Away OwnStill None NoEvent Unseen e = refl

-- a cue that is plain is the plain one
pub plain_is : (own : Bool) (cue : Cue) → plain_kind cue ≡ Some own → bare_cue own ≡ cue
unfolding plain_kind is_bare
plain_is own cue e = bare_parts own cue.mine cue.traffic cue.order cue.whole cue.seen e

-- the plain cue is plain
pub plain_own : (own : Bool) → plain_kind (bare_cue own) ≡ Some own
unfolding plain_kind is_bare bare_cue
plain_own true = refl
plain_own false = refl

-- a plain cue before entries is one cue more
longer_expands : (own : Bool) (entries : List Entry) → expanded (longer own entries) ≡ bare_cue own ∷ expanded entries
longer_expands own [] = refl
longer_expands own (Other cue ∷ later) = refl
longer_expands true (Alike true count ∷ later) = refl
longer_expands true (Alike false count ∷ later) = refl
longer_expands false (Alike true count ∷ later) = refl
longer_expands false (Alike false count ∷ later) = refl

-- the entries of cues have these cues
pub runs_expand : (cues : List Cue) → expanded (runs cues) ≡ cues
unfolding runs
runs_expand [] = refl
runs_expand (cue ∷ later) = at (plain_kind cue) refl (runs_expand later)
  where
    at : (kind : Option Bool) → plain_kind cue ≡ kind → expanded (runs later) ≡ later → expanded (cue_before kind cue (runs later)) ≡ cue ∷ later
    at None e again = ap (λ rest. cue ∷ rest) again
    at (Some own) e again = longer_expands own (runs later) ∙ ap (λ first. first ∷ expanded (runs later)) (plain_is own cue e) ∙ ap (λ rest. cue ∷ rest) again

-- after entries that repeat another cue an entry begins
fresh : (own : Bool) (later : List Entry) → AreLongest (Some own) later → longer own later ≡ Alike own 1 ∷ later
fresh own [] longest = refl
fresh own (Other cue ∷ later) longest = refl
fresh true (Alike true count ∷ later) longest = absurd (longest.0.0 refl)
fresh true (Alike false count ∷ later) longest = refl
fresh false (Alike true count ∷ later) longest = refl
fresh false (Alike false count ∷ later) longest = absurd (longest.0.0 refl)

-- one that repeats the same cue is longer
again_longer : (own : Bool) (count : ℕ) (later : List Entry) → longer own (Alike own count ∷ later) ≡ Alike own (suc count) ∷ later
again_longer true count later = refl
again_longer false count later = refl

-- a plain cue before cues
runs_plain : (own : Bool) (cues : List Cue) → runs (bare_cue own ∷ cues) ≡ longer own (runs cues)
unfolding runs
runs_plain own cues = ap (λ kind. cue_before kind (bare_cue own) (runs cues)) (plain_own own)

-- plain cues that are repeated are one entry
repeated : (own : Bool) (more : ℕ) (later : List Entry) → AreLongest (Some own) later → runs (expanded later) ≡ later
    → runs (replicate (suc more) (bare_cue own) ++ expanded later) ≡ Alike own (suc more) ∷ later
repeated own zero later longest again =
    runs_plain own (expanded later) ∙ ap (longer own) again ∙ fresh own later longest
repeated own (suc more) later longest again =
    runs_plain own (replicate (suc more) (bare_cue own) ++ expanded later) ∙ ap (longer own) (repeated own more later longest again) ∙ again_longer own (suc more) later

-- entries that are as long as they can be are those of their cues
pub runs_again : (last : Option Bool) (entries : List Entry) → AreLongest last entries → runs (expanded entries) ≡ entries
unfolding runs
runs_again last [] longest = refl
runs_again last (Other cue ∷ later) longest =
    ap (λ kind. cue_before kind cue (runs (expanded later))) longest.0 ∙ ap (λ rest. Other cue ∷ rest) (runs_again None later longest.1)
runs_again last (Alike own zero ∷ later) longest = absurd (omega (arith, longest.0.1))
runs_again last (Alike own (suc more) ∷ later) longest = repeated own more later longest.1 (runs_again (Some own) later longest.1)

-- with a plain cue before them entries are as long as they can be
longer_longest : (own : Bool) (entries : List Entry) → AreLongest None entries → AreLongest None (longer own entries)
longer_longest own [] longest = ((λ e. absurd cc, omega arith), tt)
longer_longest own (Other cue ∷ later) longest = ((λ e. absurd cc, omega arith), (longest.0, longest.1))
longer_longest true (Alike true count ∷ later) longest = ((λ e. absurd cc, omega arith), longest.1)
longer_longest true (Alike false count ∷ later) longest = ((λ e. absurd cc, omega arith), ((λ e. absurd cc, longest.0.1), longest.1))
longer_longest false (Alike true count ∷ later) longest = ((λ e. absurd cc, omega arith), ((λ e. absurd cc, longest.0.1), longest.1))
longer_longest false (Alike false count ∷ later) longest = ((λ e. absurd cc, omega arith), longest.1)

-- the entries of cues are as long as they can be
pub runs_longest : (cues : List Cue) → AreLongest None (runs cues)
unfolding runs
runs_longest [] = tt
runs_longest (cue ∷ later) = at (plain_kind cue) refl (runs_longest later)
  where
    at : (kind : Option Bool) → plain_kind cue ≡ kind → AreLongest None (runs later) → AreLongest None (cue_before kind cue (runs later))
    at None e longest = (e, longest)
    at (Some own) e longest = longer_longest own (runs later) longest
