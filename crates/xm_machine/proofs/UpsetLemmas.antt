-- An upset of a machine: what it leaves, and that what holds of every machine still holds.
use Rattle.std.proofs.Common.{◌≡◌, ℕ, zero, suc, ◌+◌, ◌<◌, ◌≤◌, Bool, true, false, List, [], ◌∷◌, length, drop, get_or, map, Option, Some, None, refl, sym, ap, ◌∙◌, subst, arith}
use Rattle.std.specs.Prelude.{All, ◌==◌, if◌then◌else◌, slice_get}
use Rattle.std.proofs.Math.Seq.{drop-cons}
use Rattle.std.proofs.lemmas.Option.{same_Some}
use Rattle.xm_base.specs.Options.{on}
use Rattle.machine_model.specs.lemmas.ListLemmas.{each_counted, get_each}
use Rattle.machine_model.specs.Facts.{AreFacts, HasFacts}
use Rattle.machine_model.specs.Machine.{Machine, booted_part}
use Rattle.machine_model.specs.Partition.{PartitionState}
use Rattle.machine_model.specs.View.{view_of}
use Rattle.xm_machine.specs.Striking.{MayStrike}
use Rattle.xm_machine.specs.lemmas.StrikingLemmas.{may_strike}
use Rattle.xm_report.specs.declared.place.Place.TheVariants.{Global}
use Rattle.upset_model.specs.Places.{flip, upset_of}
use Rattle.upset_model.specs.Upsets.{ready, struck_if, upset}
use Rattle.upset_model.specs.declared.upset_line.UpsetLine.{UpsetLine}
use Rattle.upset_model.specs.lemmas.FactLemmas.{facts_stay}
use Rattle.upset_model.specs.lemmas.Segments.{ready_none, ready_system}
use Rattle.upset_model.specs.lemmas.StruckLemmas.{ready_again, upset_at}
use Rattle.system_state.specs.State.{SysState, part_at, with_machine, with_part}
use Rattle.tick_steps.specs.Machine.{IsMachine}

-- a machine that has halted is not struck
pub halted_ready : (line : UpsetLine) (g : Machine) → g.halted ≡ true → ready (upset_of line ∷ []) g ≡ g
unfolding ready
halted_ready line g halts = rw halts refl

-- one that has not is
running_ready : (line : UpsetLine) (g : Machine) → g.halted ≡ false → ready (upset_of line ∷ []) g ≡ upset (upset_of line) g
unfolding ready
running_ready line g goes = rw goes refl

pub struck_ready : (line : UpsetLine) (g : Machine) → g.halted ≡ false → line.part < length g.parts
    → with_part line.part (flip line.place line.bit (part_at line.part g)) g ≡ ready (upset_of line ∷ []) g
struck_ready line g goes below =
    sym (running_ready line g goes ∙ upset_at line.part (flip line.place line.bit) g (booted_part g.system line.part) below)

-- the facts of each partition still hold
facts_struck : (line : UpsetLine) (g : Machine) → HasFacts g → HasFacts (upset (upset_of line) g)
unfolding upset
facts_struck line g facts q ps there =
    at (slice_get g.parts q) refl (sym (get_each (λ k x. struck_if (line.part == k) (flip line.place line.bit) x) g.parts q) ∙ there)
  where
    either : (b : Bool) (old : PartitionState) → AreFacts (view_of g.system q) g.ticks g.halted old → AreFacts (view_of g.system q) g.ticks g.halted (struck_if b (flip line.place line.bit) old)
    either true old are = facts_stay (view_of g.system q) g.ticks g.halted line.place line.bit old are
    either false old are = are

    at : (o : Option PartitionState) → slice_get g.parts q ≡ o → on (λ x. struck_if (line.part == q) (flip line.place line.bit) x) o ≡ Some ps → AreFacts (view_of g.system q) g.ticks g.halted ps
    at None e is = absurd cc
    at (Some old) e is =
        subst (AreFacts (view_of g.system q) g.ticks g.halted) (same_Some (struck_if (line.part == q) (flip line.place line.bit) old) ps is)
        (either (line.part == q) old (facts q old e))

kept_upset : (line : UpsetLine) (sys : SysState) → IsMachine sys → IsMachine (with_machine (upset (upset_of line) sys.machine) sys)
unfolding upset
kept_upset line sys is = record {
  shapes = is.shapes;
  fits = is.fits;
  complete = record {
    parts = each_counted (λ k x. struck_if (line.part == k) (flip line.place line.bit) x) sys.machine.parts ∙ is.complete.parts;
    channels = is.complete.channels;
  };
  clocked = record { in_frame = is.clocked.in_frame; asked = is.clocked.asked };
  counted = record { facts = facts_struck line sys.machine is.counted.facts; time = is.counted.time; ticks = is.counted.ticks };
}

-- what holds of every machine
pub kept_struck : (line : UpsetLine) (sys : SysState) → IsMachine sys → IsMachine (with_machine (ready (upset_of line ∷ []) sys.machine) sys)
kept_struck line sys is = at sys.machine.halted refl
  where
    at : (b : Bool) → sys.machine.halted ≡ b → IsMachine (with_machine (ready (upset_of line ∷ []) sys.machine) sys)
    at true halts = subst (λ (g : Machine). IsMachine (with_machine g sys)) (sym (halted_ready line sys.machine halts)) is
    at false goes = subst (λ (g : Machine). IsMachine (with_machine g sys)) (sym (running_ready line sys.machine goes)) (kept_upset line sys is)

-- upsets one after the other
upset_counted : (line : UpsetLine) (g : Machine) → length (upset (upset_of line) g).parts ≡ length g.parts
unfolding upset
upset_counted line g = each_counted (λ k x. struck_if (line.part == k) (flip line.place line.bit) x) g.parts

ready_counted : (line : UpsetLine) (g : Machine) → length (ready (upset_of line ∷ []) g).parts ≡ length g.parts
ready_counted line g = at g.halted refl
  where
    at : (b : Bool) → g.halted ≡ b → length (ready (upset_of line ∷ []) g).parts ≡ length g.parts
    at true halts = ap (λ (m : Machine). length m.parts) (halted_ready line g halts)
    at false goes = ap (λ (m : Machine). length m.parts) (running_ready line g goes) ∙ upset_counted line g

pub ready_all_counted : (lines : List UpsetLine) (g : Machine) → length (ready (map upset_of lines) g).parts ≡ length g.parts
ready_all_counted [] g = ap (λ (m : Machine). length m.parts) (ready_none g)
ready_all_counted (line ∷ lines) g =
    ap (λ (m : Machine). length m.parts) (ready_again (upset_of line) (map upset_of lines) g)
    ∙ ready_all_counted lines (ready (upset_of line ∷ []) g) ∙ ready_counted line g

-- what holds of every machine holds after these upsets
pub kept_all : (lines : List UpsetLine) (sys : SysState) → IsMachine sys → IsMachine (with_machine (ready (map upset_of lines) sys.machine) sys)
kept_all [] sys is = subst (λ (g : Machine). IsMachine (with_machine g sys)) (sym (ready_none sys.machine)) is
kept_all (line ∷ lines) sys is =
    subst (λ (g : Machine). IsMachine (with_machine g sys)) (sym (ready_again (upset_of line) (map upset_of lines) sys.machine))
    (kept_all lines (with_machine (ready (upset_of line ∷ []) sys.machine) sys) (kept_struck line sys is))

-- of these upsets of a machine some have struck, and these are left
pub record AreStriking (all left : List UpsetLine) (old new : SysState) : Type 0 where
  pub state : new ≡ with_machine new.machine old
  pub rest : ready (map upset_of left) new.machine ≡ ready (map upset_of all) old.machine
  pub may : All (MayStrike new.machine) all

-- one more has
pub strikes_on : (all rest : List UpsetLine) (line : UpsetLine) (old mid new : SysState) → AreStriking all (line ∷ rest) old mid
    → new ≡ with_machine (ready (upset_of line ∷ []) mid.machine) mid → AreStriking all rest old new
strikes_on all rest line old mid new are is =
    let machine : new.machine ≡ ready (upset_of line ∷ []) mid.machine = ap (λ (s : SysState). s.machine) is in
    record {
      state = is ∙ ap (with_machine (ready (upset_of line ∷ []) mid.machine)) are.state ∙ ap (λ (m : Machine). with_machine m old) (sym machine);
      rest = ap (ready (map upset_of rest)) machine ∙ sym (ready_again (upset_of line) (map upset_of rest) mid.machine) ∙ are.rest;
      may = λ k d below.
          may_strike mid.machine new.machine (get_or all k d)
          (ap (λ (m : Machine). m.system) machine ∙ ready_system (upset_of line ∷ []) mid.machine)
          (ap (λ (m : Machine). length m.parts) machine ∙ ready_counted line mid.machine) (are.may k d below);
    }

-- all have
pub all_struck : (all : List UpsetLine) (old new : SysState) → AreStriking all [] old new → new ≡ with_machine (ready (map upset_of all) old.machine) old
all_struck all old new are =
    are.state ∙ ap (λ (m : Machine). with_machine m old) (sym (ready_none new.machine) ∙ are.rest)

-- the next line of a list
pub next_upset : (lines : List UpsetLine) (i : ℕ) (other : UpsetLine) → i < length lines → drop i lines ≡ get_or lines i other ∷ drop (i + 1) lines
next_upset lines i other below =
    let one : suc i ≡ i + 1 = omega arith in
    drop-cons lines i other below ∙ ap (λ (k : ℕ). get_or lines i other ∷ drop k lines) one

-- some line
abbrev pub some_upset : UpsetLine
some_upset = record { tick = 0; part = 0; place = Global 0; bit = 0 }

-- none are left at the end
pub drop_past : (i : ℕ) (lines : List UpsetLine) → length lines ≤ i → drop i lines ≡ []
drop_past zero [] past = refl
drop_past (suc i) [] past = refl
drop_past zero (line ∷ lines) past = absurd (omega (arith, past))
drop_past (suc i) (line ∷ lines) past = drop_past i lines (omega (arith, past))
