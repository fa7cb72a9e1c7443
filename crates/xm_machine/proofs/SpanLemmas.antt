-- Spans: what each partition receives in their ticks.
use Rattle.std.proofs.Common.{◌≡◌, ℕ, zero, suc, ◌+◌, ◌-◌, ◌<◌, ◌≤◌, ◌==◌, Bool, true, false, List, [], ◌∷◌, ◌++◌, not, if◌then◌else◌, Option, None, Some, Result, Ok, Err, IfOk, refl, sym, ap, ◌∙◌, subst, arith}
use Rattle.std.specs.Prelude.{◌&&◌, min, replicate}
use Rattle.std.proofs.Math.Nat.{min-le_right}
use Rattle.cyclic_plans.specs.declared.slots.Here.{Here}
use Rattle.xm_base.specs.Options.{on}
use Rattle.xm_conf.specs.Configuration.{Conf}
use Rattle.xm_conf.specs.Description.{described}
use Rattle.xm_conf.specs.Fits.{Fits}
use Rattle.xm_report.specs.declared.output.WriteFault.{WriteFault}
use Rattle.machine_model.specs.Cue.{Away, CueSlot, Mine, cue, cue_in, script, script_unless, slot_of, unless_own}
use Rattle.machine_model.specs.Emission.{NoEvent, Nothing, OwnStill, Unseen}
use Rattle.machine_model.specs.Facts.{HasFacts, KeepsFacts, RunsKeepNumbers}
use Rattle.machine_model.specs.Lengths.{PutsFewBytes, ShowsFewBytes}
use Rattle.machine_model.specs.Machine.{Machine, SlotTurn, happened, happened_by, is_turn_of, run, step, turn_here, turn_of}
use Rattle.machine_model.specs.Traffic.{Still}
use Rattle.machine_model.specs.View.{System}
use Rattle.cue_scripts.specs.Entries.{bare_cue, is_away, running_slot}
use Rattle.cue_scripts.specs.Kept.{HasCueRanges}
use Rattle.tick_steps.specs.Kept.{AreBareTicks, IsBareTick, KeptTick, kept_cue, kept_from, kept_tick}
use Rattle.tick_steps.specs.Quiet.{AreQuiet}
use Rattle.tick_steps.specs.lemmas.KeptTerms.{kept_after}
use Rattle.tick_steps.specs.lemmas.QuietRunLemmas.{AllQuiet, quiet_runs}
use Rattle.span_engine.specs.Place.{IsAt}
use Rattle.span_engine.specs.lemmas.LaterLemmas.{later_at, turn_at}
use Rattle.span_engine.specs.lemmas.PlaceTerms.{past_first_tick, place_after}
use Rattle.span_engine.specs.declared.place.Place.{Place}
use Rattle.xm_machine.specs.Cues.{last_received}
use Rattle.xm_machine.specs.Machine.{Meaning}
use Rattle.xm_machine.specs.Spans.{ReceiveSpan, ReceivesInRanges, span_cues}
use Rattle.xm_machine.specs.lemmas.ScriptLemmas.{script_add, script_one}
use Rattle.xm_machine.specs.lemmas.SpansTerms.{span_left, span_left_in}
use Rattle.xm_machine.specs.lemmas.StretchTerms.{AreStepped, stepped_by}
use Rattle.xm_machine.specs.declared.stretch.Stepped.{Stepped}
use Rattle.xm_machine.proofs.CueLemmas.{kept_cues}
use Rattle.xm_machine.proofs.CuedLemmas.{kept_last}
use Rattle.xm_machine.proofs.RangeLemmas.{later_ranges}

-- no slot begins in the next tick: it is a gap, or a slot that has begun
abbrev HasBegun : Option Here → Type 0
HasBegun None = Unit {0}
HasBegun (Some here) = here.first ≡ false

-- then the ticks after it are in the slot or gap as it is
past_first_turn : (slot : Option Here) → HasBegun slot → turn_here (on past_first_tick slot) ≡ turn_here slot
past_first_turn None begun = refl
past_first_turn (Some here) begun = ap (λ (first : Bool). Some (record { part = here.part; first = first })) (sym begun)

turn_stays : RunsKeepNumbers → (place : Place) (g : Machine) (k : ℕ) → IsAt place g → HasBegun place.slot → k < place.left → g.halted ≡ false → AllQuiet k g → turn_of (run g k) ≡ turn_of g
turn_stays keeps place g zero at begun below runs quiet = refl
turn_stays keeps place g (suc k) at begun below runs quiet =
    sym (turn_at (place_after (suc k) place) (run g (suc k)) (later_at keeps g (run g (suc k)) place (suc k) at (omega arith) below refl runs quiet))
    ∙ past_first_turn place.slot begun ∙ turn_at place g at

-- and a partition's slot runs, or does not
slot_runs : (slot : Option Here) (p : ℕ) → HasBegun slot → slot_of (turn_here slot) p ≡ running_slot (not (is_away (slot_of (turn_here slot) p)))
slot_runs None p begun = refl
slot_runs (Some here) p begun = at (here.part == p)
  where
    at : (b : Bool) → (if b then Mine here.first else Away) ≡ running_slot (not (is_away (if b then Mine here.first else Away)))
    at true = ap Mine begun
    at false = refl

-- what a partition receives in a tick of which only its slot is kept
kept_bare : (conf : Conf) (turn : Option SlotTurn) (works : Bool) (p : ℕ) → kept_cue conf (kept_from turn works Nothing Still Unseen) p
    ≡ record { mine = slot_of turn p; traffic = OwnStill; order = None; whole = NoEvent; seen = Unseen }
unfolding kept_cue
kept_bare conf turn works p = rw (still (is_turn_of turn p && works), unseen (is_turn_of turn p)) refl
  where
    still : (b : Bool) → unless_own b OwnStill ≡ OwnStill
    still true = refl
    still false = refl

    unseen : (b : Bool) → (if b then Unseen else Unseen) ≡ Unseen
    unseen true = refl
    unseen false = refl

bare_received : (g : Machine) (p : ℕ) (own : Bool) → IsBareTick g → slot_of (turn_of g) p ≡ running_slot own → cue g p ≡ bare_cue own
unfolding bare_cue
bare_received g p own bare is =
    sym (kept_cues g p)
    ∙ ap (λ (kept : KeptTick). kept_cue g.system.conf kept p) bare.kept
    ∙ kept_bare g.system.conf (turn_of g) bare.works p
    ∙ ap (λ (mine : CueSlot). record { mine = mine; traffic = OwnStill; order = None; whole = NoEvent; seen = Unseen }) is

-- and in many of them
bare_script : (count : ℕ) (g : Machine) (p : ℕ) (own : Bool) → ((k : ℕ) → k < count → (run g k).halted ≡ false) → ((k : ℕ) → k < count → cue (run g k) p ≡ bare_cue own)
    → script g p count ≡ replicate count (bare_cue own)
bare_script zero g p own runs are = refl
bare_script (suc count) g p own runs are =
    ap (λ b. script_unless b (cue g p) (script (step g) p count)) (runs 0 (omega arith))
    ∙ ap (λ first. first ∷ script (step g) p count) (are 0 (omega arith))
    ∙ ap (λ rest. bare_cue own ∷ rest) (bare_script count (step g) p own (λ k below. runs (suc k) (omega (arith, below))) (λ k below. are (suc k) (omega (arith, below))))

-- whose slot it is, as a cue has it
mine_is : (g : Machine) (p : ℕ) → (cue g p).mine ≡ slot_of (turn_of g) p
unfolding cue cue_in happened happened_by
mine_is g p = refl

-- more than one tick of a span are in a slot or gap where no slot begins
record AreOfOneKind (count : ℕ) (place : Place) : Type 0 where
  begun : HasBegun place.slot
  within : count ≤ place.left

one_kind : (count : ℕ) (place : Place) → 1 < count → count ≤ span_left place → AreOfOneKind count place
one_kind count place more within = at place.slot place.left within
  where
    begins : (here : Here) (left : ℕ) (b : Bool) → here.first ≡ b → count ≤ (if b then 1 else left) → (here.first ≡ false) × (count ≤ left)
    begins here left true first fits = absurd (omega (arith, more, fits))
    begins here left false first fits = (first, fits)

    at : (slot : Option Here) (left : ℕ) → count ≤ span_left_in slot left → AreOfOneKind count (record { slot = slot; left = left })
    at None left fits = record { begun = tt; within = fits }
    at (Some here) left fits = let both = begins here left here.first refl fits in record { begun = both.0; within = both.1 }

-- what each partition receives in this many ticks and one more
received_before : RunsKeepNumbers → (count : ℕ) (place : Place) (g : Machine) (p : ℕ) → IsAt place g → g.halted ≡ false → AllQuiet count g → AreBareTicks (count + 1) g → count + 1 ≤ span_left place
    → script g p count ≡ replicate count (bare_cue (not (is_away (cue (run g count) p).mine)))
received_before keeps zero place g p at runs quiet bare within = refl
received_before keeps (suc before) place g p at runs quiet bare within =
    bare_script count g p own (λ k below. quiet_runs k g runs (λ j less. quiet j (omega (arith, less, below))))
    (λ k below. bare_received (run g k) p own (bare k (omega (arith, below))) (its_slot k (omega (arith, below))))
  where
    count : ℕ
    count = suc before

    own : Bool
    own = not (is_away (cue (run g count) p).mine)

    kind : AreOfOneKind (count + 1) place
    kind = one_kind (count + 1) place (omega arith) within

    turn : (k : ℕ) → k ≤ count → turn_of (run g k) ≡ turn_here place.slot
    turn k below =
        let fits = kind.within in
        turn_stays keeps place g k at kind.begun (omega (arith, below, fits)) runs (λ j less. quiet j (omega (arith, less, below))) ∙ sym (turn_at place g at)

    its_slot : (k : ℕ) → k ≤ count → slot_of (turn_of (run g k)) p ≡ running_slot own
    its_slot k below =
        ap (λ (t : Option SlotTurn). slot_of t p) (turn k below)
        ∙ slot_runs place.slot p kind.begun
        ∙ ap (λ (t : Option SlotTurn). running_slot (not (is_away (slot_of t p)))) (sym (turn count (omega arith)))
        ∙ ap (λ (mine : CueSlot). running_slot (not (is_away mine))) (sym (mine_is (run g count) p))

received_to : RunsKeepNumbers → (count : ℕ) (place : Place) (g : Machine) (p : ℕ) → IsAt place g → g.halted ≡ false → AllQuiet count g → AreBareTicks (count + 1) g → count + 1 ≤ span_left place
    → script g p (count + 1) ≡ replicate count (bare_cue (not (is_away (cue (run g count) p).mine))) ++ cue (run g count) p ∷ []
received_to keeps count place g p at runs quiet bare within =
    script_add count 1 g p
    ∙ ap (λ rest. script g p count ++ rest) (script_one (run g count) p (quiet_runs count g runs quiet))
    ∙ ap (λ before. before ++ cue (run g count) p ∷ []) (received_before keeps count place g p at runs quiet bare within)

-- what each receives in the ticks of a span
span_received : RunsKeepNumbers → (count : ℕ) (place : Place) (g : Machine) (p : ℕ) → IsAt place g → g.halted ≡ false → 0 < count → AreQuiet count g → AreBareTicks count g → count ≤ span_left place
    → script g p count ≡ span_cues count (cue (run g (count - 1)) p)
span_received keeps count place g p at runs some quiet bare within =
    let all : count ≡ count - 1 + 1 = omega (arith, some) in
    ap (script g p) all
    ∙ received_to keeps (count - 1) place g p at runs (λ k below. quiet k (omega (arith, below))) (λ k below. bare k (omega (arith, below, some))) (omega (arith, within, some))

-- what is kept of the last of ticks gives what each partition received in it
last_kept : RunsKeepNumbers → (count : ℕ) (old new : Meaning) (p : ℕ) → 0 < count → (run old.state (count - 1)).halted ≡ false → new.state ≡ run old.state count
    → new.kept ≡ kept_after old.state count old.kept → last_received new p ≡ cue (run old.state (count - 1)) p
last_kept keeps count old new p some runs state kept =
    let one : count ≡ suc (count - 1) = omega (arith, some) in
    let last : new.kept ≡ kept_tick (run old.state (count - 1)) =
    kept ∙ ap (λ (n : ℕ). kept_after old.state n old.kept) one ∙ kept_last (count - 1) old.state old.kept runs in
    let same : new.state.system ≡ (run old.state (count - 1)).system =
    ap (λ (g : Machine). g.system) state ∙ (keeps old.state count).system ∙ sym ((keeps old.state (count - 1)).system) in
    ap (λ (k : KeptTick). kept_cue new.state.system.conf k p) last
    ∙ ap (λ (s : System). kept_cue s.conf (kept_tick (run old.state (count - 1))) p) same
    ∙ kept_cues (run old.state (count - 1)) p

-- before the last tick of a span the hypervisor has not halted
last_runs : (count : ℕ) (g : Machine) → 0 < count → g.halted ≡ false → AreQuiet count g → (run g (count - 1)).halted ≡ false
last_runs count g some runs quiet = quiet_runs (count - 1) g runs (λ k below. quiet k (omega (arith, below, some)))

-- they are the first ticks up to one that emits something, at most as many as are asked and as a span has at this place
module _ (keeps : RunsKeepNumbers) (stepped : Stepped) (most limit : ℕ) (place : Place) (old new : Meaning) (had got : Option (List ℕ))
    (runs : old.state.halted ≡ false) (are : AreStepped stepped limit old.state new.state had got) (kept : new.kept ≡ kept_after old.state stepped.ticks old.kept) where
  some : 0 < stepped.ticks
  some = omega (arith, are.step.some, are.ticks)

  its_last : (p : ℕ) → last_received new p ≡ cue (run old.state (stepped.ticks - 1)) p
  its_last p = last_kept keeps stepped.ticks old new p some (last_runs stepped.ticks old.state some runs are.quiet) (are.step.are.state ∙ ap (run old.state) are.ticks) kept

  pub spanned_received : IsAt place old.state → limit ≡ min most (span_left place) → AreBareTicks stepped.ticks old.state → ReceiveSpan stepped.ticks old new
  spanned_received at limited bare p there =
      span_received keeps stepped.ticks place old.state p at runs some are.quiet bare
      (omega (arith, are.step.within, are.ticks, limited, min-le_right most (span_left place)))
      ∙ ap (span_cues stepped.ticks) (sym (its_last p))

  pub spanned_ranges : PutsFewBytes → ShowsFewBytes → KeepsFacts → Fits (described old.state.system.conf) → HasFacts old.state → ReceivesInRanges new
  spanned_ranges puts shows facts fits has p =
      subst HasCueRanges (sym (its_last p)) (later_ranges puts shows facts keeps (stepped.ticks - 1) old.state p fits has)

-- ticks of which nothing but the slots is kept before the last, whatever was printed of them
pub bare_so : (printed : Result ℕ WriteFault) (ticks : ℕ) (ends : Bool) (g : Machine) → AreBareTicks ticks g → IfOk (stepped_by printed ticks ends) (λ stepped. AreBareTicks stepped.ticks g)
bare_so (Ok lines) ticks ends g bare = bare
bare_so (Err fault) ticks ends g bare = tt
