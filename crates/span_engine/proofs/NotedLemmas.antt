-- The bytes that a note names are few, and they are what is kept of it.
use Rattle.std.proofs.Common.{◌≡◌, ℕ, ◌+◌, ◌≤◌, Bool, List, length, Option, None, Some, refl, sym, ap, subst, ◌∙◌, arith}
use Rattle.std.specs.Prelude.{◌-◌}
use Rattle.guest_bus.specs.Memory.{Memory, bytes_at}
use Rattle.guest_bus.specs.lemmas.MemoryLemmas.{length-bytes_at}
use Rattle.xm_base.specs.declared.limits.TheConstants.{TICKS}
use Rattle.xm_report.specs.Report.{ReportLine}
use Rattle.machine_model.specs.Facts.{KeepsClocked, KeepsFacts, KeepsNumbers, KeepsTimed}
use Rattle.machine_model.specs.Lengths.{PutsAtMost, PutsFewBytes, ShowsAtMost, ShowsFewBytes}
use Rattle.machine_model.specs.Machine.{Machine, SlotTurn, happened, run, sight, turn_of}
use Rattle.system_state.specs.Serving.{sight_by, traffic_by}
use Rattle.system_state.specs.State.{SysState, memory_of, with_machine}
use Rattle.system_state.specs.declared.served.Note.{Note}
use Rattle.system_state.specs.declared.served.Note.TheVariants as note
use Rattle.tick_steps.specs.Kept.{KeptTick, kept_by, kept_in, kept_tick, kept_with, shown_to}
use Rattle.tick_steps.specs.lemmas.KeptTerms.{bytes_noted}
use Rattle.tick_steps.specs.Machine.{IsMachine}
use Rattle.span_engine.specs.Spans.{IsSpanDone}
use Rattle.tick_steps.specs.declared.beyond.Beyond.{Beyond}
use Rattle.tick_steps.specs.declared.span.Span.{Span}
use Rattle.tick_steps.specs.lemmas.KeptLemmas.{kept_ticks}

-- what is kept of a tick names the bytes of its note
with_bytes : (turn : Option SlotTurn) (worked : Bool) (a_note : Note) (reach : Beyond) (memory : Memory)
    → kept_with turn worked a_note reach (bytes_noted a_note memory) ≡ kept_by turn worked a_note reach memory
with_bytes turn worked note.Nothing reach memory = refl
with_bytes turn worked (note.Console at size) reach memory = refl
with_bytes turn worked (note.Trace entry) reach memory = refl
with_bytes turn worked (note.Put chan at size) reach memory = refl
with_bytes turn worked (note.Take chan) reach memory = refl
with_bytes turn worked (note.Saw at size) reach memory = refl
with_bytes turn worked note.NotKept reach memory = refl
with_bytes turn worked (note.Signal number) reach memory = refl

-- what is kept in another form
pub kept_so : (one other : Option SlotTurn) (worked : Bool) (a_note : Note) (reach : Beyond) (bytes : List ℕ) (memory : Memory) → one ≡ other → bytes ≡ bytes_noted a_note memory
    → kept_with one worked a_note reach bytes ≡ kept_by other worked a_note reach memory
kept_so one other worked a_note reach bytes memory turn_is bytes_are =
    ap (λ (t : Option SlotTurn). kept_with t worked a_note reach bytes) turn_is
    ∙ ap (λ (b : List ℕ). kept_with other worked a_note reach b) bytes_are
    ∙ with_bytes other worked a_note reach memory

-- they are few
few_bytes : (p : ℕ) (a_note : Note) (memory : Memory) → PutsAtMost 4096 (traffic_by p a_note memory) → ShowsAtMost 24 (sight_by a_note memory) → length (bytes_noted a_note memory) ≤ 4096
few_bytes p note.Nothing memory puts shows = omega arith
few_bytes p (note.Console at size) memory puts shows = omega arith
few_bytes p (note.Trace entry) memory puts shows = omega arith
few_bytes p (note.Put chan at size) memory puts shows = puts
few_bytes p (note.Take chan) memory puts shows = omega arith
few_bytes p (note.Saw at size) memory puts shows = omega (arith, shows)
few_bytes p note.NotKept memory puts shows = omega arith
few_bytes p (note.Signal number) memory puts shows = omega arith

-- bytes that are few are as many as were asked for
pub as_many : (memory : Memory) (at size most : ℕ) → length (bytes_at memory at size) ≤ most → size ≤ most
as_many memory at size most few = omega (arith, few, length-bytes_at memory at size)

-- the traffic that is kept, and what was shown
traffic_kept : (m : Machine) → (kept_tick m).traffic ≡ (happened m).traffic
unfolding kept_tick kept_in
traffic_kept m = refl

seen_kept : (m : Machine) → ((p : ℕ) → ShowsAtMost 24 (sight m p)) → ShowsAtMost 24 (kept_tick m).seen
unfolding kept_tick kept_in
seen_kept m few = at (turn_of m)
  where
    at : (turn : Option SlotTurn) → ShowsAtMost 24 (shown_to m turn)
    at None = tt
    at (Some turn) = few turn.part

-- the bytes that a span's note names are few
pub few_noted : PutsFewBytes → ShowsFewBytes → KeepsFacts → KeepsTimed → KeepsNumbers → KeepsClocked → (span : Span) (most : ℕ) (old new : SysState) (got : List ReportLine)
    → IsMachine old → IsSpanDone span most old new got → old.machine.ticks + most ≤ TICKS → length (bytes_noted span.note (memory_of span.part new.machine)) ≤ 4096
few_noted puts shows facts timed numbers clocked span most old new got is done room =
    let m : Machine = run old.machine (span.ticks - 1) in
    let before : IsMachine (with_machine m old) = kept_ticks facts timed numbers clocked old (with_machine m old) (span.ticks - 1) most is refl (omega (arith, done.within)) room in
    few_bytes _ span.note (memory_of span.part new.machine)
    (subst (PutsAtMost 4096) (sym (traffic_kept m) ∙ ap (λ (k : KeptTick). k.traffic) done.kept) (puts m before.fits))
    (subst (ShowsAtMost 24) (ap (λ (k : KeptTick). k.seen) done.kept) (seen_kept m (λ p. shows m p before.counted.facts)))
