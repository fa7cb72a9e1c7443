-- The lines of calls.
use Rattle.std.proofs.Common.{◌≡◌, ℕ, List, [], ◌∷◌, ◌++◌, Option, None, refl, sym, ap, ◌∙◌}
use Rattle.std.specs.Prelude.{filter, nat_le}
use Rattle.std.specs.List.{flat_map}
use Rattle.xm_conf.specs.declared.health.Event.{Event}
use Rattle.std.proofs.lemmas.Grind.{flat_map-append}
use Rattle.std.proofs.lemmas.List.Elements.{filter-append}
use Rattle.sparc_step.specs.declared.outcome.Turn.{Turn}
use Rattle.sparc_step.specs.declared.outcome.Turn.TheVariants.{Went, Trap, Call}
use Rattle.xm_conf.specs.declared.health.Action.{Action}
use Rattle.xm_report.specs.Report.{ReportLine, ConsoleLine, EndPart, EndWhole, HealthLine, MovedLine, PlanLine, StruckLine, SystemLine, TraceLine, WholeLine, health_text, moved_text}
use Rattle.machine_model.specs.Alone.{alone_step_lines}
use Rattle.machine_model.specs.View.{PartitionView, System, view_of}
use Rattle.upset_model.specs.Upsets.{upset_run}
use Rattle.continuation_laws.specs.Continued.{from_tick}
use Rattle.run_records.specs.Calls.{CallLine, HealthMet, CallsAlone, CallsInPieces, HasEachEvent, TextsAsReported, accessed_doing, call_lines, call_lines_in, call_made, call_text, calls_text, did_lines, is_met, met_lines, reported_as, run_calls, since, turn_in, turn_lines}
use Rattle.run_records.specs.Doing.{Doing, Rests, Delivers, Executes, doing}
use Rattle.run_records.specs.OwnTicks.{FindsTicksAlone, FindsTicksInPieces, OwnTick, own_ticks}
use Rattle.run_records.proofs.TickLemmas.{KeepsRuns}

-- what was done has no line in the report
call_alone : (turn : Turn) (view : PartitionView) (tick : OwnTick) (more : List CallLine) → flat_map reported_as (turn_lines turn view tick ++ more) ≡ flat_map reported_as more
unfolding call_made
call_alone Went view tick more = refl
call_alone (Trap type) view tick more = refl
call_alone Call view tick more = refl

did_alone : (d : Doing) (view : PartitionView) (tick : OwnTick) (more : List CallLine) → flat_map reported_as (did_lines d view tick ++ more) ≡ flat_map reported_as more
did_alone Rests view tick more = refl
did_alone (Delivers n) view tick more = refl
did_alone Executes view tick more = call_alone (turn_in view tick) view tick more

met_again : (accessed : Action → Option ℕ) (lines : List ReportLine) → flat_map reported_as (flat_map (met_lines accessed) lines) ≡ filter is_met lines
met_again accessed [] = refl
met_again accessed (SystemLine parts plans ticks ∷ lines) = met_again accessed lines
met_again accessed (ConsoleLine n p bytes ∷ lines) = met_again accessed lines
met_again accessed (HealthLine n p event word answer ∷ lines) = ap (λ rest. HealthLine n p event word answer ∷ rest) (met_again accessed lines)
met_again accessed (TraceLine n p bits load ∷ lines) = met_again accessed lines
met_again accessed (MovedLine n p to ∷ lines) = ap (λ rest. MovedLine n p to ∷ rest) (met_again accessed lines)
met_again accessed (StruckLine n p place bit ∷ lines) = met_again accessed lines
met_again accessed (WholeLine n to ∷ lines) = met_again accessed lines
met_again accessed (PlanLine n plan ∷ lines) = met_again accessed lines
met_again accessed (EndPart p state resets exec pc ∷ lines) = met_again accessed lines
met_again accessed (EndWhole halted plan clock ticks ∷ lines) = met_again accessed lines

pub has_each_event : HasEachEvent
unfolding call_lines_in
has_each_event view tick =
    did_alone (doing tick.found tick.cue) view tick (flat_map (met_lines (accessed_doing (doing tick.found tick.cue) view tick)) (alone_step_lines view tick.found tick.cue))
    ∙ met_again (accessed_doing (doing tick.found tick.cue) view tick) (alone_step_lines view tick.found tick.cue)

-- the text of a health event where nothing was accessed
health_as_reported : (n p : ℕ) (event : Event) (word : ℕ) (answer : Action) → call_text (HealthMet n p event word None answer) ≡ health_text n p event word answer
unfolding health_text
health_as_reported n p event word answer = refl

-- the text of what was met is the report's
pub texts_as_reported : TextsAsReported
texts_as_reported [] = refl
texts_as_reported (SystemLine parts plans ticks ∷ lines) = texts_as_reported lines
texts_as_reported (ConsoleLine n p bytes ∷ lines) = texts_as_reported lines
texts_as_reported (HealthLine n p event word answer ∷ lines) = λ i. health_as_reported n p event word answer i ++ texts_as_reported lines i
texts_as_reported (TraceLine n p bits load ∷ lines) = texts_as_reported lines
texts_as_reported (MovedLine n p to ∷ lines) = ap (λ rest. moved_text n p to ++ rest) (texts_as_reported lines)
texts_as_reported (StruckLine n p place bit ∷ lines) = texts_as_reported lines
texts_as_reported (WholeLine n to ∷ lines) = texts_as_reported lines
texts_as_reported (PlanLine n plan ∷ lines) = texts_as_reported lines
texts_as_reported (EndPart p state resets exec pc ∷ lines) = texts_as_reported lines
texts_as_reported (EndWhole halted plan clock ticks ∷ lines) = texts_as_reported lines

-- the text of ticks, and then more of them
text_added : (view : PartitionView) (first : ℕ) (ticks more : List OwnTick)
    → calls_text (call_lines view (since first (ticks ++ more))) ≡ calls_text (call_lines view (since first ticks)) ++ calls_text (call_lines view (since first more))
text_added view first ticks more =
    ap (λ (some : List OwnTick). calls_text (call_lines view some)) (filter-append (λ tick. nat_le first tick.found.ticks) ticks more)
    ∙ ap calls_text (flat_map-append (call_lines_in view) (since first ticks) (since first more))
    ∙ flat_map-append call_text (call_lines view (since first ticks)) (call_lines view (since first more))

pub calls_in_pieces : FindsTicksInPieces → KeepsRuns → CallsInPieces
calls_in_pieces law same first j k s g p =
    ap (λ (ticks : List OwnTick). calls_text (call_lines (view_of g.system p) (since first ticks))) (law j k s g p)
    ∙ text_added (view_of g.system p) first (own_ticks s g p j) (own_ticks (from_tick j s) (upset_run s g j) p k)
    ∙ ap (λ (system : System). run_calls first s g p j ++ calls_text (call_lines (view_of system p) (since first (own_ticks (from_tick j s) (upset_run s g j) p k)))) (sym (same j s g))

pub calls_alone : FindsTicksAlone → CallsAlone
calls_alone law first count s g p a is = ap (λ ticks. call_lines (view_of g.system p) (since first ticks)) (law count s g p a is)
