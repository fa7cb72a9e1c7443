use Rattle.std.proofs.Common.{◌≡◌, ◌+◌, ◌≤◌, arith, refl, sym, subst, ◌∙◌, ap}
use Rattle.xm_base.specs.declared.limits.TheConstants.{TICKS}
use Rattle.continuation_laws.specs.Onward.{coming}
use Rattle.upset_model.specs.Coming.{AreOrdered}
use Rattle.upset_model.specs.Places.{due, upsets_of}
use Rattle.run_commands.proofs.RunLemmas.{AreComing, AreRecorded, all_recorded, all_run, begins_with, comes_after, comes_next, coming_all, halt_recorded, halt_run, has_received, may_next, more_recorded, none_recorded, parts_left, room_left, ticks_left}
use Rattle.upset_model.specs.lemmas.Segments.{ready_halted}
use Rattle.machine_model.specs.Machine.{Machine}
use Rattle.run_commands.proofs.recording.record_run.Goals as goal

pub loop-done-init : goal.loop-done-init
loop-done-init c = record {
  recorded = none_recorded (upsets_of (coming c.args.upsets.now c.args.machine.now.state)) c.args.machine.now.state c.args.ticks c.args.machine.now.state c.args.recordings.now refl c.requires.empty;
  comes = coming_all c.args.upsets.now _ c.args.machine.now.state.ticks _ c.new-coming.ensures (omega arith) c.requires.ordered;
}

pub returns-then-halted-clause-recorded : goal.returns-then-halted-clause-recorded
returns-then-halted-clause-recorded c =
    halt_recorded (upsets_of (coming c.args.upsets.now c.args.machine.now.state)) c.args.machine.now.state c.args.ticks c.loop-done.done c.loop-done.machine.state c.args.recordings.now c.loop-done.recordings
    (sym c.halted.ensures ∙ c.if-halted.true) c.loop-done.invariant.recorded

pub returns-then-halted-clause-state : goal.returns-then-halted-clause-state
returns-then-halted-clause-state c =
    halt_run (upsets_of (coming c.args.upsets.now c.args.machine.now.state)) c.args.machine.now.state c.args.ticks c.loop-done.done c.loop-done.machine.state c.args.recordings.now c.loop-done.recordings
    (sym c.halted.ensures ∙ c.if-halted.true) c.loop-done.invariant.recorded

pub due-struck-requires : goal.due-struck-requires
due-struck-requires c = subst (λ n. AreOrdered (n + c.loop-done.done) c.loop-done.coming) (sym c.done-begun.ensures.done) c.loop-done.invariant.comes.ordered

pub strike-requires : goal.strike-requires
strike-requires c =
    let these = c.due-struck.ensures.these ∙ ap (λ n. due c.loop-done.coming (n + c.loop-done.done)) c.done-begun.ensures.done in
    may_next c.keeps_numbers.ensures.runs (upsets_of (coming c.args.upsets.now c.args.machine.now.state)) c.args.machine.now.state c.args.ticks c.loop-done.done (c.args.machine.now.state.ticks + c.loop-done.done)
    c.loop-done.machine.state c.args.recordings.now c.loop-done.recordings
    c.args.upsets.now c.loop-done.coming c.due-struck.result.now c.loop-done.invariant.recorded c.loop-done.invariant.comes these c.requires.strike

pub next_span-span-requires-clause-running : goal.next_span-span-requires-clause-running
next_span-span-requires-clause-running c = ap (λ (m : Machine). m.halted) c.strike.ensures.state ∙ ready_halted _ c.loop-done.machine.state ∙ sym c.halted.ensures ∙ c.if-halted.false

pub next_span-span-requires-clause-some : goal.next_span-span-requires-clause-some
next_span-span-requires-clause-some c =
    let after = c.next-end.ensures.later (c.done-begun.result + c.loop-done.done + 1) c.due-struck.ensures.ordered (omega (arith, c.loop-done-test.true)) in
    omega (arith, after)

pub next_span-span-requires-clause-most : goal.next_span-span-requires-clause-most
next_span-span-requires-clause-most c =
    let these = c.due-struck.ensures.these ∙ ap (λ n. due c.loop-done.coming (n + c.loop-done.done)) c.done-begun.ensures.done in
    let begins = begins_with c.args.upsets.now c.loop-done.coming c.due-struck.result.now c.args.machine.now.state c.loop-done.done c.loop-done.machine.state c.strike.new.self.state c.loop-done.invariant.comes these c.strike.ensures.state in
    let left =
    ticks_left (upsets_of (coming c.args.upsets.now c.args.machine.now.state)) c.args.machine.now.state c.args.ticks TICKS c.loop-done.done c.loop-done.machine.state c.strike.new.self.state c.args.recordings.now c.loop-done.recordings
    c.requires.most c.loop-done-test.true c.loop-done.invariant.recorded begins in
    omega (arith, left, c.next-end.ensures.within)

pub record_span-requires-clause-inside : goal.record_span-requires-clause-inside
record_span-requires-clause-inside c =
    let these = c.due-struck.ensures.these ∙ ap (λ n. due c.loop-done.coming (n + c.loop-done.done)) c.done-begun.ensures.done in
    let begins = begins_with c.args.upsets.now c.loop-done.coming c.due-struck.result.now c.args.machine.now.state c.loop-done.done c.loop-done.machine.state c.strike.new.self.state c.loop-done.invariant.comes these c.strike.ensures.state in
    parts_left c.keeps_numbers.ensures.runs (upsets_of (coming c.args.upsets.now c.args.machine.now.state)) c.args.machine.now.state _ c.args.ticks c.loop-done.done c.next_span-span.result c.loop-done.machine.state c.strike.new.self.state c.next_span-span.new.machine.state
    c.args.recordings.now c.loop-done.recordings refl c.requires.inside c.loop-done.invariant.recorded begins c.next_span-span.ensures.state

pub record_span-requires-clause-few : goal.record_span-requires-clause-few
record_span-requires-clause-few c =
    let few : c.args.ticks ≤ TICKS = omega (arith, c.requires.most) in
    room_left (upsets_of (coming c.args.upsets.now c.args.machine.now.state)) c.args.machine.now.state c.args.ticks TICKS c.loop-done.done c.next_span-span.result c.loop-done.machine.state c.args.recordings.now c.loop-done.recordings
    few c.loop-done-test.true (omega (arith, c.next_span-span.ensures.within, c.next-end.ensures.within)) c.loop-done.invariant.recorded

pub loop-done-preserved : goal.loop-done-preserved
loop-done-preserved c =
    let g = c.args.machine.now.state in
    let s = upsets_of (coming c.args.upsets.now g) in
    let begun : c.done-begun.result ≡ g.ticks = c.done-begun.ensures.done in
    let these = c.due-struck.ensures.these ∙ ap (λ n. due c.loop-done.coming (n + c.loop-done.done)) begun in
    let begins = begins_with c.args.upsets.now c.loop-done.coming c.due-struck.result.now g c.loop-done.done c.loop-done.machine.state c.strike.new.self.state c.loop-done.invariant.comes these c.strike.ensures.state in
    let after = c.next-end.ensures.later (c.done-begun.result + c.loop-done.done + 1) c.due-struck.ensures.ordered (omega (arith, c.loop-done-test.true)) in
    let within : g.ticks + (c.loop-done.done + c.next_span-span.result) ≤ c.next-end.result = omega (arith, after, begun, c.next_span-span.ensures.within) in
    let next =
    comes_next c.args.upsets.now c.loop-done.coming c.due-struck.new.self g c.loop-done.done c.next-end.result c.next_span-span.result c.loop-done.machine.state c.strike.new.self.state c.loop-done.invariant.comes begins
    (λ k above. c.due-struck.ensures.later k (omega (arith, above, begun))) (c.next-end.ensures.none (c.done-begun.result + c.loop-done.done + 1) c.due-struck.ensures.ordered) c.next_span-span.ensures.some within in
    record {
      recorded = subst (λ ticks. AreRecorded s g c.args.ticks (c.loop-done.done + ticks) c.next_span-span.new.machine.state c.args.recordings.now c.record_span.new.recordings) (sym c.from-done.ensures)
          (more_recorded s g c.args.ticks c.loop-done.done c.next_span-span.result c.loop-done.machine.state c.strike.new.self.state c.next_span-span.new.machine
          c.args.recordings.now c.loop-done.recordings c.record_span.new.recordings
          (omega (arith, c.next_span-span.ensures.within, c.next-end.ensures.within)) next c.loop-done.invariant.recorded c.next_span-span.ensures.state c.in_ok-record_span.ensures.partitions c.in_ok-record_span.ensures.recorded
          (has_received c.keeps_numbers.ensures.runs c.next_span-span.result c.strike.new.self c.next_span-span.new.machine c.next_span-span.ensures.state c.next_span-span.ensures.received));
      comes = subst (λ ticks. AreComing c.args.upsets.now (g.ticks + (c.loop-done.done + ticks)) c.due-struck.new.self) (sym c.from-done.ensures)
          (comes_after c.args.upsets.now c.loop-done.coming c.due-struck.new.self (g.ticks + c.loop-done.done) c.next-end.result (g.ticks + (c.loop-done.done + c.next_span-span.result)) c.loop-done.invariant.comes
          (λ k above. c.due-struck.ensures.later k (omega (arith, above, begun))) (c.next-end.ensures.ordered (c.done-begun.result + c.loop-done.done + 1) c.due-struck.ensures.ordered) (omega (arith, c.next_span-span.ensures.some)) within);
    }

pub returns-clause-recorded : goal.returns-clause-recorded
returns-clause-recorded c =
    all_recorded (upsets_of (coming c.args.upsets.now c.args.machine.now.state)) c.args.machine.now.state c.args.ticks c.loop-done.done c.loop-done.machine.state c.args.recordings.now c.loop-done.recordings c.loop-done-test.false c.loop-done.invariant.recorded

pub returns-clause-state : goal.returns-clause-state
returns-clause-state c =
    all_run (upsets_of (coming c.args.upsets.now c.args.machine.now.state)) c.args.machine.now.state c.args.ticks c.loop-done.done c.loop-done.machine.state c.args.recordings.now c.loop-done.recordings c.loop-done-test.false c.loop-done.invariant.recorded
