use Rattle.std.proofs.Common.{ℕ, ◌<◌, ap, arith, length, map, subst, sym, ◌∙◌}
use Rattle.machine_model.specs.Machine.{Machine}
use Rattle.machine_model.specs.View.{System}
use Rattle.replay_model.specs.Passes.{part_in}
use Rattle.replay_model.specs.Step.{IsOfSystem}
use Rattle.upset_model.specs.Places.{lines_for, upset_of}
use Rattle.upset_model.specs.lemmas.Segments.{ready_halted, ready_system, ready_ticks}
use Rattle.xm_alone.specs.lemmas.Cues.{IsNextCue}
use Rattle.xm_alone.proofs.StruckLemmas.{ready_same, ready_struck, same_then, struck_follows, unprinted_follows}
use Rattle.xm_alone.proofs.following.follow_struck.Goals as goal

pub follow_ticks-requires-clause-partition : goal.follow_ticks-requires-clause-partition
follow_ticks-requires-clause-partition g c =
    subst (λ (n : ℕ). c.args.p < n) (sym (ap (λ (m : Machine). length m.parts) c.strike.ensures.state ∙ (ready_same c.args.upsets.now c.args.machine.now.state c.requires.running).parts)) c.requires.partition

pub follow_ticks-requires-clause-running : goal.follow_ticks-requires-clause-running
follow_ticks-requires-clause-running g c =
    ap (λ (m : Machine). m.halted) c.strike.ensures.state ∙ ready_halted (map upset_of c.args.upsets.now) c.args.machine.now.state ∙ c.requires.running

pub follow_ticks-requires-clause-more : goal.follow_ticks-requires-clause-more
follow_ticks-requires-clause-more g c =
    omega (arith, ap (λ (m : Machine). m.ticks) c.strike.ensures.state, ready_ticks (map upset_of c.args.upsets.now) c.args.machine.now.state, c.requires.more)

pub follow_ticks-requires-clause-next : goal.follow_ticks-requires-clause-next
follow_ticks-requires-clause-next g c =
    subst (λ (system : System). IsNextCue system.conf c.args.p c.args.next) (sym (ap (λ (m : Machine). m.system) c.strike.ensures.state ∙ ready_system (map upset_of c.args.upsets.now) c.args.machine.now.state)) c.requires.next

pub follow_ticks-done-requires-clause-partition : goal.follow_ticks-done-requires-clause-partition
follow_ticks-done-requires-clause-partition g c =
    subst (λ (n : ℕ). c.args.p < n) (sym (ap (λ (m : Machine). length m.parts) c.strike.ensures.state ∙ (ready_same c.args.upsets.now c.args.machine.now.state c.requires.running).parts)) c.requires.partition

pub follow_ticks-done-requires-clause-running : goal.follow_ticks-done-requires-clause-running
follow_ticks-done-requires-clause-running g c =
    ap (λ (m : Machine). m.halted) c.strike.ensures.state ∙ ready_halted (map upset_of c.args.upsets.now) c.args.machine.now.state ∙ c.requires.running

pub follow_ticks-done-requires-clause-more : goal.follow_ticks-done-requires-clause-more
follow_ticks-done-requires-clause-more g c =
    omega (arith, ap (λ (m : Machine). m.ticks) c.strike.ensures.state, ready_ticks (map upset_of c.args.upsets.now) c.args.machine.now.state, c.requires.more)

pub follow_ticks-done-requires-clause-next : goal.follow_ticks-done-requires-clause-next
follow_ticks-done-requires-clause-next g c =
    subst (λ (system : System). IsNextCue system.conf c.args.p c.args.next) (sym (ap (λ (m : Machine). m.system) c.strike.ensures.state ∙ ready_system (map upset_of c.args.upsets.now) c.args.machine.now.state)) c.requires.next

pub returns-in-Ok-clause-follows : goal.returns-in-Ok-clause-follows
returns-in-Ok-clause-follows g c = λ own its.
    let same : IsOfSystem c.args.machine.now.state c.strike.new.self.state = subst (IsOfSystem c.args.machine.now.state) (sym c.strike.ensures.state) (ready_same c.args.upsets.now c.args.machine.now.state c.requires.running) in
    let strikes = ap (λ (m : Machine). part_in m c.args.p) c.strike.ensures.state ∙ ready_struck c.args.upsets.now c.args.machine.now.state c.args.p c.requires.running c.requires.partition in
    struck_follows c.follow_ticks.result.ticks c.args.p (lines_for c.args.p c.args.upsets.now) own c.args.next c.args.machine.now.state c.strike.new.self.state c.follow_ticks.new.machine.state c.requires.running same strikes its c.follow_ticks.ensures.most
    c.follow_ticks.result.ended (g.O.Sink.got c.args.out.now) (g.O.Sink.got c.put_own.new.out) (g.O.Sink.got c.follow_ticks.new.out) (record { places = _; marks = _ }) (record { places = _; marks = _ }) c.follow_ticks.new.machine.said
    c.in-Ok.ensures.got c.follow_ticks.ensures.follows

pub returns-in-Ok-clause-system : goal.returns-in-Ok-clause-system
returns-in-Ok-clause-system g c =
    same_then c.args.machine.now.state c.strike.new.self.state c.follow_ticks.new.machine.state
    (subst (IsOfSystem c.args.machine.now.state) (sym c.strike.ensures.state) (ready_same c.args.upsets.now c.args.machine.now.state c.requires.running)) c.follow_ticks.ensures.system

pub returns-in-Err-clause-follows : goal.returns-in-Err-clause-follows
returns-in-Err-clause-follows g c = λ own its.
    let same : IsOfSystem c.args.machine.now.state c.strike.new.self.state = subst (IsOfSystem c.args.machine.now.state) (sym c.strike.ensures.state) (ready_same c.args.upsets.now c.args.machine.now.state c.requires.running) in
    let strikes = ap (λ (m : Machine). part_in m c.args.p) c.strike.ensures.state ∙ ready_struck c.args.upsets.now c.args.machine.now.state c.args.p c.requires.running c.requires.partition in
    unprinted_follows c.follow_ticks-done.result.ticks c.args.p (lines_for c.args.p c.args.upsets.now) own c.args.next c.args.machine.now.state c.strike.new.self.state c.follow_ticks-done.new.machine.state c.requires.running same strikes its c.follow_ticks-done.ensures.most
    c.follow_ticks-done.result.ended c.unprinted.result (g.O.Sink.got c.args.out.now) (g.O.Sink.got c.put_own.new.out) _ _ (record { places = _; marks = _ }) (record { places = _; marks = _ }) c.follow_ticks-done.new.machine.said
    c.in-Err.ensures.got c.unprinted.ensures c.follow_ticks-done.ensures.follows

pub returns-in-Err-clause-system : goal.returns-in-Err-clause-system
returns-in-Err-clause-system g c =
    same_then c.args.machine.now.state c.strike.new.self.state c.follow_ticks-done.new.machine.state
    (subst (IsOfSystem c.args.machine.now.state) (sym c.strike.ensures.state) (ready_same c.args.upsets.now c.args.machine.now.state c.requires.running)) c.follow_ticks-done.ensures.system
