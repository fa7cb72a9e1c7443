use Rattle.std.proofs.Common.{map, ap, ◌∙◌, arith}
use Rattle.std.proofs.lemmas.Result.{err_from_is_err_and}
use Rattle.machine_model.specs.Machine.{Machine}
use Rattle.upset_model.specs.Places.{upset_of}
use Rattle.upset_model.specs.lemmas.Segments.{ready_halted, ready_ticks}
use Rattle.xm_machine.proofs.StruckLemmas.{piece_cut, piece_none, piece_out}
use Rattle.xm_machine.proofs.machine.Machine.struck_piece.Goals as goal

pub returns-in_err-struck-clause-run : goal.returns-in_err-struck-clause-run
returns-in_err-struck-clause-run g c = λ t here none.
    let p = err_from_is_err_and c.from_residual.result c.from_residual.ensures.1 in
    rw (p.1) (piece_none c.args.ticks t c.args.upsets.now c.args.self.now.state (g.O.Sink.got c.args.out.now) (g.O.Sink.got c.put_struck.new.out) (record { places = _; marks = _ })
    c.requires.running c.requires.some here none c.in_err-struck.ensures.printed)

pub run_ticks-requires-clause-running : goal.run_ticks-requires-clause-running
run_ticks-requires-clause-running g c =
    ap (λ (m : Machine). m.halted) c.strike.ensures.state ∙ ready_halted (map upset_of c.args.upsets.now) c.args.self.now.state ∙ c.requires.running

pub run_ticks-requires-clause-most : goal.run_ticks-requires-clause-most
run_ticks-requires-clause-most g c =
    omega (arith, ap (λ (m : Machine). m.ticks) c.strike.ensures.state, ready_ticks (map upset_of c.args.upsets.now) c.args.self.now.state, c.requires.most)

pub returns-in_err-done-clause-run : goal.returns-in_err-done-clause-run
returns-in_err-done-clause-run g c = λ t here none.
    let p = err_from_is_err_and c.from_residual-in_err-done.result c.from_residual-in_err-done.ensures.1 in
    rw (p.1) (piece_cut c.args.ticks t c.args.upsets.now c.args.self.now.state c.strike.new.self.state c.run_ticks.new.self.state
    (g.O.Sink.got c.args.out.now) (g.O.Sink.got c.put_struck.new.out) (g.O.Sink.got c.run_ticks.new.out) (record { places = _; marks = _ }) (record { places = _; marks = _ })
    c.requires.running c.requires.some here none c.in_ok-struck.ensures.printed.1 c.strike.ensures.state c.in_err-done.ensures.run c.in_err-done.ensures.heard)

pub returns-clause-run : goal.returns-clause-run
returns-clause-run g c = λ t here none.
    piece_out c.args.ticks c.in_ok-struck.struck c.in_ok-done.done t c.args.upsets.now c.args.self.now.state c.strike.new.self.state c.run_ticks.new.self.state
    (g.O.Sink.got c.args.out.now) (g.O.Sink.got c.put_struck.new.out) (g.O.Sink.got c.run_ticks.new.out) (record { places = _; marks = _ }) (record { places = _; marks = _ })
    c.requires.running c.requires.some here none c.in_ok-struck.ensures.printed.0 c.in_ok-struck.ensures.printed.1 c.strike.ensures.state c.in_ok-done.ensures.run c.in_ok-done.ensures.heard
