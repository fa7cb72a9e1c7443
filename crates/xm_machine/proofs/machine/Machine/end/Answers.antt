use Rattle.std.proofs.lemmas.Result.{err_from_is_err_and}
use Rattle.xm_machine.proofs.WholeLemmas.{ends_cut, last_cut, last_out}
use Rattle.xm_machine.proofs.machine.Machine.end.Goals as goal

pub returns-in_err-ended-clause-printed : goal.returns-in_err-ended-clause-printed
returns-in_err-ended-clause-printed g c =
    let p = err_from_is_err_and c.from_residual.result c.from_residual.ensures.1 in
    rw (p.1, ← c.self.view_is) (ends_cut c.self.inside.sys.machine (g.O.Sink.got c.args.out.now) (g.O.Sink.got c.end_parts.new.out) c.in_err-ended.ensures.printed)

pub returns-in_err-put_line-clause-printed : goal.returns-in_err-put_line-clause-printed
returns-in_err-put_line-clause-printed g c =
    let p = err_from_is_err_and c.from_residual-in_err-put_line.result c.from_residual-in_err-put_line.ensures.1 in
    let cut = rw (c.last_line.ensures, ← c.self.view_is) at c.in_err-put_line.ensures.got in
    rw (p.1, ← c.self.view_is) (last_cut c.self.inside.sys.machine (g.O.Sink.got c.args.out.now) (g.O.Sink.got c.end_parts.new.out) (g.O.Sink.got c.put_line.new.out) c.in_ok-ended.ensures.printed.1 cut)

pub returns-clause-printed : goal.returns-clause-printed
returns-clause-printed g c =
    let put = rw (c.last_line.ensures, ← c.self.view_is) at c.in_ok-put_line.ensures.got in
    let out = last_out c.self.inside.sys.machine c.in_ok-ended.ended (g.O.Sink.got c.args.out.now) (g.O.Sink.got c.end_parts.new.out) (g.O.Sink.got c.put_line.new.out)
    c.in_ok-ended.ensures.printed.0 c.in_ok-ended.ensures.printed.1 put in
    rw (← c.self.view_is) (out.printed, out.out)
