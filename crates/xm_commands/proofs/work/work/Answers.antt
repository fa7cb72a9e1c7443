use Rattle.std.proofs.Common.{[], refl, sym}
use Rattle.xm_commands.proofs.TickLemmas.{begins_so, has_ticks}
use Rattle.xm_commands.proofs.work.work.Goals as goal

pub do_command-requires-clause-ticks : goal.do_command-requires-clause-ticks
do_command-requires-clause-ticks g c = has_ticks c.in-Some.command c.args.words.now c.grammar.ensures.commands c.in-Some.ensures

pub do_command-requires-clause-begun : goal.do_command-requires-clause-begun
do_command-requires-clause-begun g c = begins_so c.in-Some.command c.args.words.now c.grammar.ensures.commands c.in-Some.ensures

pub returns-in-None-clause-accounted : goal.returns-in-None-clause-accounted
returns-in-None-clause-accounted g c = rw (sym c.in-None.ensures) (record { contents = []; works = refl; plays = refl })
