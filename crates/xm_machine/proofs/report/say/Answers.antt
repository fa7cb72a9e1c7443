use Rattle.std.proofs.Common.{sym, ◌∙◌}
use Rattle.xm_machine.proofs.HeardLemmas.{console_heard, unheard}
use Rattle.xm_machine.proofs.report.say.Goals as goal

pub returns-in-Some : goal.returns-in-Some
returns-in-Some g c = record {
  heard = console_heard c.args.sys.now.machine c.args.p c.in-Some.place c.args.bytes.now (record { places = _; marks = _ }) (record { places = _; marks = _ }) (sym c.console_of.ensures.value ∙ c.in-Some.is) (c.say.ensures.heard c.requires.some);
}

pub returns-in_default : goal.returns-in_default
returns-in_default g c = record {
  heard = unheard c.args.sys.now.machine c.args.p c.args.bytes.now (record { places = _; marks = _ }) (sym c.console_of.ensures.value ∙ c.in_default.is);
}
