use Rattle.std.proofs.Common.{ap, ◌∙◌, arith}
use Rattle.cue_scripts.specs.Written.{entry_closed}
use Rattle.cue_scripts.proofs.WriterLemmas.{close_cut, close_kept}
use Rattle.cue_scripts.proofs.writer.ScriptWriter.close.Goals as goal

pub returns-in_ok-put_alike-clause-value : goal.returns-in_ok-put_alike-clause-value
returns-in_ok-put_alike-clause-value c =
    close_kept c.self.inside.text.items c.self.inside.size c.self.inside.count c.self.inside.cues c.self.inside.own c.in-Some.own c.put_alike.new.out.items c.in-Some.is
    (omega (arith, c.if-self.true)) c.in_ok-put_alike.ensures
    ∙ ap entry_closed c.self.view_is

pub returns-else-self-clause-value : goal.returns-else-self-clause-value
returns-else-self-clause-value c =
    close_cut c.self.inside.text.items c.self.inside.size c.self.inside.count c.self.inside.cues c.self.inside.own c.in-Some.own c.in-Some.is
    (omega (arith, c.if-self.false))
    ∙ ap entry_closed c.self.view_is
