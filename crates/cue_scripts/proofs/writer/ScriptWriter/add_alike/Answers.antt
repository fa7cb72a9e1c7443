use Rattle.std.proofs.Common.{◌++◌, subst, sym, ◌∙◌, arith}
use Rattle.std.specs.Prelude.{replicate}
use Rattle.std.proofs.lemmas.Result.{on_ok_weaker}
use Rattle.cue_scripts.specs.Entries.{bare_cue}
use Rattle.cue_scripts.specs.Written.{IsWritten}
use Rattle.cue_scripts.proofs.WriterLemmas.{alike_at, alike_written}
use Rattle.cue_scripts.proofs.writer.ScriptWriter.add_alike.Goals as goal

pub returns-clause-value : goal.returns-clause-value
returns-clause-value c =
    on_ok_weaker c.repeat.result (λ e. e ∙ alike_at c.args.own c.args.count _ _ c.self.view_is (omega (arith, c.if-count-eq0.false))) c.repeat.ensures

pub returns-clause-written : goal.returns-clause-written
returns-clause-written c = λ cues is.
    let old = c.args.self.now in
    on_ok_weaker c.repeat.result
    (λ e. subst (IsWritten (cues ++ replicate c.args.count (bare_cue c.args.own)))
    (sym (e ∙ alike_at c.args.own c.args.count _ old c.self.view_is (omega (arith, c.if-count-eq0.false))))
    (alike_written c.args.own c.args.count cues old is)) c.repeat.ensures
