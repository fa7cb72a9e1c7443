use Rattle.std.proofs.Common.{[], ◌∷◌, ◌++◌, subst, sym, ◌∙◌}
use Rattle.std.proofs.lemmas.Result.{on_ok_weaker}
use Rattle.cue_scripts.specs.Values.{script_cue_value}
use Rattle.cue_scripts.specs.Written.{IsWritten}
use Rattle.cue_scripts.proofs.WriterLemmas.{plain_written, puts}
use Rattle.cue_scripts.proofs.writer.ScriptWriter.add.Goals as goal

pub returns-in-Some-clause-written : goal.returns-in-Some-clause-written
returns-in-Some-clause-written c = λ cues is.
    let cue = script_cue_value c.args.cue.now in
    let before = subst (IsWritten cues) (sym c.self.view_is) is in
    on_ok_weaker c.repeat.result (λ e. subst (IsWritten (cues ++ cue ∷ [])) (sym e) (plain_written cues cue c.in-Some.own _ (sym c.plain_kind.ensures ∙ c.in-Some.is) before)) c.repeat.ensures

pub returns-in-None-clause-written : goal.returns-in-None-clause-written
returns-in-None-clause-written c = λ cues is.
    let cue = script_cue_value c.args.cue.now in
    let before = subst (IsWritten cues) (sym c.self.view_is) is in
    on_ok_weaker c.append_cue.result (λ e. subst (IsWritten (cues ++ cue ∷ [])) (sym e) (puts cues cue _ (sym c.plain_kind.ensures ∙ c.in-None.is) before)) c.append_cue.ensures
