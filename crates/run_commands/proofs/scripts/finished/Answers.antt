use Rattle.std.proofs.Common.{ℕ, subst}
use Rattle.cue_scripts.specs.Written.{IsScriptFile}
use Rattle.file_commands.specs.EndingValues.{vector_bytes}
use Rattle.file_commands.specs.Outcome.{script_bytes}
use Rattle.upset_model.specs.Reports.{received_in}
use Rattle.run_commands.proofs.scripts.finished.Goals as goal

pub returns : goal.returns
returns c = λ upsets system ticks is.
    c.script_or_ending.ensures upsets system ticks c.args.named.part
    (subst (λ (p : ℕ). IsScriptFile vector_bytes (script_bytes upsets system ticks p) c.finish.result) c.requires (c.finish.ensures (received_in upsets system c.args.recording.p ticks) is.written))
