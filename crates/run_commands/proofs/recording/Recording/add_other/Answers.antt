use Rattle.std.proofs.Common.{◌≡◌, ◌+◌, ◌-◌, ap, arith, ◌∙◌}
use Rattle.cue_scripts.specs.Written.{Written}
use Rattle.run_commands.proofs.RunLemmas.{alike_counted}
use Rattle.run_commands.proofs.recording.Recording.add_other.Goals as goal

pub add-requires-clause-few : goal.add-requires-clause-few
add-requires-clause-few c =
    let counted : c.add_alike.new.self.cues ≡ c.args.self.now.writer.cues + (c.args.ticks - 1) =
    ap (λ (w : Written). w.cues) c.in_ok-add_alike.ensures.value ∙ alike_counted c.is_own-own.result (c.args.ticks - 1) c.args.self.now.writer in
    omega (arith, c.requires.few, c.requires.some, counted)
