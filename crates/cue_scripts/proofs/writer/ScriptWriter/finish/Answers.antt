use Rattle.std.proofs.Common.{◌+◌, refl, ◌∙◌, arith}
use Rattle.cue_scripts.proofs.WriterLemmas.{file_long, file_whole}
use Rattle.cue_scripts.proofs.writer.ScriptWriter.finish.Goals as goal

pub returns-then-found : goal.returns-then-found
returns-then-found c = λ cues is.
    file_long c.args.p cues c.args.self _ (15 + c.self.inside.size) is (c.self.view_is ∙ c.in_ok-close.ensures.value) refl (omega (arith, c.if-found.true))

pub returns : goal.returns
returns c = λ cues is.
    file_whole c.args.p cues c.args.self _ c.extend_from_slice.new.self.items is (c.self.view_is ∙ c.in_ok-close.ensures.value) (omega (arith, c.if-found.false))
    (rw (c.in_ok-extend_from_slice.ensures.items, c.in_ok-put_head.ensures, c.new-file.ensures.items, c.deref.ensures.value) refl)
