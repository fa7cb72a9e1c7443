use Rattle.std.proofs.Common.{subst, sym}
use Rattle.cue_scripts.specs.Written.{IsWithin}
use Rattle.cue_scripts.proofs.WriterLemmas.{entry_within}
use Rattle.cue_scripts.proofs.writer.ScriptWriter.append_cue.Goals as goal

pub invariant_of-self : goal.invariant_of-self
invariant_of-self c =
    entry_within _ _ c.other_length.result (subst (IsWithin 1) (sym c.self.view_is) (c.in_ok-close.ensures.within 1 c.requires.within)) c.other_length.ensures.few

pub invariant_of-self-in_err-put_other : goal.invariant_of-self-in_err-put_other
invariant_of-self-in_err-put_other c =
    entry_within _ _ c.other_length.result (subst (IsWithin 1) (sym c.self.view_is) (c.in_ok-close.ensures.within 1 c.requires.within)) c.other_length.ensures.few

pub invariant_of-self-else-self : goal.invariant_of-self-else-self
invariant_of-self-else-self c =
    entry_within _ _ c.other_length.result (subst (IsWithin 1) (sym c.self.view_is) (c.in_ok-close.ensures.within 1 c.requires.within)) c.other_length.ensures.few
