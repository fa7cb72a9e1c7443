use Rattle.std.proofs.Common.{subst, sym, arith}
use Rattle.cue_scripts.specs.Written.{IsWithin}
use Rattle.cue_scripts.proofs.writer.ScriptWriter.repeat.Goals as goal

pub invariant_of-self-else-is_open : goal.invariant_of-self-else-is_open
invariant_of-self-else-is_open c =
    let within = subst (IsWithin c.args.count) (sym c.self-else-is_open.view_is) (c.in_ok-close.ensures.within c.args.count c.requires.within) in
    record { size = omega (arith, within.size); count = omega (arith, c.requires.some); cues = within.cues }
