-- For proofs and private clauses: a partition that is replayed: which script fits it, what a replay says, and whether it was one of these cues.
use Rattle.std.specs.Prelude.{Bool, false, true, Result, Ok, Err}
use Rattle.xm_machine.specs.declared.alone_span.AloneFault.{AloneFault}
use Rattle.xm_machine.specs.declared.alone_span.AloneFault.TheVariants as alone

-- the partition could not take the cue of a tick
abbrev pub is_refused : {T : Type 0} → Result T AloneFault → Bool
is_refused (Ok done) = false
is_refused (Err alone.Write) = false
is_refused (Err alone.Cue) = true
