-- What holds of the options of each run.
use Rattle.std.proofs.Common.{◌≤◌, List, [], ◌∷◌, arith}
use Rattle.std.specs.Prelude.{All}
use Rattle.std.proofs.lemmas.List.Elements.{All-head, All-tail}
use Rattle.xm_base.specs.declared.limits.TheConstants.{TICKS}
use Rattle.command_line.specs.Grammar.{IsRunOption, count_of}
use Rattle.command_line.specs.Words.{RunOption, Length, ForRun, ForPart, span_in}

-- a run is not longer than the limit
pub span_within : (options : List RunOption) → All IsRunOption options → count_of (span_in options) ≤ TICKS
span_within [] right = omega arith
span_within (Length span ∷ options) right = All-head IsRunOption (Length span) options right
span_within (ForRun kind file ∷ options) right = span_within options (All-tail IsRunOption (ForRun kind file) options right)
span_within (ForPart kind file ∷ options) right = span_within options (All-tail IsRunOption (ForPart kind file) options right)
