-- For proofs and private clauses: a line as the code reads it.
use Rattle.std.specs.Prelude.{ℕ, ◌+◌, nat_lt, if◌then◌else◌, List, Result, Err}
use Rattle.xm_conf.specs.Configuration.{Conf}
use Rattle.upset_files.specs.Reading.{fitted_line, in_line}
use Rattle.upset_files.specs.declared.checks.SpelledLine.{SpelledLine}
use Rattle.upset_files.specs.declared.fault.UpsetCause.TheVariants.{TooMany}
use Rattle.upset_files.specs.declared.fault.UpsetFault.{UpsetFault}
use Rattle.upset_files.specs.declared.fault.UpsetFault.TheVariants as fault
use Rattle.upset_model.specs.declared.upset_line.UpsetLine.{UpsetLine}

-- the line with these fields
abbrev pub fields_of : SpelledLine → UpsetLine
fields_of line = record { tick = line.tick; part = line.part; place = line.place; bit = line.bit }

-- the next line of a text that is not at its end, after `done` lines of at most `most`
unfoldable pub next_line : ℕ → ℕ → Conf → ℕ → ℕ → List ℕ → Result (UpsetLine × List ℕ) UpsetFault
next_line most done conf ticks before text =
    if nat_lt done most then in_line (done + 1) (fitted_line conf ticks (done + 1) before text) else Err (fault.Line (done + 1) TooMany)
