-- The upsets of a run are those that are read of a file's bytes.
use Rattle.std.proofs.Common.{◌≡◌, ℕ, ◌+◌, zero, suc, List, [], length, Option, Some, None, Result, Ok, Err, refl, ap, ◌∙◌}
use Rattle.xm_conf.specs.Configuration.{Conf}
use Rattle.upset_files.specs.Reading.{lines_read, upsets_from}
use Rattle.upset_files.specs.declared.fault.UpsetFault.{UpsetFault}
use Rattle.upset_files.specs.declared.reading.TheConstants.{UPSETS}
use Rattle.upset_model.specs.declared.upset_line.UpsetLine.{UpsetLine}
use Rattle.command_line.specs.Words.{RunOption, inputs_in, upsets_in}
use Rattle.file_commands.specs.Outcome.{bytes_if_any, content, upsets_for, upsets_named, upsets_or}

-- a text without lines has no upsets
no_lines : (most : ℕ) (conf : Conf) (ticks number before : ℕ) → lines_read most conf ticks number before [] ≡ Ok []
no_lines zero conf ticks number before = refl
no_lines (suc most) conf ticks number before = refl

none_read : (conf : Conf) (begun ticks : ℕ) → upsets_from conf begun ticks [] ≡ Ok []
unfolding upsets_from
none_read conf begun ticks = no_lines UPSETS conf ticks 1 begun

-- upsets that are not refused are read
upsets_kept : (file : List ℕ) (read : Result (List UpsetLine) UpsetFault) (upsets : List UpsetLine) → upsets_or file read ≡ Ok upsets → read ≡ Ok upsets
upsets_kept file (Ok lines) upsets e = (let same : lines ≡ upsets = cc in ap Ok same)
upsets_kept file (Err fault) upsets e = absurd (cc)

-- the upsets of a run are those that are read of the bytes of a file, where it is named, and else of none
named_read : (named : Option (List ℕ)) (conf : Conf) (begun ticks : ℕ) (bytes : List ℕ) (upsets : List UpsetLine) → upsets_named named conf begun ticks bytes ≡ Ok upsets → upsets_from conf begun (begun + ticks) (bytes_if_any named bytes) ≡ Ok upsets
named_read None conf begun ticks bytes upsets e = (let none : [] ≡ upsets = cc in none_read conf begun (begun + ticks) ∙ ap Ok none)
named_read (Some file) conf begun ticks bytes upsets e = upsets_kept file (upsets_from conf begun (begun + ticks) bytes) upsets e

pub upsets_are_read : (options : List RunOption) (conf : Conf) (begun ticks : ℕ) (contents : List (List ℕ)) (upsets : List UpsetLine) → upsets_for conf begun ticks options contents ≡ Ok upsets
    → upsets_from conf begun (begun + ticks) (bytes_if_any (upsets_in options) (content (length (inputs_in options)) contents)) ≡ Ok upsets
unfolding upsets_for
upsets_are_read options conf begun ticks contents upsets e = named_read (upsets_in options) conf begun ticks (content (length (inputs_in options)) contents) upsets e
