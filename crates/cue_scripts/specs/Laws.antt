-- The laws of scripts.
use Rattle.std.specs.Prelude.{◌≡◌, ℕ, ◌<◌, List, [], ◌++◌, Ok}
use Rattle.xm_base.specs.Bytes.{AreBytes}
use Rattle.xm_conf.specs.Configuration.{Conf}
use Rattle.machine_model.specs.Cue.{Cue}
use Rattle.cue_scripts.specs.Reading.{script_read}
use Rattle.cue_scripts.specs.Script.{IsScript}
use Rattle.cue_scripts.specs.Spelling.{IsSpelledScript, script_text}

-- what is written for a partition is read
abbrev pub WrittenScriptIsRead : Type 0
WrittenScriptIsRead = (conf : Conf) (p : ℕ) (cues : List Cue) → p < 256 → IsScript conf p cues → script_read conf p (script_text p cues) ≡ Ok cues

-- what is read of bytes is what they spell
abbrev pub ReadIsWritten : Type 0
ReadIsWritten = (conf : Conf) (p : ℕ) (bytes : List ℕ) (cues : List Cue) → AreBytes bytes → script_read conf p bytes ≡ Ok cues → IsSpelledScript conf p bytes cues

-- no script of a partition is a proper prefix of another: what stands after one that is a prefix is nothing
abbrev pub NoneIsPrefix : Type 0
NoneIsPrefix =
    (conf : Conf) (p : ℕ) (one other : List Cue) (rest : List ℕ) → p < 256 → IsScript conf p one → IsScript conf p other
    → script_text p other ≡ script_text p one ++ rest → rest ≡ []
