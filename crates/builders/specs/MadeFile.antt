-- The files that are made of a file.
use Rattle.std.specs.Prelude.{ℕ, List, Result}
use Rattle.builders.specs.Imaging.{xef_of}
use Rattle.builders.specs.Parsing.{upgraded_of, xmc_of}
use Rattle.builders.specs.declared.made_file.MadeFile.{MadeFile}
use Rattle.builders.specs.declared.made_file.MadeFile.TheVariants.{Configuration, Upgraded, Image}

-- the file that is made of a file with these bytes, or the text of why there is none
abbrev pub made_file : MadeFile → List ℕ → Result (List ℕ) (List ℕ)
made_file Configuration bytes = xmc_of bytes
made_file Upgraded bytes = upgraded_of bytes
made_file Image bytes = xef_of bytes
