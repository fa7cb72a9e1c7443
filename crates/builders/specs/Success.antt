-- What is printed where all is well.
use Rattle.std.specs.Prelude.{ℕ, List, ◌++◌, codes, decimal}

-- the line that names what is counted, and how many there are
unfoldable pub ok_text : List ℕ → ℕ → List ℕ
ok_text counted count = codes "ok " ++ counted ++ decimal count ++ codes "\n"
