-- The files of UARTs.
use Rattle.std.specs.Prelude.{ℕ, ◌+◌, List, ◌∷◌, ◌++◌, codes}

-- the name of the file of the UART at a place below 8; 48 is the code of the digit 0
abbrev pub uart_file : ℕ → List ℕ
uart_file place = codes "uart" ++ (48 + place) ∷ codes ".out"
