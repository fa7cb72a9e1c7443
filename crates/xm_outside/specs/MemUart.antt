-- A UART in memory: what it got, what it is to fail at, and what it counted.
use Rattle.std.specs.Prelude.{◌≡◌, ℕ, List, [], ◌++◌, take, ◌⊎◌}
use Rattle.std.specs.List.{Contains}

-- the bytes that it got, the calls that are to fail, how many bytes it keeps of those, and the counts
pub record UartState : Type 0 where
  pub got : List ℕ
  pub fails : List ℕ
  pub keep : ℕ
  pub calls : ℕ
  pub faults : ℕ
  pub starved : ℕ

-- a UART that got nothing, is to fail at these calls and keeps this many bytes of each
abbrev pub unused : List ℕ → ℕ → UartState
unused fails keep = record { got = []; fails = fails; keep = keep; calls = 0; faults = 0; starved = 0 }

-- the number of the next call is among those that are to fail
abbrev pub IsListed : UartState → Type 0
IsListed uart = Contains uart.fails uart.calls

-- what it got after a call that failed: the first of the bytes where the call was to fail,
-- and nothing more where memory runs out for them
abbrev pub Keeps : UartState → List ℕ → List ℕ → Type 0
Keeps uart bytes got = (IsListed uart × (got ≡ uart.got ++ take uart.keep bytes)) ⊎ (got ≡ uart.got)
