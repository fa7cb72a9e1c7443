-- A sink in memory: the UART that it hands pieces to, and what it refuses.
use Rattle.std.specs.Prelude.{◌≡◌, ℕ, ◌<◌, List, length, ◌⊎◌}
use Rattle.xm_outside.specs.MemUart.{IsListed, UartState}

-- the UART, which has what the sink got, its failing calls and its counts, and the most bytes of a call
pub record SinkState : Type 0 where
  pub uart : UartState
  pub step : ℕ

-- the sink is set to refuse the piece: the call's number is listed, or there are bytes and it takes none
abbrev pub IsRefused : SinkState → List ℕ → Type 0
IsRefused sink piece = IsListed sink.uart ⊎ ((sink.step ≡ 0) × (0 < length piece))
