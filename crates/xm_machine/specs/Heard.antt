-- What the UARTs of a board get in ticks of the machine.
use Rattle.std.specs.Prelude.{◌≡◌, ℕ}
use Rattle.uart_board.specs.Heard.{IsHeard}
use Rattle.uart_board.specs.Views.{BoardView}
use Rattle.machine_model.specs.Lines.{console}
use Rattle.machine_model.specs.Machine.{Machine, run}

-- from one state of the machine to another each UART got the console bytes of the ticks done, whatever number of ticks leads there
abbrev pub IsRunHeard : Machine → Machine → BoardView → BoardView → Type 0
IsRunHeard old new before after = (ticks : ℕ) → new ≡ run old ticks → IsHeard (console old ticks) before after
