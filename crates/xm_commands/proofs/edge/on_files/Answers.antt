use Rattle.std.proofs.Common.{◌<◌, None, refl, ap, ◌∙◌, arith, inl}
use Rattle.uart_board.specs.Views.{UartView}
use denote.Param.Object.{read_made}
use Rattle.xm_commands.proofs.edge.on_files.OwnLists.{at-1-1, own-1}
use Rattle.xm_commands.specs.Ended.{file_board}
use Rattle.xm_commands.proofs.FileBoardLemmas.{board_more}
use Rattle.xm_commands.proofs.edge.on_files.Goals as goal

pub loop-place-init : goal.loop-place-init
loop-place-init g c = rw c.new-board.ensures.value refl

pub returns-in_default-clause-call : goal.returns-in_default-clause-call
returns-in_default-clause-call g c = record { read_faults = 0; write_faults = 0; calls = 0; left = file_board; call = inl record { starved = refl; unchanged = refl } }

pub loop-place-preserved : goal.loop-place-preserved
loop-place-preserved g c =
    let within : c.loop-place.place < 8 = omega (arith, c.loop-place.auto.place-end, c.loop-place-test.true) in
    rw c.set.ensures.board (board_more _ _ _ c.loop-place.place c.into_dyn_box.result within c.loop-place.invariant
    (read_made own-1 _ at-1-1 refl UartView (λ entry value. record { got = entry.1.got value; faults = entry.1.faults value }) _ _ c.in-Ok.uart.value c.into_dyn_box.ensures.1
    ∙ ap (λ faults. record { got = None; faults = faults }) c.in-Ok.ensures.faults))
