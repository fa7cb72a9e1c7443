use Rattle.uart_board.proofs.board.written.Goals as goal

pub returns-in-Ok-clause-taken : goal.returns-in-Ok-clause-taken
returns-in-Ok-clause-taken g c = record { got = c.in-Ok.ensures.got; faults = c.in-Ok.ensures.cause }

pub returns-in-Err-clause-failed : goal.returns-in-Err-clause-failed
returns-in-Err-clause-failed g c = record { got = c.in-Err.ensures.got; faults = c.in-Err.ensures.cause }
