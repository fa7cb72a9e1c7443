use Rattle.std.proofs.Common.{inl, inr}
use Rattle.uart_board.specs.lemmas.HeardLemmas.{heard_write}
use Rattle.uart_board.proofs.HeardLemmas.{given_up, none_heard, of_the_one, one_heard, put_back}
use Rattle.uart_board.proofs.board.Board.say.Goals as goal

pub returns-in_default-clause-write : goal.returns-in_default-clause-write
returns-in_default-clause-write g c = none_heard _ _ _ _ _ c.in_default.ensures.handed c.in_default.ensures.board

pub returns-in-Ok-clause-said : goal.returns-in-Ok-clause-said
returns-in-Ok-clause-said g c =
    of_the_one _ _ _ c.in-Some.uart _ _ c.in-Some.ensures.handed (inl (put_back _ _ _ c.in-Some.uart c.in-Ok.uart _ _ _ c.in-Some.ensures.board c.in-Ok.ensures.taken c.put_back.ensures.board))

pub returns-in-Ok-clause-write : goal.returns-in-Ok-clause-write
returns-in-Ok-clause-write g c =
    one_heard _ _ _ c.in-Some.uart _ _ c.in-Some.ensures.handed (inl (put_back _ _ _ c.in-Some.uart c.in-Ok.uart _ _ _ c.in-Some.ensures.board c.in-Ok.ensures.taken c.put_back.ensures.board))

pub returns-in-Err-clause-said : goal.returns-in-Err-clause-said
returns-in-Err-clause-said g c =
    of_the_one _ _ _ c.in-Some.uart _ _ c.in-Some.ensures.handed (inr (given_up _ _ _ c.in-Some.uart c.in-Err.uart _ _ _ _ c.in-Some.ensures.board c.in-Err.ensures.failed c.count_of.ensures.count c.lose.ensures.board c.lose.ensures.marked))

pub returns-in-Err-clause-write : goal.returns-in-Err-clause-write
returns-in-Err-clause-write g c =
    one_heard _ _ _ c.in-Some.uart _ _ c.in-Some.ensures.handed (inr (given_up _ _ _ c.in-Some.uart c.in-Err.uart _ _ _ _ c.in-Some.ensures.board c.in-Err.ensures.failed c.count_of.ensures.count c.lose.ensures.board c.lose.ensures.marked))

pub returns-in_default-clause-heard : goal.returns-in_default-clause-heard
returns-in_default-clause-heard g c = λ some. heard_write _ _ _ _ some (returns-in_default-clause-write g c)

pub returns-in-Ok-clause-heard : goal.returns-in-Ok-clause-heard
returns-in-Ok-clause-heard g c = λ some. heard_write _ _ _ _ some (returns-in-Ok-clause-write g c)

pub returns-in-Err-clause-heard : goal.returns-in-Err-clause-heard
returns-in-Err-clause-heard g c = λ some. heard_write _ _ _ _ some (returns-in-Err-clause-write g c)
