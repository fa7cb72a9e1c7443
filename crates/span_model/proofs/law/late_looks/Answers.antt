use Rattle.span_model.proofs.TimerLemmas.{due_twice, looked_twice}
use Rattle.span_model.proofs.law.late_looks.Goals as goal

pub returns : goal.returns
returns c = record { timer = looked_twice; due = due_twice }
