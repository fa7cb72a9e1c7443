use Rattle.virt_clocks.proofs.LookLemmas.{due_at_either, looks_again}
use Rattle.virt_clocks.proofs.law.looked_at_again.Goals as goal

pub returns : goal.returns
returns c = record { timer = looks_again; due = due_at_either }
