use Rattle.std.proofs.Common.{length, map, subst, sym}
use Rattle.command_line.specs.Seen.{seen_options}
use Rattle.file_commands.specs.EndingValues.{ending_of, vector_bytes}
use Rattle.run_commands.specs.lemmas.Cores.{AreForPartitions}
use Rattle.run_commands.proofs.NumberLemmas.{ready_numbers, ready_stores}
use Rattle.run_commands.proofs.ReadyLemmas.{refusing_outcome, refusing_leaves, refusing_unmade}
use Rattle.run_commands.proofs.unpacking.run_unpacked.Goals as goal

pub run_ready-requires-clause-begins : goal.run_ready-requires-clause-begins
run_ready-requires-clause-begins g c = c.in-Ok.ensures.ready.begins

pub run_ready-requires-clause-most : goal.run_ready-requires-clause-most
run_ready-requires-clause-most g c = c.in-Ok.ensures.ready.most

pub run_ready-requires-clause-fit : goal.run_ready-requires-clause-fit
run_ready-requires-clause-fit g c = c.in-Ok.ensures.ready.fit

pub run_ready-requires-clause-inside : goal.run_ready-requires-clause-inside
run_ready-requires-clause-inside g c = subst (AreForPartitions (length c.args.system.conf.parts)) (sym c.cores.ensures.value) c.in-Ok.ensures.ready.cores

pub returns-in-Ok-clause-outcome : goal.returns-in-Ok-clause-outcome
returns-in-Ok-clause-outcome g c = rw (c.in-Ok.ensures.value, ← c.cores.ensures.value) c.run_ready.ensures.outcome

pub returns-in-Ok-clause-board : goal.returns-in-Ok-clause-board
returns-in-Ok-clause-board g c = rw (c.in-Ok.ensures.value, ← c.cores.ensures.value) c.run_ready.ensures.board

pub returns-clause-outcome : goal.returns-clause-outcome
returns-clause-outcome g c = refusing_outcome (ending_of c.in-Err.ending) _ _ c.in-Err.ensures.value

pub returns-clause-board : goal.returns-clause-board
returns-clause-board g c = refusing_leaves (ending_of c.in-Err.ending) _ _ _ (record { places = _; marks = _ }) c.in-Err.ensures.value

pub returns-in-Ok-clause-numbers : goal.returns-in-Ok-clause-numbers
returns-in-Ok-clause-numbers g c = λ made. ready_numbers (seen_options c.args.options) (map vector_bytes c.args.contents.now) c.args.system c.in-Ok.ready c.in-Ok.ensures.ready

pub returns-clause-numbers : goal.returns-clause-numbers
returns-clause-numbers g c = λ made. absurd (refusing_unmade (ending_of c.in-Err.ending) _ c.in-Err.ensures.value made)

pub returns-in-Ok-clause-stored : goal.returns-in-Ok-clause-stored
returns-in-Ok-clause-stored g c = λ made. ready_stores (seen_options c.args.options) (map vector_bytes c.args.contents.now) c.args.system c.in-Ok.ready c.in-Ok.ensures.ready

pub returns-clause-stored : goal.returns-clause-stored
returns-clause-stored g c = λ made. absurd (refusing_unmade (ending_of c.in-Err.ending) _ c.in-Err.ensures.value made)
