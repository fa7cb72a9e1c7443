use Rattle.std.proofs.Common.{map}
use Rattle.command_line.specs.Seen.{seen_options}
use Rattle.command_line.specs.Words.{Run}
use Rattle.file_commands.specs.EndingValues.{vector_bytes, ending_of}
use Rattle.run_commands.specs.lemmas.AccountLemmas.{accounted_by, accounted_unread}
use Rattle.file_commands.specs.lemmas.CommandLemmas.{outcome_from}
use Rattle.run_commands.proofs.NumberLemmas.{received_whole, stored_whole, unread_unmade}
use Rattle.run_commands.proofs.unpacking.run_container.Goals as goal

pub returns-in-Ok-clause-accounted : goal.returns-in-Ok-clause-accounted
returns-in-Ok-clause-accounted g c =
    let command = Run c.args.container.now (seen_options c.args.options) in
    let ending = ending_of c.run_files.result in
    let contents = map vector_bytes c.in-Ok.contents.items in
    let read = rw (c.inputs.ensures.value, c.upsets.ensures.value, c.from.ensures.value) at c.in-Ok.ensures (g.O.Sink.got c.args.out.now) (g.O.Sink.faults c.args.out.now) in
    let comes = rw c.deref.ensures.value at c.run_files.ensures.outcome in
    let leaves = rw c.deref.ensures.value at c.run_files.ensures.board in
    accounted_by ending command contents _ _ (record { places = _; marks = _ }) (record { places = _; marks = _ }) read.0 (outcome_from ending _ _ _ _ read.1 comes) leaves

pub returns-in-Err-clause-accounted : goal.returns-in-Err-clause-accounted
returns-in-Err-clause-accounted g c =
    let not_read = rw (c.inputs.ensures.value, c.upsets.ensures.value, c.from.ensures.value) at c.in-Err.ensures (g.O.Sink.got c.args.out.now) (g.O.Sink.faults c.args.out.now) in
    accounted_unread (ending_of c.in-Err.ending) (Run c.args.container.now (seen_options c.args.options)) _ _ (record { places = _; marks = _ }) not_read

pub returns-in-Ok-clause-numbers : goal.returns-in-Ok-clause-numbers
returns-in-Ok-clause-numbers g c = λ made.
    let read = rw (c.inputs.ensures.value, c.upsets.ensures.value, c.from.ensures.value) at c.in-Ok.ensures (g.O.Sink.got c.args.out.now) (g.O.Sink.faults c.args.out.now) in
    let numbers = rw c.deref.ensures.value at c.run_files.ensures.numbers in
    received_whole c.args.container.now (seen_options c.args.options) _ (map vector_bytes c.in-Ok.contents.items) read.0 (numbers made)

pub returns-in-Err-clause-numbers : goal.returns-in-Err-clause-numbers
returns-in-Err-clause-numbers g c = λ made.
    let not_read = rw (c.inputs.ensures.value, c.upsets.ensures.value, c.from.ensures.value) at c.in-Err.ensures (g.O.Sink.got c.args.out.now) (g.O.Sink.faults c.args.out.now) in
    absurd (unread_unmade (ending_of c.in-Err.ending) _ _ _ not_read made)

pub returns-in-Ok-clause-stored : goal.returns-in-Ok-clause-stored
returns-in-Ok-clause-stored g c = λ made.
    let read = rw (c.inputs.ensures.value, c.upsets.ensures.value, c.from.ensures.value) at c.in-Ok.ensures (g.O.Sink.got c.args.out.now) (g.O.Sink.faults c.args.out.now) in
    let stored = rw c.deref.ensures.value at c.run_files.ensures.stored in
    stored_whole c.args.container.now (seen_options c.args.options) _ (map vector_bytes c.in-Ok.contents.items) read.0 (stored made)

pub returns-in-Err-clause-stored : goal.returns-in-Err-clause-stored
returns-in-Err-clause-stored g c = λ made.
    let not_read = rw (c.inputs.ensures.value, c.upsets.ensures.value, c.from.ensures.value) at c.in-Err.ensures (g.O.Sink.got c.args.out.now) (g.O.Sink.faults c.args.out.now) in
    absurd (unread_unmade (ending_of c.in-Err.ending) _ _ _ not_read made)
