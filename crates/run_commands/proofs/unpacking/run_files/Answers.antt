use Rattle.std.proofs.Common.{Some, None, map, codes, sym}
use Rattle.std.specs.Prelude.{option_copied}
use Rattle.command_line.specs.Seen.{seen_files, seen_options}
use Rattle.run_commands.specs.lemmas.InputLemmas.{long_of_run}
use Rattle.command_line.specs.Words.{Run}
use Rattle.file_commands.specs.EndingValues.{vector_bytes}
use Rattle.file_commands.specs.lemmas.CommandLemmas.{outcome-long, outcome-short, refused_outcome}
use Rattle.run_commands.proofs.unpacking.run_files.Goals as goal

pub returns-in-Some-clause-outcome : goal.returns-in-Some-clause-outcome
returns-in-Some-clause-outcome g c =
    let command = Run c.args.container.now (seen_options c.args.options) in
    let long = long_of_run (seen_options c.args.options) (Some c.in-Some.file.now) c.args.container.now (seen_files c.inputs.result) (option_copied c.upsets.result) (option_copied c.from.result) (map vector_bytes c.args.contents.now) c.inputs.ensures.value c.upsets.ensures.value c.from.ensures.value
    c.in-Some.ensures.value in
    rw (outcome-long command (map vector_bytes c.args.contents.now) c.in-Some.file.now (sym long)) (refused_outcome c.in-Some.file.now (codes "too-long") _)

pub returns-in-None-clause-outcome : goal.returns-in-None-clause-outcome
returns-in-None-clause-outcome g c =
    let command = Run c.args.container.now (seen_options c.args.options) in
    let short = long_of_run (seen_options c.args.options) None c.args.container.now (seen_files c.inputs.result) (option_copied c.upsets.result) (option_copied c.from.result) (map vector_bytes c.args.contents.now) c.inputs.ensures.value c.upsets.ensures.value c.from.ensures.value c.in-None.ensures.value in
    rw (outcome-short command (map vector_bytes c.args.contents.now) (sym short)) c.run_packed.ensures.outcome

pub returns-in-None-clause-board : goal.returns-in-None-clause-board
returns-in-None-clause-board g c =
    let command = Run c.args.container.now (seen_options c.args.options) in
    let short = long_of_run (seen_options c.args.options) None c.args.container.now (seen_files c.inputs.result) (option_copied c.upsets.result) (option_copied c.from.result) (map vector_bytes c.args.contents.now) c.inputs.ensures.value c.upsets.ensures.value c.from.ensures.value c.in-None.ensures.value in
    rw (outcome-short command (map vector_bytes c.args.contents.now) (sym short)) c.run_packed.ensures.board

pub returns-in-None-clause-numbers : goal.returns-in-None-clause-numbers
returns-in-None-clause-numbers g c = λ made.
    let short = long_of_run (seen_options c.args.options) None c.args.container.now (seen_files c.inputs.result) (option_copied c.upsets.result) (option_copied c.from.result) (map vector_bytes c.args.contents.now) c.inputs.ensures.value c.upsets.ensures.value c.from.ensures.value c.in-None.ensures.value in
    record { short = sym short; received = c.run_packed.ensures.numbers made }

pub returns-in-None-clause-stored : goal.returns-in-None-clause-stored
returns-in-None-clause-stored g c = λ made.
    let short = long_of_run (seen_options c.args.options) None c.args.container.now (seen_files c.inputs.result) (option_copied c.upsets.result) (option_copied c.from.result) (map vector_bytes c.args.contents.now) c.inputs.ensures.value c.upsets.ensures.value c.from.ensures.value c.in-None.ensures.value in
    record { short = sym short; stored = c.run_packed.ensures.stored made }
