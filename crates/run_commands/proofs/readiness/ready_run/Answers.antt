use Rattle.std.proofs.Common.{map, drop, ap, ◌∙◌}
use Rattle.command_line.specs.Seen.{seen_options}
use Rattle.file_commands.specs.EndingValues.{ending_of, vector_bytes}
use Rattle.file_commands.specs.Outcome.{content, ran_from}
use Rattle.run_commands.proofs.ReadyLemmas.{files_refuse, ran_first}
use Rattle.run_commands.proofs.readiness.ready_run.Goals as goal

pub returns-in-Ok-clause-value : goal.returns-in-Ok-clause-value
returns-in-Ok-clause-value c =
    let contents = map vector_bytes c.args.contents.now in
    rw (ran_first c.args.container.now (seen_options c.args.options) contents c.args.system.now _ ∙ ap (ran_from c.args.container.now (seen_options c.args.options) (content 0 contents) (drop 1 contents)) c.in-Ok.ensures.value)
    c.ready_from.ensures.value

pub returns-in-Err-clause-value : goal.returns-in-Err-clause-value
returns-in-Err-clause-value c =
    let contents = map vector_bytes c.args.contents.now in
    rw (ran_first c.args.container.now (seen_options c.args.options) contents c.args.system.now _)
    (files_refuse (ending_of c.in-Err.ending) c.args.container.now (seen_options c.args.options) (content 0 contents) (drop 1 contents) _ c.in-Err.ensures.value)

pub ready_from-requires-clause-first : goal.ready_from-requires-clause-first
ready_from-requires-clause-first c = c.in-Ok.ensures.value
