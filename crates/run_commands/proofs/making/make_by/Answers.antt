use Rattle.std.proofs.Common.{◌≡◌, ℕ, List, Option, Result, Ok, map, option_copied, sym, ap, subst, ◌∙◌}
use Rattle.command_line.specs.Seen.{seen_options}
use Rattle.command_line.specs.Words.{PartFile, save_in, scripts_in}
use Rattle.continuation_laws.specs.Onward.{after_ticks, coming}
use Rattle.file_commands.specs.Denial.{Denial}
use Rattle.file_commands.specs.EndingValues.{ending_of}
use Rattle.file_commands.specs.Outcome.{Output, made_after, made_both, save_for, scripts_for}
use Rattle.file_commands.specs.lemmas.EndingValuesTerms.{IsDenied, MakesOr}
use Rattle.upset_model.specs.Places.{upsets_of}
use Rattle.run_commands.specs.lemmas.Made.{made_output, made_outputs}
use Rattle.run_commands.specs.lemmas.Recordings.{parts_of}
use Rattle.run_commands.proofs.MakingLemmas.{scripts_denied, system_kept}
use Rattle.run_commands.proofs.NumberLemmas.{recorded_numbers}
use Rattle.run_commands.proofs.ScriptLemmas.{recorded_boot}
use Rattle.run_commands.proofs.making.make_by.Goals as goal

pub with_saved-requires-clause-system : goal.with_saved-requires-clause-system
with_saved-requires-clause-system c =
    let g = c.args.machine.now.state in
    (c.requires.system.0, system_kept c.keeps_numbers.ensures.runs (upsets_of (coming c.args.upsets.now g)) g c.record_all.new.machine.state c.args.ticks c.in-Ok.ensures.state ∙ c.requires.system.1)

pub returns-in-Ok-finish_all-clause-made : goal.returns-in-Ok-finish_all-clause-made
returns-in-Ok-finish_all-clause-made c =
    let g = c.args.machine.now.state in
    let new = c.record_all.new.machine.state in
    let box = c.args.container.now in
    let file = save_in (seen_options c.args.options) in
    let names = scripts_in (seen_options c.args.options) in
    let made = map made_output c.in-Ok-finish_all.made.items in
    let recorded = recorded_boot c.args.upsets.now g c.args.ticks c.in-Ok.recordings.items names (c.in-Ok.ensures.partitions ∙ ap parts_of c.scripts.ensures.value) c.requires.boots c.in-Ok.ensures.recorded in
    let scripts : scripts_for c.args.upsets.now g.system c.args.ticks names ≡ Ok made =
    ap (scripts_for c.args.upsets.now g.system c.args.ticks) (sym c.scripts-2.ensures.value) ∙ c.in-Ok-finish_all.ensures c.args.upsets.now g.system c.args.ticks recorded in
    let saved : save_for (option_copied c.save.result) box new ≡ save_for file box (after_ticks c.args.upsets.now g c.args.ticks) =
    ap (λ (o : Option (List ℕ)). save_for o box new) c.save.ensures.value ∙ ap (save_for file box) c.in-Ok.ensures.state in
    subst (MakesOr made_outputs c.with_saved.result)
    (sym (ap (λ (s : Result (List Output) Denial). made_both s (save_for file box (after_ticks c.args.upsets.now g c.args.ticks))) scripts ∙ ap (made_after made) (sym saved)))
    c.with_saved.ensures.made

pub returns-in-Ok-finish_all-clause-numbers : goal.returns-in-Ok-finish_all-clause-numbers
returns-in-Ok-finish_all-clause-numbers c =
    let g = c.args.machine.now.state in
    let names = scripts_in (seen_options c.args.options) in
    let parts = c.in-Ok.ensures.partitions ∙ ap parts_of c.scripts.ensures.value in
    recorded_numbers c.with_saved.result c.args.upsets.now g.system c.args.ticks c.in-Ok.recordings.items names parts
    (recorded_boot c.args.upsets.now g c.args.ticks c.in-Ok.recordings.items names parts c.requires.boots c.in-Ok.ensures.recorded)

pub returns-in-Err-clause-made : goal.returns-in-Err-clause-made
returns-in-Err-clause-made c =
    let g = c.args.machine.now.state in
    let names = scripts_in (seen_options c.args.options) in
    let recorded = recorded_boot c.args.upsets.now g c.args.ticks c.in-Ok.recordings.items names (c.in-Ok.ensures.partitions ∙ ap parts_of c.scripts.ensures.value) c.requires.boots c.in-Ok.ensures.recorded in
    scripts_denied (ending_of c.in-Err.ending) _ _
    (subst (λ (files : List PartFile). IsDenied (ending_of c.in-Err.ending) (scripts_for c.args.upsets.now g.system c.args.ticks files)) c.scripts-2.ensures.value
    (c.in-Err.ensures c.args.upsets.now g.system c.args.ticks recorded))
