use Rattle.builders.specs.declared.made_file.MadeFile.TheVariants as made
use Rattle.builders.specs.declared.printout.Printout.TheVariants as printed
use Rattle.command_line.specs.Seen.{seen_files}
use Rattle.command_line.specs.Words.{Pack, Generate}
use Rattle.file_commands.specs.Conversion.{command_making}
use Rattle.file_commands.specs.EndingValues.{ending_of}
use Rattle.file_commands.specs.declared.converting.Conversion.TheVariants.{File, Report}
use Rattle.run_commands.specs.lemmas.AccountLemmas.{still_accounted}
use Rattle.xm_commands.proofs.BoardLemmas.{converted_runs, generate_runs, pack_runs}
use Rattle.xm_commands.proofs.GeneratingLemmas.{generate_done}
use Rattle.xm_commands.proofs.work.do_command.Goals as goal

pub returns-in-Parse-clause-accounted : goal.returns-in-Parse-clause-accounted
returns-in-Parse-clause-accounted g c =
    let made_of = (File made.Configuration c.in-Parse.output) in
    let file = c.in-Parse.description.now in
    rw c.in-Parse.is (still_accounted (ending_of c.convert.result) (command_making made_of file) _ _ (record { places = _; marks = _ }) (converted_runs made_of file) c.convert.ensures)

pub returns-in-Upgrade-clause-accounted : goal.returns-in-Upgrade-clause-accounted
returns-in-Upgrade-clause-accounted g c =
    let made_of = (File made.Upgraded c.in-Upgrade.output) in
    let file = c.in-Upgrade.configuration.now in
    rw c.in-Upgrade.is (still_accounted (ending_of c.convert-in-Upgrade.result) (command_making made_of file) _ _ (record { places = _; marks = _ }) (converted_runs made_of file) c.convert-in-Upgrade.ensures)

pub returns-in-BuildImage-clause-accounted : goal.returns-in-BuildImage-clause-accounted
returns-in-BuildImage-clause-accounted g c =
    let made_of = (File made.Image c.in-BuildImage.output) in
    let file = c.in-BuildImage.program.now in
    rw c.in-BuildImage.is (still_accounted (ending_of c.convert-in-BuildImage.result) (command_making made_of file) _ _ (record { places = _; marks = _ }) (converted_runs made_of file) c.convert-in-BuildImage.ensures)

pub returns-in-ReadImage-clause-accounted : goal.returns-in-ReadImage-clause-accounted
returns-in-ReadImage-clause-accounted g c =
    let made_of = (Report printed.Image) in
    let file = c.in-ReadImage.image.now in
    rw c.in-ReadImage.is (still_accounted (ending_of c.convert-in-ReadImage.result) (command_making made_of file) _ _ (record { places = _; marks = _ }) (converted_runs made_of file) c.convert-in-ReadImage.ensures)

pub returns-in-ListContainer-clause-accounted : goal.returns-in-ListContainer-clause-accounted
returns-in-ListContainer-clause-accounted g c =
    let made_of = (Report printed.Container) in
    let file = c.in-ListContainer.container.now in
    rw c.in-ListContainer.is (still_accounted (ending_of c.convert-in-ListContainer.result) (command_making made_of file) _ _ (record { places = _; marks = _ }) (converted_runs made_of file) c.convert-in-ListContainer.ensures)

pub returns-in-CheckContainer-clause-accounted : goal.returns-in-CheckContainer-clause-accounted
returns-in-CheckContainer-clause-accounted g c =
    let made_of = (Report printed.Verdict) in
    let file = c.in-CheckContainer.container.now in
    rw c.in-CheckContainer.is (still_accounted (ending_of c.convert-in-CheckContainer.result) (command_making made_of file) _ _ (record { places = _; marks = _ }) (converted_runs made_of file) c.convert-in-CheckContainer.ensures)

pub returns-in-MakePlan-clause-accounted : goal.returns-in-MakePlan-clause-accounted
returns-in-MakePlan-clause-accounted g c =
    let made_of = (Report printed.Plan) in
    let file = c.in-MakePlan.description.now in
    rw c.in-MakePlan.is (still_accounted (ending_of c.convert-in-MakePlan.result) (command_making made_of file) _ _ (record { places = _; marks = _ }) (converted_runs made_of file) c.convert-in-MakePlan.ensures)

pub returns-in-CheckPlan-clause-accounted : goal.returns-in-CheckPlan-clause-accounted
returns-in-CheckPlan-clause-accounted g c =
    let made_of = (Report printed.Verdicts) in
    let file = c.in-CheckPlan.description.now in
    rw c.in-CheckPlan.is (still_accounted (ending_of c.convert-in-CheckPlan.result) (command_making made_of file) _ _ (record { places = _; marks = _ }) (converted_runs made_of file) c.convert-in-CheckPlan.ensures)

pub returns-in-ListGroups-clause-accounted : goal.returns-in-ListGroups-clause-accounted
returns-in-ListGroups-clause-accounted g c =
    let made_of = (Report printed.Groups) in
    let file = c.in-ListGroups.description.now in
    rw c.in-ListGroups.is (still_accounted (ending_of c.convert-in-ListGroups.result) (command_making made_of file) _ _ (record { places = _; marks = _ }) (converted_runs made_of file) c.convert-in-ListGroups.ensures)

pub returns-in-ListSteerers-clause-accounted : goal.returns-in-ListSteerers-clause-accounted
returns-in-ListSteerers-clause-accounted g c =
    let made_of = (Report printed.Steering) in
    let file = c.in-ListSteerers.description.now in
    rw c.in-ListSteerers.is (still_accounted (ending_of c.convert-in-ListSteerers.result) (command_making made_of file) _ _ (record { places = _; marks = _ }) (converted_runs made_of file) c.convert-in-ListSteerers.ensures)

pub returns-in-Pack-clause-accounted : goal.returns-in-Pack-clause-accounted
returns-in-Pack-clause-accounted g c = rw c.in-Pack.is (still_accounted (ending_of c.pack_files.result) (Pack c.in-Pack.configuration.now c.in-Pack.output.now (seen_files c.in-Pack.images)) _ _ (record { places = _; marks = _ }) (pack_runs c.in-Pack.configuration.now c.in-Pack.output.now (seen_files c.in-Pack.images)) c.pack_files.ensures)

pub returns-in-Generate-clause-accounted : goal.returns-in-Generate-clause-accounted
returns-in-Generate-clause-accounted g c =
    let done =
    generate_done (ending_of c.generate.result) c.in-Generate.number (g.S.Store.files c.args.files.now) (g.S.Store.read_faults c.args.files.now) (g.S.Store.write_faults c.args.files.now) (g.S.Store.calls c.args.files.now) _ _ _ _ c.generate.ensures in
    rw c.in-Generate.is (still_accounted (ending_of c.generate.result) (Generate c.in-Generate.number) _ _ (record { places = _; marks = _ }) (generate_runs c.in-Generate.number) done)

pub returns-in-Run-clause-numbers : goal.returns-in-Run-clause-numbers
returns-in-Run-clause-numbers g c = rw c.in-Run.is c.run_container.ensures.numbers

pub returns-in-Run-clause-stored : goal.returns-in-Run-clause-stored
returns-in-Run-clause-stored g c = rw c.in-Run.is c.run_container.ensures.stored
