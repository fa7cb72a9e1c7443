-- The commands that read one file, and make another file or a text of it.
use Rattle.std.specs.Prelude.{ℕ, List}
use Rattle.builders.specs.declared.made_file.MadeFile.TheVariants as made
use Rattle.builders.specs.declared.printout.Printout.TheVariants as printed
use Rattle.command_line.specs.Words.{Command, Parse, Upgrade, BuildImage, ReadImage, ListContainer, CheckContainer, MakePlan, CheckPlan, ListGroups, ListSteerers}
use Rattle.file_commands.specs.declared.converting.Conversion.{Conversion}
use Rattle.file_commands.specs.declared.converting.Conversion.TheVariants.{File, Report}

-- the command that makes this of a file
abbrev pub command_making : Conversion → List ℕ → Command
command_making (File made.Configuration output) file = Parse file output.now
command_making (File made.Upgraded output) file = Upgrade file output.now
command_making (File made.Image output) file = BuildImage file output.now
command_making (Report printed.Image) file = ReadImage file
command_making (Report printed.Container) file = ListContainer file
command_making (Report printed.Verdict) file = CheckContainer file
command_making (Report printed.Plan) file = MakePlan file
command_making (Report printed.Verdicts) file = CheckPlan file
command_making (Report printed.Groups) file = ListGroups file
command_making (Report printed.Steering) file = ListSteerers file
