-- How long a command may run, and how its run begins.
use Rattle.std.specs.Prelude.{◌≡◌, ◌≤◌, true, ⊤}
use Rattle.xm_base.specs.declared.limits.TheConstants.{TICKS}
use Rattle.command_line.specs.Grammar.{count_of}
use Rattle.command_line.specs.Seen.{seen_options}
use Rattle.command_line.specs.Words.{begins_once, span_in}
use Rattle.command_line.specs.declared.commands.Command.{Command}
use Rattle.command_line.specs.declared.commands.Command.TheVariants as words

-- the ticks or major frames of a command are at most the limit
abbrev pub HasTicks : Command → Type 0
HasTicks (words.Bare image ticks) = ticks ≤ TICKS
HasTicks (words.Parse description output) = ⊤
HasTicks (words.Upgrade configuration output) = ⊤
HasTicks (words.BuildImage program output) = ⊤
HasTicks (words.ReadImage image) = ⊤
HasTicks (words.Pack configuration output images) = ⊤
HasTicks (words.ListContainer container) = ⊤
HasTicks (words.CheckContainer container) = ⊤
HasTicks (words.MakePlan description) = ⊤
HasTicks (words.CheckPlan description) = ⊤
HasTicks (words.ListGroups description) = ⊤
HasTicks (words.ListSteerers description) = ⊤
HasTicks (words.Generate number) = ⊤
HasTicks (words.Run container options) = count_of (span_in (seen_options options)) ≤ TICKS
HasTicks (words.Replay container part script options) = ⊤

-- a command that runs a container has options that begin the run in one way
abbrev pub BeginsOnce : Command → Type 0
BeginsOnce (words.Bare image ticks) = ⊤
BeginsOnce (words.Parse description output) = ⊤
BeginsOnce (words.Upgrade configuration output) = ⊤
BeginsOnce (words.BuildImage program output) = ⊤
BeginsOnce (words.ReadImage image) = ⊤
BeginsOnce (words.Pack configuration output images) = ⊤
BeginsOnce (words.ListContainer container) = ⊤
BeginsOnce (words.CheckContainer container) = ⊤
BeginsOnce (words.MakePlan description) = ⊤
BeginsOnce (words.CheckPlan description) = ⊤
BeginsOnce (words.ListGroups description) = ⊤
BeginsOnce (words.ListSteerers description) = ⊤
BeginsOnce (words.Generate number) = ⊤
BeginsOnce (words.Run container options) = begins_once (seen_options options) ≡ true
BeginsOnce (words.Replay container part script options) = ⊤
