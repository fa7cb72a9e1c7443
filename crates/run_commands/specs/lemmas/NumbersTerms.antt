-- For proofs and private clauses: what partitions receive in a run that makes scripts of it.
use Rattle.std.specs.Prelude.{◌≡◌, ℕ, List, ◌∷◌, Option, Some, None}
use Rattle.xm_outside.specs.Files.{Files}
use Rattle.command_line.specs.Words.{Command, RunOption, Bare, Parse, Upgrade, BuildImage, ReadImage, Pack, ListContainer, CheckContainer, MakePlan, CheckPlan, ListGroups, ListSteerers, Generate, Run, Replay}
use Rattle.file_commands.specs.Outcome.{first_long, run_inputs}
use Rattle.run_commands.specs.Numbers.{ReceivesIn, ReceivesOf, StoresIn, StoresOf}

-- they are, and none of the files is too long
pub record ReceivesShort (container : List ℕ) (options : List RunOption) (contents : List (List ℕ)) : Type 0 where
  pub short : first_long (container ∷ run_inputs options) contents ≡ None
  pub received : ReceivesIn options contents

-- so are those of the machine that a run saves
pub record StoresShort (container : List ℕ) (options : List RunOption) (contents : List (List ℕ)) : Type 0 where
  pub short : first_long (container ∷ run_inputs options) contents ≡ None
  pub stored : StoresIn options contents

-- the same of a command; only a run of a container makes scripts
abbrev pub CommandReceives : Command → Option Files → Type 0
CommandReceives (Bare image ticks) known = Unit {0}
CommandReceives (Parse description output) known = Unit {0}
CommandReceives (Upgrade configuration output) known = Unit {0}
CommandReceives (BuildImage program output) known = Unit {0}
CommandReceives (ReadImage image) known = Unit {0}
CommandReceives (Pack configuration output images) known = Unit {0}
CommandReceives (ListContainer container) known = Unit {0}
CommandReceives (CheckContainer container) known = Unit {0}
CommandReceives (MakePlan description) known = Unit {0}
CommandReceives (CheckPlan description) known = Unit {0}
CommandReceives (ListGroups description) known = Unit {0}
CommandReceives (ListSteerers description) known = Unit {0}
CommandReceives (Generate number) known = Unit {0}
CommandReceives (Run container options) known = ReceivesOf container options known
CommandReceives (Replay container part script options) known = Unit {0}

-- and of words
abbrev pub WordsReceive : Option Command → Option Files → Type 0
WordsReceive None known = Unit {0}
WordsReceive (Some command) known = CommandReceives command known

-- the same of the machine that a command saves; only a run of a container saves one
abbrev pub CommandStores : Command → Option Files → Type 0
CommandStores (Bare image ticks) known = Unit {0}
CommandStores (Parse description output) known = Unit {0}
CommandStores (Upgrade configuration output) known = Unit {0}
CommandStores (BuildImage program output) known = Unit {0}
CommandStores (ReadImage image) known = Unit {0}
CommandStores (Pack configuration output images) known = Unit {0}
CommandStores (ListContainer container) known = Unit {0}
CommandStores (CheckContainer container) known = Unit {0}
CommandStores (MakePlan description) known = Unit {0}
CommandStores (CheckPlan description) known = Unit {0}
CommandStores (ListGroups description) known = Unit {0}
CommandStores (ListSteerers description) known = Unit {0}
CommandStores (Generate number) known = Unit {0}
CommandStores (Run container options) known = StoresOf container options known
CommandStores (Replay container part script options) known = Unit {0}

-- and of words
abbrev pub WordsStore : Option Command → Option Files → Type 0
WordsStore None known = Unit {0}
WordsStore (Some command) known = CommandStores command known
