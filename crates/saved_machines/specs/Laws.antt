-- The laws of the files of saved machines.
use Rattle.std.specs.Prelude.{◌≡◌, ◌≢◌, ℕ, ◌≤◌, true, List, [], ◌++◌, length, map, All, Ok, Err}
use Rattle.xm_base.specs.Bytes.{AreBytes}
use Rattle.continuation_laws.specs.Given.{with_left}
use Rattle.codecs.specs.Lawful.{IsLawfulFile, IsPrefixFree}
use Rattle.guest_bus.specs.Memory.{Area, Memory}
use Rattle.guest_bus.specs.Whole.{IsMemoryOf}
use Rattle.guest_memory.specs.Memories.{IsPlaced}
use Rattle.machine_model.specs.Machine.{Machine}
use Rattle.machine_model.specs.View.{System}
use Rattle.saved_machines.specs.Restorable.{HasAllFacts, IsRestorable}
use Rattle.saved_machines.specs.Savable.{IsSavable, IsSavedConf}
use Rattle.saved_machines.specs.Saved.{SavedMachine}
use Rattle.saved_machines.specs.SavedFormat.{saved_format}
use Rattle.saved_machines.specs.Saving.{changed_in, loaded_of, machine_saved, saved_file, saved_of, with_area_pages}
use Rattle.saved_machines.specs.declared.fault.SavedFault.TheVariants as fault
use Rattle.xm_conf.specs.Configuration.{Conf}
use Rattle.xm_conf.specs.Description.{described}
use Rattle.xm_conf.specs.Fits.{Fits}

-- what is read of a file is what it spells, and what is spelled is read
abbrev pub SavedFilesAreLawful : Type 0
SavedFilesAreLawful = (conf : Conf) (loaded : ℕ → Memory) (container : List ℕ) → IsLawfulFile (saved_format conf loaded container)

-- no file is a proper prefix of another
abbrev pub SavedFilesArePrefixFree : Type 0
SavedFilesArePrefixFree = (conf : Conf) (loaded : ℕ → Memory) (container : List ℕ) → IsPrefixFree (saved_format conf loaded container)

-- a saved machine has one file
abbrev pub SavedMachinesHaveOneFile : Type 0
SavedMachinesHaveOneFile =
    (conf : Conf) (loaded : ℕ → Memory) (container one other : List ℕ) (saved : SavedMachine) → AreBytes one → AreBytes other
    → (saved_format conf loaded container).read one ≡ Ok saved → (saved_format conf loaded container).read other ≡ Ok saved → one ≡ other

-- a file that is cut is short, at a place in what is left of it
abbrev pub CutSavedFileIsShort : Type 0
CutSavedFileIsShort =
    (conf : Conf) (loaded : ℕ → Memory) (container : List ℕ) (saved : SavedMachine) (left rest : List ℕ) → (saved_format conf loaded container).fits saved ≡ true
    → (saved_format conf loaded container).spell saved ≡ left ++ rest → rest ≢ []
    → (at : ℕ) × ((saved_format conf loaded container).read left ≡ Err (fault.Short at)) × (at ≤ length left)

-- what is saved of a machine has a file
abbrev pub SavableMachinesFit : Type 0
SavableMachinesFit = (container : List ℕ) (g : Machine) → IsSavable container g → (saved_format g.system.conf (loaded_of g.system) container).fits (saved_of container g) ≡ true

-- so that file is read as what was saved
abbrev pub SavableMachinesReadBack : Type 0
SavableMachinesReadBack =
    (container : List ℕ) (g : Machine) → IsSavable container g → (saved_format g.system.conf (loaded_of g.system) container).read (saved_file container g) ≡ Ok (saved_of container g)

-- what was loaded, with the pages that are saved of a memory, is that memory
abbrev pub SavedPagesRestore : Type 0
SavedPagesRestore =
    (areas : List Area) (loaded memory : Memory) → All IsPlaced areas → IsMemoryOf areas loaded → IsMemoryOf areas memory
    → with_area_pages loaded (map (changed_in loaded memory) areas) ≡ memory

-- what is read of a file can be restored, under a configuration that meets the rules
abbrev pub ReadMachinesAreRestorable : Type 0
ReadMachinesAreRestorable =
    (conf : Conf) (loaded : ℕ → Memory) (container bytes : List ℕ) (saved : SavedMachine) → Fits (described conf) → AreBytes bytes
    → (saved_format conf loaded container).read bytes ≡ Ok saved → IsRestorable conf saved

-- what holds of every machine at all times holds of one that can be restored, under a configuration that meets the rules
abbrev pub RestorableMachinesKeepFacts : Type 0
RestorableMachinesKeepFacts = (system : System) (saved : SavedMachine) → Fits (described system.conf) → IsRestorable system.conf saved → HasAllFacts (machine_saved system saved)

-- what is saved of a machine is that machine, which was given the words that are left: with its configuration and its images, and any words
abbrev pub RestoresWhatWasSaved : Type 0
RestoresWhatWasSaved =
    (container : List ℕ) (system : System) (g : Machine) → system.conf ≡ g.system.conf → system.images ≡ g.system.images → IsSavable container g
    → machine_saved system (saved_of container g) ≡ with_left g

-- a configuration that meets the rules has what is needed of it to save its machines
abbrev pub ConfigurationsAreSaved : Type 0
ConfigurationsAreSaved = (conf : Conf) → Fits (described conf) → IsSavedConf conf
