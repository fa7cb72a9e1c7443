-- For proofs and private clauses: what is answered where a replay is made ready.
use Rattle.std.specs.Prelude.{◌≡◌, ℕ, ◌<◌, ◌^◌, List, length, Option, Some, None, Result, Ok, Err}
use Rattle.std.specs.String.{string_bytes}
use Rattle.cue_scripts.specs.Script.{IsScript}
use Rattle.builders.specs.declared.unmade.Unmade.{Unmade}
use Rattle.builders.specs.declared.unmade.Unmade.TheVariants as unmade
use Rattle.loaded_system.specs.System.{System as Loaded}
use Rattle.machine_model.specs.Cue.{Cue}
use Rattle.xm_container.specs.Reading.{unpacked}
use Rattle.builders.specs.Ready.{Unready}
use Rattle.replay_setup.specs.declared.unready.Unready as why
use Rattle.replay_setup.specs.Readied.{unready_of, IsUnready}

-- a reason of a kind, by the text by which nothing was made
abbrev pub unready_for : (List ℕ → Unready) → Unmade → Option Unready
unready_for kind (unmade.Refused text) = Some (kind (string_bytes text))
unready_for kind unmade.Memory = None

-- what was made is that of the definition, and so is the reason why it was not
abbrev pub GivesOr : {X Y : Type 0} → (X → Y) → Result X why.Unready → Result Y Unready → Type 0
GivesOr view (Ok value) made = made ≡ Ok (view value)
GivesOr view (Err reason) made = IsUnready (unready_of reason) made

-- a container spells the system, which has the partition; the script is one for it, and its input words are not too many
pub record IsScripted (container : List ℕ) (system : Loaded) (p : ℕ) (script : List Cue) (input : List ℕ) : Type 0 where
  pub few : length input < 2 ^ 34
  pub same : unpacked container ≡ Ok system
  pub there : p < length system.conf.parts
  pub received : IsScript system.conf p script
