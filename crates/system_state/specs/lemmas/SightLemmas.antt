-- What an observing call is shown, by its number.
use Rattle.std.proofs.Common.{◌≡◌, ℕ, ◌<◌, ap, ◌∙◌, length}
use Rattle.std.proofs.lemmas.List.{get_or_default}
use Rattle.std.proofs.lemmas.Option.{slice_get-get_or}
use Rattle.std.specs.Prelude.{if◌then◌else◌, Option, None, slice_get}
use Rattle.sparc_step.specs.Registers.{register_at}
use Rattle.machine_model.specs.Caller.{Caller, a_of, b_of, c_of}
use Rattle.machine_model.specs.Machine.{Machine, shown_of, sight_for}
use Rattle.machine_model.specs.Observed.{Observation, observing}
use Rattle.machine_model.specs.Partition.{PartitionState}
use Rattle.machine_model.specs.Emission.{Sight}
use Rattle.span_model.specs.Passes.{part_at}
use Rattle.system_state.specs.Serving.{caller_of}
use Rattle.system_state.specs.State.{SysState}
use Rattle.system_state.specs.declared.call_site.CallSite.{CallSite}

-- what the machine shows a caller whose call observes this
abbrev pub shown_for : Machine → Caller → Option Observation → Sight
shown_for g caller observed = sight_for g caller.view observed

-- the call by its number
abbrev pub observation_numbered : Caller → ℕ → Option Observation
observation_numbered caller n = if caller.view.part.system then observing caller.view n (a_of caller) (b_of caller) (c_of caller) else None

-- a caller is shown what the call of its number observes
pub sight_of_number : (site : CallSite) (sys : SysState) (n : ℕ) → register_at (caller_of site sys).state.core 8 ≡ n
    → (caller_of site sys).sight ≡ shown_for sys.machine (caller_of site sys) (observation_numbered (caller_of site sys) n)
unfolding caller_of
sight_of_number site sys n is = ap (λ number. shown_for sys.machine (caller_of site sys) (observation_numbered (caller_of site sys) number)) is

-- what is shown of a partition that there is
pub shown_there : (g : Machine) (id : ℕ) (show : PartitionState → Sight) → id < length g.parts → shown_of (slice_get g.parts id) show ≡ show (part_at id g)
shown_there g id show below = ap (λ (found : Option PartitionState). shown_of found show) (slice_get-get_or g.parts id (part_at id g) below) ∙ ap show (get_or_default g.parts id (part_at id g) _ below)
