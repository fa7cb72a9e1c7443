-- What holds of every machine holds of one that goes on from a saved machine.
use Rattle.std.proofs.Common.{◌≡◌, ◌≤◌, [], refl, sym, ap, ◌∙◌, subst}
use Rattle.loaded_system.specs.System as loaded_system
use Rattle.machine_model.specs.Facts.{begun}
use Rattle.machine_model.specs.Machine.{Machine}
use Rattle.saved_machines.specs.Laws.{RestorableMachinesKeepFacts}
use Rattle.saved_machines.specs.Restorable.{HasAllFacts, IsRestorable}
use Rattle.saved_machines.specs.Saved.{SavedMachine}
use Rattle.saved_machines.specs.Saving.{machine_saved}
use Rattle.system_state.specs.State.{SysState, with_inputs}
use Rattle.tick_steps.specs.Machine.{IsMachine}
use Rattle.xm_base.specs.declared.limits.TheConstants.{TICKS}
use Rattle.xm_conf.specs.Configuration.{Conf}
use Rattle.xm_conf.specs.Description.{described}
use Rattle.xm_conf.specs.Fits.{Fits}
use Rattle.xm_ports.specs.Channels.{shapes_of}

-- the configuration is that of what runs,
conf_saved : (system : loaded_system.System) (saved : SavedMachine) → (machine_saved (with_inputs system []) saved).system.conf ≡ system.conf
unfolding machine_saved
conf_saved system saved = refl

-- and no more ticks have begun than a run may have
begun_saved : (system : loaded_system.System) (saved : SavedMachine) → IsRestorable system.conf saved → begun (machine_saved (with_inputs system []) saved) ≤ TICKS
unfolding machine_saved
begun_saved system saved restorable = restorable.begun

pub kept_resumed : RestorableMachinesKeepFacts → (system : loaded_system.System) (saved : SavedMachine) (sys : SysState) → Fits (described system.conf) → IsRestorable system.conf saved
    → sys.machine ≡ machine_saved (with_inputs system []) saved → sys.shapes ≡ shapes_of system.conf → IsMachine sys
kept_resumed law system saved sys fits restorable is shapes =
    let g : Machine = machine_saved (with_inputs system []) saved in
    let all : HasAllFacts sys.machine = subst HasAllFacts (sym is) (law (with_inputs system []) saved fits restorable) in
    let conf : sys.machine.system.conf ≡ system.conf = ap (λ (m : Machine). m.system.conf) is ∙ conf_saved system saved in
    record {
      shapes = shapes ∙ ap shapes_of (sym conf);
      fits = subst (λ (c : Conf). Fits (described c)) (sym conf) fits;
      complete = all.complete;
      clocked = all.clocked;
      counted = record {
        facts = all.facts;
        time = all.timed;
        ticks = subst (λ (m : Machine). begun m ≤ TICKS) (sym is) (begun_saved system saved restorable);
      };
    }
