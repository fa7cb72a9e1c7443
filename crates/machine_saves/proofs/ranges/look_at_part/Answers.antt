use Rattle.std.proofs.Common.{ℕ, ◌^◌, ◌<◌, subst, sym}
use Rattle.std.proofs.lemmas.List.Elements.{All-drop}
use Rattle.saved_machines.specs.Savable.{IsSavedState}
use Rattle.system_state.specs.State.{input_words_of}
use Rattle.machine_saves.proofs.ranges.look_at_part.Goals as goal

pub returns : goal.returns
returns c =
    let own = c.look_at_own.ensures in
    subst IsSavedState (sym c.part.ensures.value) record {
      core = own.core;
      traps = own.traps;
      table = own.table;
      timers = own.timers;
      resets = own.resets;
      reset_status = own.status;
      ports = own.ports;
      traces = own.traces;
      trace_entries = own.trace_entries;
      health = own.health;
      health_entries = own.health_entries;
      words = All-drop (λ (word : ℕ). word < 2 ^ 32) c.part.result.now.used (input_words_of c.args.p c.args.sys.now.machine) c.look_at_inputs.ensures;
    }
