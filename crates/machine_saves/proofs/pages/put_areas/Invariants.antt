use Rattle.std.proofs.Common.{◌≡◌, ◌++◌, take}
use Rattle.std.specs.List.{flat_map}
use Rattle.machine_model.specs.Partition.{areas_of}
use Rattle.machine_model.specs.View.{view_of}
use Rattle.saved_machines.specs.Saving.{loaded_of}
use Rattle.system_state.specs.State.{memory_of}
use Rattle.machine_saves.specs.lemmas.SaveTerms.{area_text}
use Rattle.machine_saves.proofs.pages.put_areas.Given as goal

abbrev pub invariant-loop-number : goal.invariant-loop-number
invariant-loop-number l =
    l.out.items ≡ l.fn.out.items ++ flat_map (area_text (loaded_of l.sys.machine.system l.p) (memory_of l.p l.sys.machine)) (take l.number (areas_of (view_of l.sys.machine.system l.p)))
