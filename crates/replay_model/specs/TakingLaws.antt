-- Which cues a partition can take: in its own slots and in others.
use Rattle.std.specs.Prelude.{◌≡◌, ℕ, ◌&&◌, false, true, Bool}
use Rattle.machine_model.specs.Cue.{Away, Cue, Mine}
use Rattle.machine_model.specs.Health.{Worked}
use Rattle.machine_model.specs.LocalTick.{bounded, worked}
use Rattle.machine_model.specs.Machine.{Machine, copies}
use Rattle.machine_model.specs.Observed.{asks}
use Rattle.machine_model.specs.Partition.{takes_turns}
use Rattle.machine_model.specs.Emission.{OwnStill, Unseen}
use Rattle.machine_model.specs.View.{view_of}
use Rattle.machine_model.specs.Whole.{NoEvent, event_of}
use Rattle.span_model.specs.Passes.{part_at}
use Rattle.replay_model.specs.Passes.{part_in}
use Rattle.replay_model.specs.Taking.{is_no_sight, is_same_event, takes_cue, takes_sight, takes_traffic}

-- in the slot of another partition, or in a gap, where it is shown nothing: as its traffic can be
abbrev pub TakesAway : Type 0
TakesAway =
    (g : Machine) (p : ℕ) (cue : Cue) → cue.mine ≡ Away → cue.seen ≡ Unseen →
    takes_cue (view_of g.system p) (part_in g p) cue ≡ takes_traffic (view_of g.system p) (copies g p) cue.traffic

-- in a slot of its own, where it takes no turns: it is shown nothing, and there is no hypervisor event
abbrev pub TakesResting : Type 0
TakesResting =
    (g : Machine) (p : ℕ) (first : Bool) (cue : Cue) → cue.mine ≡ Mine first → cue.traffic ≡ OwnStill → takes_turns (part_at p g).state ≡ false →
    takes_cue (view_of g.system p) (part_in g p) cue ≡ (is_no_sight cue.seen && is_same_event NoEvent cue.whole)

-- and where it takes its turn and did this work: it is shown what it asks for, and the hypervisor event is that of its act
abbrev pub TakesWorking : Type 0
TakesWorking =
    (g : Machine) (p : ℕ) (first : Bool) (cue : Cue) (work : Worked) → cue.mine ≡ Mine first → cue.traffic ≡ OwnStill → takes_turns (part_at p g).state ≡ true →
    work ≡ worked (view_of g.system p) (copies g p) g.time first cue.seen (part_at p g) → bounded (view_of g.system p) work.act ≡ work.act →
    takes_cue (view_of g.system p) (part_in g p) cue
    ≡ (takes_sight (view_of g.system p) (asks (view_of g.system p) (part_at p g) g.time first) cue.seen && is_same_event (event_of work.act) cue.whole)
