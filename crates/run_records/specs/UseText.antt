-- The text of how slots and partitions were used.
use Rattle.std.specs.Prelude.{◌≡◌, ℕ, ◌+◌, ◌<◌, ◌/◌, ◌==◌, ◌&&◌, if◌then◌else◌, List, [], ◌∷◌, ◌++◌, length, Some, codes, decimal}
use Rattle.std.specs.List.{flat_map}
use Rattle.xm_conf.specs.Configuration.{Conf}
use Rattle.xm_conf.specs.declared.plan.Slot.{Slot}
use Rattle.cyclic_plans.specs.Slots.{slots_of}
use Rattle.machine_model.specs.Alone.{Alone}
use Rattle.machine_model.specs.Calls.{call_of}
use Rattle.machine_model.specs.Laws.{alone_part_at}
use Rattle.machine_model.specs.Lists.{table}
use Rattle.machine_model.specs.Machine.{Machine}
use Rattle.machine_model.specs.View.{view_of}
use Rattle.upset_model.specs.Upsets.{Schedule, own_strikes, upset_script}
use Rattle.run_records.specs.Calls.{row_of_call, word_hex}
use Rattle.run_records.specs.OwnTicks.{alone_ticks, own_ticks}
use Rattle.run_records.specs.Use.{Figures, PartUse, SlotTick, SlotUse, part_use, slot_ticks, slot_use}

-- the mean of some numbers, rounded down
abbrev pub mean_of : Figures → ℕ
mean_of f = if f.count == 0 then 0 else f.sum / f.count

abbrev pub figures_text : Figures → List ℕ
figures_text f = codes " least " ++ decimal f.least ++ codes " mean " ++ decimal (mean_of f) ++ codes " most " ++ decimal f.most

-- the line of a slot: its plan, number, partition and ticks, and then in how many frames it ran, in how many ticks of these its partition did something,
-- and how many of them were overruns
abbrev pub slot_text : (plan number : ℕ) → Slot → SlotUse → List ℕ
slot_text plan number slot used =
    codes "plan " ++ decimal plan ++ codes " slot " ++ decimal number ++ codes " P" ++ decimal slot.part ++ codes " ticks " ++ decimal slot.duration
    ++ codes " frames " ++ decimal used.busy.count ++ figures_text used.busy ++ codes " overruns " ++ decimal used.overruns ++ codes "\n"

-- the lines of slots of a plan, the first of which has this number, and those of all plans
abbrev pub slot_texts : (plan number : ℕ) → List Slot → List SlotTick → List ℕ
slot_texts plan number [] ticks = []
slot_texts plan number (slot ∷ slots) ticks = slot_text plan number slot (slot_use plan number slot.duration ticks) ++ slot_texts plan (number + 1) slots ticks

abbrev pub plan_texts : Conf → List SlotTick → List ℕ
plan_texts conf ticks = flat_map (λ plan. slot_texts plan 0 (slots_of conf plan) ticks) (table (λ plan. plan) (length conf.plans))

-- the tag of a line of a partition
abbrev pub part_tag : ℕ → List ℕ
part_tag p = codes "P" ++ decimal p

-- the line of an interrupt that was delivered, or has waited
abbrev pub interrupt_text : (p n : ℕ) → Figures → ℕ → List ℕ
interrupt_text p n waits waiting =
    if (waits.count == 0) && (waiting == 0) then []
    else part_tag p ++ codes " interrupt " ++ decimal n ++ codes " delivered " ++ decimal waits.count ++ figures_text waits ++ codes " waiting " ++ decimal waiting ++ codes "\n"

abbrev pub interrupt_texts : (p n : ℕ) → List Figures → List ℕ → List ℕ
interrupt_texts p n [] waiting = []
interrupt_texts p n (f ∷ more) [] = []
interrupt_texts p n (f ∷ more) (ticks ∷ others) = interrupt_text p n f ticks ++ interrupt_texts p (n + 1) more others

-- the line of the calls of a number that were refused; number 0 is of those that are no call's
abbrev pub refused_text : (p number count : ℕ) → List ℕ
refused_text p number count =
    if count == 0 then [] else part_tag p ++ codes " refused " ++ (row_of_call number (call_of number)).name ++ codes " " ++ decimal count ++ codes "\n"

abbrev pub refused_texts : (p number : ℕ) → List ℕ → List ℕ
refused_texts p number [] = []
refused_texts p number (count ∷ counts) = refused_text p number count ++ refused_texts p (number + 1) counts

-- the line of the stack: at how many instructions the stack pointer lay in an area that may be written, and the least that it then was
abbrev pub stack_text : (p : ℕ) → Figures → List ℕ
stack_text p f = part_tag p ++ codes " stack pointers " ++ decimal f.count ++ (if f.count == 0 then [] else codes " deepest " ++ word_hex f.least) ++ codes "\n"

-- the lines of a partition: what it did, its interrupts, its calls that were refused, and its stack
unfoldable pub part_text : ℕ → PartUse → List ℕ
part_text p used =
    part_tag p ++ codes " ticks " ++ decimal used.ticks ++ codes " in slots " ++ decimal used.in_slots ++ codes " busy " ++ decimal used.busy
    ++ codes " instructions " ++ decimal used.executed ++ codes "\n"
    ++ interrupt_texts p 0 used.waits used.waiting ++ refused_texts p 0 used.refused ++ stack_text p used.stack

-- the file of a run: the lines of all slots, and those of each partition
unfoldable pub use_text : Schedule → Machine → ℕ → List ℕ
use_text s g count =
    plan_texts g.system.conf (slot_ticks s g count)
    ++ flat_map (λ p. part_text p (part_use (view_of g.system p) (own_ticks s g p count))) (table (λ p. p) (length g.parts))

-- the lines of each partition are those of it alone, under its script and with its own upsets
abbrev pub UseTextAlone : Type 0
UseTextAlone = (count : ℕ) (s : Schedule) (g : Machine) (alone : ℕ → Alone) → ((p : ℕ) → p < length g.parts → alone_part_at g p ≡ Some (alone p))
    → use_text s g count
    ≡ plan_texts g.system.conf (slot_ticks s g count)
    ++ flat_map (λ p. part_text p (part_use (view_of g.system p) (alone_ticks (view_of g.system p) (own_strikes p s) (alone p) (upset_script s g p count))))
    (table (λ p. p) (length g.parts))
