-- The words that the rows ask for can be held: each row has memories to which it applies.
use Rattle.std.specs.Prelude.{Bool, [], ◌∷◌}
use Rattle.xm_conf.specs.declared.health.Action.{Action}
use Rattle.machine_model.specs.rows.Rows.{CanHold, plain_part}
use Rattle.machine_model.specs.rows.SlotRows.{first_part, loop_words, planner, second_part}
use Rattle.machine_model.specs.rows.HealthRows.{part_with_action, raise_words, raising}
use Rattle.machine_model.specs.rows.TrapRows.{saver, saves, stray_load}
use Rattle.machine_model.specs.rows.CallRows.{caller}
use Rattle.machine_model.specs.rows.WholeRows.{other_caller}

-- each partition of the rows can hold the words that its row asks for
pub record WordsCanBeHeld : Type 0 where
  pub first_loops : CanHold first_part 0x40000000 loop_words
  pub second_loops : CanHold second_part 0x40000100 loop_words
  pub first_loads : CanHold first_part 0x40000000 stray_load
  pub plans : CanHold planner 0x40000000 (0x91d02070 ∷ [])
  pub is_illegal : (an_action : Action) → CanHold (part_with_action an_action) 0x40000000 (0 ∷ [])
  pub raises : CanHold raising 0x40100000 raise_words
  pub traps : CanHold (plain_part 0x40000000 4) 0x40000000 (0 ∷ [])
  pub saves : CanHold saver 0x40000000 saves
  pub calls : (is_system : Bool) → CanHold (caller is_system) 0x40000000 (0x91d02070 ∷ [])
  pub other_calls : CanHold other_caller 0x40000100 (0x91d02070 ∷ [])
