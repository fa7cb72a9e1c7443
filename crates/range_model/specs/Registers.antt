-- Registers whose numbers are in their ranges.
use Rattle.std.specs.Prelude.{◌<◌, ◌^◌}
use Rattle.sparc_step.specs.Registers.{Registers}
use Rattle.range_model.specs.Numbers.{AreBelow}

-- the program counters, Y and the numbered registers are words, the condition codes are four bits, and the current window is one of eight
pub record AreWordRegisters (core : Registers) : Type 0 where
  pub pc : core.pc < 2 ^ 32
  pub npc : core.npc < 2 ^ 32
  pub y : core.y < 2 ^ 32
  pub icc : core.icc < 16
  pub cwp : core.cwp < 8
  pub globals : AreBelow (2 ^ 32) core.globals
  pub windows : AreBelow (2 ^ 32) core.windows
