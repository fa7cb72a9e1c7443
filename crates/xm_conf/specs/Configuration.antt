-- A configuration as plain lists and numbers.
use Rattle.std.specs.Prelude.{ℕ, Bool, List, Option}
use Rattle.xm_conf.specs.declared.plan.Slot.{Slot}
use Rattle.xm_conf.specs.declared.part.Area.{Area}
use Rattle.xm_conf.specs.declared.part.Need.{Need}
use Rattle.xm_conf.specs.declared.part.HmTable.{HmTable}
use Rattle.xm_conf.specs.declared.port.Port.{Port}
use Rattle.xm_conf.specs.declared.channel.ChanKind.{ChanKind}
use Rattle.xm_conf.specs.declared.channel.End.{End}
use Rattle.xm_conf.specs.declared.link.Link.{Link}
use Rattle.xm_conf.specs.declared.raw.Region.{Region}

-- a cyclic plan: its frame and its slots
pub record Plan : Type 0 where
  pub frame : ℕ
  pub slots : List Slot

-- a partition
pub record Part : Type 0 where
  pub name : List ℕ
  pub system : Bool
  pub console : Option ℕ
  pub need : Option Need
  pub trace_mask : ℕ
  pub hm : HmTable
  pub areas : List Area
  pub ports : List Port

-- a channel
pub record Chan : Type 0 where
  pub kind : ChanKind
  pub length : ℕ
  pub source : End
  pub dests : List End

-- a configuration
pub record Conf : Type 0 where
  pub name : List ℕ
  pub regions : List Region
  pub hv_size : ℕ
  pub uarts : List (List ℕ)
  pub plans : List Plan
  pub parts : List Part
  pub chans : List Chan
  pub links : List Link
