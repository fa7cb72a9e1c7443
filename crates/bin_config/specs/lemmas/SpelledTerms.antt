-- For proofs and private clauses: what can be spelled, and what values of the fields' types are.
use Rattle.xm_conf.specs.Configuration.{Plan, Chan}
use Rattle.bin_config.specs.Spelled.{ForEach, ForFew, IsPlanWith, IsChanWith}

-- a plan that can be spelled
abbrev pub IsSpelledPlan : Plan → Type 0
IsSpelledPlan plan = IsPlanWith ForFew plan

-- a channel that can be spelled
abbrev pub IsSpelledChan : Chan → Type 0
IsSpelledChan chan = IsChanWith ForFew chan

-- a plan's numbers are in the ranges of their fields
abbrev pub HasPlanRanges : Plan → Type 0
HasPlanRanges plan = IsPlanWith ForEach plan

-- a channel's numbers are in the ranges of their fields
abbrev pub HasChanRanges : Chan → Type 0
HasChanRanges chan = IsChanWith ForEach chan
