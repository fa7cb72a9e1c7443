-- What the rules say of a draft.
use Rattle.std.specs.Prelude.{◌≡◌, ⊤, List, Option, Some, None, Result, Ok, Err}
use Rattle.xm_base.specs.Options.{on}
use Rattle.xm_conf.specs.Configuration.{Conf}
use Rattle.xm_conf.specs.Limits.{most_parts}
use Rattle.xm_conf.specs.Rules.{first_broken}
use Rattle.xm_conf.specs.declared.item.Broken.{Broken}
use Rattle.xmcf_reader.specs.declared.draft.Entry.{Entry}
use Rattle.xmcf_check.specs.Described.{description_of}
use Rattle.xmcf_check.specs.Places.{place_of}
use Rattle.fault_messages.specs.declared.fault.CheckFault.{CheckFault}
use Rattle.fault_messages.specs.declared.fault.CheckFault.TheVariants as fault

-- a broken rule with the places of its two items
abbrev pub broken_with_places : List Entry → Broken → CheckFault
broken_with_places entries broken = fault.Rule broken.rule (place_of entries broken.first) (place_of entries broken.second)

-- the first rule that a draft breaks, with the places of its two items
unfoldable pub verdict_of : List Entry → Option CheckFault
verdict_of entries = on (broken_with_places entries) (first_broken most_parts (description_of entries))

-- a configuration is the one that the draft describes, and no rule is broken; a broken rule is the first
abbrev pub IsVerdict : Result Conf CheckFault → List Entry → Type 0
IsVerdict (Ok conf) entries = (verdict_of entries ≡ None) × (conf ≡ (description_of entries).conf)
IsVerdict (Err fault.Memory) entries = ⊤
IsVerdict (Err (fault.Rule rule at and)) entries = verdict_of entries ≡ Some (fault.Rule rule at and)
