-- What is printed of the groups of a system description's partitions.
use Rattle.std.specs.Prelude.{ℕ, zero, suc, Bool, true, false, List, [], ◌∷◌, ◌++◌, codes, decimal, Result, Ok}
use Rattle.std.specs.List.{flat_map}
use Rattle.xm_conf.specs.Along.{added_by_each}
use Rattle.xm_conf.specs.Configuration.{Conf, Part}
use Rattle.xm_flows.specs.Masks.{group_of, members_of}
use Rattle.xm_flows.specs.declared.answer.Group.{Group}
use Rattle.builders.specs.Parsing.{conf_of, of_conf}

-- a partition, where it is in a mask
abbrev pub id_if : Bool → ℕ → List ℕ
id_if true p = p ∷ []
id_if false p = []

-- the partitions below a number that are in a mask, in rising order
abbrev pub ids_below : ℕ → ℕ → List ℕ
ids_below mask zero = []
ids_below mask (suc n) = ids_below mask n ++ id_if (members_of mask n) n

-- a number after another one
unfoldable pub next_text : ℕ → List ℕ
next_text n = codes "," ++ decimal n

-- numbers, joined by commas
abbrev pub joined_by_commas : List ℕ → List ℕ
joined_by_commas [] = []
joined_by_commas (n ∷ rest) = decimal n ++ flat_map next_text rest

-- whether a group is covered
abbrev pub covered_text : Bool → List ℕ
covered_text true = codes " covered=yes\n"
covered_text false = codes " covered=no\n"

-- the ids of a group's members
unfoldable pub members_text : Group → List ℕ
members_text found = joined_by_commas (ids_below found.members 32)

-- the line of a partition with its group
unfoldable pub group_line : ℕ → Group → List ℕ
group_line p found = codes "P" ++ decimal p ++ codes " members=" ++ members_text found ++ covered_text found.covered

-- the line of a partition of a configuration
abbrev pub group_line_in : Conf → ℕ → Part → List ℕ
group_line_in conf p part = group_line p (group_of conf p)

-- the lines of the partitions of a configuration
abbrev pub groups_for : Conf → Result (List ℕ) (List ℕ)
groups_for conf = Ok (added_by_each (group_line_in conf) conf.parts)

-- the lines of the partitions of a text, or the text of its first fault
unfoldable pub groups_of : List ℕ → Result (List ℕ) (List ℕ)
groups_of text = of_conf groups_for (conf_of text)
