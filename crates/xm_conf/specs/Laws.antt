-- The law of the rules: what is reported of a broken rule, and what it means to meet them all.
use Rattle.std.specs.Prelude.{◌≡◌, ◌↔◌, ℕ, None}
use Rattle.xm_conf.specs.Description.{Description}
use Rattle.xm_conf.specs.Rules.{first_broken}
use Rattle.xm_conf.specs.Fits.{FitsWithin}

-- no rule is broken exactly where the description meets the rules, whatever number of partitions is the most
abbrev pub IsBrokenUnlessFits : Type 0
IsBrokenUnlessFits = (most : ℕ) (d : Description) → (first_broken most d ≡ None) ↔ FitsWithin most d
