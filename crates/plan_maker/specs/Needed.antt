-- What the partitions of a configuration require, the period that is common to all, and what they demand of it.
use Rattle.std.specs.Prelude.{ℕ, zero, suc, ◌+◌, ◌-◌, ◌*◌, ◌/◌, ◌%◌, ◌==◌, if◌then◌else◌, nat_lt, min, max, List, [], ◌∷◌, sum_by, Option, Some, None, Result, Ok, Err}
use Rattle.xm_conf.specs.Along.{added_by_each}
use Rattle.xm_conf.specs.Configuration.{Conf, Part}
use Rattle.xm_conf.specs.declared.part.Need.{Need}
use Rattle.plan_maker.specs.declared.jobs.Requirement.{Requirement}

-- the longest common period
unfoldable pub longest_common : ℕ
longest_common = 1000000

-- the requirement of the partition of a number, where it has one
abbrev pub required : ℕ → Option Need → List Requirement
required part None = []
required part (Some need) = record { part = part; duration = need.duration; period = need.period } ∷ []

-- the requirement of a partition with its number
abbrev pub required_by : ℕ → Part → List Requirement
required_by number part = required number part.need

-- the requirements of all partitions that have one, in the order of their numbers
unfoldable pub requirements : Conf → List Requirement
requirements conf = added_by_each required_by conf.parts

-- the first of these numbers that another one divides: one, and this many that follow it step by step; or else the last
abbrev pub first_divided : ℕ → ℕ → ℕ → ℕ → ℕ
first_divided zero step divisor at = at
first_divided (suc more) step divisor at = if at % divisor == 0 then at else first_divided more step divisor (at + step)

-- the least common multiple of two numbers: the first multiple of the greater one that the smaller one divides
unfoldable pub least_multiple : ℕ → ℕ → ℕ
least_multiple a b = first_divided (min a b - 1) (max a b) (min a b) (max a b)

-- the common period of requirements after those that have one already, or the partition at which it grows too long
abbrev pub common_from : ℕ → List Requirement → Result ℕ ℕ
common_from so_far [] = Ok so_far
common_from so_far (first ∷ rest) =
    if nat_lt longest_common (least_multiple so_far first.period)
    then Err first.part
    else common_from (least_multiple so_far first.period) rest

-- the common period of requirements: the least common multiple of their periods
unfoldable pub common_period : List Requirement → Result ℕ ℕ
common_period requirements = common_from 1 requirements

-- the ticks of a common period that a requirement demands
abbrev pub demanded : ℕ → Requirement → ℕ
demanded period requirement = period / requirement.period * requirement.duration

-- the ticks of a common period that all requirements demand
unfoldable pub demand : ℕ → List Requirement → ℕ
demand period requirements = sum_by (demanded period) requirements
