-- For proofs and private clauses: what the partitions of a configuration require, the period that is common to all, and what they demand of it.
use Rattle.std.specs.Prelude.{ℕ, ◌+◌, ◌<◌, ◌≤◌, ⊤, List, [], ◌∷◌}
use Rattle.xm_conf.specs.Rules.{longest}
use Rattle.plan_maker.specs.declared.jobs.Requirement.{Requirement}

-- a requirement is a time in a period
pub record IsPossible (requirement : Requirement) : Type 0 where
  pub some : 0 < requirement.duration
  pub inside : requirement.duration ≤ requirement.period
  pub most : requirement.period ≤ longest

-- the requirements are of partitions from a number on, each at most once, in the order of their numbers
abbrev pub ArePossible : ℕ → List Requirement → Type 0
ArePossible low [] = ⊤
ArePossible low (first ∷ rest) = (low ≤ first.part) × IsPossible first × ArePossible (first.part + 1) rest
