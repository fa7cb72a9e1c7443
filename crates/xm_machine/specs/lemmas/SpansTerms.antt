-- For proofs and private clauses: how many ticks of a slot or gap a span has at most.
use Rattle.std.specs.Prelude.{ℕ, if◌then◌else◌, Option, Some, None}
use Rattle.cyclic_plans.specs.declared.slots.Here.{Here}
use Rattle.span_engine.specs.declared.place.Place.{Place}

-- one where a slot begins, and else all that are left
abbrev pub span_left_in : Option Here → ℕ → ℕ
span_left_in None left = left
span_left_in (Some here) left = if here.first then 1 else left

abbrev pub span_left : Place → ℕ
span_left place = span_left_in place.slot place.left
