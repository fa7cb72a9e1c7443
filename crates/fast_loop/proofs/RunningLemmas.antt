-- A run, part by part.
use Rattle.std.proofs.Common.{◌≡◌, ℕ, ◌+◌, ◌-◌, ◌%◌, ◌^◌, ◌<◌, ◌≤◌, List, refl, sym, ap, ◌∙◌, subst, arith}
use Rattle.guest_bus.specs.Memory.{Area, Memory}
use Rattle.guest_bus.specs.Words.{word_address}
use Rattle.sparc_step.specs.Registers.{Registers, placed}
use Rattle.predecode.specs.declared.rows.Row.{Row}
use Rattle.fast_loop.specs.Runs.{AreSteps}
use Rattle.fast_loop.specs.lemmas.Coming.{ArePartSteps, IsPart, left_at}
use Rattle.fast_loop.specs.Keeping.{AreRowsOf}
use Rattle.fast_loop.specs.lemmas.Places.{at_place, at_slot}
use Rattle.fast_loop.specs.lemmas.RunsLemmas.{steps_then}
use Rattle.fast_loop.proofs.TurningLemmas.{next_address}
use Rattle.fast_loop.specs.declared.parts.Part.{Part}
use Rattle.fast_loop.specs.declared.parts.PartEnd.{PartEnd}
use Rattle.fast_loop.specs.declared.parts.PartEnd.TheVariants as ends

-- a run at a place: the steps so far, and those that are left up to a limit
pub record IsRunning (origin from most at limit : ℕ) (areas : List Area) (old here : Registers) (memory there : Memory) : Type 0 where
  pub steps : AreSteps (most - left_at at limit) areas (at_place origin from old) memory (at_place origin at here) there
  pub few : left_at at limit ≤ most
  pub place : at < 2 ^ 64
  pub end : limit < 2 ^ 64

-- the place where the steps that are left would end, at a place of a row
pub limit_at : (at limit most : ℕ) → at < 2 ^ 31 → limit < 2 ^ 64 → most < 2 ^ 32 → left_at at limit ≤ most → limit ≡ at + left_at at limit
limit_at at limit most under end small few = omega arith

-- the steps of a part
part_counted : (count most left from limit at end : ℕ) → left ≤ most → limit ≡ from + left → count + left_at at end ≡ limit - from → count + (most - left) ≡ most - left_at at end
part_counted count most left from limit at end few is counted = omega arith

-- a part that is known by other names
pub same_part : (part other : Part) (origin from limit : ℕ) (areas here : List Area) (old new mid : Registers) (memory after there : Memory) → here ≡ areas → part ≡ other → new ≡ mid → after ≡ there
    → IsPart other origin from limit here old mid memory there → IsPart part origin from limit areas old new memory after
same_part part other origin from limit areas here old new mid memory after there areas_same part_same same bytes is =
    subst (λ (p : Part). IsPart p origin from limit areas old new memory after) (sym part_same)
    (subst (λ (r : Registers). IsPart other origin from limit areas old r memory after) (sym same)
    (subst (λ (m : Memory). IsPart other origin from limit areas old mid memory m) (sym bytes)
    (subst (λ (a : List Area). IsPart other origin from limit a old mid memory there) areas_same is)))

pub part_rows : (rows : List Row) (areas here : List Area) (memory there : Memory) (origin : ℕ) → areas ≡ here → memory ≡ there → AreRowsOf rows here there origin → AreRowsOf rows areas memory origin
part_rows rows areas here memory there origin same bytes are = subst (λ (a : List Area). AreRowsOf rows a memory origin) (sym same) (subst (λ (m : Memory). AreRowsOf rows here m origin) (sym bytes) are)

-- after a run a part of it
module _ (origin from most at limit : ℕ) (areas : List Area) (old here new : Registers) (memory there after : Memory) (is : IsRunning origin from most at limit areas old here memory there) (under : at < 2 ^ 31) (small : most < 2 ^ 32)
    (part : Part) (came : IsPart part origin at limit areas here new there after) where
  counted : came.count + (most - left_at at limit) ≡ most - left_at part.at part.limit
  counted = part_counted came.count most (left_at at limit) at limit part.at part.limit is.few (limit_at at limit most under is.end small is.few) came.counted

  part_steps : (reached : Registers) → AreSteps came.count areas (at_place origin at here) there reached after → AreSteps (most - left_at part.at part.limit) areas (at_place origin from old) memory reached after
  part_steps reached steps = subst (λ (n : ℕ). AreSteps n areas (at_place origin from old) memory reached after) counted
      (steps_then came.count (most - left_at at limit) areas (at_place origin from old) (at_place origin at here) reached memory there after is.steps steps)

  by_end : (e : PartEnd) → part.end ≡ e → ArePartSteps e came.count origin at part.at areas here new there after
  by_end e same = subst (λ (x : PartEnd). ArePartSteps x came.count origin at part.at areas here new there after) same came.steps

  -- it goes on
  pub went_on : part.end ≡ ends.Goes → IsRunning origin from most part.at part.limit areas old new memory after
  went_on goes = record {
    steps = part_steps (at_place origin part.at new) (by_end ends.Goes goes).1;
    few = omega (arith, came.counted, limit_at at limit most under is.end small is.few, is.few);
    place = came.place;
    end = came.end;
  }

  -- so both are a part
  by_part : (e : PartEnd) → ArePartSteps e came.count origin at part.at areas here new there after → ArePartSteps e (most - left_at part.at part.limit) origin from part.at areas old new memory after
  by_part ends.Goes are = (omega (arith, counted, are.0), part_steps (at_place origin part.at new) are.1)
  by_part (ends.Slot displacement) are = (are.0, part_steps (at_slot origin part.at (part.at - 1 + displacement) new) are.1)
  by_part ends.Calls are = (part_steps (at_place origin part.at new) are.0, are.1)
  by_part ends.Stays are = part_steps (at_place origin part.at new) are

  pub part_after : (end : ℕ) → most ≡ end - from → IsPart part origin from end areas old new memory after
  part_after end is_most = record {
    count = most - left_at part.at part.limit;
    steps = by_part part.end came.steps;
    counted = omega (arith, is_most, came.counted, limit_at at limit most under is.end small is.few, is.few);
    place = came.place;
    end = came.end;
    left = came.left;
  }

  -- it ends
  ended_by : (went : ℕ) (reached ended : Registers) → went ≡ most - left_at part.at part.limit → ended ≡ reached → AreSteps came.count areas (at_place origin at here) there reached after
      → AreSteps went areas (at_place origin from old) memory ended after
  ended_by went reached ended many stands steps = subst (λ (n : ℕ). AreSteps n areas (at_place origin from old) memory ended after) (sym many)
      (subst (λ (r : Registers). AreSteps (most - left_at part.at part.limit) areas (at_place origin from old) memory r after) (sym stands) (part_steps reached steps))

  -- in a delay slot
  pub ended_slot : (displacement went : ℕ) (ended : Registers) → part.end ≡ ends.Slot displacement → went ≡ most - left_at part.at part.limit → ended ≡ at_slot origin part.at (part.at - 1 + displacement) new
      → AreSteps went areas (at_place origin from old) memory ended after
  ended_slot displacement went ended slot many stands = ended_by went (at_slot origin part.at (part.at - 1 + displacement) new) ended many stands (by_end (ends.Slot displacement) slot).1

  -- before an instruction that is left
  pub ended_left : (went : ℕ) (ended : Registers) → part.end ≡ ends.Stays → went ≡ most - left_at part.at part.limit → ended ≡ at_place origin part.at new → AreSteps went areas (at_place origin from old) memory ended after
  ended_left went ended left many stands = ended_by went (at_place origin part.at new) ended many stands (by_end ends.Stays left)

  -- before a call
  pub ended_called : (went : ℕ) (ended : Registers) → part.end ≡ ends.Calls → went ≡ most - left_at part.at part.limit → ended ≡ at_place origin part.at new → AreSteps went areas (at_place origin from old) memory ended after
  ended_called went ended calls many stands = ended_by went (at_place origin part.at new) ended many stands (by_end ends.Calls calls).0

-- registers whose program counters are at a place
placed_own : (core : Registers) → placed core.pc core.npc core ≡ core
unfolding placed
placed_own core = refl

pub at_start : (origin place : ℕ) (core : Registers) → word_address origin place ≡ core.pc → core.npc ≡ (core.pc + 4) % 2 ^ 32 → at_place origin place core ≡ core
at_start origin place core here next =
    ap (λ (n : ℕ). placed (word_address origin place) n core) (sym (next_address origin place))
    ∙ ap (λ (a : ℕ). placed a ((a + 4) % 2 ^ 32) core) here
    ∙ ap (λ (n : ℕ). placed core.pc n core) (sym next)
    ∙ placed_own core
