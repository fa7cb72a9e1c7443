-- A block, word by word.
use Rattle.std.proofs.Common.{◌≡◌, ℕ, ◌+◌, ◌-◌, ◌%◌, ◌^◌, ◌<◌, ◌≤◌, true, false, List, [], ◌∷◌, zero, suc, drop, Some, sym, ap, ◌∙◌, subst, ⊎_elim, arith}
use Rattle.std.proofs.Math.Seq.{drop-nil}
use Rattle.std.proofs.lemmas.Bool.{cases_lt}
use Rattle.std.specs.Prelude.{slice_get}
use Rattle.guest_bus.specs.Memory.{Area, Memory}
use Rattle.guest_bus.specs.Words.{word_address}
use Rattle.sparc_step.specs.Registers.{Registers, placed}
use Rattle.predecode.specs.Kinds.{is_exit}
use Rattle.predecode.specs.declared.rows.Row.{Row}
use Rattle.fast_loop.specs.Runs.{AreSteps, IsCall}
use Rattle.fast_loop.specs.lemmas.Coming.{ArePartSteps, IsCame, IsLeft, IsMoved, IsPart, NoExit, left_at}
use Rattle.fast_loop.specs.Keeping.{AreRowsOf, EndsWithin}
use Rattle.fast_loop.specs.lemmas.Ahead.{IsAheadWithin}
use Rattle.fast_loop.specs.lemmas.Places.{at_place, at_slot}
use Rattle.fast_loop.specs.lemmas.RunsLemmas.{steps_then}
use Rattle.fast_loop.proofs.TurningLemmas.{next_address}
use Rattle.fast_loop.specs.declared.one.Came.{Came}
use Rattle.fast_loop.specs.declared.parts.Part.{Part}
use Rattle.fast_loop.specs.declared.parts.PartEnd.{PartEnd}
use Rattle.fast_loop.specs.declared.parts.PartEnd.TheVariants as ends

-- a place with a row that may go on is not that of the exit
not_exit : (rows : List Row) (place : ℕ) (row : Row) → slice_get rows place ≡ Some row → is_exit row.kind ≡ true → NoExit rows place → ⊥
not_exit rows place row there exit none = let both : true ≡ false = sym exit ∙ none row there in cc

-- the exit is ahead of the next word, too
pub later : (rows : List Row) (at end : ℕ) → EndsWithin rows at end → NoExit rows at → EndsWithin rows (at + 1) end
later rows at end is none = record {
  place = is.place;
  from = ⊎_elim (λ under. omega (arith, under)) (λ over. absurd (not_exit rows is.place is.row is.there is.exit (subst (NoExit rows) (same over) none))) (cases_lt at is.place);
  under = is.under;
  within = is.within;
  row = is.row;
  there = is.there;
  exit = is.exit;
}
  where
    same : is.place ≤ at → at ≡ is.place
    same over = omega (arith, over, is.from)

-- words from a place on
pub record AreWords (origin from at : ℕ) (areas : List Area) (old here : Registers) (memory there : Memory) : Type 0 where
  pub order : from ≤ at
  pub steps : AreSteps (at - from) areas (at_place origin from old) memory (at_place origin at here) there

-- the next word
pub words_next : (origin from at : ℕ) (areas : List Area) (old here new : Registers) (memory there after : Memory) → AreWords origin from at areas old here memory there
    → AreSteps 1 areas (at_place origin at here) there (at_place origin (at + 1) new) after → AreWords origin from (at + 1) areas old new memory after
words_next origin from at areas old here new memory there after is step = record {
  order = omega (arith, is.order);
  steps = subst (λ (n : ℕ). AreSteps n areas (at_place origin from old) memory (at_place origin (at + 1) new) after) more
      (steps_then 1 (at - from) areas (at_place origin from old) (at_place origin at here) (at_place origin (at + 1) new) memory there after is.steps step);
}
  where
    more : 1 + (at - from) ≡ at + 1 - from
    more = omega (arith, is.order)

-- words of a block from a place on
pub record InBlock (rows : List Row) (origin from at limit : ℕ) (areas : List Area) (old here : Registers) (memory there : Memory) : Type 0 where
  pub ahead : IsAheadWithin rows at limit
  pub order : from ≤ at
  pub steps : AreSteps (at - from) areas (at_place origin from old) memory (at_place origin at here) there

-- more steps
more_steps : (count origin from at : ℕ) (areas : List Area) (old here after : Registers) (memory there new : Memory) → from ≤ at → AreSteps (at - from) areas (at_place origin from old) memory (at_place origin at here) there
    → AreSteps count areas (at_place origin at here) there after new → AreSteps (count + (at - from)) areas (at_place origin from old) memory after new
more_steps count origin from at areas old here after memory there new order one two = steps_then count (at - from) areas (at_place origin from old) (at_place origin at here) after memory there new one two

-- the next word
pub block_next : (rows : List Row) (origin from at limit : ℕ) (areas : List Area) (old here new : Registers) (memory there after : Memory)
    → InBlock rows origin from at limit areas old here memory there → NoExit rows at → AreSteps 1 areas (at_place origin at here) there (at_place origin (at + 1) new) after
    → InBlock rows origin from (at + 1) limit areas old new memory after
block_next rows origin from at limit areas old here new memory there after is none step = record {
  ahead = record { end = is.ahead.end; ends = later rows at is.ahead.end is.ahead.ends none; room = is.ahead.room };
  order = omega (arith, is.order);
  steps = subst (λ (n : ℕ). AreSteps n areas (at_place origin from old) memory (at_place origin (at + 1) new) after) more
      (more_steps 1 origin from at areas old here (at_place origin (at + 1) new) memory there after is.order is.steps step);
}
  where
    more : 1 + (at - from) ≡ at + 1 - from
    more = omega (arith, is.order)

-- the next two
pub block_two : (rows : List Row) (origin from at limit : ℕ) (areas : List Area) (old here new : Registers) (memory there after : Memory)
    → InBlock rows origin from at limit areas old here memory there → NoExit rows at → NoExit rows (at + 1) → AreSteps 2 areas (at_place origin at here) there (at_place origin (at + 2) new) after
    → InBlock rows origin from (at + 2) limit areas old new memory after
block_two rows origin from at limit areas old here new memory there after is one two step = record {
  ahead = record {
    end = is.ahead.end;
    ends = subst (λ (n : ℕ). EndsWithin rows n is.ahead.end) both (later rows (at + 1) is.ahead.end (later rows at is.ahead.end is.ahead.ends one) two);
    room = is.ahead.room;
  };
  order = omega (arith, is.order);
  steps = subst (λ (n : ℕ). AreSteps n areas (at_place origin from old) memory (at_place origin (at + 2) new) after) more
      (more_steps 2 origin from at areas old here (at_place origin (at + 2) new) memory there after is.order is.steps step);
}
  where
    both : at + 1 + 1 ≡ at + 2
    both = omega arith

    more : 2 + (at - from) ≡ at + 2 - from
    more = omega (arith, is.order)

-- steps that are left before a limit
pub left_before : (at limit : ℕ) → at ≤ limit → limit < 2 ^ 63 → left_at at limit ≡ limit - at
left_before at limit under end = omega arith

-- and after this many of them, where a word at a distance follows
pub left_after : (count at limit distance : ℕ) → at + count ≤ limit → limit < 2 ^ 63
    → left_at ((at + distance) % 2 ^ 64) (((limit + distance) % 2 ^ 64 + (2 ^ 64 - count)) % 2 ^ 64) ≡ limit - (at + count)
left_after count at limit distance within end = omega arith

-- a place at a displacement, by the distance
pub moved_address : (origin at displacement distance : ℕ) → distance % 2 ^ 32 ≡ displacement → word_address origin ((at + distance) % 2 ^ 64) ≡ word_address origin (at + displacement)
unfolding word_address
moved_address origin at displacement distance is = omega arith

pub moved_place : (origin at displacement distance : ℕ) (core : Registers) → distance % 2 ^ 32 ≡ displacement → at_place origin (at + displacement) core ≡ at_place origin ((at + distance) % 2 ^ 64) core
moved_place origin at displacement distance core is =
    ap (λ (n : ℕ). placed (word_address origin (at + displacement)) n core) (sym (next_address origin (at + displacement)))
    ∙ ap (λ (a : ℕ). placed a ((a + 4) % 2 ^ 32) core) (sym (moved_address origin at displacement distance is))
    ∙ ap (λ (n : ℕ). placed (word_address origin ((at + distance) % 2 ^ 64)) n core) (next_address origin ((at + distance) % 2 ^ 64))

-- a part that ended at a place, before which all its words were done
pub part_as : (part : Part) (e : PartEnd) (origin from at limit : ℕ) (areas : List Area) (old new : Registers) (memory after : Memory)
    → (part.at ≡ at) × (part.limit ≡ limit) × (part.end ≡ e) → from ≤ at → at ≤ limit → limit < 2 ^ 34
    → ArePartSteps e (at - from) origin from at areas old new memory after → IsLeft e (limit - at) → IsPart part origin from limit areas old new memory after
part_as part e origin from at limit areas old new memory after is order room small steps left = record {
  count = at - from;
  steps = subst (λ (x : PartEnd). ArePartSteps x (at - from) origin from part.at areas old new memory after) (sym is.2)
      (subst (λ (n : ℕ). ArePartSteps e (at - from) origin from n areas old new memory after) (sym is.0) steps);
  counted = ap (λ (n : ℕ). at - from + n) left_is ∙ sum;
  place = omega (arith, is.0, room, small);
  end = omega (arith, is.1, small);
  left = subst (λ (x : PartEnd). IsLeft x (left_at part.at part.limit)) (sym is.2) (subst (IsLeft e) (sym left_is) left);
}
  where
    left_is : left_at part.at part.limit ≡ limit - at
    left_is = ap (λ (n : ℕ). left_at n part.limit) is.0 ∙ ap (left_at at) is.1 ∙ left_before at limit room (omega (arith, small))

    sum : at - from + (limit - at) ≡ limit - from
    sum = omega (arith, order, room)

-- one that ended where the word at a displacement from a place follows
pub moved_part : (part : Part) (origin from at limit count displacement : ℕ) (areas : List Area) (old new : Registers) (memory after : Memory)
    → IsMoved part at limit count displacement → from ≤ at → at + count ≤ limit → limit < 2 ^ 34
    → AreSteps (count + (at - from)) areas (at_place origin from old) memory (at_place origin (at + displacement) new) after → IsPart part origin from limit areas old new memory after
moved_part part origin from at limit count displacement areas old new memory after is order room small steps = record {
  count = count + (at - from);
  steps = subst (λ (x : PartEnd). ArePartSteps x (count + (at - from)) origin from part.at areas old new memory after) (sym is.goes)
      (omega (arith, is.some), subst (λ (r : Registers). AreSteps (count + (at - from)) areas (at_place origin from old) memory r after) reach steps);
  counted = ap (λ (n : ℕ). count + (at - from) + n) left_is ∙ sum;
  place = omega (arith, is.place);
  end = omega (arith, is.end);
  left = subst (λ (x : PartEnd). IsLeft x (left_at part.at part.limit)) (sym is.goes) tt;
}
  where
    left_is : left_at part.at part.limit ≡ limit - (at + count)
    left_is = ap (λ (n : ℕ). left_at n part.limit) is.place ∙ ap (left_at ((at + is.distance) % 2 ^ 64)) is.end ∙ left_after count at limit is.distance room (omega (arith, small))

    sum : count + (at - from) + (limit - (at + count)) ≡ limit - from
    sum = omega (arith, order, room)

    reach : at_place origin (at + displacement) new ≡ at_place origin part.at new
    reach = moved_place origin at displacement is.distance new is.reach ∙ ap (λ (n : ℕ). at_place origin n new) (sym is.place)

-- the rows that follow some more
dropped_more : (rows : List Row) (at count : ℕ) → drop count (drop at rows) ≡ drop (at + count) rows
dropped_more [] at count = ap (drop count) (drop-nil at) ∙ drop-nil count ∙ sym (drop-nil (at + count))
dropped_more (row ∷ rows) zero count = ap (λ (n : ℕ). drop n (row ∷ rows)) none
  where
    none : count ≡ 0 + count
    none = omega arith
dropped_more (row ∷ rows) (suc at) count = dropped_more rows at count ∙ ap (λ (n : ℕ). drop n (row ∷ rows)) more
  where
    more : suc (at + count) ≡ suc at + count
    more = omega arith

pub more_dropped : (rows rest after : List Row) (at count : ℕ) → rest ≡ drop at rows → after ≡ drop count rest → after ≡ drop (at + count) rows
more_dropped rows rest after at count is next = next ∙ ap (drop count) is ∙ dropped_more rows at count

-- areas that did not change
pub same_came : (c : Came) (origin at : ℕ) (here areas : List Area) (old new : Registers) (memory after : Memory) → here ≡ areas → IsCame c origin at here old new memory after → IsCame c origin at areas old new memory after
same_came c origin at here areas old new memory after same is = subst (λ (a : List Area). IsCame c origin at a old new memory after) same is

pub same_rows : (rows : List Row) (here areas : List Area) (memory : Memory) (origin : ℕ) → here ≡ areas → AreRowsOf rows here memory origin → AreRowsOf rows areas memory origin
same_rows rows here areas memory origin same are = subst (λ (a : List Area). AreRowsOf rows a memory origin) same are

-- words' ends
module _ (origin from at limit : ℕ) (areas : List Area) (old here new : Registers) (memory there after : Memory) (is : AreWords origin from at areas old here memory there) (small : limit < 2 ^ 34) (part : Part) where
  after_words : (count : ℕ) (reached : Registers) → AreSteps count areas (at_place origin at here) there reached after → AreSteps (count + (at - from)) areas (at_place origin from old) memory reached after
  after_words count reached step = steps_then count (at - from) areas (at_place origin from old) (at_place origin at here) reached memory there after is.steps step

  -- one word that goes elsewhere, with its delay slot or without it
  pub words_moved : (count displacement : ℕ) → at + count ≤ limit → IsMoved part at limit count displacement → AreSteps count areas (at_place origin at here) there (at_place origin (at + displacement) new) after
      → IsPart part origin from limit areas old new memory after
  words_moved count displacement room moved step =
      moved_part part origin from at limit count displacement areas old new memory after moved is.order room small (after_words count (at_place origin (at + displacement) new) step)

  -- a delay slot is left
  pub words_slot : (displacement : ℕ) → at + 1 ≤ limit → (part.at ≡ at + 1) × (part.limit ≡ limit) × (part.end ≡ ends.Slot displacement) → AreSteps 1 areas (at_place origin at here) there (at_slot origin (at + 1) (at + displacement) new) after
      → IsPart part origin from limit areas old new memory after
  words_slot displacement room left step =
      part_as part (ends.Slot displacement) origin from (at + 1) limit areas old new memory after left (omega (arith, is.order)) room small (
        omega arith,
        subst (λ (n : ℕ). AreSteps (at + 1 - from) areas (at_place origin from old) memory (at_slot origin (at + 1) n new) after) to
            (subst (λ (n : ℕ). AreSteps n areas (at_place origin from old) memory (at_slot origin (at + 1) (at + displacement) new) after) counted (after_words 1 (at_slot origin (at + 1) (at + displacement) new) step)),
      ) tt
    where
      counted : 1 + (at - from) ≡ at + 1 - from
      counted = omega (arith, is.order)

      to : at + displacement ≡ at + 1 - 1 + displacement
      to = omega arith

  -- where nothing changed
  stood : new ≡ here → after ≡ there → AreSteps (at - from) areas (at_place origin from old) memory (at_place origin at new) after
  stood same bytes = subst (λ (r : Registers). AreSteps (at - from) areas (at_place origin from old) memory (at_place origin at r) after) (sym same)
      (subst (λ (m : Memory). AreSteps (at - from) areas (at_place origin from old) memory (at_place origin at here) m) (sym bytes) is.steps)

  -- the steps end, as far as words are looked at
  pub words_ended : from < at → at ≤ limit → (part.at ≡ at) × (part.limit ≡ limit) × (part.end ≡ ends.Goes) → new ≡ here → after ≡ there → IsPart part origin from limit areas old new memory after
  words_ended some room left same bytes = part_as part ends.Goes origin from at limit areas old new memory after left is.order room small (omega (arith, some), stood same bytes) tt

  -- an instruction is left
  pub words_left : at ≤ limit → (part.at ≡ at) × (part.limit ≡ limit) × (part.end ≡ ends.Stays) → new ≡ here → after ≡ there → IsPart part origin from limit areas old new memory after
  words_left room left same bytes = part_as part ends.Stays origin from at limit areas old new memory after left is.order room small (stood same bytes) tt

  -- it is a call
  pub words_called : at < limit → (part.at ≡ at) × (part.limit ≡ limit) × (part.end ≡ ends.Calls) → new ≡ here → after ≡ there → IsCall areas (at_place origin at new) after → IsPart part origin from limit areas old new memory after
  words_called some left same bytes call = part_as part ends.Calls origin from at limit areas old new memory after left is.order (omega (arith, some)) small (stood same bytes, call) (omega (arith, some))

-- a block's ends
module _ (rows : List Row) (origin from at limit : ℕ) (areas : List Area) (old here new : Registers) (memory there after : Memory) (is : InBlock rows origin from at limit areas old here memory there) (small : limit < 2 ^ 34) (part : Part) where
  words : AreWords origin from at areas old here memory there
  words = record { order = is.order; steps = is.steps }

  inside : at + 2 ≤ limit
  inside = omega (arith, is.ahead.ends.from, is.ahead.ends.under, is.ahead.room)

  after_block : (count : ℕ) (reached : Registers) → AreSteps count areas (at_place origin at here) there reached after → AreSteps (count + (at - from)) areas (at_place origin from old) memory reached after
  after_block count reached step = more_steps count origin from at areas old here reached memory there after is.order is.steps step

  -- one word and its delay slot, or one whose delay slot is annulled
  pub block_moved : (count displacement : ℕ) → count ≤ 2 → IsMoved part at limit count displacement → AreSteps count areas (at_place origin at here) there (at_place origin (at + displacement) new) after
      → IsPart part origin from limit areas old new memory after
  block_moved count displacement few moved step = words_moved origin from at limit areas old here new memory there after words small part count displacement (omega (arith, few, inside)) moved step

  -- a pair and its delay slot
  pub block_pair : (displacement : ℕ) → NoExit rows at → NoExit rows (at + 1) → IsMoved part (at + 1) limit 2 displacement → AreSteps 3 areas (at_place origin at here) there (at_place origin (at + 1 + displacement) new) after
      → IsPart part origin from limit areas old new memory after
  block_pair displacement one two moved step =
      let ends = later rows (at + 1) is.ahead.end (later rows at is.ahead.end is.ahead.ends one) two in
      moved_part part origin from (at + 1) limit 2 displacement areas old new memory after moved (omega (arith, is.order)) (omega (arith, ends.from, ends.under, is.ahead.room)) small
      (subst (λ (n : ℕ). AreSteps n areas (at_place origin from old) memory (at_place origin (at + 1 + displacement) new) after) counted (after_block 3 (at_place origin (at + 1 + displacement) new) step))
    where
      counted : 3 + (at - from) ≡ 2 + (at + 1 - from)
      counted = omega (arith, is.order)

  -- a delay slot is left
  pub block_slot : (displacement : ℕ) → (part.at ≡ at + 1) × (part.limit ≡ limit) × (part.end ≡ ends.Slot displacement) → AreSteps 1 areas (at_place origin at here) there (at_slot origin (at + 1) (at + displacement) new) after
      → IsPart part origin from limit areas old new memory after
  block_slot displacement left step = words_slot origin from at limit areas old here new memory there after words small part displacement (omega (arith, inside)) left step

  -- that of a pair
  pub block_pair_slot : (displacement : ℕ) → NoExit rows at → NoExit rows (at + 1) → (part.at ≡ at + 2) × (part.limit ≡ limit) × (part.end ≡ ends.Slot displacement)
      → AreSteps 2 areas (at_place origin at here) there (at_slot origin (at + 2) (at + 1 + displacement) new) after → IsPart part origin from limit areas old new memory after
  block_pair_slot displacement one two left step =
      let ahead = later rows (at + 1) is.ahead.end (later rows at is.ahead.end is.ahead.ends one) two in
      part_as part (ends.Slot displacement) origin from (at + 2) limit areas old new memory after left (omega (arith, is.order)) (omega (arith, ahead.from, ahead.under, is.ahead.room)) small (
        omega arith,
        subst (λ (n : ℕ). AreSteps (at + 2 - from) areas (at_place origin from old) memory (at_slot origin (at + 2) n new) after) to
            (subst (λ (n : ℕ). AreSteps n areas (at_place origin from old) memory (at_slot origin (at + 2) (at + 1 + displacement) new) after) counted (after_block 2 (at_slot origin (at + 2) (at + 1 + displacement) new) step)),
      ) tt
    where
      counted : 2 + (at - from) ≡ at + 2 - from
      counted = omega (arith, is.order)

      to : at + 1 + displacement ≡ at + 2 - 1 + displacement
      to = omega arith

  -- an instruction is left
  pub block_left : (part.at ≡ at) × (part.limit ≡ limit) × (part.end ≡ ends.Stays) → new ≡ here → after ≡ there → IsPart part origin from limit areas old new memory after
  block_left left same bytes = words_left origin from at limit areas old here new memory there after words small part (omega (arith, inside)) left same bytes

  -- it is a call
  pub block_called : (part.at ≡ at) × (part.limit ≡ limit) × (part.end ≡ ends.Calls) → new ≡ here → after ≡ there → IsCall areas (at_place origin at new) after → IsPart part origin from limit areas old new memory after
  block_called left same bytes call = words_called origin from at limit areas old here new memory there after words small part (omega (arith, inside)) left same bytes call
