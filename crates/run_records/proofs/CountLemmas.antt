-- Counts of what was executed.
use Rattle.std.proofs.Common.{◌≡◌, ℕ, suc, ◌+◌, ◌%◌, ◌<◌, ◌≤◌, Bool, true, false, List, [], ◌∷◌, length, length-append, Option, None, Some, Result, Ok, Err, refl, sym, ap, ◌∙◌, arith, subst}
use Rattle.std.specs.Prelude.{◌==◌, nat_lt, if◌then◌else◌, not}
use Rattle.std.specs.Int.{from_be_bytes, w32}
use Rattle.std.proofs.lemmas.Bool.Decides.{nat_tests}
use Rattle.std.proofs.lemmas.Bool.{eq-eqb, eqb-true}
use Rattle.guest_bus.specs.Access.{access_fault, fetched, unless_refused}
use Rattle.guest_bus.specs.Memory.{Area, Memory, all_from, bytes_at, is_readable}
use Rattle.guest_bus.specs.declared.bus.BusFault.{BusFault}
use Rattle.guest_bus.specs.declared.bus.BusFault.TheVariants.{Outside, Unaligned}
use Rattle.sparc_step.specs.Execution.{refused, turned, turned_after}
use Rattle.sparc_step.specs.Registers.{Registers}
use Rattle.sparc_step.specs.declared.outcome.Turn.{Turn}
use Rattle.sparc_step.specs.declared.outcome.Turn.TheVariants.{Went, Trap, Call}
use Rattle.sparc_step.specs.Transfers.{Turned}
use Rattle.virt_traps.specs.Moves.{Moved, filled, spilled}
use Rattle.virt_traps.specs.Settled.{after_trap, again_or_trap, answered, made_again, settled}
use Rattle.virt_traps.specs.declared.windows.StackFault.{StackFault}
use Rattle.machine_model.specs.Partition.{PartitionState, areas_of}
use Rattle.machine_model.specs.View.{PartitionView, view_of}
use Rattle.run_records.specs.Counts.{CountsAllTicks, CountsAlone, CountsBusyTicks, CountsEachOnce, CountsWords, IsUnfetched, RiseFrom, Row, RowsRise, TakesNoMore, TrapsOutside, adds_completed, adds_taken, busy, counted, counts, empty_row, in_row, in_rows, inside, is_executed, is_inside, outside, row_at, row_for, rows_of, with_one}
use Rattle.run_records.specs.Doing.{Doing, Rests, Delivers, Executes, doing}
use Rattle.run_records.specs.Executed.{delivered, delivered_doing, delivered_in, executed, executed_by, executed_doing, executed_in, is_busy, is_something}
use Rattle.run_records.specs.Tried.{Completed, Executed, Fate, IsTriedLast, Trapped, fate_of, is_tried_taken, tried, tried_after, tried_again}
use Rattle.run_records.specs.OwnTicks.{FindsTicksAlone, OwnTick}

-- one instruction adds one to its row, and nothing to the others
adds_one : (fate : Fate) (row : Row) → in_row (with_one fate row) ≡ suc (in_row row)
adds_one (Completed taken) row = omega arith
adds_one (Trapped type) row = omega arith

counted_once : (one : Executed) (rows : List Row) → in_rows (counted one rows) ≡ suc (in_rows rows)
counted_once one [] = (let adds = adds_one one.fate (empty_row one.address) in omega (arith, adds))
counted_once one (row ∷ rows) = by (one.address == row.address) (nat_lt one.address row.address) (counted_once one rows)
  where
    by : (here below : Bool) → in_rows (counted one rows) ≡ suc (in_rows rows)
        → in_rows (if here then with_one one.fate row ∷ rows else if below then with_one one.fate (empty_row one.address) ∷ row ∷ rows else row ∷ counted one rows)
        ≡ suc (in_row row + in_rows rows)
    by true below more = (let adds = adds_one one.fate row in omega (arith, adds))
    by false true more = (let adds : in_row (with_one one.fate (empty_row one.address)) ≡ 1 = adds_one one.fate (empty_row one.address) in omega (arith, adds))
    by false false more = omega (arith, more)

pub counts_each_once : CountsEachOnce
counts_each_once [] = refl
counts_each_once (one ∷ more) = counted_once one (rows_of more) ∙ ap suc (counts_each_once more)

-- rows that rise
risen : (least : ℕ) (one : Executed) (rows : List Row) → least ≤ one.address → RiseFrom least rows → RiseFrom least (counted one rows)
risen least one [] low rise = (low, tt)
risen least one (row ∷ rows) low rise = by (one.address == row.address) refl (nat_lt one.address row.address) refl (λ less. risen (row.address + 1) one rows less rise.1)
  where
    by : (here : Bool) → (one.address == row.address) ≡ here → (below : Bool) → nat_lt one.address row.address ≡ below
        → (row.address + 1 ≤ one.address → RiseFrom (row.address + 1) (counted one rows))
        → RiseFrom least (if here then with_one one.fate row ∷ rows else if below then with_one one.fate (empty_row one.address) ∷ row ∷ rows else row ∷ counted one rows)
    by true is below less more = rise
    by false other true less more = (low, (grind (arith, less, nat_tests), rise.1))
    by false other false less more = (rise.0, more (grind (arith, other, less, nat_tests)))

pub rows_rise : RowsRise
rows_rise [] = tt
rows_rise (one ∷ more) = risen 0 one (rows_of more) (omega arith) (rows_rise more)

-- the row of an instruction's own address, and that of any other
abbrev row_or_empty : ℕ → Option Row → Row
row_or_empty address None = empty_row address
row_or_empty address (Some row) = row

none_below : (address least : ℕ) (rows : List Row) → address < least → RiseFrom least rows → row_for address rows ≡ None
none_below address least [] below rise = refl
none_below address least (row ∷ rows) below rise = by (row.address == address) refl (none_below address (row.address + 1) rows (let low = rise.0 in omega (arith, below, low)) rise.1)
  where
    by : (here : Bool) → (row.address == address) ≡ here → row_for address rows ≡ None → (if here then Some row else row_for address rows) ≡ None
    by true is more = (let low = rise.0 in let same = eqb-true row.address address is in absurd (omega (arith, below, low, same)))
    by false other more = more

at_own : (least : ℕ) (one : Executed) (rows : List Row) → RiseFrom least rows → row_for one.address (counted one rows) ≡ Some (with_one one.fate (row_or_empty one.address (row_for one.address rows)))
at_own least one [] rise = rw (eq-eqb one.address one.address refl) refl
at_own least one (row ∷ rows) rise = by (one.address == row.address) refl (nat_lt one.address row.address) refl (at_own (row.address + 1) one rows rise.1)
  where
    by : (here : Bool) → (one.address == row.address) ≡ here → (below : Bool) → nat_lt one.address row.address ≡ below
        → row_for one.address (counted one rows) ≡ Some (with_one one.fate (row_or_empty one.address (row_for one.address rows)))
        → row_for one.address (if here then with_one one.fate row ∷ rows else if below then with_one one.fate (empty_row one.address) ∷ row ∷ rows else row ∷ counted one rows)
        ≡ Some (with_one one.fate (row_or_empty one.address (if row.address == one.address then Some row else row_for one.address rows)))
    by true is below less more = (let back : (row.address == one.address) ≡ true = eq-eqb row.address one.address (sym (eqb-true one.address row.address is)) in rw (back) refl)
    by false other true less more =
        let back : (row.address == one.address) ≡ false = grind (arith, other, less, nat_tests) in
        let beyond : row_for one.address rows ≡ None = none_below one.address (row.address + 1) rows (grind (arith, less, nat_tests)) rise.1 in
        rw (eq-eqb one.address one.address refl, back, beyond) refl
    by false other false less more =
        let back : (row.address == one.address) ≡ false = grind (arith, other, less, nat_tests) in
        rw (back) more

at_other : (one : Executed) (address : ℕ) (rows : List Row) → (one.address == address) ≡ false → row_for address (counted one rows) ≡ row_for address rows
at_other one address [] other = rw other refl
at_other one address (row ∷ rows) other = by (one.address == row.address) refl (nat_lt one.address row.address) (at_other one address rows other)
  where
    by : (here : Bool) → (one.address == row.address) ≡ here → (below : Bool) → row_for address (counted one rows) ≡ row_for address rows
        → row_for address (if here then with_one one.fate row ∷ rows else if below then with_one one.fate (empty_row one.address) ∷ row ∷ rows else row ∷ counted one rows)
        ≡ (if row.address == address then Some row else row_for address rows)
    by true is below more = (let back : (row.address == address) ≡ false = subst (λ n. (n == address) ≡ false) (eqb-true one.address row.address is) other in rw (back) refl)
    by false differ true more = rw other refl
    by false differ false more = ap (λ o. if row.address == address then Some row else o) more

-- where no instruction stood the row is empty
none_there : (some : List Executed) (address : ℕ) → is_executed address some ≡ false → row_at address some ≡ empty_row address
none_there [] address none = refl
none_there (one ∷ more) address none = by (one.address == address) none (none_there more address)
  where
    by : (here : Bool) → (if here then true else is_executed address more) ≡ false → (is_executed address more ≡ false → row_at address more ≡ empty_row address)
        → (if here then with_one one.fate (row_at address more) else row_at address more) ≡ empty_row address
    by true some rest = absurd cc
    by false none rest = rest none

or_empty : (some : List Executed) (address : ℕ) → row_or_empty address (if is_executed address some then Some (row_at address some) else None) ≡ row_at address some
or_empty some address = by (is_executed address some) refl
  where
    by : (here : Bool) → is_executed address some ≡ here → row_or_empty address (if here then Some (row_at address some) else None) ≡ row_at address some
    by true is = refl
    by false none = sym (none_there some address none)

pub counts_words : CountsWords
counts_words [] address = refl
counts_words (one ∷ more) address = by (one.address == address) refl (counts_words more address)
  where
    by : (here : Bool) → (one.address == address) ≡ here → row_for address (rows_of more) ≡ (if is_executed address more then Some (row_at address more) else None)
        → row_for address (counted one (rows_of more))
        ≡ (if (if here then true else is_executed address more) then Some (if here then with_one one.fate (row_at address more) else row_at address more) else None)
    by true is rest =
        let same : one.address ≡ address = eqb-true one.address address is in
        subst (λ n. row_for n (counted one (rows_of more)) ≡ Some (with_one one.fate (row_or_empty n (row_for n (rows_of more))))) same (at_own 0 one (rows_of more) (rows_rise more))
        ∙ ap (λ o. Some (with_one one.fate (row_or_empty address o))) rest
        ∙ ap (λ row. Some (with_one one.fate row)) (or_empty more address)
    by false other rest = at_other one address (rows_of more) other ∙ rest

-- a branch that is taken has completed
taken_completed : (fate : Fate) → adds_taken fate ≤ adds_completed fate
taken_completed (Completed true) = omega arith
taken_completed (Completed false) = omega arith
taken_completed (Trapped type) = omega arith

pub takes_no_more : TakesNoMore
takes_no_more [] address = omega arith
takes_no_more (one ∷ more) address = by (one.address == address) (takes_no_more more address)
  where
    by : (here : Bool) → (row_at address more).taken ≤ (row_at address more).completed
        → (if here then with_one one.fate (row_at address more) else row_at address more).taken ≤ (if here then with_one one.fate (row_at address more) else row_at address more).completed
    by true rest = (let adds = taken_completed one.fate in omega (arith, rest, adds))
    by false rest = rest

-- in a tick in which a partition does something it executes one instruction, or one interrupt is delivered to it
one_of_both : (d : Doing) (view : PartitionView) (ps : PartitionState) → length (executed_doing d view ps) + length (delivered_doing d) ≡ (if is_something d then 1 else 0)
one_of_both Rests view ps = refl
one_of_both (Delivers n) view ps = refl
one_of_both Executes view ps = refl

one_in_tick : (view : PartitionView) (tick : OwnTick) → length (executed_in view tick) + length (delivered_in tick) ≡ (if is_busy tick then 1 else 0)
unfolding executed_in delivered_in is_busy
one_in_tick view tick = one_of_both (doing tick.found tick.cue) view tick.found.state

length_busy : (b : Bool) (tick : OwnTick) (rest : List OwnTick) → length (if b then tick ∷ rest else rest) ≡ (if b then 1 else 0) + length rest
length_busy true tick rest = omega arith
length_busy false tick rest = omega arith

busy_parts : (view : PartitionView) (ticks : List OwnTick) → length (busy ticks) ≡ length (executed view ticks) + length (delivered ticks)
busy_parts view [] = refl
busy_parts view (tick ∷ ticks) =
    let now = one_in_tick view tick in
    let rest = busy_parts view ticks in
    let first = length-append (executed_in view tick) (executed view ticks) in
    let second = length-append (delivered_in tick) (delivered ticks) in
    length_busy (is_busy tick) tick (busy ticks) ∙ omega (arith, now, rest, first, second)

pub counts_busy_ticks : CountsBusyTicks
counts_busy_ticks view ticks = busy_parts view ticks ∙ ap (λ n. n + length (delivered ticks)) (sym (counts_each_once (executed view ticks)))

-- each instruction stands inside the areas or outside
length_parts : (view : PartitionView) (some : List Executed) → length (inside view some) + length (outside view some) ≡ length some
length_parts view [] = refl
length_parts view (one ∷ more) = by (is_inside view one) (length_parts view more)
  where
    by : (b : Bool) → length (inside view more) + length (outside view more) ≡ length more
        → length (if b then one ∷ inside view more else inside view more) + length (if not b then one ∷ outside view more else outside view more) ≡ suc (length more)
    by true rest = omega (arith, rest)
    by false rest = omega (arith, rest)

pub counts_all_ticks : CountsAllTicks
unfolding counts
counts_all_ticks view ticks =
    let once = counts_each_once (inside view (executed view ticks)) in
    let parts = length_parts view (executed view ticks) in
    let all = busy_parts view ticks in
    omega (arith, once, parts, all)

pub counts_alone : FindsTicksAlone → CountsAlone
counts_alone law count s g p a is = ap (counts (view_of g.system p)) (law count s g p a is)

-- what an instruction comes to, it comes to where it is tried last
made_or_refused : (type : ℕ) (areas : List Area) (moved : Moved) (core : Registers) (memory : Memory) → (turned areas core memory).turn ≡ Trap type
    → (made_again type areas moved).turn ≡ (turned areas (tried_again moved.answer moved core memory).core (tried_again moved.answer moved core memory).memory).turn
unfolding made_again
made_or_refused type areas moved core memory first = by moved.answer
  where
    by : (answer : Result (Unit {0}) StackFault)
        → (again_or_trap answer type areas moved.core moved.memory).turn ≡ (turned areas (tried_again answer moved core memory).core (tried_again answer moved core memory).memory).turn
    by (Ok made) = refl
    by (Err fault) = sym first

last_by : (turn : Turn) (areas : List Area) (core : Registers) (memory : Memory) → (turned areas core memory).turn ≡ turn
    → (answered turn (turned areas core memory) areas core memory).turn ≡ (turned areas (tried_after turn areas core memory).core (tried_after turn areas core memory).memory).turn
unfolding after_trap
last_by Went areas core memory first = refl
last_by Call areas core memory first = refl
last_by (Trap type) areas core memory first = by (type == 5) refl (type == 6) refl
  where
    by : (over : Bool) → (type == 5) ≡ over → (under : Bool) → (type == 6) ≡ under
        → (if over then made_again 5 areas (spilled areas core memory) else if under then made_again 6 areas (filled areas core memory) else refused type core memory).turn
        ≡ (turned areas
        (if over then tried_again (spilled areas core memory).answer (spilled areas core memory) core memory
        else if under then tried_again (filled areas core memory).answer (filled areas core memory) core memory
        else record { core = core; memory = memory }).core
        (if over then tried_again (spilled areas core memory).answer (spilled areas core memory) core memory
        else if under then tried_again (filled areas core memory).answer (filled areas core memory) core memory
        else record { core = core; memory = memory }).memory).turn
    by true is under also = made_or_refused 5 areas (spilled areas core memory) core memory (first ∙ ap Trap (eqb-true type 5 is))
    by false is true also = made_or_refused 6 areas (filled areas core memory) core memory (first ∙ ap Trap (eqb-true type 6 also))
    by false is false also = sym first

pub is_tried_last : IsTriedLast
unfolding settled tried
is_tried_last areas core memory = last_by (turned areas core memory).turn areas core memory refl

-- an instruction that cannot be fetched traps so
fault_there : (areas : List Area) (address : ℕ) → all_from (is_readable areas) address 4 ≡ false → (o : Option BusFault) → access_fault (is_readable areas) address 4 ≡ o → o ≡ None → ⊥
fault_there areas address out o is none = by (address % 4 == 0) refl
  where
    by : (b : Bool) → (address % 4 == 0) ≡ b → ⊥
    by true even = (let wrong : access_fault (is_readable areas) address 4 ≡ Some Outside = rw (even, out) refl in cc)
    by false odd = (let wrong : access_fault (is_readable areas) address 4 ≡ Some Unaligned = rw (odd) refl in cc)

fetch_fails : (areas : List Area) (core : Registers) (memory : Memory) → all_from (is_readable areas) core.pc 4 ≡ false → turned areas core memory ≡ refused 1 core memory
unfolding turned fetched
fetch_fails areas core memory out = by (access_fault (is_readable areas) core.pc 4) refl
  where
    by : (o : Option BusFault) → access_fault (is_readable areas) core.pc 4 ≡ o
        → turned_after (unless_refused o (from_be_bytes w32 (bytes_at memory core.pc 4))) areas core memory ≡ refused 1 core memory
    by None is = absurd (fault_there areas core.pc out None is refl)
    by (Some fault) is = refl

settled_fails : (areas : List Area) (core : Registers) (memory : Memory) → all_from (is_readable areas) core.pc 4 ≡ false → settled areas core memory ≡ refused 1 core memory
unfolding settled after_trap
settled_fails areas core memory out = ap (λ (t : Turned). answered t.turn t areas core memory) (fetch_fails areas core memory out)

pub traps_outside : TrapsOutside
unfolding executed_by
traps_outside view ps out =
    let trapped : (settled (areas_of view) ps.core ps.memory).turn ≡ Trap 1 = ap (λ (t : Turned). t.turn) (settled_fails (areas_of view) ps.core ps.memory out) in
    subst (λ turn. IsUnfetched (fate_of turn (is_tried_taken (areas_of view) (tried (areas_of view) ps.core ps.memory)))) (sym trapped) refl
