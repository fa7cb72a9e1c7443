-- Calls on the processor, the console and input words.
use Rattle.std.proofs.Common.{◌≡◌, ℕ, zero, suc, ◌+◌, ◌<◌, Bool, true, false, not, List, [], ◌∷◌, Some, None, Result, Ok, drop, slice_get, refl, sym, subst, ap, ◌∙◌, arith}
use Rattle.std.proofs.Math.Seq.{drop-nil}
use Rattle.guest_bus.specs.Memory.{Memory, bytes_at}
use Rattle.machine_model.specs.Caller.{Caller, Test, a_of, answering, invalid_parameter, is_room, refused_if, room, tested, with_written}
use Rattle.machine_model.specs.Partition.{PartitionState, areas_of}
use Rattle.machine_model.specs.OwnEffects.{by_flush, by_return, input_read, printed, undone}
use Rattle.machine_model.specs.ProcessorCalls.{flush_regwin, iret, read_input}
use Rattle.machine_model.specs.Structures.{word}
use Rattle.machine_model.specs.Emission.{Console, Unseen}
use Rattle.machine_model.specs.View.{view_of}
use Rattle.span_model.specs.Passes.{part_at, with_part}
use Rattle.virt_traps.specs.declared.delivery.IretFault.{IretFault}
use Rattle.virt_traps.specs.declared.windows.StackFault.{StackFault}
use Rattle.system_state.specs.lemmas.ServedLemmas.{served_changed}
use Rattle.system_state.specs.Serving.{IsCaller, IsServed, caller_of}
use Rattle.system_state.specs.State.{OwnState, SysState, areas_in, memory_of, with_machine, with_memory, input_words_of}
use Rattle.system_state.specs.Stepping.{after_flush, after_return, flushed_in, returned_in}
use Rattle.system_state.specs.declared.call_site.CallSite.{CallSite}
use Rattle.system_state.specs.declared.served.Act.TheVariants as act
use Rattle.system_state.specs.declared.served.Note.TheVariants as note
use Rattle.system_state.specs.declared.served.Served as code

-- no byte is printed
pub prints_none : (memory : Memory) (at size : ℕ) → size ≡ 0 → printed (bytes_at memory at size) ≡ []
prints_none memory at size none = ap (λ (n : ℕ). printed (bytes_at memory at n)) none

-- some bytes are printed
pub prints_some : (memory : Memory) (at size : ℕ) → 0 < size → printed (bytes_at memory at size) ≡ Console (bytes_at memory at size) ∷ []
prints_some memory at zero some = absurd (omega (arith, some))
prints_some memory at (suc n) some = refl

-- no input word is left
pub inputs_none : (words : List ℕ) (used : ℕ) → slice_get words used ≡ None → drop used words ≡ []
inputs_none [] used none = drop-nil used
inputs_none (word ∷ words) zero none = cc
inputs_none (word ∷ words) (suc used) none = inputs_none words used none

-- the next input word, and those after it
pub inputs_next : (words : List ℕ) (used word : ℕ) → slice_get words used ≡ Some word → drop used words ≡ word ∷ drop (used + 1) words
inputs_next [] used word next = cc
inputs_next (first ∷ words) zero word next = let same : first ≡ word = cc in ap (λ (n : ℕ). n ∷ words) same
inputs_next (first ∷ words) (suc used) word next = let on : suc used + 1 ≡ suc (used + 1) = omega arith in inputs_next words used word next ∙ ap (λ (n : ℕ). word ∷ drop n (first ∷ words)) (sym on)

-- the words of the caller stay with that change
pub words_stay : (p : ℕ) (old mid : SysState) (ps : PartitionState) → mid ≡ with_machine (with_part p ps old.machine) old → input_words_of p mid.machine ≡ input_words_of p old.machine
words_stay p old mid ps changed = ap (λ (m : SysState). input_words_of p m.machine) changed

-- an input word is asked for where there is no room for it
pub input_refused : (p at value next : ℕ) (rest : List ℕ) (caller : Caller) (answer : code.Served) (old new : SysState) → at ≡ a_of caller → Some value ≡ room caller at 4
    → IsServed p Unseen (answering value caller.state) answer old new → IsServed p Unseen (input_read (next ∷ rest) caller) answer old new
input_refused p at value next rest caller answer old new same refused served =
    subst (λ (test : Test). IsServed p Unseen (tested (test ∷ []) caller (answering 0 (record (with_written (a_of caller) (word next) caller.state) { inputs = rest }))) answer old new)
    (refused ∙ ap (λ (n : ℕ). room caller n 4) same) served

-- an input word is asked for where there is room for it
pub input_allowed : (p at next : ℕ) (rest : List ℕ) (caller : Caller) (answer : code.Served) (old new : SysState) → at ≡ a_of caller → None ≡ room caller at 4
    → IsServed p Unseen (answering 0 (record (with_written at (word next) caller.state) { inputs = rest })) answer old new → IsServed p Unseen (input_read (next ∷ rest) caller) answer old new
input_allowed p at next rest caller answer old new same allowed served =
    subst (λ (test : Test). IsServed p Unseen (tested (test ∷ []) caller (answering 0 (record (with_written (a_of caller) (word next) caller.state) { inputs = rest }))) answer old new)
    (allowed ∙ ap (λ (n : ℕ). room caller n 4) same)
    (subst (λ (n : ℕ). IsServed p Unseen (answering 0 (record (with_written n (word next) caller.state) { inputs = rest })) answer old new) same served)

-- there is room where that test lets the call pass
pub has_room : (caller : Caller) (at size : ℕ) → None ≡ room caller at size → is_room caller at size ≡ true
has_room caller at size allowed = decide (is_room caller at size) allowed
  where
    decide : (fits : Bool) → None ≡ refused_if (not fits) invalid_parameter → fits ≡ true
    decide true passes = refl
    decide false passes = cc

-- an input word is asked for, and these are left
pub input_asked : (p : ℕ) (inputs : List ℕ) (caller : Caller) (answer : code.Served) (old new : SysState) → caller.state.inputs ≡ inputs
    → IsServed p Unseen (input_read inputs caller) answer old new → IsServed p Unseen (read_input caller) answer old new
unfolding read_input
input_asked p inputs caller answer old new left served =
    subst (λ (words : List ℕ). IsServed p Unseen (input_read words caller) answer old new) (sym left) served

-- those that are left, of a partition that has used this many
pub inputs_left : (site : CallSite) (sys : SysState) (own : OwnState) → part_at site.part sys.machine ≡ with_memory own (memory_of site.part sys.machine) (input_words_of site.part sys.machine)
    → (caller_of site sys).state.inputs ≡ drop own.used (input_words_of site.part sys.machine)
unfolding caller_of
inputs_left site sys own is = ap (λ (ps : PartitionState). ps.inputs) is

-- a return from a trap, by what it answered
pub return_answered : (site : CallSite) (old new : SysState) (answer : code.Served) (result : Result (Unit {0}) IretFault) → result ≡ (returned_in (areas_in site.part old.machine) (part_at site.part old.machine)).answer
    → IsServed site.part Unseen (by_return result (returned_in (areas_in site.part old.machine) (part_at site.part old.machine)) (caller_of site old)) answer old new
    → IsServed site.part Unseen (iret (caller_of site old)) answer old new
unfolding iret caller_of view_of areas_of
return_answered site old new answer result is served =
    subst (λ (r : Result (Unit {0}) IretFault). IsServed site.part Unseen (by_return r (returned_in (areas_in site.part old.machine) (part_at site.part old.machine)) (caller_of site old)) answer old new) is served

-- the return that was made
pub return_made : (site : CallSite) (old new : SysState) → new ≡ with_machine (with_part site.part (after_return (returned_in (areas_in site.part old.machine) (part_at site.part old.machine)) (part_at site.part old.machine)) old.machine) old
    → IsServed site.part Unseen (by_return (Ok tt) (returned_in (areas_in site.part old.machine) (part_at site.part old.machine)) (caller_of site old)) (record { note = note.Nothing; act = act.Nothing }) old new
unfolding caller_of
return_made site old new is = record { state = is; emitted = refl; upshot = refl; traffic = refl; seen = refl; readable = tt; one = tt; asked = tt; entered = tt; event = tt }

-- a flush of the windows, by what it answered
pub flush_answered : (site : CallSite) (old new : SysState) (answer : code.Served) (result : Result (Unit {0}) StackFault) → result ≡ (flushed_in (areas_in site.part old.machine) (part_at site.part old.machine)).answer
    → IsServed site.part Unseen (by_flush result (after_flush (flushed_in (areas_in site.part old.machine) (part_at site.part old.machine)) (part_at site.part old.machine)) (caller_of site old)) answer old new
    → IsServed site.part Unseen (flush_regwin (caller_of site old)) answer old new
unfolding flush_regwin caller_of view_of areas_of
flush_answered site old new answer result is served =
    subst (λ (r : Result (Unit {0}) StackFault). IsServed site.part Unseen (by_flush r (after_flush (flushed_in (areas_in site.part old.machine) (part_at site.part old.machine)) (part_at site.part old.machine)) (caller_of site old)) answer old new) is served

-- a call that is undone after a change of its caller
pub undone_changed : (site : CallSite) (old mid new : SysState) (ps : PartitionState) (answer : code.Served) → IsCaller site old → mid ≡ with_machine (with_part site.part ps old.machine) old
    → IsServed site.part Unseen (undone (caller_of site mid) (caller_of site mid).state) answer mid new → IsServed site.part Unseen (undone (caller_of site old) ps) answer old new
unfolding caller_of
undone_changed site old mid new ps answer caller changed served = served_changed site old mid new ps answer (undone (caller_of site old)) refl refl caller changed served
