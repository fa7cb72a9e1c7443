-- The outcome of the calls that read a log or a status, by what is there.
use Rattle.std.proofs.Common.{◌≡◌, ℕ, ◌<◌, Bool, true, false, List, [], ◌∷◌, length, None, Some, refl, sym, ap, ◌∙◌}
use Rattle.std.specs.Prelude.{if◌then◌else◌, ◌==◌, not, is_none, slice_get}
use Rattle.std.proofs.lemmas.Bool.{eqb-true}
use Rattle.xm_traces.specs.Ring.{Kept, entry_at}
use Rattle.machine_model.specs.Caller.{Caller, Served, a_of, answering, b_of, c_of, invalid_parameter, is_not_kept, is_room, not_available, refused_if, room, shown, target, tested, with_written}
use Rattle.machine_model.specs.Readings.{bytes_of_entry, entry_seen, is_missing, is_own}
use Rattle.machine_model.specs.lemmas.LogCallsTerms.{reading}
use Rattle.machine_model.specs.Machine.{shown_entry, shown_of, with_room}
use Rattle.machine_model.specs.Partition.{PartitionState}
use Rattle.machine_model.specs.Emission.{NotKept, Sight, Unseen, Words}
use Rattle.machine_model.specs.View.{view_of}
use Rattle.system_state.specs.lemmas.ServedLemmas.{served_as}
use Rattle.control_calls.proofs.ShownLemmas.{IsShownBytes, IsShownEntry}
use Rattle.system_state.specs.lemmas.SightLemmas.{shown_there}
use Rattle.system_state.specs.Serving.{IsServed, caller_of}
use Rattle.system_state.specs.lemmas.Shown.{seen_when}
use Rattle.system_state.specs.State.{SysState, part_at}
use Rattle.system_state.specs.declared.call_site.CallSite.{CallSite}
use Rattle.system_state.specs.declared.served.Served as code

-- where there is no room, nothing is written, whatever is shown
given_room : (caller : Caller) (at size : ℕ) (seen bytes : List ℕ) → (is_room caller at size ≡ true → seen ≡ bytes)
    → tested (room caller at size ∷ []) caller (answering 0 (with_written at seen caller.state)) ≡ tested (room caller at size ∷ []) caller (answering 0 (with_written at bytes caller.state))
given_room caller at size seen bytes same = by (is_room caller at size) same
  where
    by : (free : Bool) → (free ≡ true → seen ≡ bytes)
        → tested (refused_if (not free) invalid_parameter ∷ []) caller (answering 0 (with_written at seen caller.state)) ≡ tested (refused_if (not free) invalid_parameter ∷ []) caller (answering 0 (with_written at bytes caller.state))
    by true same = ap (λ (all : List ℕ). answering 0 (with_written at all caller.state)) (same refl)
    by false same = refl

-- what is seen of bytes that are there
given_sight : (own free : Bool) (bytes : List ℕ)
    → (if own then Unseen else with_room free (Words bytes)) ≡ seen_when (refused_if (not free) invalid_parameter ∷ []) (if own then Unseen else Words bytes)
given_sight true true bytes = refl
given_sight true false bytes = refl
given_sight false true bytes = refl
given_sight false false bytes = refl

-- that an entry is not kept is shown without room, too
not_kept : (own free : Bool) → (if own then Unseen else with_room free NotKept) ≡ (if own then Unseen else NotKept)
not_kept true free = refl
not_kept false true = refl
not_kept false false = refl

-- bytes are never shown as an entry that is not kept
is_shown : (free : Bool) (bytes : List ℕ) → is_not_kept (with_room free (Words bytes)) ≡ false
is_shown true bytes = refl
is_shown false bytes = refl

-- the caller is named by its number
own_is : (site : CallSite) (sys : SysState) → is_own (caller_of site sys) ≡ (a_of (caller_of site sys) == site.part)
unfolding caller_of view_of
own_is site sys = refl

-- a partition that names itself names its own state
own_state : (site : CallSite) (sys : SysState) → is_own (caller_of site sys) ≡ true → (caller_of site sys).state ≡ part_at (a_of (caller_of site sys)) sys.machine
unfolding caller_of view_of
own_state site sys own = ap (λ p. part_at p sys.machine) (sym (eqb-true _ _ own))

-- what is shown of another partition is shown of its state
named_sight : (site : CallSite) (sys : SysState) (free : Bool) (show : PartitionState → Sight)
    → (caller_of site sys).sight ≡ seen_when (target (caller_of site sys) (a_of (caller_of site sys)) ∷ []) (if is_own (caller_of site sys) then Unseen else with_room free (shown_of (slice_get sys.machine.parts (a_of (caller_of site sys))) show))
    → target (caller_of site sys) (a_of (caller_of site sys)) ≡ None → a_of (caller_of site sys) < length sys.machine.parts
    → (caller_of site sys).sight ≡ (if is_own (caller_of site sys) then Unseen else with_room free (show (part_at (a_of (caller_of site sys)) sys.machine)))
named_sight site sys free show is named there =
    is
    ∙ ap (λ test. seen_when (test ∷ []) (if is_own caller then Unseen else with_room free (shown_of (slice_get sys.machine.parts (a_of caller)) show))) named
    ∙ ap (λ sight. if is_own caller then Unseen else with_room free sight) (shown_there sys.machine (a_of caller) show there)
  where
    caller : Caller
    caller = caller_of site sys

-- an entry that is not kept
pub reading_missing : {T : Type 0} (site : CallSite) (sys : SysState) (size : ℕ) (bytes : T → List ℕ) (log : PartitionState → Kept T) (answer : code.Served) (new : SysState)
    → IsShownEntry site sys size bytes log
    → target (caller_of site sys) (a_of (caller_of site sys)) ≡ None → a_of (caller_of site sys) < length sys.machine.parts
    → entry_at (b_of (caller_of site sys)) (log (part_at (a_of (caller_of site sys)) sys.machine)) ≡ None
    → IsServed site.part (if a_of (caller_of site sys) == site.part then Unseen else NotKept) (answering not_available (caller_of site sys).state) answer sys new
    → IsServed site.part (caller_of site sys).sight (reading size bytes (log (caller_of site sys).state) (caller_of site sys)) answer sys new
reading_missing site sys size bytes log answer new observed named there absent is = served_as (seen ∙ ap (λ own. if own then Unseen else NotKept) (own_is site sys)) comes is
  where
    caller : Caller
    caller = caller_of site sys

    free : Bool
    free = is_room caller (c_of caller) size

    seen : caller.sight ≡ (if is_own caller then Unseen else NotKept)
    seen =
        named_sight site sys free (λ ps. shown_entry bytes (entry_at (b_of caller) (log ps))) observed named there
        ∙ ap (λ found. if is_own caller then Unseen else with_room free (shown_entry bytes found)) absent
        ∙ not_kept (is_own caller) free

    missing : (own : Bool) → is_own caller ≡ own → (if own then is_none (entry_at (b_of caller) (log caller.state)) else is_not_kept caller.sight) ≡ true
    missing true own = ap is_none (ap (λ ps. entry_at (b_of caller) (log ps)) (own_state site sys own) ∙ absent)
    missing false own = ap is_not_kept (seen ∙ ap (λ test. if test then Unseen else NotKept) own)

    found : Served
    found = answering 0 (with_written (c_of caller) (entry_seen bytes caller (log caller.state)) caller.state)

    comes : reading size bytes (log caller.state) caller ≡ answering not_available caller.state
    comes =
        ap (λ test. tested (test ∷ refused_if (is_missing caller (log caller.state)) not_available ∷ room caller (c_of caller) size ∷ []) caller found) named
        ∙ ap (λ absent. tested (refused_if absent not_available ∷ room caller (c_of caller) size ∷ []) caller found) (missing (is_own caller) refl)

-- an entry that is kept
pub reading_given : {T : Type 0} (site : CallSite) (sys : SysState) (size : ℕ) (bytes : T → List ℕ) (log : PartitionState → Kept T) (entry : T) (given : List ℕ) (answer : code.Served) (new : SysState)
    → IsShownEntry site sys size bytes log
    → target (caller_of site sys) (a_of (caller_of site sys)) ≡ None → a_of (caller_of site sys) < length sys.machine.parts
    → entry_at (b_of (caller_of site sys)) (log (part_at (a_of (caller_of site sys)) sys.machine)) ≡ Some entry
    → given ≡ bytes entry → length given ≡ size
    → IsServed site.part (seen_when (room (caller_of site sys) (c_of (caller_of site sys)) (length given) ∷ []) (if a_of (caller_of site sys) == site.part then Unseen else Words given))
    (tested (room (caller_of site sys) (c_of (caller_of site sys)) (length given) ∷ []) (caller_of site sys) (answering 0 (with_written (c_of (caller_of site sys)) given (caller_of site sys).state))) answer sys new
    → IsServed site.part (caller_of site sys).sight (reading size bytes (log (caller_of site sys).state) (caller_of site sys)) answer sys new
reading_given site sys size bytes log entry given answer new observed named there present same long is =
    served_as
    (seen ∙ given_sight (is_own caller) free given ∙ ap (λ own. seen_when (room caller (c_of caller) size ∷ []) (if own then Unseen else Words given)) (own_is site sys)
    ∙ ap (λ n. seen_when (room caller (c_of caller) n ∷ []) (if a_of caller == site.part then Unseen else Words given)) (sym long))
    (comes ∙ ap (λ n. tested (room caller (c_of caller) n ∷ []) caller (answering 0 (with_written (c_of caller) given caller.state))) (sym long))
    is
  where
    caller : Caller
    caller = caller_of site sys

    free : Bool
    free = is_room caller (c_of caller) size

    seen : caller.sight ≡ (if is_own caller then Unseen else with_room free (Words given))
    seen =
        named_sight site sys free (λ ps. shown_entry bytes (entry_at (b_of caller) (log ps))) observed named there
        ∙ ap (λ found. if is_own caller then Unseen else with_room free (shown_entry bytes found)) present
        ∙ ap (λ (all : List ℕ). if is_own caller then Unseen else with_room free (Words all)) (sym same)

    own_entry : is_own caller ≡ true → entry_at (b_of caller) (log caller.state) ≡ Some entry
    own_entry own = ap (λ ps. entry_at (b_of caller) (log ps)) (own_state site sys own) ∙ present

    missing : (own : Bool) → is_own caller ≡ own → (if own then is_none (entry_at (b_of caller) (log caller.state)) else is_not_kept caller.sight) ≡ false
    missing true own = ap is_none (own_entry own)
    missing false own = ap is_not_kept (seen ∙ ap (λ test. if test then Unseen else with_room free (Words given)) own) ∙ is_shown free given

    written : (own : Bool) → is_own caller ≡ own → free ≡ true → (if own then bytes_of_entry bytes (entry_at (b_of caller) (log caller.state)) else shown caller.sight) ≡ given
    written true own room = ap (bytes_of_entry bytes) (own_entry own) ∙ sym same
    written false own room =
        ap shown (seen ∙ ap (λ test. if test then Unseen else with_room free (Words given)) own ∙ ap (λ f. with_room f (Words given)) room)

    comes : reading size bytes (log caller.state) caller ≡ tested (room caller (c_of caller) size ∷ []) caller (answering 0 (with_written (c_of caller) given caller.state))
    comes =
        ap (λ test. tested (test ∷ refused_if (is_missing caller (log caller.state)) not_available ∷ room caller (c_of caller) size ∷ []) caller (answering 0 (with_written (c_of caller) (entry_seen bytes caller (log caller.state)) caller.state))) named
        ∙ ap (λ absent. tested (refused_if absent not_available ∷ room caller (c_of caller) size ∷ []) caller (answering 0 (with_written (c_of caller) (entry_seen bytes caller (log caller.state)) caller.state))) (missing (is_own caller) refl)
        ∙ given_room caller (c_of caller) size (entry_seen bytes caller (log caller.state)) given (written (is_own caller) refl)

-- bytes of a state are written: the caller's own, or what it is shown of another's
abbrev pub writing : ℕ → (PartitionState → List ℕ) → Caller → Served
writing size bytes caller =
    tested (target caller (a_of caller) ∷ room caller (b_of caller) size ∷ []) caller
    (answering 0 (with_written (b_of caller) (if is_own caller then bytes caller.state else shown caller.sight) caller.state))

-- those of the partition that the call names
pub writing_given : (site : CallSite) (sys : SysState) (size : ℕ) (bytes : PartitionState → List ℕ) (given : List ℕ) (answer : code.Served) (new : SysState)
    → IsShownBytes site sys size bytes
    → target (caller_of site sys) (a_of (caller_of site sys)) ≡ None → a_of (caller_of site sys) < length sys.machine.parts
    → given ≡ bytes (part_at (a_of (caller_of site sys)) sys.machine) → length given ≡ size
    → IsServed site.part (seen_when (room (caller_of site sys) (b_of (caller_of site sys)) (length given) ∷ []) (if a_of (caller_of site sys) == site.part then Unseen else Words given))
    (tested (room (caller_of site sys) (b_of (caller_of site sys)) (length given) ∷ []) (caller_of site sys) (answering 0 (with_written (b_of (caller_of site sys)) given (caller_of site sys).state))) answer sys new
    → IsServed site.part (caller_of site sys).sight (writing size bytes (caller_of site sys)) answer sys new
writing_given site sys size bytes given answer new observed named there same long is =
    served_as
    (seen ∙ given_sight (is_own caller) free given ∙ ap (λ own. seen_when (room caller (b_of caller) size ∷ []) (if own then Unseen else Words given)) (own_is site sys)
    ∙ ap (λ n. seen_when (room caller (b_of caller) n ∷ []) (if a_of caller == site.part then Unseen else Words given)) (sym long))
    (comes ∙ ap (λ n. tested (room caller (b_of caller) n ∷ []) caller (answering 0 (with_written (b_of caller) given caller.state))) (sym long))
    is
  where
    caller : Caller
    caller = caller_of site sys

    free : Bool
    free = is_room caller (b_of caller) size

    seen : caller.sight ≡ (if is_own caller then Unseen else with_room free (Words given))
    seen =
        named_sight site sys free (λ ps. Words (bytes ps)) observed named there
        ∙ ap (λ (all : List ℕ). if is_own caller then Unseen else with_room free (Words all)) (sym same)

    shown_bytes : List ℕ
    shown_bytes = if is_own caller then bytes caller.state else shown caller.sight

    written : (own : Bool) → is_own caller ≡ own → free ≡ true → (if own then bytes caller.state else shown caller.sight) ≡ given
    written true own room = ap bytes (own_state site sys own) ∙ sym same
    written false own room =
        ap shown (seen ∙ ap (λ test. if test then Unseen else with_room free (Words given)) own ∙ ap (λ f. with_room f (Words given)) room)

    comes : writing size bytes caller ≡ tested (room caller (b_of caller) size ∷ []) caller (answering 0 (with_written (b_of caller) given caller.state))
    comes =
        ap (λ test. tested (test ∷ room caller (b_of caller) size ∷ []) caller (answering 0 (with_written (b_of caller) shown_bytes caller.state))) named
        ∙ given_room caller (b_of caller) size shown_bytes given (written (is_own caller) refl)
