-- The outcome of a call that reaches beyond its caller, and what it leaves where it is shown something.
use Rattle.std.proofs.Common.{◌≡◌, ℕ, true, false, List, [], ◌∷◌, length, refl, sym, ap, ◌∙◌, subst}
use Rattle.std.specs.Prelude.{◌==◌, ◌&&◌, ◌||◌, Bool, IfSome, Option, None, Some, if◌then◌else◌, nat_lt, not}
use Rattle.guest_bus.specs.Memory.{Area, all_from, holds_address, is_readable, is_writable}
use Rattle.guest_bus.specs.lemmas.MemoryLemmas.{all_from-each, all_from-true, bytes_at-with_bytes}
use Rattle.health_monitor.specs.declared.effects.Whole.TheVariants as whole
use Rattle.machine_model.specs.Caller.{Caller, a_of, b_of, c_of, is_room, number_of, with_answer, with_written}
use Rattle.machine_model.specs.Lists.{then_some}
use Rattle.machine_model.specs.Observed.{HealthCounts, HealthEntryOf, Observation, PartitionStatus, Question, TraceCounts, TraceEntryOf, about_other, observing}
use Rattle.machine_model.specs.Emission.{Words}
use Rattle.machine_model.specs.Traffic.{Still, traffic_as}
use Rattle.machine_model.specs.View.{PartitionView}
use Rattle.xm_conf.specs.Configuration.{Conf}
use Rattle.system_state.specs.lemmas.ServedLemmas.{areas_seen}
use Rattle.system_state.specs.Serving.{HasEvent, IsServed, IsUponOne, WantsAt, caller_of, own_traffic, untraded, upshot_of}
use Rattle.system_state.specs.State.{SysState, areas_in, with_machine, with_part}
use Rattle.system_state.specs.declared.call_site.CallSite.{CallSite}
use Rattle.system_state.specs.declared.served.Act.{Act}
use Rattle.system_state.specs.declared.served.Act.TheVariants as act
use Rattle.system_state.specs.declared.served.Note.TheVariants.{Saw}

-- one area and the others: what may be written of them may be read
one_readable : (here may others reads : Bool) → (others ≡ true → reads ≡ true) → ((here && may) || others) ≡ true → (here || reads) ≡ true
one_readable true may others reads further is = refl
one_readable false may others reads further is = further is

-- a byte that may be written may be read
byte_readable : (areas : List Area) (q : ℕ) → is_writable areas q ≡ true → is_readable areas q ≡ true
byte_readable [] q is = is
byte_readable (area ∷ areas) q is = one_readable (holds_address q area) (not area.read_only) (is_writable areas q) (is_readable areas q) (byte_readable areas q) is

-- bytes that may be written may be read
pub room_readable : (site : CallSite) (sys : SysState) (address size : ℕ) → is_room (caller_of site sys) address size ≡ true → all_from (is_readable (areas_in site.part sys.machine)) address size ≡ true
room_readable site sys address size is =
    let areas = areas_in site.part sys.machine in
    let writable = ap (λ (seen : List Area). all_from (is_writable seen) address size) (sym (areas_seen site sys)) ∙ is in
    all_from-true (is_readable areas) address size (λ q over under. byte_readable areas q (all_from-each (is_writable areas) address size q writable over under))

-- an act that is reported has no traffic to be left out
pub untraded_act : (act : Act) → untraded (upshot_of act) ≡ upshot_of act
untraded_act act.Nothing = refl
untraded_act (act.Upon id order) = refl
untraded_act (act.Ask plan) = refl
untraded_act (act.Whole whole.Nothing) = refl
untraded_act (act.Whole (whole.Reset mode)) = refl
untraded_act (act.Whole whole.Halt) = refl
untraded_act (act.Whole whole.Maintenance) = refl
untraded_act (act.Event event word) = refl

-- and none under any names of channels
pub still_act : (conf : Conf) (p : ℕ) (act : Act) → traffic_as conf p (own_traffic (upshot_of act)) ≡ Still
still_act conf p act.Nothing = refl
still_act conf p (act.Upon id order) = refl
still_act conf p (act.Ask plan) = refl
still_act conf p (act.Whole whole.Nothing) = refl
still_act conf p (act.Whole (whole.Reset mode)) = refl
still_act conf p (act.Whole whole.Halt) = refl
still_act conf p (act.Whole whole.Maintenance) = refl
still_act conf p (act.Event event word) = refl

-- bytes that the caller is shown
pub served_shown : (site : CallSite) (sys new : SysState) (address value : ℕ) (bytes : List ℕ) (act : Act) → is_room (caller_of site sys) address (length bytes) ≡ true → IsUponOne act sys
    → HasEvent act → WantsAt (caller_of site sys).view (caller_of site sys).state.core address
    → new ≡ with_machine (with_part site.part (with_answer value (with_written address bytes (caller_of site sys).state)) sys.machine) sys
    → IsServed site.part (Words bytes) (record { after = with_answer value (with_written address bytes (caller_of site sys).state); emitted = []; upshot = upshot_of act }) (record { note = Saw address (length bytes); act = act }) sys new
unfolding caller_of with_answer with_written
served_shown site sys new address value bytes act room one event wanted new_is = record {
  state = new_is;
  emitted = refl;
  upshot = untraded_act act;
  traffic = still_act sys.machine.system.conf site.part act;
  seen = ap Words (sym (bytes_at-with_bytes (caller_of site sys).state.memory address bytes));
  readable = room_readable site sys address (length bytes) room;
  one = one;
  asked = wanted;
  entered = tt;
  event = event;
}

-- a call wants its answer at an address
abbrev pub AnswersAt : ℕ → Option Observation → Type 0
AnswersAt at observed = IfSome observed (λ call. at ≡ call.address)

-- where an observing call of a number wants its answer
numbered : (site : CallSite) (sys : SysState) (number at : ℕ) → number_of (caller_of site sys) ≡ number
    → AnswersAt at (observing (caller_of site sys).view number (a_of (caller_of site sys)) (b_of (caller_of site sys)) (c_of (caller_of site sys)))
    → WantsAt (caller_of site sys).view (caller_of site sys).state.core at
numbered site sys number at is wanted =
    by caller.view.part.system (subst (λ (n : ℕ). AnswersAt at (observing caller.view n (a_of caller) (b_of caller) (c_of caller))) (sym is) wanted)
  where
    caller : Caller
    caller = caller_of site sys

    by : (system : Bool) → AnswersAt at (observing caller.view (number_of caller) (a_of caller) (b_of caller) (c_of caller))
        → AnswersAt at (if system then observing caller.view (number_of caller) (a_of caller) (b_of caller) (c_of caller) else None)
    by true answers = answers
    by false answers = tt

-- a question about another partition
other_answers : (view : PartitionView) (id : ℕ) (question : Question) (address size at : ℕ) → at ≡ address → AnswersAt at (about_other view id question address size)
other_answers view id question address size at is = by (not (id == view.id) && nat_lt id view.sees.parts)
  where
    by : (b : Bool) → AnswersAt at (then_some b (record { question = question; address = address; size = size }))
    by true = is
    by false = tt

-- what is asked where a test does not refuse
plan_answers : (no_plan : Bool) (call : Observation) (at : ℕ) → at ≡ call.address → AnswersAt at (if no_plan then None else Some call)
plan_answers true call at is = tt
plan_answers false call at is = is

-- each observing call, by its number
pub partition_status_wants : (site : CallSite) (sys : SysState) (at : ℕ) → number_of (caller_of site sys) ≡ 8 → at ≡ b_of (caller_of site sys) → WantsAt (caller_of site sys).view (caller_of site sys).state.core at
partition_status_wants site sys at number is = numbered site sys 8 at number (other_answers (caller_of site sys).view (a_of (caller_of site sys)) (PartitionStatus (a_of (caller_of site sys))) (b_of (caller_of site sys)) 20 at is)

pub system_status_wants : (site : CallSite) (sys : SysState) (at : ℕ) → number_of (caller_of site sys) ≡ 11 → at ≡ a_of (caller_of site sys) → WantsAt (caller_of site sys).view (caller_of site sys).state.core at
system_status_wants site sys at number is = numbered site sys 11 at number is

pub plan_wants : (site : CallSite) (sys : SysState) (at : ℕ) → number_of (caller_of site sys) ≡ 14 → at ≡ b_of (caller_of site sys) → WantsAt (caller_of site sys).view (caller_of site sys).state.core at
plan_wants site sys at number is = numbered site sys 14 at number (plan_answers _ _ at is)

pub plan_status_wants : (site : CallSite) (sys : SysState) (at : ℕ) → number_of (caller_of site sys) ≡ 15 → at ≡ a_of (caller_of site sys) → WantsAt (caller_of site sys).view (caller_of site sys).state.core at
plan_status_wants site sys at number is = numbered site sys 15 at number is

pub trace_read_wants : (site : CallSite) (sys : SysState) (at : ℕ) → number_of (caller_of site sys) ≡ 25 → at ≡ c_of (caller_of site sys) → WantsAt (caller_of site sys).view (caller_of site sys).state.core at
trace_read_wants site sys at number is = numbered site sys 25 at number (other_answers (caller_of site sys).view (a_of (caller_of site sys)) (TraceEntryOf (a_of (caller_of site sys)) (b_of (caller_of site sys))) (c_of (caller_of site sys)) 24 at is)

pub trace_status_wants : (site : CallSite) (sys : SysState) (at : ℕ) → number_of (caller_of site sys) ≡ 26 → at ≡ b_of (caller_of site sys) → WantsAt (caller_of site sys).view (caller_of site sys).state.core at
trace_status_wants site sys at number is = numbered site sys 26 at number (other_answers (caller_of site sys).view (a_of (caller_of site sys)) (TraceCounts (a_of (caller_of site sys))) (b_of (caller_of site sys)) 8 at is)

pub health_read_wants : (site : CallSite) (sys : SysState) (at : ℕ) → number_of (caller_of site sys) ≡ 28 → at ≡ c_of (caller_of site sys) → WantsAt (caller_of site sys).view (caller_of site sys).state.core at
health_read_wants site sys at number is = numbered site sys 28 at number (other_answers (caller_of site sys).view (a_of (caller_of site sys)) (HealthEntryOf (a_of (caller_of site sys)) (b_of (caller_of site sys))) (c_of (caller_of site sys)) 20 at is)

pub health_status_wants : (site : CallSite) (sys : SysState) (at : ℕ) → number_of (caller_of site sys) ≡ 29 → at ≡ b_of (caller_of site sys) → WantsAt (caller_of site sys).view (caller_of site sys).state.core at
health_status_wants site sys at number is = numbered site sys 29 at number (other_answers (caller_of site sys).view (a_of (caller_of site sys)) (HealthCounts (a_of (caller_of site sys))) (b_of (caller_of site sys)) 8 at is)
