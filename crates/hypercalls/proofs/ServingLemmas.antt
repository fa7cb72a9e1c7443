-- Calls that are shown nothing, and numbers that are no call's.
use Rattle.std.proofs.Common.{◌≡◌, ℕ, Bool, true, false, Option, None, Some, refl, sym, ap, ◌∙◌, subst}
use Rattle.std.proofs.lemmas.Bool.{eqb-true}
use Rattle.std.specs.Prelude.{◌==◌, if◌then◌else◌}
use Rattle.machine_model.specs.Caller.{Caller, Served, a_of, b_of, c_of}
use Rattle.machine_model.specs.Calls.{call_of, number_of_call}
use Rattle.machine_model.specs.declared.numbers.Call.{Call}
use Rattle.machine_model.specs.Observed.{observing}
use Rattle.machine_model.specs.Emission.{Sight, Unseen}
use Rattle.machine_model.specs.View.{PartitionView}
use Rattle.machine_model.specs.lemmas.CallLemmas.{call_is_numbered}
use Rattle.sparc_step.specs.Registers.{register_at}
use Rattle.system_state.specs.Serving.{IsServed, caller_of}
use Rattle.system_state.specs.State.{SysState}
use Rattle.system_state.specs.declared.call_site.CallSite.{CallSite}
use Rattle.system_state.specs.declared.served.Served as code
use Rattle.system_state.specs.lemmas.SightLemmas.{shown_for, sight_of_number}

-- the number of the call that a caller makes
abbrev pub number_in : CallSite → SysState → ℕ
number_in site sys = register_at (caller_of site sys).state.core 8

-- a call of this number observes nothing
abbrev pub ObservesNothing : ℕ → Type 0
ObservesNothing n = (view : PartitionView) (a b c : ℕ) → observing view n a b c ≡ None

-- what is shown to a caller whose call observes nothing
nothing_shown : (site : CallSite) (sys : SysState) → ObservesNothing (number_in site sys) → Unseen ≡ (caller_of site sys).sight
nothing_shown site sys nothing = sym (sight_of_number site sys (number_in site sys) refl ∙ ap (λ call. shown_for sys.machine caller call) (at caller.view.part.system))
  where
    caller : Caller
    caller = caller_of site sys

    at : (system : Bool) → (if system then observing caller.view (number_in site sys) (a_of caller) (b_of caller) (c_of caller) else None) ≡ None
    at true = nothing caller.view (a_of caller) (b_of caller) (c_of caller)
    at false = refl

-- such a call was served
pub unseen_of : (site : CallSite) (sys new : SysState) (s : Served) (answer : code.Served) → ObservesNothing (number_in site sys)
    → IsServed site.part Unseen s answer sys new → IsServed site.part (caller_of site sys).sight s answer sys new
unseen_of site sys new s answer nothing = subst (λ (sight : Sight). IsServed site.part sight s answer sys new) (nothing_shown site sys nothing)

-- a call that observes nothing was served
pub unseen : (site : CallSite) (sys new : SysState) (call : Call) (s : Served) (answer : code.Served) → call_of (number_in site sys) ≡ Some call
    → ObservesNothing (number_of_call call) → IsServed site.part Unseen s answer sys new → IsServed site.part (caller_of site sys).sight s answer sys new
unseen site sys new call s answer is nothing =
    unseen_of site sys new s answer (subst ObservesNothing (sym (call_is_numbered (number_in site sys) call is)) nothing)

-- a number of no call is another than that of a call
differs : (n k : ℕ) (call : Call) → call_of n ≡ None → call_of k ≡ Some call → (n == k) ≡ false
differs n k call unknown is = at (n == k) refl
  where
    at : (b : Bool) → (n == k) ≡ b → b ≡ false
    at true same = absurd (let no : Some call ≡ None = sym is ∙ ap call_of (sym (eqb-true n k same)) ∙ unknown in cc)
    at false other = refl

-- it observes nothing
pub unknown_unseen : (n : ℕ) → call_of n ≡ None → ObservesNothing n
unknown_unseen n unknown view a b c = rw (differs n 8 _ unknown refl, differs n 11 _ unknown refl, differs n 14 _ unknown refl, differs n 15 _ unknown refl, differs n 25 _ unknown refl, differs n 26 _ unknown refl, differs n 28 _ unknown refl, differs n 29 _ unknown refl) refl
