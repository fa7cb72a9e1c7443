-- The call on links as the code does it.
use Rattle.std.proofs.Common.{◌≡◌, ℕ, ◌<◌, ◌≤◌, Bool, true, false, cond, List, [], ◌∷◌, length, Option, None, Some, refl, sym, ap, ◌∙◌, arith, subst}
use Rattle.std.specs.Prelude.{◌==◌, ◌&&◌, ◌≢◌, not, if◌then◌else◌, is_some, All, IfSome}
use Rattle.std.specs.List.{find}
use Rattle.std.proofs.lemmas.Bool.{eqb-true}
use Rattle.std.proofs.lemmas.List.Elements.{All-head, All-tail}
use Rattle.std.proofs.lemmas.Option.{same_Some}
use Rattle.xm_base.specs.Options.{on}
use Rattle.xm_conf.specs.Configuration.{Conf}
use Rattle.xm_conf.specs.Description.{described}
use Rattle.xm_conf.specs.Fits.{Fits, IsLink}
use Rattle.xm_conf.specs.View.{is_link_of, link_of}
use Rattle.xm_conf.specs.declared.link.Link.{Link}
use Rattle.machine_model.specs.Caller.{Caller, Served, a_of, acting, answering, invalid_parameter, refused_if, tested, with_answer}
use Rattle.machine_model.specs.LinkCalls.{raise_ipvi}
use Rattle.machine_model.specs.lemmas.LinkLemmas.{has_link}
use Rattle.machine_model.specs.Emission.{OwnSignals, Trades, Unseen}
use Rattle.machine_model.specs.Traffic.{Signals, hearing}
use Rattle.machine_model.specs.View.{has_number, linked, unless_itself, view_of}
use Rattle.span_model.specs.Passes.{with_traffic}
use Rattle.port_calls.specs.lemmas.Links.{GoesTo}
use Rattle.port_calls.proofs.TradeLemmas.{signal_trades}
use Rattle.system_state.specs.Serving.{IsServed, caller_of}
use Rattle.system_state.specs.State.{SysState, part_at, with_machine, with_part}
use Rattle.system_state.specs.declared.call_site.CallSite.{CallSite}
use Rattle.system_state.specs.declared.served.Act.TheVariants as act
use Rattle.system_state.specs.declared.served.Note.TheVariants as note

-- a link that is found is one of those that meet the rules
found_fits : (parts q number dest : ℕ) (links : List Link) → All (IsLink parts) links → on (λ link. link.dest) (find (is_link_of q number) links) ≡ Some dest
    → (number < 8) × (dest < parts) × (dest ≢ q)
unfolding is_link_of
found_fits parts q number dest [] all is = absurd cc
found_fits parts q number dest (link ∷ links) all is =
    by (link.source == q) (link.number == number) refl refl is (found_fits parts q number dest links (All-tail (IsLink parts) link links all))
  where
    by : (a b : Bool) → (link.source == q) ≡ a → (link.number == number) ≡ b
        → on (λ (one : Link). one.dest) (cond (a && b) (Some link) (find (is_link_of q number) links)) ≡ Some dest
        → (on (λ (one : Link). one.dest) (find (is_link_of q number) links) ≡ Some dest → (number < 8) × (dest < parts) × (dest ≢ q)) → (number < 8) × (dest < parts) × (dest ≢ q)
    by true true source same said further =
        let its : IsLink parts link = All-head (IsLink parts) link links all in
        let small : link.number < 8 = its.number in
        let there : link.dest < parts = its.dest in
        let its_number : link.number ≡ number = eqb-true link.number number same in
        let its_source : link.source ≡ q = eqb-true link.source q source in
        let its_dest : link.dest ≡ dest = same_Some link.dest dest said in
        (omega (arith, small, its_number), omega (arith, there, its_dest), λ e. its.differ (its_source ∙ sym e ∙ sym its_dest))
    by true false source other said further = further said
    by false b other same said further = further said

goes : (conf : Conf) (q number dest : ℕ) → Fits (described conf) → link_of conf q number ≡ Some dest → GoesTo conf q number dest
unfolding described link_of
goes conf q number dest fits is =
    let found = found_fits (length conf.parts) q number dest conf.links fits.links_suit is in
    record { small = found.0; there = found.1; differ = found.2 }

pub each_goes : (conf : Conf) (q number : ℕ) (o : Option ℕ) → Fits (described conf) → o ≡ link_of conf q number → IfSome o (λ dest. GoesTo conf q number dest)
each_goes conf q number None fits is = tt
each_goes conf q number (Some dest) fits is = goes conf q number dest fits (sym is)

-- and where no link has so great a number there is none
pub none_past : (conf : Conf) (q number : ℕ) → Fits (described conf) → 8 ≤ number → None ≡ link_of conf q number
none_past conf q number fits past = by (link_of conf q number) refl
  where
    by : (o : Option ℕ) → link_of conf q number ≡ o → None ≡ o
    by None is = refl
    by (Some dest) is = absurd (let its = goes conf q number dest fits is in let small : number < 8 = its.small in omega (arith, past, small))

-- the call that is refused, and the one that is not
refused_call : (caller : Caller) → has_number caller.view.links (a_of caller) ≡ false → raise_ipvi caller ≡ answering invalid_parameter caller.state
unfolding raise_ipvi
refused_call caller none = ap (λ (b : Bool). tested (refused_if (not b) invalid_parameter ∷ []) caller (acting (Trades (OwnSignals (a_of caller))) 0 caller.state)) none

passed_call : (caller : Caller) → has_number caller.view.links (a_of caller) ≡ true → raise_ipvi caller ≡ acting (Trades (OwnSignals (a_of caller))) 0 caller.state
unfolding raise_ipvi
passed_call caller has = ap (λ (b : Bool). tested (refused_if (not b) invalid_parameter ∷ []) caller (acting (Trades (OwnSignals (a_of caller))) 0 caller.state)) has

-- whether the caller has the link
looked_for : (site : CallSite) (sys : SysState) (o : Option ℕ) → link_of sys.machine.system.conf site.part (a_of (caller_of site sys)) ≡ o
    → has_number (caller_of site sys).view.links (a_of (caller_of site sys)) ≡ is_some o
unfolding caller_of
looked_for site sys o is = has_link sys.machine.system site.part (a_of (caller_of site sys)) ∙ ap is_some is

pub is_refused : (site : CallSite) (sys : SysState) → link_of sys.machine.system.conf site.part (a_of (caller_of site sys)) ≡ None
    → answering invalid_parameter (caller_of site sys).state ≡ raise_ipvi (caller_of site sys)
is_refused site sys none = sym (refused_call (caller_of site sys) (looked_for site sys None none))

-- a link to another partition
other_end : (conf : Conf) (p number dest : ℕ) → link_of conf p number ≡ Some dest → dest ≢ p → linked conf p number ≡ Some dest
unfolding linked
other_end conf p number dest is differ = ap (unless_itself p) is ∙ at (dest == p) refl
  where
    at : (b : Bool) → (dest == p) ≡ b → (if b then None else Some dest) ≡ Some dest
    at true same = absurd (differ (eqb-true dest p same))
    at false other = refl

-- a call that signals
pub signals : (site : CallSite) (old set new : SysState) (number dest : ℕ) → a_of (caller_of site old) ≡ number → link_of old.machine.system.conf site.part number ≡ Some dest
    → GoesTo old.machine.system.conf site.part number dest → dest < length set.machine.parts
    → set ≡ with_machine (with_part site.part (with_answer 0 (caller_of site old).state) old.machine) old
    → new ≡ with_machine (with_part dest (hearing (view_of set.machine.system dest) (OwnSignals number) (part_at dest set.machine)) set.machine) set
    → IsServed site.part Unseen (raise_ipvi (caller_of site old)) (record { note = note.Signal number; act = act.Nothing }) old new
signals site old set new number dest number_is found goes below set_is new_is =
    let caller = caller_of site old in
    let has : has_number caller.view.links (a_of caller) ≡ true = looked_for site old (Some dest) (ap (link_of old.machine.system.conf site.part) number_is ∙ found) in
    let call : acting (Trades (OwnSignals number)) 0 caller.state ≡ raise_ipvi caller =
    ap (λ n. acting (Trades (OwnSignals n)) 0 caller.state) (sym number_is) ∙ sym (passed_call caller has)
    in
    let conf_is : set.machine.system.conf ≡ old.machine.system.conf = ap (λ (s : SysState). s.machine.system.conf) set_is in
    let goes_so : linked set.machine.system.conf site.part number ≡ Some dest =
    ap (λ (conf : Conf). linked conf site.part number) conf_is ∙ other_end old.machine.system.conf site.part number dest found goes.differ
    in
    subst (λ (s : Served). IsServed site.part Unseen s (record { note = note.Signal number; act = act.Nothing }) old new) call (record {
      state = new_is
          ∙ ap (λ g. with_machine g set) (signal_trades set.machine site.part number dest goes_so below)
          ∙ ap (λ (s : SysState). with_machine (with_traffic (Signals site.part number) s.machine) s) set_is;
      emitted = refl;
      upshot = refl;
      traffic = refl;
      seen = refl;
      readable = tt;
      one = tt;
      asked = tt;
      entered = tt;
      event = tt;
    })
