-- A partition has a line of steering exactly where it may steer others.
use Rattle.std.proofs.Common.{◌≡◌, ◌≢◌, ◌⊎◌, ℕ, zero, suc, Bool, true, false, List, [], ◌∷◌, ◌++◌, Some, refl, sym, ap, ◌∙◌, inl, inr}
use Rattle.std.specs.Prelude.{if◌then◌else◌, slice_get, slice_index_or}
use Rattle.std.specs.List.{flat_map}
use Rattle.std.proofs.lemmas.Option.{same_Some}
use Rattle.health_monitor.specs.Monitor.{action_in}
use Rattle.xm_conf.specs.Configuration.{Part}
use Rattle.xm_conf.specs.Health.{event_row, events}
use Rattle.xm_conf.specs.declared.health.Action.{Action}
use Rattle.xm_conf.specs.declared.health.Event.{Event}
use Rattle.xm_conf.specs.declared.health.Event.TheVariants as event
use Rattle.xm_conf.specs.declared.part.HmTable.{HmTable}
use Rattle.machine_model.specs.View.{System, no_part, part_of, view_of}
use Rattle.xm_flows.specs.Rights.{MaySteer, reaches_all}
use Rattle.builders.specs.Steering.{ShowsSteerers, answer_line, answer_lines, flag_line, flag_lines, steering_lines, table_lines}

-- the entry of a partition that is there
entry_is : (parts : List Part) (p : ℕ) (part : Part) → slice_get parts p ≡ Some part → slice_index_or parts p no_part ≡ part
entry_is [] p part there = absurd cc
entry_is (first ∷ parts) zero part there = same_Some first part there
entry_is (first ∷ parts) (suc p) part there = entry_is parts p part there

part_is : (system : System) (p : ℕ) (part : Part) → slice_get system.conf.parts p ≡ Some part → (view_of system p).part ≡ part
unfolding view_of part_of
part_is system p part there = entry_is system.conf.parts p part there

-- an event whose action reaches all
record Reaches (table : HmTable) : Type 0 where
  event : Event
  reaches : reaches_all (action_in table event) ≡ true

line_some : (p : ℕ) (an_event : Event) (action : Action) → answer_line p an_event action ≡ [] → ⊥
unfolding answer_line
line_some p an_event action is = absurd cc

flag_some : (p : ℕ) (rest : List ℕ) → flag_line p ++ rest ≡ [] → ⊥
unfolding flag_line
flag_some p rest is = absurd cc

parts_none : (xs ys : List ℕ) → xs ++ ys ≡ [] → (xs ≡ []) × (ys ≡ [])
parts_none [] ys is = (refl, is)
parts_none (x ∷ xs) ys is = absurd cc

-- where there is a line, some action reaches all
found : (p : ℕ) (table : HmTable) (some : List Event) → flat_map (λ e. answer_lines p e (action_in table e)) some ≢ [] → Reaches table
found p table [] lines = absurd (lines refl)
found p table (one ∷ some) lines = by (reaches_all (action_in table one)) refl lines (λ rest. found p table some rest)
  where
    by : (b : Bool) → reaches_all (action_in table one) ≡ b → ((if b then answer_line p one (action_in table one) else []) ++ flat_map (λ e. answer_lines p e (action_in table e)) some ≢ [])
        → (flat_map (λ e. answer_lines p e (action_in table e)) some ≢ [] → Reaches table) → Reaches table
    by true reaches lines further = record { event = one; reaches = reaches }
    by false reaches lines further = further lines

-- where there is none, none does
none_at : (p : ℕ) (table : HmTable) (some : List Event) (k : ℕ) (one : Event) → slice_get some k ≡ Some one
    → flat_map (λ e. answer_lines p e (action_in table e)) some ≡ [] → answer_lines p one (action_in table one) ≡ []
none_at p table [] k one there none = absurd cc
none_at p table (first ∷ some) zero one there none =
    ap (λ e. answer_lines p e (action_in table e)) (sym (same_Some first one there)) ∙ (parts_none (answer_lines p first (action_in table first)) _ none).0
none_at p table (first ∷ some) (suc k) one there none =
    none_at p table some k one there (parts_none (answer_lines p first (action_in table first)) _ none).1

event_at : (e : Event) → slice_get events (event_row e).number ≡ Some e
event_at event.PartitionError = refl
event_at event.MemProtection = refl
event_at event.UnexpectedTrap = refl
event_at event.SparcIllegalInstruction = refl
event_at event.SparcPrivilegedInstruction = refl
event_at event.SparcFpDisabled = refl
event_at event.SparcCpDisabled = refl
event_at event.SparcAddressNotAligned = refl
event_at event.SparcTagOverflow = refl
event_at event.SparcDivideException = refl
event_at event.SparcInstrAccess = refl
event_at event.SparcDataAccess = refl

reaching_some : (p : ℕ) (table : HmTable) (e : Event) → reaches_all (action_in table e) ≡ true → answer_lines p e (action_in table e) ≡ [] → ⊥
reaching_some p table e reaches none =
    line_some p e (action_in table e) (sym (ap (λ (b : Bool). if b then answer_line p e (action_in table e) else []) reaches) ∙ none)

steers : (p : ℕ) (part : Part) → steering_lines p part ≢ [] → (part.system ≡ true) ⊎ Reaches part.hm
unfolding steering_lines
steers p part lines = by part.system refl lines
  where
    by : (b : Bool) → part.system ≡ b → (flag_lines p b ++ table_lines p part.hm ≢ []) → (part.system ≡ true) ⊎ Reaches part.hm
    by true is lines = inl is
    by false is lines = inr (found p part.hm events lines)

shown : (p : ℕ) (part : Part) → (part.system ≡ true) ⊎ Reaches part.hm → steering_lines p part ≢ []
unfolding steering_lines
shown p part (inl is) none = flag_some p (table_lines p part.hm) (sym (ap (λ (b : Bool). flag_lines p b ++ table_lines p part.hm) is) ∙ none)
shown p part (inr its) none =
    reaching_some p part.hm its.event its.reaches
    (none_at p part.hm events (event_row its.event).number its.event (event_at its.event) (parts_none (flag_lines p part.system) (table_lines p part.hm) none).1)

to_view : (system : System) (p : ℕ) (part : Part) → (view_of system p).part ≡ part → (part.system ≡ true) ⊎ Reaches part.hm → MaySteer (view_of system p)
to_view system p part is (inl flag) = inl (ap (λ (x : Part). x.system) is ∙ flag)
to_view system p part is (inr its) = inr (record { event = its.event; reaches = ap (λ (x : Part). reaches_all (action_in x.hm its.event)) is ∙ its.reaches })

of_view : (system : System) (p : ℕ) (part : Part) → (view_of system p).part ≡ part → MaySteer (view_of system p) → (part.system ≡ true) ⊎ Reaches part.hm
of_view system p part is (inl flag) = inl (sym (ap (λ (x : Part). x.system) is) ∙ flag)
of_view system p part is (inr its) = inr (record { event = its.event; reaches = sym (ap (λ (x : Part). reaches_all (action_in x.hm its.event)) is) ∙ its.reaches })

pub shows_steerers : ShowsSteerers
shows_steerers system p part there =
    let is = part_is system p part there in
    (λ lines. to_view system p part is (steers p part lines), λ may. shown p part (of_view system p part is may))
