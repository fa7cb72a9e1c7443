-- The table of a partition's health events breaks no rule where its answers break none.
use Rattle.std.proofs.Common.{◌≡◌, ℕ, ◌+◌, ◌<◌, if◌then◌else◌, nat_lt, Bool, true, false, List, [], ◌∷◌, ◌++◌, length, map, Some, refl, sym, ap, ◌∙◌, subst, arith}
use Rattle.std.specs.Prelude.{◌==◌, All}
use Rattle.std.specs.List.{find}
use Rattle.std.proofs.lemmas.List.Elements.{All-head, All-tail}
use Rattle.std.proofs.lemmas.Bool.Decides.{nat_tests}
use Rattle.xm_conf.specs.Along.{added_by_each, each_from, along, along_from, unless}
use Rattle.xm_conf.specs.Configuration.{Part}
use Rattle.xm_conf.specs.Description.{HealthAnswer, Monitor, event_numbered, answer_of, monitor_of}
use Rattle.xm_conf.specs.Health.{default_action, event_row, events, is_allowed}
use Rattle.xm_conf.specs.Rules as rules
use Rattle.xm_conf.specs.declared.health.Event.{Event}
use Rattle.xm_conf.specs.declared.health.Event.TheVariants as event
use Rattle.xm_conf.specs.declared.health.Action.{Action}
use Rattle.xm_conf.specs.declared.part.HmTable.{HmTable}
use Rattle.xm_conf.specs.declared.item.Item.TheVariants as item
use Rattle.xmcf_check.specs.lemmas.Answered.{answers_broken}
use Rattle.xmcf_check.specs.lemmas.Capped.{capped_part}
use Rattle.xmcf_check.specs.lemmas.Judged.{action_or_default, action_for, health_table_of}
use Rattle.xmcf_check.proofs.ListLemmas.{both, front_none, back_none}
use Rattle.xmcf_check.proofs.CappedChanLemmas.{unless_none}

-- the event of its number
event_numbered-number : (e : Event) → event_numbered (event_row e).number ≡ e
unfolding event_numbered
event_numbered-number event.PartitionError = refl
event_numbered-number event.MemProtection = refl
event_numbered-number event.UnexpectedTrap = refl
event_numbered-number event.SparcIllegalInstruction = refl
event_numbered-number event.SparcPrivilegedInstruction = refl
event_numbered-number event.SparcFpDisabled = refl
event_numbered-number event.SparcCpDisabled = refl
event_numbered-number event.SparcAddressNotAligned = refl
event_numbered-number event.SparcTagOverflow = refl
event_numbered-number event.SparcDivideException = refl
event_numbered-number event.SparcInstrAccess = refl
event_numbered-number event.SparcDataAccess = refl

-- events of one number are one
same_number : (a b : Event) → ((event_row a).number == (event_row b).number) ≡ true → a ≡ b
same_number a b same =
    let is : (event_row a).number ≡ (event_row b).number = grind (arith, nat_tests) in
    sym (event_numbered-number a) ∙ ap event_numbered is ∙ event_numbered-number b

-- an action may answer an event, where there are this many plans
pub record Stands (plans : ℕ) (e : Event) (action : Action) : Type 0 where
  pub allowed : is_allowed e action ≡ true
  pub planned : rules.has_plan plans action ≡ true

-- the default may answer each event
default_stands : (plans : ℕ) (e : Event) → Stands plans e (default_action e)
default_stands plans event.PartitionError = record { allowed = refl; planned = refl }
default_stands plans event.MemProtection = record { allowed = refl; planned = refl }
default_stands plans event.UnexpectedTrap = record { allowed = refl; planned = refl }
default_stands plans event.SparcIllegalInstruction = record { allowed = refl; planned = refl }
default_stands plans event.SparcPrivilegedInstruction = record { allowed = refl; planned = refl }
default_stands plans event.SparcFpDisabled = record { allowed = refl; planned = refl }
default_stands plans event.SparcCpDisabled = record { allowed = refl; planned = refl }
default_stands plans event.SparcAddressNotAligned = record { allowed = refl; planned = refl }
default_stands plans event.SparcTagOverflow = record { allowed = refl; planned = refl }
default_stands plans event.SparcDivideException = record { allowed = refl; planned = refl }
default_stands plans event.SparcInstrAccess = record { allowed = refl; planned = refl }
default_stands plans event.SparcDataAccess = record { allowed = refl; planned = refl }

-- an answer that breaks nothing stands
answer_stands : (plans p : ℕ) (before : List HealthAnswer) (a : HealthAnswer) → rules.answer_broken plans p before a ≡ [] → Stands plans a.event a.action
unfolding rules.answer_broken
answer_stands plans p before a none = record {
  allowed = unless_none _ (rules.alone 19 (item.Event p (length before))) (front_none _ _ (front_none _ _ none));
  planned = unless_none _ (rules.alone 19 (item.Event p (length before))) (back_none _ _ none);
}

-- where no answer breaks a rule, the action for each event stands
actions_stand : (plans p : ℕ) (before answers : List HealthAnswer) (e : Event) → along_from (rules.answer_broken plans p) before answers ≡ []
    → Stands plans e (action_for answers e)
unfolding action_for
actions_stand plans p before [] e none = default_stands plans e
actions_stand plans p before (a ∷ answers) e none =
    at ((event_row a.event).number == (event_row e).number) refl (answer_stands plans p before a (front_none _ _ none))
    (actions_stand plans p (before ++ a ∷ []) answers e (back_none _ _ none))
  where
    at : (t : Bool) → ((event_row a.event).number == (event_row e).number) ≡ t → Stands plans a.event a.action
        → Stands plans e (action_or_default e (find (λ b. (event_row b.event).number == (event_row e).number) answers))
        → Stands plans e (action_or_default e (if t then Some a else find (λ b. (event_row b.event).number == (event_row e).number) answers))
    at true same first rest = subst (λ (x : Event). Stands plans x a.action) (same_number a.event e same) first
    at false other first rest = rest

-- an action that stands, for an event that no earlier answer is to
numbered_none : (plans p : ℕ) (before : List HealthAnswer) (a : HealthAnswer) → Stands plans a.event a.action
    → rules.repeated 19 (item.Event p) rules.same_event before a ≡ [] → rules.answer_broken plans p before a ≡ []
unfolding rules.answer_broken
numbered_none plans p before a stands once =
    both (both (ap (λ t. unless t (rules.alone 19 (item.Event p (length before)))) stands.allowed) once)
    (ap (λ t. unless t (rules.alone 19 (item.Event p (length before)))) stands.planned)

-- a table's actions break no rule, where each stands
table_none : (plans p : ℕ) (f : Event → Action) → ((e : Event) → Stands plans e (f e))
    → along (rules.answer_broken plans p) (added_by_each answer_of (map f events)) ≡ []
unfolding event_numbered rules.same_event
table_none plans p f stands =
    both (numbered_none plans p _ _ (stands event.PartitionError) refl)
    (both (numbered_none plans p _ _ (stands event.MemProtection) refl)
    (both (numbered_none plans p _ _ (stands event.UnexpectedTrap) refl)
    (both (numbered_none plans p _ _ (stands event.SparcIllegalInstruction) refl)
    (both (numbered_none plans p _ _ (stands event.SparcPrivilegedInstruction) refl)
    (both (numbered_none plans p _ _ (stands event.SparcFpDisabled) refl)
    (both (numbered_none plans p _ _ (stands event.SparcCpDisabled) refl)
    (both (numbered_none plans p _ _ (stands event.SparcAddressNotAligned) refl)
    (both (numbered_none plans p _ _ (stands event.SparcTagOverflow) refl)
    (both (numbered_none plans p _ _ (stands event.SparcDivideException) refl)
    (both (numbered_none plans p _ _ (stands event.SparcInstrAccess) refl)
    (both (numbered_none plans p _ _ (stands event.SparcDataAccess) refl)
    refl)))))))))))

-- what a table says of health events
abbrev monitor_from : HmTable → Monitor
monitor_from table = record { logged = table.logged; answers = added_by_each answer_of table.actions }

-- a partition's table is what it says
monitor_of-capped : (part : Part) → monitor_of (capped_part part) ≡ monitor_from part.hm
unfolding monitor_of capped_part
monitor_of-capped part = refl

-- a table of answers that break no rule
monitor_none : (plans p : ℕ) (monitor : Monitor) → monitor.logged < 4096 → answers_broken plans p monitor.answers ≡ []
    → rules.monitor_broken plans p (monitor_from (health_table_of monitor)) ≡ []
unfolding rules.monitor_broken answers_broken health_table_of
monitor_none plans p monitor small none =
    let passes : nat_lt monitor.logged 4096 ≡ true = grind (arith, nat_tests) in
    both (ap (λ t. unless t (rules.alone 19 (item.Part p))) passes)
    (table_none plans p (action_for monitor.answers) (λ e. actions_stand plans p [] monitor.answers e none))

-- tables of answers that break no rule
tables_from : (plans n : ℕ) (monitors : List Monitor) → All (λ monitor. monitor.logged < 4096) monitors
    → each_from (answers_broken plans) n (map (λ monitor. monitor.answers) monitors) ≡ []
    → each_from (rules.monitor_broken plans) n (map monitor_from (map health_table_of monitors)) ≡ []
tables_from plans n [] small none = refl
tables_from plans n (monitor ∷ monitors) small none =
    both (monitor_none plans n monitor (All-head (λ monitor. monitor.logged < 4096) monitor monitors small) (front_none _ _ none))
    (tables_from plans (n + 1) monitors (All-tail (λ monitor. monitor.logged < 4096) monitor monitors small) (back_none _ _ none))

-- what partitions' tables say
monitors-capped : (parts : List Part) → map monitor_of (map capped_part parts) ≡ map monitor_from (map (λ part. part.hm) parts)
monitors-capped [] = refl
monitors-capped (part ∷ parts) =
    ap (λ m. m ∷ map monitor_of (map capped_part parts)) (monitor_of-capped part) ∙ ap (λ ms. monitor_from part.hm ∷ ms) (monitors-capped parts)

-- partitions whose tables are those of answers that break no rule
pub tables_none : (plans : ℕ) (monitors : List Monitor) (parts : List Part) → All (λ monitor. monitor.logged < 4096) monitors
    → map (λ part. part.hm) parts ≡ map health_table_of monitors → added_by_each (answers_broken plans) (map (λ monitor. monitor.answers) monitors) ≡ []
    → rules.rule_19 plans (map monitor_of (map capped_part parts)) ≡ []
unfolding rules.rule_19
tables_none plans monitors parts small tables none =
    ap (λ ms. added_by_each (rules.monitor_broken plans) ms) (monitors-capped parts ∙ ap (λ ts. map monitor_from ts) tables)
    ∙ tables_from plans 0 monitors small none

-- what a partition says of health events breaks a rule by its answers alone
answers_from : (plans n : ℕ) (monitors : List Monitor) → All (λ monitor. monitor.logged < 4096) monitors
    → each_from (answers_broken plans) n (map (λ monitor. monitor.answers) monitors) ≡ each_from (rules.monitor_broken plans) n monitors
unfolding rules.monitor_broken answers_broken
answers_from plans n [] small = refl
answers_from plans n (monitor ∷ monitors) small =
    let below : monitor.logged < 4096 = All-head (λ monitor. monitor.logged < 4096) monitor monitors small in
    let passes : nat_lt monitor.logged 4096 ≡ true = grind (arith, nat_tests) in
    both (ap (λ t. unless t (rules.alone 19 (item.Part n)) ++ along (rules.answer_broken plans n) monitor.answers) (sym passes))
    (answers_from plans (n + 1) monitors (All-tail (λ monitor. monitor.logged < 4096) monitor monitors small))

-- what partitions say of health events breaks a rule by their answers alone
pub answers_reported : (plans : ℕ) (monitors : List Monitor) → All (λ monitor. monitor.logged < 4096) monitors
    → added_by_each (answers_broken plans) (map (λ monitor. monitor.answers) monitors) ≡ rules.rule_19 plans monitors
unfolding rules.rule_19
answers_reported plans monitors small = answers_from plans 0 monitors small
