-- What the rules speak of: a configuration with the ids and the answers to health events that its description gives.
use Rattle.std.specs.Prelude.{ℕ, List, [], ◌∷◌, map, slice_index_or}
use Rattle.xm_conf.specs.Along.{added_by_each}
use Rattle.xm_conf.specs.Configuration.{Conf, Part, Plan}
use Rattle.xm_conf.specs.Health.{events}
use Rattle.xm_conf.specs.declared.health.Event.{Event}
use Rattle.xm_conf.specs.declared.health.Event.TheVariants.{PartitionError}
use Rattle.xm_conf.specs.declared.health.Action.{Action}

-- the ids that a plan gives itself and its slots
pub record PlanIds : Type 0 where
  pub plan : ℕ
  pub slots : List ℕ

-- the ids of all that has one
pub record Ids : Type 0 where
  pub processor : ℕ
  pub uarts : List ℕ
  pub plans : List PlanIds
  pub parts : List ℕ

-- an answer to a health event
pub record HealthAnswer : Type 0 where
  pub event : Event
  pub action : Action

-- what a partition says of health events: the flags of those that are logged, and its answers by the events' numbers
pub record Monitor : Type 0 where
  pub logged : ℕ
  pub answers : List HealthAnswer

-- a description of a configuration. Its numbers may be greater than a field can hold
pub record Description : Type 0 where
  pub ids : Ids
  pub monitors : List Monitor
  pub conf : Conf

-- the numbers from 0 on, one for each element
abbrev pub numbers : {X : Type 0} → List X → List ℕ
numbers xs = added_by_each (λ n x. n ∷ []) xs

-- the ids that a plan and its slots have by their places
abbrev pub plan_ids : ℕ → Plan → List PlanIds
plan_ids n plan = record { plan = n; slots = numbers plan.slots } ∷ []

-- the ids that all have by their places
unfoldable pub ids_of : Conf → Ids
ids_of conf = record { processor = 0; uarts = numbers conf.uarts; plans = added_by_each plan_ids conf.plans; parts = numbers conf.parts }

-- the event of a number
unfoldable pub event_numbered : ℕ → Event
event_numbered n = slice_index_or events n PartitionError

-- the answer to the event of a number
abbrev pub answer_of : ℕ → Action → List HealthAnswer
answer_of n action = record { event = event_numbered n; action = action } ∷ []

-- what a partition's table says of health events: its actions answer the events 0, 1, 2 and so on
unfoldable pub monitor_of : Part → Monitor
monitor_of part = record { logged = part.hm.logged; answers = added_by_each answer_of part.hm.actions }

-- a configuration describes itself: each id is the place, and each event has one answer
unfoldable pub described : Conf → Description
described conf = record { ids = ids_of conf; monitors = map monitor_of conf.parts; conf = conf }
