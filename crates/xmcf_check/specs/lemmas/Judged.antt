-- What is gathered of a description, and what it means to judge it.
use Rattle.std.specs.Prelude.{◌≡◌, ◌<◌, ◌==◌, List, length, map, All, Option, Some, None, Result, Ok, Err}
use Rattle.std.specs.List.{find}
use Rattle.xm_conf.specs.Configuration.{Conf}
use Rattle.xm_conf.specs.Description.{Ids, HealthAnswer, Monitor, Description}
use Rattle.xm_conf.specs.Health.{default_action, event_row, events}
use Rattle.xm_conf.specs.Limits.{most_parts}
use Rattle.xm_conf.specs.Rules.{first_broken}
use Rattle.xm_conf.specs.declared.health.Event.{Event}
use Rattle.xm_conf.specs.declared.health.Action.{Action}
use Rattle.xm_conf.specs.declared.part.HmTable.{HmTable}
use Rattle.xm_conf.specs.declared.item.Broken.{Broken}
use Rattle.xmcf_check.specs.lemmas.Capped.{capped_conf}
use Rattle.xmcf_check.specs.lemmas.Gathered.{Gathered}

-- the action of an answer to an event, or the default where there is none
abbrev pub action_or_default : Event → Option HealthAnswer → Action
action_or_default e None = default_action e
action_or_default e (Some answer) = answer.action

-- the action for an event: that of the first answer to it, or the default
unfoldable pub action_for : List HealthAnswer → Event → Action
action_for answers e = action_or_default e (find (λ answer. (event_row answer.event).number == (event_row e).number) answers)

-- the table of what a partition says of health events
unfoldable pub health_table_of : Monitor → HmTable
health_table_of monitor = record { actions = map (action_for monitor.answers) events; logged = monitor.logged }

-- what is gathered of its parts
abbrev pub gathered_of : Conf → Ids → List (List HealthAnswer) → Gathered
gathered_of raw ids answers = record { raw = raw; ids = ids; answers = answers }

-- there are as many ids as items that have them, and answers for each partition
pub record HasSizes (g : Gathered) : Type 0 where
  pub uarts : length g.ids.uarts ≡ length g.raw.uarts
  pub slots : map (λ plan. length plan.slots) g.ids.plans ≡ map (λ plan. length plan.slots) g.raw.plans
  pub parts : length g.ids.parts ≡ length g.raw.parts
  pub answers : length g.answers ≡ length g.raw.parts

-- what is gathered is a description's
pub record Gathers (g : Gathered) (d : Description) : Type 0 where
  pub conf : g.raw ≡ capped_conf d.conf
  pub ids : g.ids ≡ d.ids
  pub answers : g.answers ≡ map (λ monitor. monitor.answers) d.monitors
  pub logged : All (λ monitor. monitor.logged < 4096) d.monitors
  pub tables : map (λ part. part.hm) d.conf.parts ≡ map health_table_of d.monitors
  pub sizes : HasSizes g

-- what is reported of a description: its configuration, which breaks no rule, or the first rule that is broken
abbrev pub Judges : Result Conf Broken → Description → Type 0
Judges (Ok conf) d = (first_broken most_parts d ≡ None) × (conf ≡ d.conf)
Judges (Err broken) d = first_broken most_parts d ≡ Some broken
