use Rattle.std.proofs.Common.{◌≡◌, ◌<◌, List, get_or, ap, sym, ◌∙◌, arith}
use Rattle.std.specs.Prelude.{map}
use Rattle.std.proofs.lemmas.List.{ext_get_or, get_or-map}
use Rattle.xm_conf.specs.Health.{default_action, events}
use Rattle.xm_conf.specs.declared.health.Action.{Action}
use Rattle.xm_conf.specs.declared.health.Action.TheVariants.{Halt}
use Rattle.xm_conf.specs.declared.health.Event.TheVariants.{PartitionError}
use Rattle.xm_conf.specs.declared.part.HmTable.{HmTable}
use Rattle.loaded_system.proofs.raw_image.default_table.Goals as goal

pub returns : goal.returns
returns c =
    let table : (List Action → HmTable) = λ actions. record { actions = actions; logged = 0xfff } in
    let is : c.map.result ≡ map default_action events =
    ext_get_or Halt c.map.result (map default_action events) c.map.ensures.items.long (λ i below.
    let there : i < 12 = omega (arith, below, c.map.ensures.items.long) in
    let gives = (c.map.ensures.items.at i PartitionError Halt there).2 in
    let given : get_or c.map.result i Halt ≡ default_action (get_or events i PartitionError) = search gives in
    given ∙ sym (get_or-map default_action events i PartitionError Halt there)) in
    record { value = ap table is }
