use Rattle.std.proofs.Common.{◌∙◌, ap, rules, List}
use Rattle.xmcf_check.specs.Described.{hm_of}
use Rattle.xmcf_check.specs.Elements.{element_answer, element_area, element_need, element_port, mask_of}
use Rattle.xmcf_check.specs.declared.elements.Given.{Given}
use Rattle.xmcf_check.proofs.PartLemmas.{part_gathered}
use Rattle.xmcf_check.proofs.gathering.partitions.part.Goals as goal

pub returns : goal.returns
returns c =
    let given = c.in_ok-given.ensures element_answer (λ element found called. search rules) in
    let areas = c.in_ok-areas.ensures element_area (λ element found called. search rules) in
    let ports = c.in_ok-ports.ensures element_port (λ element found called. search rules) in
    let need = c.first_of_children-need.ensures element_need (λ element found called. search rules) in
    let mask = c.first_of_children-mask.ensures mask_of (λ element found called. search rules) in
    part_gathered c.args.uarts.now c.args.number c.args.entries.now c.within-inside.result.now c.args.own.now _ _ c.first_of_children-mask.result _ _ _ _ c.requires.draft c.within-inside.ensures c.console.ensures need mask c.unwrap_or.ensures
    (c.table.ensures ∙ ap (λ (given : List Given). hm_of given) (c.deref.ensures.value ∙ given)) areas ports
