use Rattle.xmcf_check.proofs.WholeLemmas.{conf_gathered}
use Rattle.xmcf_check.proofs.gathering.raw.Goals as goal

pub returns : goal.returns
returns c =
    conf_gathered c.args.entries.now c.system_name.result c.in_ok-regions.field-0.items c.hv_size.result c.in_ok-uarts.uarts.items c.deref.result.now c.in_ok-plans.field-0.items c.in_ok-parts.parts.items c.deref-2.result.now c.in_ok-chans.chans.items c.in_ok-links.field-0.items
    c.system_name.ensures c.in_ok-regions.ensures c.hv_size.ensures c.in_ok-uarts.ensures c.deref.ensures.value c.in_ok-plans.ensures c.in_ok-parts.ensures c.deref-2.ensures.value c.in_ok-chans.ensures c.in_ok-links.ensures
