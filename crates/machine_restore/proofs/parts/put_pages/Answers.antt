use Rattle.std.proofs.Common.{take, ap, ◌∙◌}
use Rattle.system_state.specs.State.{areas_in}
use Rattle.saved_machines.specs.Saved.{SavedPage}
use Rattle.machine_restore.proofs.GivenLemmas.{page_readable, paged_areas, paged_more, paged_none, paged_within}
use Rattle.machine_restore.proofs.parts.put_pages.Goals as goal

pub loop-page-init : goal.loop-page-init
loop-page-init c = paged_none c.args.sys.now c.args.p

pub put-requires-clause-partition : goal.put-requires-clause-partition
put-requires-clause-partition c = paged_within c.args.sys.now c.loop-page.sys c.args.p c.args.p (take c.loop-page.page-index c.args.pages.now) c.loop-page.invariant c.requires.there

pub put-requires-clause-readable : goal.put-requires-clause-readable
put-requires-clause-readable c =
    let areas = paged_areas c.args.sys.now c.loop-page.sys c.args.p c.args.p (take c.loop-page.page-index c.args.pages.now) c.loop-page.invariant in
    let at = ap (λ (page : SavedPage). page.address) c.page.view_is in
    let bytes = c.deref.ensures.value ∙ ap (λ (page : SavedPage). page.bytes) c.page.view_is in
    page_readable (areas_in c.args.p c.args.sys.now.machine) (areas_in c.args.p c.loop-page.sys.machine) c.args.pages.now c.loop-page.page-index c.page-item.result c.page.inside.address c.deref.result.now
    c.requires.pages areas c.loop-page-test.true c.page-item.is at bytes

pub loop-page-preserved : goal.loop-page-preserved
loop-page-preserved c =
    let at = ap (λ (page : SavedPage). page.address) c.page.view_is in
    let bytes = c.deref.ensures.value ∙ ap (λ (page : SavedPage). page.bytes) c.page.view_is in
    paged_more c.args.sys.now c.loop-page.sys c.put.new.sys c.args.p c.loop-page.page-index c.args.pages.now c.page-item.result c.page.inside.address c.deref.result.now
    c.requires.there c.loop-page.invariant c.loop-page-test.true c.page-item.is at bytes c.put.ensures
