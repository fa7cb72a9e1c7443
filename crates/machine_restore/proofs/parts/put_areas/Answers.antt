use Rattle.std.proofs.Common.{map, take}
use Rattle.system_state.specs.State.{areas_in}
use Rattle.machine_restore.proofs.GivenLemmas.{all_paged_areas, all_paged_more, all_paged_none, all_paged_within, area_readable}
use Rattle.machine_restore.proofs.parts.put_areas.Goals as goal

pub loop-n-init : goal.loop-n-init
loop-n-init c = all_paged_none c.args.sys.now c.args.p

pub put_pages-requires-clause-there : goal.put_pages-requires-clause-there
put_pages-requires-clause-there c = all_paged_within c.args.sys.now c.loop-n.sys c.args.p c.args.p (take c.loop-n.n (map (λ pages. pages.items) c.args.areas.now)) c.loop-n.invariant c.requires.there

pub put_pages-requires-clause-pages : goal.put_pages-requires-clause-pages
put_pages-requires-clause-pages c =
    let same = all_paged_areas c.args.sys.now c.loop-n.sys c.args.p c.args.p (take c.loop-n.n (map (λ pages. pages.items) c.args.areas.now)) c.loop-n.invariant in
    area_readable (areas_in c.args.p c.args.sys.now.machine) (areas_in c.args.p c.loop-n.sys.machine) (map (λ pages. pages.items) c.args.areas.now) c.loop-n.n c.pages_at.result.now c.requires.pages same c.pages_at.ensures

pub loop-n-preserved : goal.loop-n-preserved
loop-n-preserved c =
    all_paged_more c.args.sys.now c.loop-n.sys c.put_pages.new.sys c.args.p c.loop-n.n (map (λ pages. pages.items) c.args.areas.now) c.pages_at.result.now c.requires.there c.loop-n.invariant c.pages_at.ensures c.put_pages.ensures
