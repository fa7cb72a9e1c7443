use Rattle.std.proofs.Common.{true, false, ◌≡◌}
use Rattle.loaded_system.proofs.BareLemmas.{bare_counted, bare_all_inside}
use Rattle.loaded_system.proofs.raw_image.system.Goals as goal

pub new-requires : goal.new-requires
new-requires c = bare_counted c.in_ok-conf.conf c.in_ok-images.images.items c.in_ok-xef.xef c.in_ok-conf.ensures c.in_ok-images.ensures.items

pub unreachable-requires : goal.unreachable-requires
unreachable-requires c =
    let inside = bare_all_inside c.in_ok-conf.conf c.in_ok-images.images.items c.in_ok-xef.xef c.args.image.now c.requires c.in_ok-conf.ensures c.in_ok-xef.ensures c.in_ok-images.ensures.items in
    let other : false ≡ true = c.in_default.ensures.inside.1 inside in
    absurd cc
