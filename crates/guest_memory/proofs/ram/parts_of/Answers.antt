use Rattle.std.proofs.Common.{List, map, sym, ap, ◌∙◌, ◌<◌, subst}
use Rattle.std.specs.Prelude.{All}
use Rattle.xm_conf.specs.Configuration.{Conf, Part}
use Rattle.xm_conf.specs.declared.item.Item.TheVariants.{Whole}
use Rattle.guest_memory.specs.Loading.{memory_areas}
use Rattle.guest_memory.specs.Memories.{ArePlaced, whole_size}
use Rattle.guest_memory.proofs.ConfigurationLemmas.{fits_few, fits_placed}
use Rattle.guest_memory.proofs.ram.parts_of.Goals as goal

pub returns-clause-placed : goal.returns-clause-placed
returns-clause-placed c =
    let parts = c.deref.ensures.value ∙ ap (λ (conf : Conf). conf.parts) c.behind-conf.view_is ∙ ap (λ (conf : Conf). conf.parts) c.raw.ensures.value in
    subst (λ (given : List Part). All ArePlaced (map memory_areas given)) (sym parts) (fits_placed c.args.conf.now Whole c.raw.ensures.fits)

pub returns-clause-few : goal.returns-clause-few
returns-clause-few c =
    let parts = c.deref.ensures.value ∙ ap (λ (conf : Conf). conf.parts) c.behind-conf.view_is ∙ ap (λ (conf : Conf). conf.parts) c.raw.ensures.value in
    subst (λ (given : List Part). whole_size (map memory_areas given) < 4294967296) (sym parts) (fits_few c.args.conf.now c.raw.ensures.fits)
