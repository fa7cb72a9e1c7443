use Rattle.std.proofs.Common.{◌<◌, length, sym, ap, ◌∙◌, arith, subst}
use Rattle.std.proofs.lemmas.Option.{get_or_from_slice_get}
use Rattle.machine_model.specs.View.{no_image, view_of}
use Rattle.xef_images.specs.Image.{IsImage}
use Rattle.system_state.specs.State.{SysState}
use Rattle.system_state.proofs.InsideLemmas.{is_in_conf}
use Rattle.system_state.proofs.sys.Sys.image.Goals as goal

pub image-requires : goal.image-requires
image-requires c = is_in_conf c.self.inside c.args.self.now c.args.p c.self.invariant c.self.view_is c.requires

pub returns-clause-value : goal.returns-clause-value
unfolding view_of
returns-clause-value c =
    sym (get_or_from_slice_get c.self.inside.system.images c.args.p c.image.result.now no_image c.image.ensures.value)
    ∙ ap (λ (s : SysState). (view_of s.machine.system c.args.p).image) c.self.view_is

pub returns-clause-image : goal.returns-clause-image
returns-clause-image c =
    let images = c.self.inside.system.images in
    let below : c.args.p < length images = omega (arith, is_in_conf c.self.inside c.args.self.now c.args.p c.self.invariant c.self.view_is c.requires, c.image.ensures.system.counted) in
    subst IsImage (get_or_from_slice_get images c.args.p c.image.result.now no_image c.image.ensures.value) (c.image.ensures.system.images c.args.p no_image below)
