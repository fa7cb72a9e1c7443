use Rattle.std.proofs.Common.{refl, rules}
use Rattle.std.proofs.lemmas.Bool.Decides.{not_from_Decides}
use Rattle.xef_images.specs.Image.{Image}
use Rattle.xef_images.specs.lemmas.TestsTerms.{is_image}
use Rattle.xef_images.specs.lemmas.ImageLemmas.{is_image-Decides}
use Rattle.xef_images.proofs.xef.Xef.new.Goals as goal

pub returns-then-not-is_image-clause-refused : goal.returns-then-not-is_image-clause-refused
returns-then-not-is_image-clause-refused c =
    let image : Image = record { entry = c.args.entry; segments = c.args.segments.items } in
    (λ _. not_from_Decides (is_image image) (is_image-Decides image) (search rules), λ _. refl)

pub invariant_of-result : goal.invariant_of-result
invariant_of-result c = (is_image-Decides _).0 (search rules)

pub returns-clause-refused : goal.returns-clause-refused
returns-clause-refused c =
    let image : Image = record { entry = c.args.entry; segments = c.args.segments.items } in
    (λ e. absurd cc, λ other. absurd (other ((is_image-Decides image).0 (search rules))))
