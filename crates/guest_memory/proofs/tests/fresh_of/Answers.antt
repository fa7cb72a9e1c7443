use Rattle.std.proofs.Common.{◌∙◌, ap, length}
use Rattle.std.proofs.lemmas.List.{length-map}
use Rattle.std.proofs.lemmas.Result.{IfOk-weaker}
use Rattle.guest_memory.specs.Loading.{memory_areas}
use Rattle.guest_memory.specs.Memories.{Memories}
use Rattle.guest_memory.proofs.tests.fresh_of.Goals as goal

pub returns : goal.returns
returns c =
    IfOk-weaker c.new.result _ _ (λ ram is. ap (λ (m : Memories). length m.areas) is ∙ length-map c.args.conf.now.parts memory_areas ∙ c.requires) c.new.ensures.value
