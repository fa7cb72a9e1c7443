use Rattle.std.proofs.Common.{◌≡◌, ap, ◌∙◌, arith}
use Rattle.generated_system.specs.Generated.{all_parts, numbered, generated_part}
use Rattle.generated_system.proofs.parts.parts.Goals as goal

pub returns : goal.returns
unfolding all_parts
returns c = let end : c.loop-p.p ≡ 16 = omega arith in c.loop-p.invariant ∙ ap (numbered generated_part) end
