use Rattle.std.proofs.Common.{◌∙◌, ap, map, arith}
use Rattle.xmcf_check.specs.lemmas.Capped.{capped_part}
use Rattle.xmcf_check.specs.Described.{children, grandchildren, described_part, part_with, parts_by}
use Rattle.xmcf_check.specs.Elements.{element_own}
use Rattle.xmcf_check.proofs.PassLemmas.{each-all, one_pass}
use Rattle.xmcf_check.proofs.PartLemmas.{part_makes}
use Rattle.xmcf_check.proofs.gathering.partitions.parts.Goals as goal

pub loop-number-preserved : goal.loop-number-preserved
loop-number-preserved c =
    one_pass capped_part (described_part c.args.uarts.now c.args.entries.now) (λ n. part_with c.args.uarts.now (children n c.args.entries.now) (grandchildren n c.args.entries.now)) element_own c.loop-number.number c.args.entries.now _ _ (part_makes c.args.uarts.now c.args.entries.now) c.loop-number.invariant c.in_ok-push_part.ensures

pub returns : goal.returns
unfolding parts_by
returns c = c.loop-number.invariant ∙ ap (map capped_part) (each-all (described_part c.args.uarts.now c.args.entries.now) c.loop-number.number c.args.entries.now (omega arith))
