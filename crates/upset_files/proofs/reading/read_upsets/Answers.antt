use Rattle.std.proofs.Common.{arith}
use Rattle.upset_files.proofs.LoopLemmas.{answer_spelled, spelled_answered}
use Rattle.upset_files.proofs.reading.read_upsets.Goals as goal

pub returns-clause-found : goal.returns-clause-found
returns-clause-found c = answer_spelled (λ found. found.items) c.lines.result c.args.conf.now c.args.begun c.args.ticks c.args.text.now c.lines.ensures

pub returns-clause-only : goal.returns-clause-only
returns-clause-only c =
    spelled_answered (λ found. found.items) c.lines.result c.args.conf.now c.args.begun c.args.ticks c.args.text.now (omega (arith, c.part_count-count.ensures.value, c.part_count-count.ensures.few)) (omega (arith, c.ranges.ticks.fits)) c.lines.ensures
