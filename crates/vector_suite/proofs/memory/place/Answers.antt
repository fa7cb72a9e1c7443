use Rattle.std.proofs.Common.{arith, refl}
use Rattle.vector_suite.proofs.AreaLemmas.{readable, within}
use Rattle.vector_suite.proofs.memory.place.Goals as goal
use Rattle.vector_suite.proofs.memory.place.Goals.{else-count-le-AREA_BYTES-via-then-count-le-AREA_BYTES+else-at-count, else-count-le-AREA_BYTES-via-else-count-le-AREA_BYTES}

pub returns-then-at-count-clause-allowed : goal.returns-then-at-count-clause-allowed
returns-then-at-count-clause-allowed c = (λ _. readable c.args.read_only c.args.address c.args.count (omega arith) (omega arith), λ _. refl)

pub returns-else-count-le-AREA_BYTES-clause-allowed :
    goal.returns-else-count-le-AREA_BYTES-clause-allowed
returns-else-count-le-AREA_BYTES-clause-allowed c = (
  λ is. cc,
  λ allowed. let lies = within c.args.read_only c.args.address c.args.count c.requires allowed in
      absurd (elim c.else-count-le-AREA_BYTES.branch [ else-count-le-AREA_BYTES-via-then-count-le-AREA_BYTES+else-at-count w ↦ omega arith | else-count-le-AREA_BYTES-via-else-count-le-AREA_BYTES w ↦ omega arith ]),
)
