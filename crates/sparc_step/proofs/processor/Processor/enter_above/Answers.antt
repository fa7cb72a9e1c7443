use Rattle.std.proofs.Common.{ap, sym, ◌∙◌, ◌+◌, ◌%◌}
use Rattle.sparc_step.specs.Cached.{gathered}
use Rattle.sparc_step.specs.Registers.{Registers, locals_and_ins}
use Rattle.sparc_step.proofs.processor.Processor.enter_above.Goals as goal

pub go_above-requires-clause-words : goal.go_above-requires-clause-words
unfolding gathered
go_above-requires-clause-words c =
    c.saved-words.ensures.saved ∙ ap (λ (r : Registers). locals_and_ins r.windows ((c.self.inside.cwp + 1) % 8)) (sym c.self.view_is)
