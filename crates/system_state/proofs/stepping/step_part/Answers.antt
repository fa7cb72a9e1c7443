use Rattle.system_state.proofs.StepLemmas.{selected_changed}
use Rattle.system_state.proofs.stepping.step_part.Goals as goal

pub returns-clause-others : goal.returns-clause-others
returns-clause-others c =
    selected_changed c.args.p c.args.ram.now c.select.new.ram c.go-gone.new.bus c.select.ensures.value c.selected-before.ensures.memories c.selected-after.ensures.memories c.go-gone.ensures.others c.go-gone.ensures.areas
