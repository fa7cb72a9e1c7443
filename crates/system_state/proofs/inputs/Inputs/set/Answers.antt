use Rattle.std.proofs.lemmas.List.{map-set}
use Rattle.system_state.proofs.inputs.Inputs.set.Goals as goal

pub returns-clause-set : goal.returns-clause-set
returns-clause-set c = rw (← c.self.view_is, c.from.ensures, ← c.in_ok-words.ensures.value) (map-set (λ words. words.items) c.self.inside.words.items c.args.p c.in_ok-words.words)
