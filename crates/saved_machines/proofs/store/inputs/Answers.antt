use Rattle.std.proofs.Common.{rules}
use Rattle.saved_machines.specs.SavedFields.{any_word}
use Rattle.saved_machines.proofs.store.inputs.Goals as goal

pub returns : goal.returns
returns c = c.read_items.ensures.value (λ u. any_word) (λ u x. u) (λ old state found new post. search rules) (λ state one made post. search rules)
