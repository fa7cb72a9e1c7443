use Rattle.std.proofs.Common.{rules}
use Rattle.saved_machines.specs.SavedFields.{health_field}
use Rattle.saved_machines.proofs.logs.health_entries.Goals as goal

pub returns : goal.returns
returns c = c.read_items.ensures.value (λ u. health_field) (λ u x. u) (λ old state found new post. search rules) (λ state one made post. search rules)
