use Rattle.std.proofs.Common.{rules}
use Rattle.saved_machines.specs.SavedFields.{trace_field}
use Rattle.saved_machines.proofs.logs.trace_entries.Goals as goal

pub returns : goal.returns
returns c = c.read_items.ensures.value (λ u. trace_field) (λ u x. u) (λ old state found new post. search rules) (λ state one made post. search rules)
