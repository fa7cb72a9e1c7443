use Rattle.std.proofs.Common.{rules, ◌∙◌}
use Rattle.saved_machines.proofs.ReadLemmas.{zeros_are}
use Rattle.saved_machines.proofs.fields.zeros.Goals as goal

pub returns-then-are_zeros : goal.returns-then-are_zeros
returns-then-are_zeros c = zeros_are c.args.cursor.now c.args.count ∙ (search rules)

pub returns-else-are_zeros : goal.returns-else-are_zeros
returns-else-are_zeros c = zeros_are c.args.cursor.now c.args.count ∙ (search rules)
