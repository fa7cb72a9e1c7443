use Rattle.std.proofs.Common.{ℕ, not, Option, is_some, sym, ap, ◌∙◌}
use Rattle.guest_memory.specs.Flat.{listed}
use Rattle.guest_memory.specs.lemmas.MemoriesTerms.{allows_byte}
use Rattle.guest_memory.proofs.RangeLemmas.{all_from-none, not_not}
use Rattle.guest_memory.proofs.range.is_none_refused.Goals as goal

pub returns : goal.returns
returns c =
    sym (not_not c.is_none.result) ∙ ap not (sym c.is_none.ensures) ∙ ap (λ (o : Option ℕ). not (is_some o)) c.refused.ensures.value
    ∙ sym (all_from-none (allows_byte c.args.access (listed c.args.entries.now)) c.args.address c.args.count)
