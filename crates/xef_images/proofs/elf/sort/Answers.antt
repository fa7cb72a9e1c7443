use Rattle.std.proofs.Common.{rules}
use Rattle.std.proofs.lemmas.List.Sorted.{IsNonDecreasingBy-from_sort_by_key}
use Rattle.xef_images.proofs.Sorting.{stable_by_address, stable_sorted}
use Rattle.xef_images.proofs.elf.sort.Goals as goal

pub returns-clause-value : goal.returns-clause-value
returns-clause-value c =
    stable_sorted c.args.segments.now.items c.sort_by_key.new.self.items
    (IsNonDecreasingBy-from_sort_by_key (λ segment. segment.address) c.sort_by_key.new.self.items c.in_ok-sort_by_key.ensures.sorted (λ a r q k. search rules))
    (stable_by_address c.args.segments.now.items c.sort_by_key.new.self.items c.in_ok-sort_by_key.ensures.stable (λ h a r q k. search rules))
