use Rattle.std.proofs.Common.{◌≡◌, ◌-◌, ◌++◌}
use Rattle.xm_container.specs.Box.{entries_text}
use Rattle.xm_container.specs.Pack.{in_order}
use Rattle.xm_container.proofs.writing.put_entries.Given as goal

abbrev pub invariant-loop-id : goal.invariant-loop-id
invariant-loop-id l = l.out.items ++ entries_text l.id (in_order l.images l.id (l.parts - l.id)) ≡ l.fn.out.items ++ entries_text 0 (in_order l.images 0 l.parts)
