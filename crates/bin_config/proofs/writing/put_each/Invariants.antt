use Rattle.std.proofs.Common.{◌≡◌, ℕ, List, ◌++◌, drop}
use Rattle.std.specs.Prelude.{flat_map}
use Rattle.std.specs.List.{AllWithin}
use Rattle.bin_config.specs.lemmas.Puts.{Puts, WasPut}
use Rattle.bin_config.proofs.writing.put_each.Given as goal

abbrev pub invariant-loop-element : goal.invariant-loop-element
invariant-loop-element g l = record {
  bytes : (spell : g.row.T.Denot → List ℕ)
      → ((old : _) (element : _) (done : _) (new : _) → goal.F-post g l.put_one old element done new → Puts done old.now.items new.now.items (spell element.now))
      → l.bytes.items ++ flat_map spell (drop l.element-index l.elements) ≡ l.fn.bytes.items ++ flat_map spell l.elements;
  each : AllWithin (WasPut (goal.F-post g l.put_one)) l.elements 0 l.element-index;
}
