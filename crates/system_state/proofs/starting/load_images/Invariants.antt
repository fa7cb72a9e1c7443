use Rattle.std.proofs.Common.{◌≡◌, ℕ, ◌<◌, length, get_or}
use Rattle.std.specs.FinMap.{empty}
use Rattle.system_state.specs.lemmas.StateTerms.{loaded_all}
use Rattle.system_state.proofs.starting.load_images.Given as goal

abbrev pub invariant-loop-p : goal.invariant-loop-p
invariant-loop-p l = record {
  areas : l.ram.areas ≡ l.fn.ram.areas;
  held : length l.ram.maps ≡ length l.system.conf.parts;
  loaded : (q : ℕ) → q < l.p → get_or l.ram.maps q empty ≡ get_or (loaded_all l.system.conf.parts l.system.images) q empty;
}
