use Rattle.std.proofs.Common.{◌≡◌, length}
use Rattle.machine_saves.proofs.LoadingLemmas.{HaveImages}
use Rattle.machine_saves.proofs.loading.load_images.Given as goal

abbrev pub invariant-loop-p : goal.invariant-loop-p
invariant-loop-p l = record {
  areas : l.ram.areas ≡ l.fn.ram.areas;
  held : length l.ram.maps ≡ length l.system.conf.parts;
  loaded : HaveImages l.p l.system.images l.ram;
}
