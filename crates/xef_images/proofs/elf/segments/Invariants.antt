use Rattle.xef_images.proofs.Loads.{Loaded}
use Rattle.xef_images.proofs.elf.segments.Given as goal

abbrev pub invariant-loop : goal.invariant-loop
invariant-loop l = Loaded l.bytes l.fn.place l.count l.counter l.place l.segments.items
