use Rattle.std.proofs.Common.{arith}
use Rattle.xef_images.specs.Image.{Image}
use Rattle.xef_images.proofs.ElfLemmas.{elf_takes}
use Rattle.xef_images.proofs.elf.read_elf.Goals as goal

pub invariant_of-result : goal.invariant_of-result
invariant_of-result c =
    let image : Image = record { entry = c.in_ok-entry.entry; segments = c.in_ok-entry.segments.items } in
    elf_takes c.args.bytes.now image (λ i. omega (arith, c.type_inv.bytes i)) c.in_ok-entry.ensures
