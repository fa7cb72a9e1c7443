use Rattle.std.proofs.Common.{◌≡◌, ◌%◌, ap, ◌∙◌, sym}
use Rattle.std.specs.Int.{byte_len}
use Rattle.guest_bus.specs.Access.{width_of}
use Rattle.guest_memory.proofs.AccessLemmas.{accesses_found}
use Rattle.guest_memory.proofs.space.accessed.Goals as goal

pub returns-in-Some : goal.returns-in-Some
returns-in-Some c =
    let at = rw c.from.ensures at c.in-Some.ensures.at in
    let aligned : c.args.address % byte_len (width_of c.args.size) ≡ 0 = ap (λ n. c.args.address % n) (sym c.bytes.ensures) ∙ c.if-address-bytes-ne0.false in
    accesses_found c.args.entries.now c.in-Some.place c.args.address c.args.size c.requires at aligned
