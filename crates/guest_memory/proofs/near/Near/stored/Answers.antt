use Rattle.std.proofs.Common.{◌≡◌, ℕ, ◌%◌, sym, ap, ◌∙◌}
use Rattle.std.specs.Int.{byte_len}
use Rattle.guest_bus.specs.Access.{width_of}
use Rattle.guest_memory.proofs.NearLemmas.{near_room, near_stored, spots_within}
use Rattle.guest_memory.proofs.near.Near.stored.Goals as goal

pub find-requires : goal.find-requires
find-requires c = spots_within c.args.self.now c.args.whole.now c.requires

pub put_value-requires : goal.put_value-requires
put_value-requires c =
    let aligned : c.args.address % byte_len (width_of c.args.size) ≡ 0 = ap (λ (n : ℕ). c.args.address % n) (sym c.bytes.ensures) ∙ c.if-address-bytes-ne0.false in
    near_room c.args.self.now c.args.whole.now c.in-Some.found c.args.address c.args.size c.requires c.in-Some.ensures aligned

pub returns-else-found-clause-done : goal.returns-else-found-clause-done
returns-else-found-clause-done c =
    let aligned : c.args.address % byte_len (width_of c.args.size) ≡ 0 = ap (λ (n : ℕ). c.args.address % n) (sym c.bytes.ensures) ∙ c.if-address-bytes-ne0.false in
    λ table is part. near_stored table c.args.self.now c.args.whole.now c.put_value.new.bytes c.in-Some.found c.args.address c.args.value c.args.size is part c.in-Some.ensures aligned c.if-found.false c.put_value.ensures.value
