use Rattle.std.proofs.Common.{◌≡◌, ℕ, ◌%◌, sym, ap, ◌∙◌}
use Rattle.std.specs.Int.{byte_len}
use Rattle.guest_bus.specs.Access.{width_of}
use Rattle.guest_memory.proofs.NearLemmas.{near_loaded, near_room, spots_within}
use Rattle.guest_memory.proofs.near.Near.loaded.Goals as goal

pub find-requires : goal.find-requires
find-requires c = spots_within c.args.self.now c.args.whole.now c.requires

pub value_at-requires : goal.value_at-requires
value_at-requires c =
    let aligned : c.args.address % byte_len (width_of c.args.size) ≡ 0 = ap (λ (n : ℕ). c.args.address % n) (sym c.bytes.ensures) ∙ c.if-address-bytes-ne0.false in
    near_room c.args.self.now c.args.whole.now c.in-Some.found c.args.address c.args.size c.requires c.in-Some.ensures aligned

pub returns-in-Some : goal.returns-in-Some
returns-in-Some c =
    let aligned : c.args.address % byte_len (width_of c.args.size) ≡ 0 = ap (λ (n : ℕ). c.args.address % n) (sym c.bytes.ensures) ∙ c.if-address-bytes-ne0.false in
    λ table is part. near_loaded table c.args.self.now c.args.whole.now c.in-Some.found c.args.address c.value_at.result c.args.size is part c.in-Some.ensures aligned c.value_at.ensures
