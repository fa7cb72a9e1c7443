use Rattle.std.proofs.Common.{refl, sym}
use Rattle.guest_memory.specs.Flat.{listed}
use Rattle.guest_memory.proofs.AccessLemmas.{byte_stands, bytes_within}
use Rattle.guest_memory.proofs.FlatLemmas.{get-memory_in_none}
use Rattle.guest_memory.proofs.space.byte.Goals as goal

pub byte_at-requires : goal.byte_at-requires
byte_at-requires c = bytes_within c.args.entries.now c.args.bytes.now c.in-Some.place c.from.result 1 c.requires c.in-Some.ensures.at

pub returns-in-Some-clause-value : goal.returns-in-Some-clause-value
returns-in-Some-clause-value c =
    let stands = rw c.from.ensures at c.in-Some.ensures.at in
    byte_stands c.args.entries.now c.args.bytes.now c.in-Some.place c.args.address c.byte_at.result c.requires stands c.byte_at.ensures

pub returns-in-None-clause-value : goal.returns-in-None-clause-value
returns-in-None-clause-value c =
    let none = rw c.from.ensures at (c.in-None.ensures.none.0 refl) in
    sym (get-memory_in_none (listed c.args.entries.now) c.args.bytes.now c.args.address c.requires.whole none)
