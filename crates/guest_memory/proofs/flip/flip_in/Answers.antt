use Rattle.std.proofs.Common.{refl}
use Rattle.guest_memory.specs.Flat.{listed}
use Rattle.guest_memory.proofs.AccessLemmas.{bytes_within}
use Rattle.guest_memory.proofs.FlipLemmas.{flipped_in, nowhere}
use Rattle.guest_memory.proofs.flip.flip_in.Goals as goal

pub flip_byte-requires-clause-at : goal.flip_byte-requires-clause-at
flip_byte-requires-clause-at c = bytes_within c.args.entries.now c.args.bytes.now c.in-Some.place c.from.result 1 c.requires.space c.in-Some.ensures.at

pub returns-in-Some-clause-memory : goal.returns-in-Some-clause-memory
returns-in-Some-clause-memory c =
    let stands = rw c.from.ensures at c.in-Some.ensures.at in
    flipped_in c.args.entries.now c.args.bytes.now c.flip_byte.new.bytes c.in-Some.place c.args.address c.args.bit c.requires.space stands c.flip_byte.ensures.value

pub returns-in-None : goal.returns-in-None
returns-in-None c =
    let none = rw c.from.ensures at (c.in-None.ensures.none.0 refl) in
    absurd (nowhere (listed c.args.entries.now) c.args.address c.requires.readable none)
