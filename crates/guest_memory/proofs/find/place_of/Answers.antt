use Rattle.std.proofs.Common.{refl, sym, arith}
use Rattle.std.proofs.lemmas.Option.{slice_get-get_or}
use Rattle.guest_memory.proofs.AccessLemmas.{stands_there}
use Rattle.guest_memory.proofs.AreaLemmas.{found_here, none_found, readable_found}
use Rattle.guest_memory.proofs.find.place_of.Goals as goal

pub place_of-requires : goal.place_of-requires
place_of-requires c =
    found_here c.args.entries.now c.args.address c.in-Some.area _ c.in-Some.ensures.first (slice_get-get_or c.args.entries.now c.in-Some.area _ (omega (arith, c.in-Some.ensures.within)))

pub returns-in-Some-clause-at : goal.returns-in-Some-clause-at
returns-in-Some-clause-at c =
    stands_there c.args.entries.now c.in-Some.area c.args.address _ c.place_of.result (slice_get-get_or c.args.entries.now c.in-Some.area _ (omega (arith, c.in-Some.ensures.within))) c.place_of.ensures.area c.place_of.ensures.stands

pub returns-in-Some-clause-room : goal.returns-in-Some-clause-room
returns-in-Some-clause-room c = omega (arith, c.place_of.ensures.stands.room, c.place_of.ensures.stands.fits)

pub returns-in-Some-clause-none : goal.returns-in-Some-clause-none
returns-in-Some-clause-none c =
    let readable = readable_found c.args.entries.now c.args.address c.in-Some.area c.in-Some.ensures.first in
    rw readable (λ e. absurd cc, λ e. absurd cc)

pub returns-in-None-clause-none : goal.returns-in-None-clause-none
returns-in-None-clause-none c = (λ _. none_found c.args.entries.now c.args.address 0 (sym c.in-None.ensures.first), λ _. refl)
