use Rattle.std.proofs.Common.{◌≡◌, ◌≤◌, length, vec_capacity}
use Rattle.xm_ports.specs.lemmas.KeptTerms.{AreRooms}
use Rattle.xm_ports.proofs.queuing.rooms.Given as goal

abbrev pub invariant-loop : goal.invariant-loop
invariant-loop l = record {
  sized : AreRooms l.room l.rooms.items;
  reserved : l.most ≤ vec_capacity l.rooms;
  counted : length l.rooms.items ≡ l.counter;
}
