use Rattle.std.proofs.Common.{◌≡◌, ◌<◌}
use Rattle.generated_system.specs.Generated.{drawn, numbered, generated_slot}
use Rattle.generated_system.proofs.plan.slots.Given as goal

abbrev pub invariant-loop-part : goal.invariant-loop-part
invariant-loop-part l = record {
  slots : l.slots.items ≡ numbered (generated_slot l.number) l.part;
  drawn : l.drawn ≡ drawn l.number l.part;
  below : l.drawn < 65537;
}
