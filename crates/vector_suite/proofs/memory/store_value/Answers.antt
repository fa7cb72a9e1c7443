use Rattle.std.proofs.Common.{sym, refl, ◌∙◌, ap, arith}
use Rattle.guest_bus.specs.lemmas.AccessLemmas.{stored_at, stored_refused}
use Rattle.guest_bus.specs.lemmas.MemoryFacts.{memory_of_bytes}
use Rattle.guest_bus.specs.declared.bus.BusFault.TheVariants.{Outside}
use Rattle.vector_suite.specs.declared.memory.TheConstants.{AREA_START}
use Rattle.vector_suite.proofs.AreaLemmas.{free_writable, refused_either, refused_read_only, whole}
use Rattle.vector_suite.proofs.memory.store_value.Goals as goal

pub returns-then-read_only-clause-fault : goal.returns-then-read_only-clause-fault
returns-then-read_only-clause-fault c = rw (refused_read_only c.args.read_only c.args.address c.in-Ok.at c.args.size c.if-read_only.true c.in-Ok.ensures) refl

pub returns-then-read_only-clause-memory : goal.returns-then-read_only-clause-memory
returns-then-read_only-clause-memory c = sym (stored_refused _ _ _ Outside c.args.size c.args.value (refused_read_only c.args.read_only c.args.address c.in-Ok.at c.args.size c.if-read_only.true c.in-Ok.ensures))

pub returns-then-read_only-clause-whole : goal.returns-then-read_only-clause-whole
returns-then-read_only-clause-whole c = whole c.args.read_only c.args.bytes.now c.requires c.type_inv.bytes

pub returns-else-read_only-clause-fault : goal.returns-else-read_only-clause-fault
returns-else-read_only-clause-fault c = rw (free_writable c.args.read_only c.args.address c.in-Ok.at c.args.size c.if-read_only.false c.in-Ok.ensures) tt

pub returns-else-read_only-clause-memory : goal.returns-else-read_only-clause-memory
returns-else-read_only-clause-memory c =
    let at = c.in-Ok.ensures in
    ap (memory_of_bytes AREA_START) c.put_value.ensures
    ∙ sym (stored_at _ _ c.args.bytes.now c.args.address c.in-Ok.at at.lies c.args.size c.args.value (free_writable c.args.read_only c.args.address c.in-Ok.at c.args.size c.if-read_only.false at) (omega arith))

pub returns-else-read_only-clause-whole : goal.returns-else-read_only-clause-whole
returns-else-read_only-clause-whole c = whole c.args.read_only c.put_value.new.bytes (c.put_value.auto.bytes ∙ c.requires) c.type_inv.bytes

pub returns-in-Err-clause-fault : goal.returns-in-Err-clause-fault
returns-in-Err-clause-fault c = rw (refused_either c.args.read_only c.args.address c.args.size c.in-Err.fault c.in-Err.ensures) refl

pub returns-in-Err-clause-memory : goal.returns-in-Err-clause-memory
returns-in-Err-clause-memory c = sym (stored_refused _ _ _ c.in-Err.fault c.args.size c.args.value (refused_either c.args.read_only c.args.address c.args.size c.in-Err.fault c.in-Err.ensures))

pub returns-in-Err-clause-whole : goal.returns-in-Err-clause-whole
returns-in-Err-clause-whole c = whole c.args.read_only c.args.bytes.now c.requires c.type_inv.bytes
