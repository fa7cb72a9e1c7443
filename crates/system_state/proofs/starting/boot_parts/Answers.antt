use Rattle.std.proofs.Common.{length, ◌∷◌, [], arith, ap, length-append}
use Rattle.system_state.proofs.BootLemmas.{boot_more}
use Rattle.system_state.proofs.starting.boot_parts.Goals as goal

pub loop-p-preserved : goal.loop-p-preserved
loop-p-preserved c = record {
  reserved = omega (arith, c.push_reserved.ensures.capacity, c.loop-p.invariant.reserved);
  counted = omega (arith, ap length c.push_reserved.ensures.items, length-append c.loop-p.parts.items (c.in_ok-boot.field-0 ∷ []), c.loop-p.invariant.counted);
  booted = boot_more c.args.system.now.images c.loop-p.p c.image.result.now c.loop-p.parts.items c.push_reserved.new.self.items c.in_ok-boot.field-0 c.entry.result
      (omega (arith, c.count-p-end.ensures.value, c.count-p-end.ensures.system.counted)) c.image.ensures.value c.loop-p.invariant.booted c.push_reserved.ensures.items c.in_ok-boot.ensures c.entry.ensures.value;
}
