use Rattle.std.proofs.Common.{◌≡◌, ◌+◌, ◌*◌, ◌%◌, ◌==◌, true, ◌∙◌, arith}
use Rattle.std.proofs.lemmas.Bool.Decides.{nat_tests}
use Rattle.guest_bus.specs.declared.bus.Size.TheVariants.{Eight}
use Rattle.virt_traps.proofs.AccessLemmas.{not_refused, stored_value}
use Rattle.virt_traps.proofs.RangeLemmas.{part}
use Rattle.virt_traps.proofs.WindowLemmas.{stored_none, stored_two}
use Rattle.virt_traps.proofs.save_area.store_doubles.Goals as goal

pub unreachable-requires : goal.unreachable-requires
unreachable-requires g c =
    let aligned : ((c.args.address + 8 * c.loop-i.i) % 8 == 0) ≡ true = grind (arith, nat_tests) in
    let said = rw (c.from-in-loop-i.ensures, c.loop-i.invariant.areas) at c.in_default.ensures.fault in
    let allowed = part _ c.args.address (8 * c.args.doubles) (c.args.address + 8 * c.loop-i.i) 8 c.requires.allowed (omega arith) (omega arith) in
    not_refused _ (c.args.address + 8 * c.loop-i.i) Eight aligned c.in_default.field-0 allowed said

pub loop-i-preserved : goal.loop-i-preserved
loop-i-preserved g c =
    let aligned : ((c.args.address + 8 * c.loop-i.i) % 8 == 0) ≡ true = grind (arith, nat_tests) in
    let allowed = part _ c.args.address (8 * c.args.doubles) (c.args.address + 8 * c.loop-i.i) 8 c.requires.allowed (omega arith) (omega arith) in
    let said = rw (c.from-in-loop-i.ensures, c.loop-i.invariant.areas) at c.store.ensures.memory in
    let written = said ∙ stored_value _ (c.args.address + 8 * c.loop-i.i) Eight aligned (g.B.Bus.memory c.loop-i.bus) c.double_of-value.result allowed in
    record {
      left = rw written (stored_two (g.B.Bus.memory c.loop-i.bus) c.args.words.now (2 * c.loop-i.i) (c.args.address + 8 * c.loop-i.i) _ _ _ (omega (arith, c.requires.counted)) (rw c.from.ensures at c.double_of-value.ensures) (omega arith) (omega arith) ∙ c.loop-i.invariant.left);
      areas = c.store.ensures.areas ∙ c.loop-i.invariant.areas;
      others = c.store.ensures.others ∙ c.loop-i.invariant.others;
    }

pub returns-clause-memory : goal.returns-clause-memory
returns-clause-memory g c = stored_none (g.B.Bus.memory c.loop-i.bus) c.args.words.now (2 * c.loop-i.i) _ (omega (arith, c.requires.counted)) ∙ c.loop-i.invariant.left
