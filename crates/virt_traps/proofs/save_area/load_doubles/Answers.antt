use Rattle.std.proofs.Common.{◌≡◌, ◌+◌, ◌-◌, ◌*◌, ◌%◌, ◌==◌, true, length, ap, sym, ◌∙◌, arith}
use Rattle.std.proofs.lemmas.List.{length-set}
use Rattle.std.proofs.lemmas.Bool.Decides.{nat_tests}
use Rattle.guest_bus.specs.declared.bus.Size.TheVariants.{Eight}
use Rattle.guest_bus.specs.lemmas.WholeLemmas.{bytes_at-below}
use Rattle.virt_traps.proofs.AccessLemmas.{bytes_stand, loaded_value, loaded_where}
use Rattle.virt_traps.proofs.RangeLemmas.{part}
use Rattle.virt_traps.proofs.WindowLemmas.{loaded_all, loaded_none, loaded_two}
use Rattle.virt_traps.proofs.save_area.load_doubles.Goals as goal

pub unreachable-requires : goal.unreachable-requires
unreachable-requires g c =
    let aligned : ((c.args.address + 8 * c.loop-i.i) % 8 == 0) ≡ true = grind (arith, nat_tests) in
    let said = rw (c.from.ensures, c.loop-i.invariant.areas) at c.in_default.ensures.value in
    let here = loaded_where _ (c.args.address + 8 * c.loop-i.i) Eight aligned _ _ said in
    let allowed = part _ c.args.address (8 * c.args.doubles) (c.args.address + 8 * c.loop-i.i) 8 c.requires.allowed (omega arith) (omega arith) in
    cc

pub loop-i-preserved : goal.loop-i-preserved
loop-i-preserved g c =
    let aligned : ((c.args.address + 8 * c.loop-i.i) % 8 == 0) ≡ true = grind (arith, nat_tests) in
    let said = rw (c.from.ensures, c.loop-i.invariant.memory) at c.in-Ok.ensures.value in
    let read = loaded_value _ (c.args.address + 8 * c.loop-i.i) Eight aligned (g.B.Bus.memory c.args.bus.now) c.in-Ok.value (sym said) in
    let whole = rw (c.load.ensures.areas, c.load.ensures.memory, c.loop-i.invariant.memory) at c.load.ensures.whole in
    let small = bytes_at-below (g.B.Bus.memory c.args.bus.now) (c.args.address + 8 * c.loop-i.i) 8 (bytes_stand _ _ whole (c.args.address + 8 * c.loop-i.i) 8 read.0) in
    record {
      left = rw (c.set_double.ensures, c.from-in-loop-i.ensures) (loaded_two (g.B.Bus.memory c.args.bus.now) c.loop-i.words (2 * c.loop-i.i) (c.args.address + 8 * c.loop-i.i) (2 * (c.args.doubles - (c.loop-i.i + 1))) c.in-Ok.value _ _ (2 * (c.args.doubles - c.loop-i.i)) small read.1 (omega arith) (omega arith) (omega arith) ∙ c.loop-i.invariant.left);
      counted = ap length c.set_double.ensures ∙ length-set _ _ _ ∙ length-set _ _ _ ∙ c.loop-i.invariant.counted;
      memory = c.load.ensures.memory ∙ c.loop-i.invariant.memory;
      areas = c.load.ensures.areas ∙ c.loop-i.invariant.areas;
      others = c.load.ensures.others ∙ c.loop-i.invariant.others;
    }

pub returns-clause-words : goal.returns-clause-words
returns-clause-words g c = loaded_none _ _ _ _ _ (omega arith) ∙ c.loop-i.invariant.left ∙ loaded_all _ _ _ _ c.requires.counted
