use Rattle.std.proofs.Common.{◌≡◌, ◌-◌, arith, drop, length, refl}
use Rattle.std.proofs.lemmas.List.{length-drop}
use Rattle.xm_alone.proofs.KeptLemmas.{more_kept}
use Rattle.xm_alone.proofs.keeping.Kept.with_tick.Goals as goal

pub returns-then-add : goal.returns-then-add
returns-then-add c =
    let size : c.len.result - c.args.begun ≡ length (drop c.args.begun c.args.self.text.bytes.items) = omega (arith, c.len.ensures, length-drop c.args.begun c.args.self.text.bytes.items) in
    more_kept c.args.begun c.args.said.now _ c.args.self c.add.new.self c.requires.sized size c.if-text-eq0.false refl c.add.ensures.text (c.add.ensures.said c.if-add.true) (c.add.ensures.ticks c.if-add.true)
