use Rattle.std.proofs.Common.{◌≡◌, ℕ, List, arith, length, subst, sym, ap, ◌∙◌, refl, take}
use Rattle.xm_alone.specs.Kept.{AreSized}
use Rattle.xm_alone.proofs.KeptLemmas.{first_same, first_within, ticks_kept}
use Rattle.xm_alone.proofs.StruckLemmas.{its_own, none_else}
use Rattle.xm_alone.proofs.keeping.follow_kept.Goals as goal

pub with_ticks-kept-requires-clause-begun : goal.with_ticks-kept-requires-clause-begun
with_ticks-kept-requires-clause-begun g c =
    let own = its_own c.args.p c.args.due.lines.now in
    let f = c.follow-done.ensures.follows own refl (none_else c.args.p c.args.due.lines.now c.args.due.most) in
    omega (arith, c.len-begun.ensures, first_within c.follow-done.result.ended c.args.p (own (length f.quiet)) f.cue f.before c.follow-done.new.machine.state c.in-Some.kept.text.bytes.items c.follow-done.new.out.bytes.items f.step)

pub with_ticks-kept-requires-clause-sized : goal.with_ticks-kept-requires-clause-sized
with_ticks-kept-requires-clause-sized g c =
    let own = its_own c.args.p c.args.due.lines.now in
    let f = c.follow-done.ensures.follows own refl (none_else c.args.p c.args.due.lines.now c.args.due.most) in
    let size : c.len-begun.result ≡ length c.in-Some.kept.text.bytes.items = omega (arith, c.len-begun.ensures) in
    subst (λ (t : List ℕ). AreSized c.in-Some.kept.ticks.items t c.in-Some.kept.said.items)
    (sym (ap (λ n. take n c.follow-done.new.out.bytes.items) size
    ∙ first_same c.follow-done.result.ended c.args.p (own (length f.quiet)) f.cue f.before c.follow-done.new.machine.state c.in-Some.kept.text.bytes.items c.follow-done.new.out.bytes.items f.step))
    (rw c.in-Some.is at c.requires.kept)

pub returns-clause-follows : goal.returns-clause-follows
returns-clause-follows g c = λ own its later.
    let f = c.follow-done.ensures.follows own its later in
    let size : c.len-begun.result ≡ length c.in-Some.kept.text.bytes.items = omega (arith, c.len-begun.ensures) in
    rw c.in-Some.is (record {
      had = _;
      got = _;
      begun = _;
      board = _;
      said = _;
      follows = f;
      kept = ticks_kept c.follow-done.result.ended c.args.p own f.quiet f.cue c.args.machine.now.state f.before c.follow-done.new.machine.state
          c.in-Some.kept.text.bytes.items c.follow-done.new.out.bytes.items c.follow-done.new.machine.said c.said.result.now c.len-begun.result c.in-Some.kept
          (record { text = c.follow-done.new.out; said = c.in-Some.kept.said; ticks = c.in-Some.kept.ticks }) c.with_ticks-kept.result
          f.none f.silent f.step f.kept refl refl refl refl size c.said.ensures c.with_ticks-kept.ensures;
    })

pub returns-in_default-clause-follows : goal.returns-in_default-clause-follows
returns-in_default-clause-follows g c = λ own its later. rw c.in_default.is (record { had = _; got = _; begun = _; board = _; said = _; follows = c.follow.ensures.follows own its later; kept = tt })
