use Rattle.std.proofs.Common.{◌∙◌, ◌++◌, ℕ, ap, arith, sym}
use Rattle.std.proofs.lemmas.List.{append-nil}
use Rattle.machine_saves.specs.lemmas.SaveTerms.{all_texts, part_text, parts_text}
use Rattle.machine_saves.proofs.PutLemmas.{text_written}
use Rattle.machine_saves.proofs.parts.put_parts.Goals as goal

pub loop-p-init : goal.loop-p-init
loop-p-init c = sym (append-nil c.args.out.now.items)

pub loop-p-preserved : goal.loop-p-preserved
loop-p-preserved c = text_written (part_text c.args.sys.now.machine) _ _ _ c.loop-p.p c.loop-p.invariant c.in_ok-put_part.ensures

pub returns : goal.returns
unfolding parts_text
returns c =
    c.loop-p.invariant
    ∙ ap (λ (n : ℕ). c.args.out.now.items ++ all_texts (part_text c.args.sys.now.machine) n) (omega (arith, c.loop-p-test.false, c.loop-p.auto.p-end, c.count-p-end.ensures.value))
