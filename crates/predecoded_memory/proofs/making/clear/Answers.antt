use Rattle.std.proofs.Common.{◌∙◌, ap, arith, replicate, ℕ, ◌≡◌, ◌-◌, ◌+◌, length, take, drop, length-take, length-drop}
use Rattle.predecoded_memory.proofs.MakingLemmas.{cleared}
use Rattle.predecoded_memory.proofs.making.clear.Goals as goal

pub returns : goal.returns
returns c =
    let from = c.args.at - c.min.result in
    let all = c.fill.ensures.after (λ y is. is) in
    let counted : length (take (c.args.at + 1 - from) (drop from c.args.lengths.now)) ≡ c.args.at + 1 - from =
    omega (arith, c.requires, length-take (c.args.at + 1 - from) (drop from c.args.lengths.now), length-drop from c.args.lengths.now) in
    cleared c.args.at from c.args.lengths.now c.fill.new.self c.requires (ap (λ (n : ℕ). c.args.at - n) c.min.ensures) (all ∙ ap (λ (n : ℕ). replicate n 255) counted)
