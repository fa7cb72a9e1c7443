use Rattle.std.proofs.Common.{ap, codes, decimal, ◌∙◌, ◌++◌}
use Rattle.xm_container.specs.Texts.{system_line}
use Rattle.xm_container.proofs.LineLemmas.{system_pieces}
use Rattle.xm_container.proofs.lines.put_system.Goals as goal

pub returns : goal.returns
unfolding system_line
returns c =
    let counts = c.args.counts in
    c.in_ok-extend_from_slice-3.ensures.items
    ∙ ap (λ x. x ++ codes "\n") (c.in_ok-put_number-3.ensures
    ∙ ap (λ x. x ++ (codes " channels=" ++ decimal counts.channels)) (c.in_ok-put_number-2.ensures
    ∙ ap (λ x. x ++ (codes " plans=" ++ decimal counts.plans)) (c.in_ok-put_number.ensures
    ∙ ap (λ x. x ++ (codes " parts=" ++ decimal counts.parts)) (c.in_ok-extend_from_slice-2.ensures.items
    ∙ ap (λ x. x ++ c.args.name.now) c.in_ok-extend_from_slice.ensures.items))))
    ∙ system_pieces c.args.lines.now.items (codes "system name=") c.args.name.now (codes " parts=") (decimal counts.parts) (codes " plans=") (decimal counts.plans) (codes " channels=") (decimal counts.channels) (codes "\n")
