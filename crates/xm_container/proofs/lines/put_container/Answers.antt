use Rattle.std.proofs.Common.{ap, codes, decimal, ◌∙◌, ◌++◌}
use Rattle.hex.specs.Hex.{encode_lower}
use Rattle.xm_container.specs.Texts.{container_line}
use Rattle.xm_container.proofs.LineLemmas.{container_pieces}
use Rattle.xm_container.proofs.lines.put_container.Goals as goal

pub returns : goal.returns
unfolding container_line
returns c =
    c.in_ok-extend_from_slice.ensures.items
    ∙ ap (λ x. x ++ codes "\n") (c.in_ok-put_digest.ensures ∙ ap (λ x. x ++ (codes " md5=" ++ encode_lower c.args.digest.now)) c.in_ok-put_number.ensures)
    ∙ container_pieces c.args.lines.now.items (codes "container length=") (decimal c.args.total) (codes " md5=") (encode_lower c.args.digest.now) (codes "\n")
