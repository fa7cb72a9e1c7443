use Rattle.std.proofs.Common.{◌≤◌, ℕ, sym, subst}
use Rattle.sparc_code.proofs.EncodedLemmas.{spells-encoded, encoded-least}
use Rattle.sparc_code.specs.Spells.{Spells}
use Rattle.sparc_code.proofs.encoding.encode.Goals as goal

pub returns-clause-spelled : goal.returns-clause-spelled
returns-clause-spelled c = subst (λ (word : ℕ). Spells word c.args.instr.now) (sym c.encoded.ensures) (spells-encoded c.args.instr.now c.requires)

pub returns-clause-least : goal.returns-clause-least
returns-clause-least c = λ word spelled. subst (λ (least : ℕ). least ≤ word) (sym c.encoded.ensures) (encoded-least c.args.instr.now word spelled)
