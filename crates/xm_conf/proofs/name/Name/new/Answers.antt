use Rattle.std.proofs.Common.{refl, rules}
use Rattle.std.proofs.lemmas.Bool.Decides.{not_from_Decides}
use Rattle.xm_conf.specs.Name.{is_name}
use Rattle.xm_conf.specs.lemmas.NameLemmas.{is_name-Decides, kept_over_zeros}
use Rattle.xm_conf.proofs.name.Name.new.Goals as goal

pub returns-then-not-is_name-clause-refused : goal.returns-then-not-is_name-clause-refused
returns-then-not-is_name-clause-refused c =
    (λ _. not_from_Decides (is_name c.args.bytes.now) (is_name-Decides c.args.bytes.now) (search rules), λ _. refl)

pub invariant_of-result : goal.invariant_of-result
invariant_of-result c =
    kept_over_zeros c.args.bytes.now _ ((is_name-Decides c.args.bytes.now).0 (search rules)) c.copy_from_slice.ensures.after
