use Rattle.std.proofs.Common.{rules}
use Rattle.saved_machines.proofs.Ascii.{digits_ascii}
use Rattle.saved_machines.proofs.digits.digest_digits.Goals as goal

pub returns-clause-ascii : goal.returns-clause-ascii
returns-clause-ascii c = digits_ascii c.args.digest _ (search rules)
