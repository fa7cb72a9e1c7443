use Rattle.std.proofs.Common.{rules}
use Rattle.fault_messages.proofs.Ascii.{digits_ascii}
use Rattle.fault_messages.proofs.digits.digest_digits.Goals as goal

pub returns-clause-ascii : goal.returns-clause-ascii
returns-clause-ascii c = digits_ascii c.args.digest.now _ (search rules)
