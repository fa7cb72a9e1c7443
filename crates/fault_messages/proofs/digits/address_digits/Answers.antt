use Rattle.std.proofs.Common.{rules}
use Rattle.std.specs.Int.{to_be_bytes, w32}
use Rattle.fault_messages.proofs.Ascii.{digits_ascii}
use Rattle.fault_messages.proofs.digits.address_digits.Goals as goal

pub returns-clause-ascii : goal.returns-clause-ascii
returns-clause-ascii c = digits_ascii (to_be_bytes w32 c.args.address) _ (search rules)
