use Rattle.std.proofs.Common.{arith, sym}
use Rattle.machine_saves.proofs.SpellingLemmas.{sealed_long}
use Rattle.machine_saves.proofs.whole.sealed_within.Goals as goal

pub returns-then-found-gt-FILE_BYTES : goal.returns-then-found-gt-FILE_BYTES
returns-then-found-gt-FILE_BYTES c =
    let long = sealed_long c.args.fields.now in
    (sym long, omega (arith, long, c.if-found-gt-FILE_BYTES.true))

pub returns : goal.returns
returns c =
    let long = sealed_long c.args.fields.now in
    (c.in_ok-sealed.ensures, omega (arith, long, c.if-found-gt-FILE_BYTES.false))
