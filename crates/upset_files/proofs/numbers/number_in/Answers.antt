-- What a plain word spells, by what is read of it.
use Rattle.std.proofs.Common.{arith, ap, ◌∙◌, Some}
use Rattle.std.proofs.lemmas.Bool.{both_ways}
use Rattle.upset_files.proofs.NumberLemmas.{number_plain, unspelled, above, spelled, read_is, unread}
use Rattle.upset_files.proofs.numbers.number_in.Goals as goal

pub returns-then-not-is_plain-clause-value : goal.returns-then-not-is_plain-clause-value
returns-then-not-is_plain-clause-value c = unspelled c.args.limit c.args.text.now (λ is. both_ways c.is_plain.result c.if-not-is_plain.true (c.is_plain.ensures.value.1 (number_plain c.args.text.now is)))

pub returns-in-Ok-clause-value : goal.returns-in-Ok-clause-value
returns-in-Ok-clause-value c =
    let read = read_is c.args.text.now c.in-Ok.number c.in-Ok.ensures.value.0 (c.is_plain.ensures.value.0 c.if-not-is_plain.false) in
    ap Some read.1 ∙ spelled c.args.limit c.args.text.now read.0 (omega arith)

pub returns-in_default-clause-value : goal.returns-in_default-clause-value
returns-in_default-clause-value c =
    let read = read_is c.args.text.now c.in-Ok.number c.in-Ok.ensures.value.0 (c.is_plain.ensures.value.0 c.if-not-is_plain.false) in
    above c.args.limit c.args.text.now (omega arith)

pub returns-in_default-2-clause-value : goal.returns-in_default-2-clause-value
returns-in_default-2-clause-value c = unread c.args.limit c.args.text.now c.in_default.field-0 (omega arith) c.in_default.ensures.value.0 (c.is_plain.ensures.value.0 c.if-not-is_plain.false)
