use Rattle.std.proofs.Common.{sym, ◌∙◌, ap, Ok, arith}
use Rattle.guest_bus.specs.lemmas.AccessLemmas.{fetched_at, fetched_refused}
use Rattle.vector_suite.proofs.AreaLemmas.{whole}
use Rattle.vector_suite.proofs.memory.fetch_word.Goals as goal

pub returns-in-Ok-clause-value : goal.returns-in-Ok-clause-value
returns-in-Ok-clause-value c =
    let at = c.in-Ok.ensures in
    ap Ok c.word.ensures ∙ sym (fetched_at _ _ c.args.bytes.now c.args.address c.in-Ok.at at.lies at.free (omega arith))

pub returns-in-Err-clause-value : goal.returns-in-Err-clause-value
returns-in-Err-clause-value c = sym (fetched_refused _ _ _ _ c.in-Err.ensures)

pub returns-in-Ok-clause-whole : goal.returns-in-Ok-clause-whole
returns-in-Ok-clause-whole c = whole c.args.read_only c.args.bytes.now c.requires c.type_inv.bytes

pub returns-in-Err-clause-whole : goal.returns-in-Err-clause-whole
returns-in-Err-clause-whole c = whole c.args.read_only c.args.bytes.now c.requires c.type_inv.bytes
