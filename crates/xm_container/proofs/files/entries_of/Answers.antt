use Rattle.std.proofs.Common.{◌∙◌, ap, arith, drop, length}
use Rattle.xm_container.proofs.FileLemmas.{container_room, fields_begin}
use Rattle.xm_container.proofs.files.entries_of.Goals as goal

pub fields_of-requires : goal.fields_of-requires
fields_of-requires c = container_room c.unpacked_is_packed.ensures.law c.args.bytes.now c.requires.0 (λ i. omega (arith, c.type_inv.bytes i)) c.requires.1

pub sized-requires : goal.sized-requires
sized-requires c = (fields_begin c.unpacked_is_packed.ensures.law c.args.bytes.now c.fields_of.result.now c.requires.0 (λ i. omega (arith, c.type_inv.bytes i)) c.requires.1 c.fields_of.ensures).0

pub after_first-requires : goal.after_first-requires
after_first-requires c =
    let begun = fields_begin c.unpacked_is_packed.ensures.law c.args.bytes.now c.fields_of.result.now c.requires.0 (λ i. omega (arith, c.type_inv.bytes i)) c.requires.1 c.fields_of.ensures in
    omega (arith, ap length ((c.sized.ensures begun.0).1 ∙ begun.1))

pub returns : goal.returns
returns c = λ system read.
    let begun = fields_begin c.unpacked_is_packed.ensures.law c.args.bytes.now c.fields_of.result.now system (λ i. omega (arith, c.type_inv.bytes i)) read c.fields_of.ensures in
    c.after_first.ensures ∙ ap (drop 1) ((c.sized.ensures begun.0).1 ∙ begun.1)
