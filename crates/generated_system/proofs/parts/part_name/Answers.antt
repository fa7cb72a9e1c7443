use Rattle.generated_system.proofs.NameLemmas.{is_named}
use Rattle.generated_system.proofs.parts.part_name.Goals as goal

pub name-requires : goal.name-requires
name-requires c = rw (c.bytes.ensures, c.number.ensures.value, c.from.ensures, c.text.ensures.value, c.new-pen.ensures) (is_named c.args.p c.requires)
