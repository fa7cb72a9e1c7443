use Rattle.std.proofs.Common.{◌∙◌}
use Rattle.xm_container.proofs.FileLemmas.{after_byte}
use Rattle.xm_container.proofs.files.first_file.Goals as goal

pub after_first-requires : goal.after_first-requires
after_first-requires c = after_byte c.args.entries.now c.requires

pub sized-requires : goal.sized-requires
sized-requires c = record { text = c.requires.text; rest = c.requires.rest; short = c.requires.short; stands = c.after_first.ensures ∙ c.requires.stands }

pub returns : goal.returns
returns c = λ begun. c.sized.ensures (record { text = begun.text; rest = begun.rest; short = begun.short; stands = c.after_first.ensures ∙ begun.stands })
