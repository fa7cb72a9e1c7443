use Rattle.codecs.specs.lemmas.CodecLemmas.{any_number_lawful, fixed_text_lawful, no_bytes_lawful, number_lawful, raw_bytes_lawful, wide_of}
use Rattle.codecs.proofs.law.fields_are_lawful.Goals as goal

pub returns-clause-numbers : goal.returns-clause-numbers
returns-clause-numbers g c = λ short refused width test is. (any_number_lawful short width (wide_of width is), number_lawful short refused width test (wide_of width is))

pub returns-clause-bytes : goal.returns-clause-bytes
returns-clause-bytes g c = raw_bytes_lawful

pub returns-clause-texts : goal.returns-clause-texts
returns-clause-texts g c = fixed_text_lawful

pub returns-clause-none : goal.returns-clause-none
returns-clause-none g c = no_bytes_lawful
