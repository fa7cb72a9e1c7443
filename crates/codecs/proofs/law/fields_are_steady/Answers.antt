use Rattle.codecs.specs.lemmas.SteadyLemmas.{any_number_steady, fixed_text_steady, number_steady, steady_bytes, steady_ok}
use Rattle.codecs.proofs.law.fields_are_steady.Goals as goal

pub returns : goal.returns
returns g c = λ short wrong refused width test count text. (any_number_steady short width, number_steady short refused width test, steady_bytes short count, fixed_text_steady short wrong text, steady_ok short tt)
