use Rattle.std.proofs.Common.{◌∙◌, ap, ℕ, List, Option, length}
use Rattle.std.specs.Prelude.{slice_get, unwrap_or}
use Rattle.xmcf_check.specs.Described.{number_named, names_or_none, port_names}
use Rattle.xmcf_check.specs.lemmas.Numbers.{first_from}
use Rattle.xmcf_check.proofs.numbers.port_number.Goals as goal

pub returns-in-Some : goal.returns-in-Some
unfolding number_named
returns-in-Some c =
    let names = names_or_none (slice_get (port_names c.args.parts.now) c.args.part) in
    let found = c.in-Some.ensures.value ∙ c.requires (c.args.part, c.bytes.result) ∙ ap (λ (name : List ℕ). first_from 0 names name) c.bytes.ensures.value in
    ap (λ (o : Option ℕ). unwrap_or o (length names)) found

pub returns-in-None : goal.returns-in-None
unfolding number_named
returns-in-None c =
    let names = names_or_none (slice_get (port_names c.args.parts.now) c.args.part) in
    let found = c.in-None.ensures.value ∙ c.requires (c.args.part, c.bytes.result) ∙ ap (λ (name : List ℕ). first_from 0 names name) c.bytes.ensures.value in
    c.port_count.ensures ∙ ap (λ (o : Option ℕ). unwrap_or o (length names)) found
