use Rattle.std.proofs.Common.{◌≡◌, refl, rules, Some}
use Rattle.loaded_system.specs.Inside.{first_outside}
use Rattle.loaded_system.specs.lemmas.InsideLemmas.{inside_if_none, none_if_inside}
use Rattle.loaded_system.proofs.system.System.new.Goals as goal

pub invariant_of-result : goal.invariant_of-result
invariant_of-result c = record {
  fits = search rules;
  images = search rules;
  counted = search rules;
  inside = inside_if_none c.args.conf.parts c.args.images.items (search rules);
}

pub returns-in-Some-clause-inside : goal.returns-in-Some-clause-inside
returns-in-Some-clause-inside c =
    let found : first_outside c.args.conf.parts c.args.images.items ≡ Some c.in-Some.outside = search rules in
    (λ e. absurd cc, λ inside. let none = none_if_inside c.args.conf.parts c.args.images.items inside in absurd cc)

pub returns-in-None-clause-inside : goal.returns-in-None-clause-inside
returns-in-None-clause-inside c =
    (λ _. inside_if_none c.args.conf.parts c.args.images.items (search rules), λ _. refl)
