use Rattle.std.proofs.Common.{List, ap, map, ◌∙◌}
use Rattle.machine_restore.specs.lemmas.RestoreTerms.{all_paged}
use Rattle.saved_machines.specs.Saved.{SavedPage}
use Rattle.saved_machines.specs.Values.{PartValues}
use Rattle.machine_restore.proofs.GivenLemmas.{given_whole}
use Rattle.machine_restore.proofs.parts.put_part.Goals as goal

pub returns : goal.returns
returns c =
    let pages = ap (map (λ pages. pages.items)) c.deref.ensures.value ∙ ap (λ (part : PartValues). part.pages) c.part.view_is in
    given_whole c.args.sys.now c.set_part.new.sys c.put_areas.new.sys c.args.p c.in_ok-own.own c.args.part.now c.requires.there c.in_ok-own.ensures c.set_part.ensures
    (c.put_areas.ensures ∙ ap (λ (those : List (List SavedPage)). all_paged c.args.p those c.set_part.new.sys) pages)
