use Rattle.std.proofs.Common.{List, ℕ, ap, sym, subst, ◌∙◌}
use Rattle.machine_saves.specs.Gives.{IsSavedFile}
use Rattle.machine_saves.specs.lemmas.SaveTerms.{sealed_text}
use Rattle.machine_saves.proofs.RangeLemmas.{if_ok}
use Rattle.machine_saves.proofs.SpellingLemmas.{file_is}
use Rattle.machine_saves.proofs.whole.save.Goals as goal

pub returns : goal.returns
returns c =
    let is = ap sealed_text (c.deref.ensures.value ∙ c.in_ok-fields.ensures) ∙ sym (file_is c.args.container c.args.sys.now.machine c.count-count.ensures.parts) in
    record { file = subst (λ (text : List ℕ). IsSavedFile (λ file. file.items) text c.sealed_within.result) is c.sealed_within.ensures; stored = if_ok c.sealed_within.result _ c.look_at_machine.ensures }
