use Rattle.std.proofs.Common.{ℕ, List, Option, map, option_copied, sym, ap, subst, ◌∙◌}
use Rattle.file_commands.specs.EndingValues.{ending_of}
use Rattle.file_commands.specs.Outcome.{made_after, save_for}
use Rattle.file_commands.specs.lemmas.EndingValuesTerms.{IsDenied, MakesOr}
use Rattle.run_commands.specs.lemmas.Made.{made_output, made_outputs}
use Rattle.run_commands.proofs.MakingLemmas.{saved_denied, saved_made}
use Rattle.run_commands.proofs.making.with_saved.Goals as goal

pub returns-in-Ok-clause-made : goal.returns-in-Ok-clause-made
returns-in-Ok-clause-made c =
    let outputs = map made_output c.args.made.items in
    subst (MakesOr made_outputs c.with_made.result)
    (sym (ap (λ (file : Option (List ℕ)). made_after outputs (save_for file c.args.container.now c.args.machine.now.state)) (ap option_copied c.in-Some.is)
    ∙ saved_made outputs c.in-Some.file.now c.args.container.now c.args.machine.now.state (made_output c.in-Ok.saved) c.in-Ok.ensures.made))
    c.with_made.ensures

pub returns-clause-made : goal.returns-clause-made
returns-clause-made c =
    let outputs = map made_output c.args.made.items in
    subst (IsDenied (ending_of c.in-Err.denied))
    (sym (ap (λ (file : Option (List ℕ)). made_after outputs (save_for file c.args.container.now c.args.machine.now.state)) (ap option_copied c.in-Some.is)))
    (saved_denied (ending_of c.in-Err.denied) outputs c.in-Some.file.now c.args.container.now c.args.machine.now.state c.in-Err.ensures.made)
