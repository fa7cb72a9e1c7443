use Rattle.std.proofs.Common.{ap, ◌∙◌}
use Rattle.xm_commands.proofs.EndedLemmas.{read_ended, unread_ended}
use Rattle.xm_commands.proofs.edge.program.Goals as goal

pub returns-in-Ok-clause-ended : goal.returns-in-Ok-clause-ended
returns-in-Ok-clause-ended g c =
    read_ended c.args.given c.in-Ok.texts _ c.on_files.result _ _ _ _ _ c.in-Ok.is c.deref.ensures.value c.new-out.ensures c.new-err.ensures c.exit_code.ensures c.on_files.ensures.call
    (λ done. ap (λ err. err.faults) (c.on_files.ensures.silent done) ∙ c.new-err.ensures)

pub returns-clause-ended : goal.returns-clause-ended
returns-clause-ended g c =
    unread_ended c.args.given c.in-Err.error c.unread.result _ _ _ c.in-Err.is c.new-err.ensures c.exit_code-in-Err.ensures c.unread.ensures.starved
    (λ memory. ap (λ err. err.faults) (c.unread.ensures.quiet memory)) c.unread.ensures.misused (λ done. ap (λ err. err.faults) (c.unread.ensures.silent done))
