use Rattle.std.proofs.Common.{refl, sym, ◌∙◌}
use Rattle.replay_tick.proofs.LoneWorkLemmas.{undone_same}
use Rattle.replay_tick.proofs.work.go_alone.Goals as goal

pub returns-else-is_unseen : goal.returns-else-is_unseen
returns-else-is_unseen c = (sym c.is_unseen.ensures ∙ c.if-is_unseen.false, undone_same c.args.p c.args.sys.now c.args.sys.now refl)
