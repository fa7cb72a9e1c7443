use Rattle.std.proofs.Common.{length, sym, ◌∙◌}
use Rattle.system_state.proofs.CallerLemmas.{room_answers}
use Rattle.system_state.proofs.answering.write.Goals as goal

pub unreachable-requires : goal.unreachable-requires
unreachable-requires c =
    let answers = sym c.in-Err.is ∙ c.copy_to.ensures.answer ∙ room_answers c.args.site c.args.sys.now c.args.address (length c.args.bytes.now) c.requires.room in
    cc
