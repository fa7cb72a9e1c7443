use Rattle.machine_saves.proofs.PutLemmas.{ok_then}
use Rattle.machine_saves.proofs.SpellingLemmas.{part_put}
use Rattle.machine_saves.proofs.parts.put_part.Goals as goal

pub returns : goal.returns
returns c =
    ok_then c.put_areas.result _ _
    (λ third. part_put c.args.sys.now.machine c.args.p c.args.out.now.items _ _ _ c.look_at.ensures.registers c.look_at.ensures.traces c.look_at.ensures.health c.in_ok-put_state.ensures c.in_ok-put_inputs.ensures third)
    c.put_areas.ensures
