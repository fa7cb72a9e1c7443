use Rattle.system_state.proofs.InsideLemmas.{is_areas, is_copied, is_in_memories, on_ok}
use Rattle.system_state.proofs.sys.Sys.copy_to.Goals as goal

pub copy_out-requires : goal.copy_out-requires
copy_out-requires c = is_in_memories c.self.inside c.args.self.now c.args.p c.self.invariant c.self.view_is c.requires

pub returns-clause-answer : goal.returns-clause-answer
returns-clause-answer c =
    let areas = is_areas c.self.inside c.args.self.now c.args.p c.self.invariant c.self.view_is c.requires in
    rw (← areas) c.copy_out.ensures.answer

pub returns-clause-written : goal.returns-clause-written
returns-clause-written c =
    on_ok c.copy_out.result _ _ (λ written. is_copied c.self.inside c.args.self.now c.args.p c.args.address c.args.from.now c.copy_out.new.self c.self.invariant c.self.view_is c.requires written) c.copy_out.ensures.written
