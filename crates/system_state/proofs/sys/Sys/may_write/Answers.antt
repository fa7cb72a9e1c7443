use Rattle.system_state.proofs.InsideLemmas.{is_areas, is_in_memories}
use Rattle.system_state.proofs.sys.Sys.may_write.Goals as goal

pub may_write-requires : goal.may_write-requires
may_write-requires c = is_in_memories c.self.inside c.args.self.now c.args.p c.self.invariant c.self.view_is c.requires

pub returns : goal.returns
returns c =
    let areas = is_areas c.self.inside c.args.self.now c.args.p c.self.invariant c.self.view_is c.requires in
    rw (← areas) (record { value = c.may_write.ensures.value })
