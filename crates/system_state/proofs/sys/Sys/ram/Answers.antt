use Rattle.std.proofs.Common.{ap, ◌∙◌}
use Rattle.guest_memory.specs.Memories.{Memories}
use Rattle.system_state.proofs.InsideLemmas.{is_maps}
use Rattle.system_state.proofs.sys.Sys.ram.Goals as goal

pub returns-clause-maps : goal.returns-clause-maps
returns-clause-maps c = ap (λ (m : Memories). m.maps) c.ram.ensures ∙ is_maps c.self.inside c.args.self.now c.self.invariant c.self.view_is
