use Rattle.guest_memory.specs.lemmas.LoadingLemmas.{image_lies}
use Rattle.system_state.proofs.InsideLemmas.{is_in_conf, is_in_memories, is_reloaded}
use Rattle.system_state.proofs.sys.Sys.reload.Goals as goal

pub image-requires : goal.image-requires
image-requires c = is_in_conf c.self.inside c.args.self.now c.args.p c.self.invariant c.self.view_is c.requires

pub reload-requires-clause-partition : goal.reload-requires-clause-partition
reload-requires-clause-partition c = is_in_memories c.self.inside c.args.self.now c.args.p c.self.invariant c.self.view_is c.requires

pub reload-requires-clause-inside : goal.reload-requires-clause-inside
reload-requires-clause-inside c =
    image_lies c.self.inside.system c.self.inside.ram c.args.p c.image.result.now c.image.ensures.system c.self.invariant.areas (is_in_conf c.self.inside c.args.self.now c.args.p c.self.invariant c.self.view_is c.requires) c.image.ensures.value

pub returns : goal.returns
returns c = record { value = is_reloaded c.self.inside c.args.self.now c.args.p c.image.result.now c.reload.new.self c.self.invariant c.self.view_is c.requires c.image.ensures.value c.reload.ensures.value }
