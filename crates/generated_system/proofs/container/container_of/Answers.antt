use Rattle.std.proofs.Common.{ap, ◌∙◌, Ok}
use Rattle.bin_config.specs.declared.version.Version.TheVariants.{Two}
use Rattle.loaded_system.specs.System.{System}
use Rattle.xm_container.specs.Box.{box_text}
use Rattle.generated_system.specs.Generated.{generated}
use Rattle.generated_system.proofs.PackLemmas.{only_memory, packed_is, system_so}
use Rattle.generated_system.proofs.container.container_of.Goals as goal

pub returns-in-Ok-clause-text : goal.returns-in-Ok-clause-text
returns-in-Ok-clause-text c =
    let is = packed_is c.args.number c.in_ok-conf.conf c.deref.result.now c.in_ok-conf.ensures (c.deref.ensures.value ∙ c.in_ok-images.ensures) in
    let made = c.in-Ok.ensures.exact in
    cc

pub returns-in-Ok-clause-read : goal.returns-in-Ok-clause-read
returns-in-Ok-clause-read c =
    let is = system_so c.args.number c.in_ok-conf.conf c.deref.result.now c.in_ok-conf.ensures (c.deref.ensures.value ∙ c.in_ok-images.ensures) in
    c.in-Ok.ensures.read ∙ ap (λ (system : System). Ok system) is

pub starved-requires : goal.starved-requires
starved-requires c =
    only_memory c.pack.result c.in-Err.fault _ (box_text Two (generated c.args.number)) c.in-Err.is c.pack.ensures.exact
    (packed_is c.args.number c.in_ok-conf.conf c.deref.result.now c.in_ok-conf.ensures (c.deref.ensures.value ∙ c.in_ok-images.ensures))
