use Rattle.std.proofs.Common.{sym, ap, subst, ◌∙◌}
use Rattle.machine_model.specs.Machine.{Machine}
use Rattle.machine_model.specs.View.{System}
use Rattle.machine_saves.specs.Loaded.{AreLoaded}
use Rattle.run_commands.proofs.BeginLemmas.{container_long}
use Rattle.run_commands.proofs.making.saved_file.Goals as goal

pub stored_digest-digest-requires : goal.stored_digest-digest-requires
stored_digest-digest-requires c = container_long c.args.container.now c.args.system.now c.requires.same

pub save-requires-clause-loaded : goal.save-requires-clause-loaded
save-requires-clause-loaded c =
    let same = ap (λ (m : Machine). m.system) c.sys.ensures.machine ∙ c.requires.system.1 in
    subst (λ (s : System). AreLoaded s c.in-Ok.loaded) (sym same) (c.in-Ok.ensures c.requires.system.0)
