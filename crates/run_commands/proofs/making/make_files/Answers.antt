use Rattle.std.proofs.Common.{◌≡◌, ◌+◌, ◌≤◌, ◌⊎◌, [], OnOk, map, refl, sym, ap, subst, ◌∙◌}
use Rattle.xm_base.specs.declared.limits.TheConstants.{TICKS}
use Rattle.command_line.specs.Seen.{seen_options}
use Rattle.command_line.specs.Words.{save_in, scripts_in}
use Rattle.continuation_laws.specs.Onward.{after_ticks}
use Rattle.machine_model.specs.Machine.{Machine, start}
use Rattle.file_commands.specs.EndingValues.{vector_bytes}
use Rattle.upset_files.specs.Fits.{AllFit}
use Rattle.run_commands.specs.Numbers.{IsStored}
use Rattle.run_commands.proofs.BeginLemmas.{machine_boots, machine_system, named_may}
use Rattle.run_commands.proofs.making.make_files.Goals as goal

pub returns-then-has_none-clause-made : goal.returns-then-has_none-clause-made
returns-then-has_none-clause-made c = rw (c.if-has_none.ensures.0, c.if-has_none.ensures.1, c.new.ensures.items) refl

pub returns-then-has_none-clause-numbers : goal.returns-then-has_none-clause-numbers
returns-then-has_none-clause-numbers c = rw c.if-has_none.ensures.0 tt

pub returns-then-has_none-clause-stored : goal.returns-then-has_none-clause-stored
returns-then-has_none-clause-stored c = rw c.if-has_none.ensures.1 tt

pub make_by-requires-clause-most : goal.make_by-requires-clause-most
make_by-requires-clause-most c = subst (λ (m : Machine). m.ticks + c.args.ticks ≤ TICKS) (sym c.in-Ok.ensures) c.requires.most

pub make_by-requires-clause-fit : goal.make_by-requires-clause-fit
make_by-requires-clause-fit c = subst (λ (m : Machine). AllFit c.args.system.now.conf (m.ticks + c.args.ticks) m.ticks c.args.upsets.now) (sym c.in-Ok.ensures) c.requires.fit

pub make_by-requires-clause-system : goal.make_by-requires-clause-system
make_by-requires-clause-system c =
    let is = machine_system c.args.system.now c.args.beginning.now in
    (is.0, ap (λ (m : Machine). m.system) c.in-Ok.ensures ∙ is.1)

pub make_by-requires-clause-boots : goal.make_by-requires-clause-boots
make_by-requires-clause-boots c =
    subst (λ (m : Machine). (scripts_in (seen_options c.args.options) ≡ []) ⊎ (m ≡ start m.system)) (sym c.in-Ok.ensures)
    (machine_boots c.args.system.now c.args.beginning.now (scripts_in (seen_options c.args.options))
    (named_may (seen_options c.args.options) (map vector_bytes c.args.contents.now) c.args.system.now c.args.beginning.now c.requires.begun c.requires.named))

pub returns-in-Ok-clause-stored : goal.returns-in-Ok-clause-stored
returns-in-Ok-clause-stored c =
    subst (λ (m : Machine). OnOk c.make_by.result (IsStored (save_in (seen_options c.args.options)) (after_ticks c.args.upsets.now m c.args.ticks))) c.in-Ok.ensures c.make_by.ensures.stored
