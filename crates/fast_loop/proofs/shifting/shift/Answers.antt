use Rattle.std.proofs.Common.{subst, sym, ap, ℕ, ◌∙◌}
use Rattle.std.specs.Prelude.{slice_index_or}
use Rattle.predecode.specs.Rows.{AreRegisterNumbers}
use Rattle.predecode.specs.declared.kinds.Kind.TheVariants as kind
use Rattle.predecode.specs.declared.rows.Row.{Row}
use Rattle.fast_loop.proofs.ComingLemmas.{with_row}
use Rattle.fast_loop.proofs.KeptLemmas.{index_is}
use Rattle.std.proofs.lemmas.Bool.{OnTrue_at, OnTrue_from}
use Rattle.guest_bus.specs.Words.{word_address}
use Rattle.predecode.specs.Kinds.{is_exit}
use Rattle.fast_loop.specs.lemmas.Shifts.{IsShift}
use Rattle.fast_loop.proofs.shifting.shift.Goals as goal

pub save-requires-clause-registers : goal.save-requires-clause-registers
save-requires-clause-registers g c =
    with_row c.args.rows.now c.args.at c.requires.place (λ row there.
    subst AreRegisterNumbers (sym (index_is c.args.rows.now c.args.at (record { number = 0; kind = kind.Empty; rd = 0; rs1 = 0; rs2 = 0 }) row there)) (c.requires.rows.each c.args.at row there).registers)

pub restore-requires-clause-registers : goal.restore-requires-clause-registers
restore-requires-clause-registers g c =
    with_row c.args.rows.now c.args.at c.requires.place (λ row there.
    subst AreRegisterNumbers (sym (index_is c.args.rows.now c.args.at (record { number = 0; kind = kind.Empty; rd = 0; rs1 = 0; rs2 = 0 }) row there)) (c.requires.rows.each c.args.at row there).registers)

pub returns-in-Save-clause-done : goal.returns-in-Save-clause-done
returns-in-Save-clause-done g c = OnTrue_from c.save.result _ (λ yes row there.
    subst (λ (r : Row). IsShift r (word_address c.args.origin c.args.at) (g.B.Bus.areas c.args.bus.now) c.args.own.now c.save.new.own (g.B.Bus.memory c.args.bus.now) (g.B.Bus.memory c.save.new.bus)) (index_is c.args.rows.now c.args.at (record { number = 0; kind = kind.Empty; rd = 0; rs1 = 0; rs2 = 0 }) row there) (subst (λ (a : ℕ). IsShift (slice_index_or c.args.rows.now c.args.at (record { number = 0; kind = kind.Empty; rd = 0; rs1 = 0; rs2 = 0 })) a (g.B.Bus.areas c.args.bus.now) c.args.own.now c.save.new.own (g.B.Bus.memory c.args.bus.now) (g.B.Bus.memory c.save.new.bus)) c.address.ensures.value (OnTrue_at yes c.save.ensures.done)))

pub returns-in-Save-clause-used : goal.returns-in-Save-clause-used
returns-in-Save-clause-used g c = OnTrue_from c.save.result _ (λ yes row there.
    ap (λ (r : Row). is_exit r.kind) (sym (index_is c.args.rows.now c.args.at (record { number = 0; kind = kind.Empty; rd = 0; rs1 = 0; rs2 = 0 }) row there)) ∙ ap is_exit c.in-Save.is)

pub returns-in-Restore-clause-done : goal.returns-in-Restore-clause-done
returns-in-Restore-clause-done g c = OnTrue_from c.restore.result _ (λ yes row there.
    subst (λ (r : Row). IsShift r (word_address c.args.origin c.args.at) (g.B.Bus.areas c.args.bus.now) c.args.own.now c.restore.new.own (g.B.Bus.memory c.args.bus.now) (g.B.Bus.memory c.args.bus.now)) (index_is c.args.rows.now c.args.at (record { number = 0; kind = kind.Empty; rd = 0; rs1 = 0; rs2 = 0 }) row there) (OnTrue_at yes (c.restore.ensures.done (word_address c.args.origin c.args.at))))

pub returns-in-Restore-clause-used : goal.returns-in-Restore-clause-used
returns-in-Restore-clause-used g c = OnTrue_from c.restore.result _ (λ yes row there.
    ap (λ (r : Row). is_exit r.kind) (sym (index_is c.args.rows.now c.args.at (record { number = 0; kind = kind.Empty; rd = 0; rs1 = 0; rs2 = 0 }) row there)) ∙ ap is_exit c.in-Restore.is)
