use Rattle.std.proofs.Common.{◌≡◌, ◌%◌, ◌==◌, true, sym, ◌∙◌, arith}
use Rattle.std.proofs.lemmas.Bool.Decides.{nat_tests}
use Rattle.guest_bus.specs.declared.bus.Size.TheVariants.{Eight}
use Rattle.virt_traps.proofs.RangeLemmas.{none_allowed}
use Rattle.virt_traps.proofs.AccessLemmas.{load_refused, loaded_value, stored_again, stored_where}
use Rattle.virt_traps.proofs.save_area.may_be_used.Goals as goal

pub returns-in-Spill-clause-answer : goal.returns-in-Spill-clause-answer
returns-in-Spill-clause-answer g c =
    let aligned : (c.args.address % 8 == 0) ≡ true = grind (arith, nat_tests) in
    rw c.in-Spill.is (c.is_ok.ensures.value ∙ stored_where _ c.args.address Eight aligned c.store.result (rw c.load.ensures.areas at c.store.ensures.fault))

pub returns-in-Spill-clause-memory : goal.returns-in-Spill-clause-memory
returns-in-Spill-clause-memory g c =
    let aligned : (c.args.address % 8 == 0) ≡ true = grind (arith, nat_tests) in
    let read = loaded_value _ c.args.address Eight aligned _ c.in-Ok.value (sym c.in-Ok.ensures.value) in
    c.store.ensures.memory
    ∙ stored_again _ _ c.load.ensures.whole c.args.address c.in-Ok.value (rw (c.load.ensures.areas) read.0) (rw (c.load.ensures.memory) read.1)
    ∙ c.load.ensures.memory

pub returns-in-Fill-clause-answer : goal.returns-in-Fill-clause-answer
returns-in-Fill-clause-answer g c =
    let aligned : (c.args.address % 8 == 0) ≡ true = grind (arith, nat_tests) in
    rw c.in-Fill.is (sym (loaded_value _ c.args.address Eight aligned _ c.in-Ok.value (sym c.in-Ok.ensures.value)).0)

pub returns-in-Err-clause-answer : goal.returns-in-Err-clause-answer
returns-in-Err-clause-answer g c =
    let aligned : (c.args.address % 8 == 0) ≡ true = grind (arith, nat_tests) in
    sym (none_allowed c.args.which _ c.args.address 8 (load_refused _ c.args.address Eight aligned _ c.in-Err.field-0 (sym c.in-Err.ensures.value)))
