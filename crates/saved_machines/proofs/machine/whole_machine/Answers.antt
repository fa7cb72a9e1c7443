use Rattle.std.proofs.Common.{◌≡◌, ◌<◌, inr, arith}
use Rattle.std.proofs.lemmas.Result.{err_from_is_err_and}
use Rattle.guest_memory.specs.Memories.{map_at}
use Rattle.saved_machines.specs.Reading.{saved_value}
use Rattle.xm_base.specs.Cursor.{left}
use Rattle.saved_machines.proofs.MachineLemmas.{machine_ends, machine_goes_on, machine_stops}
use Rattle.saved_machines.proofs.machine.whole_machine.Goals as goal

pub returns-in_err-saved-clause-value : goal.returns-in_err-saved-clause-value
returns-in_err-saved-clause-value c =
    let p = err_from_is_err_and c.from_residual.result c.from_residual.ensures.1 in
    rw (p.1, p.2) (machine_stops c.args.conf.now (λ p. map_at p c.args.loaded.now) c.args.container c.args.before.now c.new-cursor.result c.new-cursor.ensures c.in_err-saved.field-0.0 c.in_err-saved.ensures.value)

pub returns-then-left-gt0-clause-value : goal.returns-then-left-gt0-clause-value
returns-then-left-gt0-clause-value c =
    let more : 0 < left c.machine.new.cursor = omega (arith, c.left.ensures, c.if-left-gt0.true) in
    inr (machine_goes_on c.args.conf.now (λ p. map_at p c.args.loaded.now) c.args.container c.args.before.now c.new-cursor.result c.new-cursor.ensures (saved_value c.in_ok-saved.saved) c.machine.new.cursor c.at.result c.in_ok-saved.ensures.value more c.at.ensures)

pub returns-clause-value : goal.returns-clause-value
returns-clause-value c =
    let none : left c.machine.new.cursor ≡ 0 = omega (arith, c.left.ensures, c.if-left-gt0.false) in
    machine_ends c.args.conf.now (λ p. map_at p c.args.loaded.now) c.args.container c.args.before.now c.new-cursor.result c.new-cursor.ensures (saved_value c.in_ok-saved.saved) c.machine.new.cursor c.in_ok-saved.ensures.value none
