use Rattle.std.proofs.Common.{◌≡◌, ℕ, ◌⊎◌, ◌<◌, arith, length, refl, sym, ◌∙◌, ap, subst}
use Rattle.xm_base.specs.declared.limits.TheConstants.{IMAGE_BYTES}
use Rattle.command_line.specs.Words.{Bare}
use Rattle.file_commands.specs.Ending.{length_text}
use Rattle.file_commands.specs.Outcome.{Outcome, command_refused}
use Rattle.file_commands.specs.lemmas.CommandLemmas.{one-long, refused_outcome}
use Rattle.run_commands.proofs.BeginLemmas.{boot_ticks}
use Rattle.run_commands.proofs.WorkLemmas.{outcome-length, outcome-image}
use Rattle.system_state.specs.State.{with_inputs}
use Rattle.run_commands.proofs.running.run_bytes.Goals as goal

pub returns-then-bytes-gt-FILE_BYTES-clause-outcome : goal.returns-then-bytes-gt-FILE_BYTES-clause-outcome
returns-then-bytes-gt-FILE_BYTES-clause-outcome g c =
    rw (one-long (Bare c.args.image.now c.args.ticks) c.args.image.now c.args.bytes.now refl c.if-bytes-gt-FILE_BYTES.true) (refused_outcome c.args.image.now _ _)

pub returns-in-Ok-new-clause-outcome : goal.returns-in-Ok-new-clause-outcome
returns-in-Ok-new-clause-outcome g c =
    let comes = rw (c.in-Ok.ensures.value.1, c.in-Ok-new.ensures.value, c.none-cores.ensures.value, c.deref.ensures.value, c.new-made.ensures.items) at c.run_system.ensures.outcome in
    rw (outcome-image c.args.image.now c.args.ticks c.args.bytes.now c.in-Ok.ensures.value.0) comes

pub returns-in-Err-Length-clause-outcome : goal.returns-in-Err-Length-clause-outcome
returns-in-Err-Length-clause-outcome g c =
    let found = rw c.in-Err-Length.field-0-is at c.in-Err-Length.ensures.value in
    let wrong : (length c.args.bytes.now ≡ 0) ⊎ (IMAGE_BYTES < length c.args.bytes.now) =
    let P : ℕ → Type 0 = λ n. (n ≡ 0) ⊎ (IMAGE_BYTES < n) in subst P found.0 found.1 in
    let outcome = outcome-length c.args.image.now c.args.ticks c.args.bytes.now c.if-bytes-gt-FILE_BYTES.false wrong in
    let refused_so : ℕ → Outcome = λ n. command_refused c.args.image.now (length_text n) in
    rw (outcome ∙ ap refused_so (sym found.0 ∙ sym c.in-Err-Length.found-is)) (refused_outcome c.args.image.now _ _)

pub returns-in-Ok-new-clause-board : goal.returns-in-Ok-new-clause-board
returns-in-Ok-new-clause-board g c =
    let left = rw (c.in-Ok.ensures.value.1, c.in-Ok-new.ensures.value, c.none-cores.ensures.value, c.deref.ensures.value, c.new-made.ensures.items) at c.run_system.ensures.board in
    rw (outcome-image c.args.image.now c.args.ticks c.args.bytes.now c.in-Ok.ensures.value.0) left

pub run_system-requires-clause-most : goal.run_system-requires-clause-most
run_system-requires-clause-most g c = omega (arith, c.requires, boot_ticks (with_inputs c.in-Ok.system c.in-Ok-new.inputs))
