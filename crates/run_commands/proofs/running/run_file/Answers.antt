use Rattle.std.proofs.Common.{[], ◌∷◌, refl}
use Rattle.command_line.specs.Words.{Bare}
use Rattle.file_commands.specs.Outcome.{outcome_of}
use Rattle.file_commands.specs.EndingValues.{ending_of}
use Rattle.run_commands.specs.lemmas.AccountLemmas.{accounted_by, accounted_not_one}
use Rattle.file_commands.specs.lemmas.CommandLemmas.{outcome_from}
use Rattle.run_commands.proofs.running.run_file.Goals as goal

pub returns-in-Ok : goal.returns-in-Ok
returns-in-Ok g c =
    let command = Bare c.args.image.now c.args.ticks in
    let ending = ending_of c.run_bytes.result in
    let contents = c.in-Ok.bytes.items ∷ [] in
    let read = c.in-Ok.ensures (g.O.Sink.got c.args.out.now) (g.O.Sink.faults c.args.out.now) in
    let comes = rw c.deref.ensures.value at c.run_bytes.ensures.outcome in
    let leaves = rw c.deref.ensures.value at c.run_bytes.ensures.board in
    record { accounted = accounted_by ending command contents _ _ (record { places = _; marks = _ }) (record { places = _; marks = _ }) (read.0, tt) (outcome_from ending (outcome_of command contents) _ _ _ read.1 comes) leaves }

pub returns-in-Err : goal.returns-in-Err
returns-in-Err g c =
    record {
      accounted = accounted_not_one (ending_of c.in-Err.ending) (Bare c.args.image.now c.args.ticks) c.args.image.now _ _ (record { places = _; marks = _ }) refl
          (c.in-Err.ensures (g.O.Sink.got c.args.out.now) (g.O.Sink.faults c.args.out.now));
    }
