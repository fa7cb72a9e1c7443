use Rattle.std.proofs.Common.{[], ◌∷◌}
use Rattle.file_commands.specs.Conversion.{command_making}
use Rattle.file_commands.specs.EndingValues.{ending_of}
use Rattle.file_commands.specs.Outcome.{outcome_of}
use Rattle.file_commands.specs.lemmas.CommandLemmas.{outcome_from, done_by_one, not_read_done}
use Rattle.file_commands.specs.lemmas.ConversionLemmas.{reads_one}
use Rattle.file_commands.proofs.converting.convert.Goals as goal

pub returns-in-Ok : goal.returns-in-Ok
returns-in-Ok g c =
    let command = command_making c.args.conversion c.args.file.now in
    let ending = ending_of c.convert_bytes.result in
    let outcome = outcome_of command (c.in-Ok.bytes.items ∷ []) in
    let read = c.in-Ok.ensures (g.O.Sink.got c.args.out.now) (g.O.Sink.faults c.args.out.now) in
    let comes = rw c.deref.ensures.value at c.convert_bytes.ensures in
    done_by_one ending command c.args.file.now c.in-Ok.bytes.items _ _ (reads_one c.args.conversion c.args.file.now) read.0 (outcome_from ending outcome _ _ _ read.1 comes)

pub returns-in-Err : goal.returns-in-Err
returns-in-Err g c =
    not_read_done (ending_of c.in-Err.ending) (command_making c.args.conversion c.args.file.now) c.args.file.now _ _ (reads_one c.args.conversion c.args.file.now)
    (c.in-Err.ensures (g.O.Sink.got c.args.out.now) (g.O.Sink.faults c.args.out.now))
