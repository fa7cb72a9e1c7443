use Rattle.std.proofs.Common.{ap, map}
use Rattle.command_line.specs.Seen.{seen_options}
use Rattle.command_line.specs.Words.{cores_in}
use Rattle.file_commands.specs.EndingValues.{ending_of, vector_bytes}
use Rattle.file_commands.specs.Outcome.{ran_making}
use Rattle.run_commands.specs.lemmas.Beginnings.{machine_of}
use Rattle.run_commands.proofs.BeginLemmas.{named_may}
use Rattle.run_commands.proofs.ReadyLemmas.{made_refuse}
use Rattle.run_commands.proofs.readiness.ready_struck.Goals as goal

pub returns-in-Ok-clause-value : goal.returns-in-Ok-clause-value
returns-in-Ok-clause-value c =
    let made = rw c.deref.ensures.value at c.in-Ok.ensures.made in
    ap (ran_making c.args.upsets.items c.args.ticks (cores_in (seen_options c.args.options)) (machine_of c.args.system.now c.args.beginning)) made

pub returns-clause-value : goal.returns-clause-value
returns-clause-value c =
    let denied = rw c.deref.ensures.value at c.in-Err.ensures.made in
    made_refuse (ending_of c.in-Err.ending) c.args.upsets.items c.args.ticks (cores_in (seen_options c.args.options)) (machine_of c.args.system.now c.args.beginning) _ denied

pub returns-in-Ok-clause-ready : goal.returns-in-Ok-clause-ready
returns-in-Ok-clause-ready c = record {
  begins = c.requires.begins;
  named = c.requires.named;
  first = c.requires.first;
  cores = c.requires.cores;
  ticks = c.requires.ticks;
  most = c.requires.most;
  struck = c.requires.struck;
  fit = c.requires.fit;
  scripts = named_may (seen_options c.args.options) (map vector_bytes c.args.contents.now) c.args.system.now c.args.beginning c.requires.begun c.requires.named;
  numbers = rw c.deref.ensures.value at c.in-Ok.ensures.numbers;
  stored = rw c.deref.ensures.value at c.in-Ok.ensures.stored;
}
