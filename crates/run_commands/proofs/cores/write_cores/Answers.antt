use Rattle.std.proofs.Common.{Some, None}
use Rattle.command_line.specs.Seen.{seen_file, seen_files}
use Rattle.file_commands.specs.Work.{outside}
use Rattle.run_commands.specs.lemmas.CoreLemmas.{fits_next, inside_next, lost_next, saves_next, saves_none}
use Rattle.run_commands.proofs.cores.write_cores.Goals as goal

pub write_core-requires-clause-inside : goal.write_core-requires-clause-inside
write_core-requires-clause-inside g c = (inside_next _ _ _ _ c.in-Some.ensures.value c.loop-first.invariant.inside).0

pub write_core-requires-clause-room : goal.write_core-requires-clause-room
write_core-requires-clause-room g c = (fits_next _ _ _ _ _ c.in-Some.ensures.value c.loop-first.invariant.fits).0

pub loop-first-preserved : goal.loop-first-preserved
loop-first-preserved g c = record {
  inside = (inside_next _ _ _ _ c.in-Some.ensures.value c.loop-first.invariant.inside).1;
  fits = rw c.write_core.ensures.room (fits_next _ _ _ _ _ c.in-Some.ensures.value c.loop-first.invariant.fits).1;
  saves = λ got faults lost after saves.
      c.loop-first.invariant.saves got faults lost after
      (saves_next lost c.args.machine.now.state (seen_files c.loop-first.rest) _ (seen_file c.in-Some.first) _ _ after c.in-Some.ensures.value (c.in-Ok.ensures.saved got faults) saves);
}

pub returns-in-Err : goal.returns-in-Err
returns-in-Err g c = λ got faults.
    let now = outside (g.S.Store.files c.loop-first.files) (g.S.Store.read_faults c.loop-first.files) (g.S.Store.write_faults c.loop-first.files) (g.S.Store.calls c.loop-first.files) got faults in
    let after = outside (g.S.Store.files c.write_core.new.files) (g.S.Store.read_faults c.write_core.new.files) (g.S.Store.write_faults c.write_core.new.files) (g.S.Store.calls c.write_core.new.files) got faults in
    let lost = c.in-Err.ensures.saved got faults in
    c.loop-first.invariant.saves got faults (Some (seen_file c.in-Some.first).file) after
    (lost_next c.args.machine.now.state (seen_files c.loop-first.rest) _ (seen_file c.in-Some.first) now after c.in-Some.ensures.value lost.0 lost.1 lost.2)

pub returns : goal.returns
returns g c = λ got faults.
    let now = outside (g.S.Store.files c.loop-first.files) (g.S.Store.read_faults c.loop-first.files) (g.S.Store.write_faults c.loop-first.files) (g.S.Store.calls c.loop-first.files) got faults in
    c.loop-first.invariant.saves got faults None now (saves_none c.args.machine.now.state (seen_files c.loop-first.rest) now c.in_default.ensures.value)
