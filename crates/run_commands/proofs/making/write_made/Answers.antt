use Rattle.std.proofs.Common.{Some, None, arith, map, ap}
use Rattle.std.proofs.lemmas.List.{drop_all}
use Rattle.run_commands.specs.lemmas.Made.{made_output}
use Rattle.file_commands.specs.Work.{outside}
use Rattle.run_commands.proofs.ScriptLemmas.{file_lost, file_saved, next_left, no_file_left}
use Rattle.run_commands.proofs.making.write_made.Goals as goal

pub loop-one-init : goal.loop-one-init
loop-one-init g c = λ got faults lost after saves. saves

pub loop-one-preserved : goal.loop-one-preserved
loop-one-preserved g c = λ got faults lost after saves.
    let next = next_left made_output c.args.made.now c.loop-one.one-index c.one-item.result c.one-item.result c.loop-one-test.true c.one-item.is in
    c.loop-one.invariant got faults lost after (file_saved lost _ _ (made_output c.one-item.result) _ _ after next (c.in-Ok.ensures got faults) saves)

pub returns-in-Err : goal.returns-in-Err
returns-in-Err g c = λ got faults.
    let after = outside (g.S.Store.files c.write_one.new.files) (g.S.Store.read_faults c.write_one.new.files) (g.S.Store.write_faults c.write_one.new.files) (g.S.Store.calls c.write_one.new.files) got faults in
    let next = next_left made_output c.args.made.now c.loop-one.one-index c.one-item.result c.one-item.result c.loop-one-test.true c.one-item.is in
    let lost = c.in-Err.ensures got faults in
    c.loop-one.invariant got faults (Some c.one-item.result.file.now) after (file_lost _ _ (made_output c.one-item.result) _ after next lost.0 lost.1 lost.2)

pub returns : goal.returns
returns g c = λ got faults.
    let now = outside (g.S.Store.files c.loop-one.files) (g.S.Store.read_faults c.loop-one.files) (g.S.Store.write_faults c.loop-one.files) (g.S.Store.calls c.loop-one.files) got faults in
    c.loop-one.invariant got faults None now (no_file_left _ now (ap (map made_output) (drop_all c.loop-one.one-index c.args.made.now (omega arith))))
