use Rattle.replay_tick.proofs.LoneTrafficLemmas.{found_in, put_channel, put_result, put_some, put_system}
use Rattle.replay_tick.proofs.traffic.hear_put.Goals as goal

pub put_on-requires-clause-channel : goal.put_on-requires-clause-channel
put_on-requires-clause-channel c =
    put_channel c.args.sys.now.machine.system.conf c.args.p c.args.name c.in-Some.chan c.args.bytes.now c.requires.cue.fits
    (found_in _ _ c.args.p c.args.name _ c.conf.ensures.value c.in-Some.ensures.value)

pub returns-in-Some-clause-taken : goal.returns-in-Some-clause-taken
returns-in-Some-clause-taken c =
    put_result c.args.sys.now.machine c.args.p c.args.name c.in-Some.chan c.args.bytes.now c.put_on.result c.requires.cue.fits
    (found_in _ _ c.args.p c.args.name _ c.conf.ensures.value c.in-Some.ensures.value) c.put_on.ensures.taken

pub returns-in-Some-clause-heard : goal.returns-in-Some-clause-heard
returns-in-Some-clause-heard c =
    put_system c.args.p c.args.name c.in-Some.chan c.args.bytes.now c.put_on.result c.args.sys.now c.put_on.new.sys c.requires.cue.fits
    (found_in _ _ c.args.p c.args.name _ c.conf.ensures.value c.in-Some.ensures.value) c.put_on.ensures.put

pub returns-in-None-clause-taken : goal.returns-in-None-clause-taken
returns-in-None-clause-taken c =
    absurd (put_some c.args.sys.now.machine.system.conf c.args.p c.args.name _ c.requires.cue.fits (found_in _ _ c.args.p c.args.name _ c.conf.ensures.value c.in-None.ensures.value))

pub returns-in-None-clause-heard : goal.returns-in-None-clause-heard
returns-in-None-clause-heard c =
    absurd (put_some c.args.sys.now.machine.system.conf c.args.p c.args.name _ c.requires.cue.fits (found_in _ _ c.args.p c.args.name _ c.conf.ensures.value c.in-None.ensures.value))
