use Rattle.replay_tick.proofs.LoneTrafficLemmas.{found_in, take_kind, take_result, take_some, take_system}
use Rattle.replay_tick.proofs.traffic.hear_take.Goals as goal

pub take-requires-clause-kind : goal.take-requires-clause-kind
take-requires-clause-kind c =
    take_kind c.args.sys.now.machine.system.conf c.args.p c.args.name c.in-Some.chan c.requires.cue
    (found_in _ _ c.args.p c.args.name _ c.conf.ensures.value c.in-Some.ensures.value)

pub returns-in-Some-clause-taken : goal.returns-in-Some-clause-taken
returns-in-Some-clause-taken c =
    take_result c.args.sys.now.machine c.args.p c.args.name c.in-Some.chan c.take.result c.requires.cue
    (found_in _ _ c.args.p c.args.name _ c.conf.ensures.value c.in-Some.ensures.value) c.take.ensures.taken

pub returns-in-Some-clause-heard : goal.returns-in-Some-clause-heard
returns-in-Some-clause-heard c =
    take_system c.args.p c.args.name c.in-Some.chan c.take.result c.args.sys.now c.take.new.sys c.requires.cue
    (found_in _ _ c.args.p c.args.name _ c.conf.ensures.value c.in-Some.ensures.value) c.take.ensures.given

pub returns-in-None-clause-taken : goal.returns-in-None-clause-taken
returns-in-None-clause-taken c =
    absurd (take_some c.args.sys.now.machine.system.conf c.args.p c.args.name c.requires.cue (found_in _ _ c.args.p c.args.name _ c.conf.ensures.value c.in-None.ensures.value))

pub returns-in-None-clause-heard : goal.returns-in-None-clause-heard
returns-in-None-clause-heard c =
    absurd (take_some c.args.sys.now.machine.system.conf c.args.p c.args.name c.requires.cue (found_in _ _ c.args.p c.args.name _ c.conf.ensures.value c.in-None.ensures.value))
