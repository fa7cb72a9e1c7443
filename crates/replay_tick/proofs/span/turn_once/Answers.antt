use Rattle.std.proofs.Common.{◌+◌, ◌≤◌, arith, subst, sym}
use Rattle.cue_scripts.specs.Script.{IsCue}
use Rattle.replay_tick.proofs.SpanEndLemmas.{plain_cue}
use Rattle.replay_tick.proofs.span.turn_once.Goals as goal

pub turn_in_slot-requires-clause-can : goal.turn_in_slot-requires-clause-can
turn_in_slot-requires-clause-can c =
    let few : c.args.sys.now.machine.ticks + 1 ≤ 4000000000 = c.requires.can.few in
    record {
      machine = c.requires.can.machine;
      partition = c.requires.can.partition;
      running = c.requires.can.running;
      more = omega (arith, few);
      cue = subst (IsCue c.args.sys.now.machine.system.conf c.args.p) (sym c.own_cue-cue.ensures.value) (plain_cue c.args.sys.now.machine.system.conf c.args.p);
      empty = c.requires.empty;
    }
