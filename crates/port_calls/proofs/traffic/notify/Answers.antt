use Rattle.std.proofs.Common.{arith}
use Rattle.port_calls.proofs.HearingLemmas.{ends_in, notified_end, notified_ends, notified_none, notified_step}
use Rattle.port_calls.proofs.traffic.notify.Goals as goal

pub loop-k-init : goal.loop-k-init
loop-k-init c = notified_none c.args.sys.now c.args.chan c.args.interrupt (ends_in c.args.sys.now c.args.chan)

pub dest_part-q-requires : goal.dest_part-q-requires
dest_part-q-requires c =
    rw (notified_ends c.args.sys.now c.loop-k.sys c.args.chan c.args.interrupt c.loop-k.k (ends_in c.args.sys.now c.args.chan) c.loop-k.invariant)
    (omega (arith, c.loop-k-test.true, c.dest_count-k-end.ensures.count))

pub loop-k-preserved : goal.loop-k-preserved
loop-k-preserved c =
    notified_step c.args.sys.now c.loop-k.sys c.interrupt_hearer.new.sys c.args.chan c.args.interrupt c.loop-k.k _ c.dest_part-q.ensures.part c.dest_part-q.ensures.there c.loop-k.invariant c.interrupt_hearer.ensures

pub returns : goal.returns
returns c =
    notified_end c.args.sys.now c.loop-k.sys c.args.chan c.args.interrupt c.loop-k.k c.dest_count-k-end.ensures.fits (omega (arith, c.loop-k-test.false, c.dest_count-k-end.ensures.count)) c.loop-k.invariant
