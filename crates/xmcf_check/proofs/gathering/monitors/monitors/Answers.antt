use Rattle.std.proofs.Common.{◌∙◌, ap, map, arith, List}
use Rattle.xm_conf.specs.Description.{Monitor}
use Rattle.xmcf_check.specs.Described.{grandchildren, described_monitor, monitor_with, monitors_of}
use Rattle.xmcf_check.specs.Elements.{part_id_of}
use Rattle.xmcf_check.proofs.PassLemmas.{each-all, one_pass}
use Rattle.xmcf_check.proofs.WholeLemmas.{monitor_makes}
use Rattle.xmcf_check.proofs.gathering.monitors.monitors.Goals as goal

pub loop-number-preserved : goal.loop-number-preserved
loop-number-preserved c =
    one_pass (λ (monitor : Monitor). monitor.answers) (described_monitor c.args.entries.now) (λ n. monitor_with (grandchildren n c.args.entries.now)) part_id_of c.loop-number.number c.args.entries.now _ _ (monitor_makes c.args.entries.now)
    c.loop-number.invariant c.in_ok-push_monitor.ensures

pub returns : goal.returns
unfolding monitors_of
returns c =
    c.loop-number.invariant ∙ ap (λ (monitors : List Monitor). map (λ (monitor : Monitor). monitor.answers) monitors) (each-all (described_monitor c.args.entries.now) c.loop-number.number c.args.entries.now (omega arith))
