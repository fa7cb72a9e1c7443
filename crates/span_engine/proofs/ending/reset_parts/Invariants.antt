use Rattle.std.proofs.Common.{◌≡◌}
use Rattle.machine_model.specs.Partition.{reset}
use Rattle.machine_model.specs.View.{view_of}
use Rattle.tick_steps.specs.lemmas.PassLemmas.{each_passed}
use Rattle.span_engine.proofs.ending.reset_parts.Given as goal

abbrev pub invariant-loop-p : goal.invariant-loop-p
invariant-loop-p l = l.sys ≡ each_passed (λ q ps. reset (view_of l.fn.sys.machine.system q) l.mode 0 ps) l.p l.fn.sys
