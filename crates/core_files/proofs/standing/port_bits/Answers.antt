use Rattle.std.proofs.Common.{arith, ap, sym, ◌∙◌}
use Rattle.std.proofs.lemmas.List.{drop_all}
use Rattle.machine_model.specs.CoreFile.{bits_of_flags}
use Rattle.machine_model.specs.Structures.{flag}
use Rattle.core_files.proofs.PortLemmas.{bits_fit}
use Rattle.core_files.proofs.standing.port_bits.Goals as goal

pub loop-port-init : goal.loop-port-init
loop-port-init c = record {
  number = sym (ap bits_of_flags (drop_all 32 c.args.ports.now (omega (arith, c.is_made-first.ensures.count))));
  within = omega arith;
}

pub overflow_mul-bits : goal.overflow_mul-bits
overflow_mul-bits c =
    omega (arith, bits_fit c.args.ports.now c.loop-port.port c.loop-port.bits c.is_made-first.ensures.count c.loop-port-test.true c.loop-port.invariant.within c.loop-port.invariant.number)

pub overflow_add-bits : goal.overflow_add-bits
overflow_add-bits c =
    let one = c.flag.ensures ∙ ap flag c.is_made.ensures.value in
    omega (arith, one, c.from.ensures, bits_fit c.args.ports.now c.loop-port.port c.loop-port.bits c.is_made-first.ensures.count c.loop-port-test.true c.loop-port.invariant.within c.loop-port.invariant.number)
