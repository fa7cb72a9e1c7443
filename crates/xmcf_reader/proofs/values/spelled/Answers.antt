use Rattle.std.proofs.Common.{◌*◌, ◌<◌, ◌≤◌, arith, sym, ◌∙◌}
use Rattle.xmcf_reader.proofs.Digits.{more_digits, few_digits, next_digit}
use Rattle.std.proofs.Math.Nat.{mul-le-mul_left}
use Rattle.xmcf_reader.proofs.values.spelled.Goals as goal

pub overflow_mul-n : goal.overflow_mul-n
overflow_mul-n c =
    let few : c.loop-byte.n < 1099511627776 = few_digits c.loop-byte.n c.loop-byte.byte-index (omega arith) c.loop-byte.invariant.1 in
    let wide : c.loop-byte.n * c.args.base ≤ c.loop-byte.n * 16 = mul-le-mul_left c.loop-byte.n c.requires.base in
    omega arith

pub overflow_add-n : goal.overflow_add-n
overflow_add-n c =
    let few : c.loop-byte.n < 1099511627776 = few_digits c.loop-byte.n c.loop-byte.byte-index (omega arith) c.loop-byte.invariant.1 in
    let wide : c.loop-byte.n * c.args.base ≤ c.loop-byte.n * 16 = mul-le-mul_left c.loop-byte.n c.requires.base in
    let below : c.in_ok-n.field-0 < 16 = c.in_ok-n.ensures.below in
    omega arith

pub loop-byte-preserved : goal.loop-byte-preserved
loop-byte-preserved c = (
  sym (next_digit c.args.base c.loop-byte.n c.in_ok-n.field-0 c.loop-byte.byte-index c.args.bytes.now c.loop-byte-test.true c.in_ok-n.ensures.value) ∙ c.loop-byte.invariant.0,
  more_digits c.args.base c.loop-byte.n c.in_ok-n.field-0 c.loop-byte.byte-index c.requires.base c.in_ok-n.ensures.below c.loop-byte.invariant.1,
)

pub returns-clause-below : goal.returns-clause-below
returns-clause-below c = few_digits c.loop-byte.n c.loop-byte.byte-index (omega arith) c.loop-byte.invariant.1
