use Rattle.std.proofs.Common.{ℕ, ◌≤◌, ◌<◌, inl, length, ◌∙◌, sym, arith}
use Rattle.std.proofs.lemmas.Result.{err_from_is_err_and}
use Rattle.guest_memory.specs.Memories.{map_at}
use Rattle.machine_model.specs.Lists.{table}
use Rattle.saved_machines.specs.Reading.{head_value}
use Rattle.saved_machines.specs.SavedFormat.{partition_format}
use Rattle.saved_machines.specs.Values.{part_of_values}
use Rattle.saved_machines.specs.declared.fault.SavedFault.TheVariants as fault
use Rattle.saved_machines.specs.lemmas.ReadTerms.{parts_value}
use Rattle.saved_machines.proofs.ReadLemmas.{each_done, each_fail, each_on, length_more, length_table, numbered_there, parts_more}
use Rattle.saved_machines.proofs.part.parts.Goals as goal

pub returns-in_err-values-clause-value : goal.returns-in_err-values-clause-value
returns-in_err-values-clause-value c =
    let p = err_from_is_err_and c.from_residual.result c.from_residual.ensures.1 in
    let below : c.loop-p.p < length c.args.conf.now.parts = omega (arith, c.loop-p-test.true, c.part_count-p-end.ensures.value) in
    let all = length_table (λ (p : ℕ). p) (length c.args.conf.now.parts) in
    rw (p.1, p.2)
    (each_fail (λ (p : ℕ). partition_format c.args.conf.now (map_at p c.args.loaded.now) (head_value c.args.head.now) p) (table (λ (p : ℕ). p) (length c.args.conf.now.parts)) (parts_value c.loop-p.parts) c.loop-p.p c.loop-p.cursor c.loop-p.p fault.Memory c.in_err-values.field-0.0 _
    (omega (arith, below, all)) (numbered_there (λ (p : ℕ). p) (length c.args.conf.now.parts) c.loop-p.p c.loop-p.p below) c.in_err-values.ensures c.loop-p.invariant.2)

pub returns-in_err-put_part-clause-value : goal.returns-in_err-put_part-clause-value
returns-in_err-put_part-clause-value c =
    let p = err_from_is_err_and c.from_residual-in_err-put_part.result c.from_residual-in_err-put_part.ensures.1 in
    rw (p.1, p.2) (inl c.in_err-put_part.ensures.memory)

pub loop-p-preserved : goal.loop-p-preserved
loop-p-preserved c =
    let below : c.loop-p.p < length c.args.conf.now.parts = omega (arith, c.loop-p-test.true, c.part_count-p-end.ensures.value) in
    let all = length_table (λ (p : ℕ). p) (length c.args.conf.now.parts) in
    let put = c.in_ok-put_part.ensures.put in (
      length_more c.loop-p.parts.values.items c.put_part.new.parts.values.items c.in_ok-values.values c.loop-p.p put.0 c.loop-p.invariant.0,
      length_more c.loop-p.parts.inputs.items c.put_part.new.parts.inputs.items c.in_ok-values.words c.loop-p.p put.1 c.loop-p.invariant.1,
      rw (parts_more c.loop-p.parts c.put_part.new.parts c.in_ok-values.values c.in_ok-values.words (c.loop-p.invariant.0 ∙ sym c.loop-p.invariant.1) put.0 put.1)
          (each_on (λ (p : ℕ). partition_format c.args.conf.now (map_at p c.args.loaded.now) (head_value c.args.head.now) p) (table (λ (p : ℕ). p) (length c.args.conf.now.parts)) (parts_value c.loop-p.parts) c.loop-p.p c.loop-p.cursor c.loop-p.p (part_of_values c.in_ok-values.values c.in_ok-values.words.items) c.partition.new.cursor _
          (omega (arith, below, all)) (numbered_there (λ (p : ℕ). p) (length c.args.conf.now.parts) c.loop-p.p c.loop-p.p below) c.in_ok-values.ensures c.loop-p.invariant.2),
    )

pub returns-clause-value : goal.returns-clause-value
returns-clause-value c =
    let all = length_table (λ (p : ℕ). p) (length c.args.conf.now.parts) in
    let past : length c.args.conf.now.parts ≤ c.loop-p.p = omega (arith, c.loop-p-test.false, c.part_count-p-end.ensures.value) in
    each_done (λ (p : ℕ). partition_format c.args.conf.now (map_at p c.args.loaded.now) (head_value c.args.head.now) p) (table (λ (p : ℕ). p) (length c.args.conf.now.parts)) (parts_value c.loop-p.parts) c.loop-p.p c.loop-p.cursor _
    (omega (arith, past, all)) c.loop-p.invariant.2
