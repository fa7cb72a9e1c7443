use Rattle.std.proofs.Common.{◌≤◌, length, arith}
use Rattle.core_files.proofs.LogLemmas.{all_entries}
use Rattle.core_files.proofs.WritingLemmas.{then_written}
use Rattle.core_files.proofs.logs.put_log.Goals as goal

pub returns-clause-text : goal.returns-clause-text
returns-clause-text g c = λ text spelled.
    let counts = rw c.counts_bytes.ensures.value at c.put_structure-at.ensures.text in
    let entries = then_written _ _ _ _ _ counts (c.put_entries-at.ensures.text text spelled) in
    then_written _ _ _ _ _ entries (rw c.kept-missing.ensures.value at c.put_zeros.ensures.text)

pub returns-clause-place : goal.returns-clause-place
returns-clause-place g c =
    let missing = rw c.kept-missing.ensures.value at c.put_zeros.ensures.place in
    let few : length c.args.log.now.entries ≤ 64 = omega (arith, c.kept-missing.ensures.value, c.kept-missing.ensures.few) in
    omega (arith, missing, c.put_entries-at.ensures.place, c.put_structure-at.ensures.place, c.counts_bytes.ensures.size, all_entries (length c.args.log.now.entries) c.args.size few)
