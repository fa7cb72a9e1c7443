use Rattle.std.proofs.Common.{◌<◌, ◌∙◌, arith, length}
use Rattle.core_files.proofs.LogLemmas.{entry_within, entry_more}
use Rattle.core_files.proofs.WritingLemmas.{found_written}
use Rattle.core_files.proofs.logs.put_entries.Goals as goal

pub put_structure-after-requires : goal.put_structure-after-requires
put_structure-after-requires g c =
    let below : c.loop-place.place < length c.args.log.now.entries = omega (arith, c.loop-place-test.true, c.kept-place-end.ensures.value) in
    omega (arith, c.requires.sized _ _ c.bytes_of.ensures, c.loop-place.invariant.ends, c.loop-place.invariant.room, c.requires.room, entry_within c.loop-place.place (length c.args.log.now.entries) c.args.size below)

pub loop-place-preserved : goal.loop-place-preserved
loop-place-preserved g c =
    let below : c.loop-place.place < length c.args.log.now.entries = omega (arith, c.loop-place-test.true, c.kept-place-end.ensures.value) in
    record {
      text = λ text spelled. found_written text _ _ _ c.args.log.now.entries c.loop-place.place c.entry_at-entry.result below c.entry_at-entry.ensures.value (c.loop-place.invariant.text text spelled)
          (rw (spelled _ _ c.bytes_of.ensures) at c.put_structure-after.ensures.text);
      ends = omega (arith, c.put_structure-after.ensures.place, c.loop-place.invariant.ends, c.requires.sized _ _ c.bytes_of.ensures, entry_more c.loop-place.place c.args.size);
      room = c.put_structure-after.ensures.room ∙ c.loop-place.invariant.room;
    }
