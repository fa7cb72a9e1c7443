use Rattle.std.proofs.Common.{map, ap, length, sym, ◌∙◌, arith, rules}
use Rattle.std.proofs.lemmas.List.{drop_all}
use Rattle.xef_images.specs.Reading.{xef}
use Rattle.command_line.specs.Seen.{seen_file, seen_files}
use Rattle.file_commands.specs.EndingValues.{vector_bytes}
use Rattle.file_commands.specs.Packing.{image_by}
use Rattle.file_commands.proofs.PackingLemmas.{chose_ok, files_begun, files_pushed, images_more, no_more_contents}
use Rattle.file_commands.proofs.packing.read_images.Goals as goal

pub loop-bytes-init : goal.loop-bytes-init
loop-bytes-init c = record {
  value = search rules;
  files = files_begun (map vector_bytes c.args.contents.now) c.new-read.result.items c.new-read.ensures.items;
  count = ap length c.new-read.ensures.items;
}

pub loop-bytes-preserved : goal.loop-bytes-preserved
loop-bytes-preserved c =
    let pushed = chose_ok c.push.result _ _ _ (sym c.is_err.ensures.value ∙ c.if-is_err.false) c.push.ensures.items in
    let more = files_pushed vector_bytes c.args.contents.now c.loop-bytes.read.items c.push.new.self.items _ c.bytes-item.result c.loop-bytes.bytes-index pushed c.loop-bytes.invariant.count c.loop-bytes.invariant.files c.bytes-item.is
    (sym c.deref.ensures.value ∙ c.in-Ok.ensures.text) in
    record {
      value = images_more vector_bytes c.args.contents.now c.loop-bytes.read.items c.push.new.self.items _ (seen_file c.in-Some.first) (seen_files c.loop-bytes.rest) (seen_files c.in-Some.others) c.bytes-item.result c.loop-bytes.bytes-index _ pushed
          c.in-Some.ensures.value c.loop-bytes-test.true c.bytes-item.is (ap (λ b. image_by (seen_file c.in-Some.first).file (xef b)) (sym c.deref.ensures.value) ∙ c.in-Ok.ensures.value) c.loop-bytes.invariant.value;
      files = more.0;
      count = more.1;
    }

pub returns : goal.returns
returns c = record {
  value = c.loop-bytes.invariant.value ∙ no_more_contents _ _ _ (ap (map vector_bytes) (drop_all c.loop-bytes.bytes-index c.args.contents.now (omega arith)));
  files = c.loop-bytes.invariant.files;
}
