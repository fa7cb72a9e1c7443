use Rattle.std.proofs.Common.{◌≡◌, length, map, drop}
use Rattle.command_line.specs.Seen.{seen_files}
use Rattle.xm_container.specs.Pack.{AreFilesOf}
use Rattle.file_commands.specs.Packing.{images_of}
use Rattle.file_commands.specs.EndingValues.{vector_bytes}
use Rattle.file_commands.proofs.PackingLemmas.{after_images}
use Rattle.file_commands.proofs.packing.read_images.Given as goal

abbrev pub invariant-loop-bytes : goal.invariant-loop-bytes
invariant-loop-bytes l = record {
  value : images_of (seen_files l.fn.images) (map vector_bytes l.contents) ≡ after_images l.read.items (images_of (seen_files l.rest) (map vector_bytes (drop l.bytes-index l.contents)));
  files : AreFilesOf (map vector_bytes l.contents) l.read.items;
  count : length l.read.items ≡ l.bytes-index;
}
