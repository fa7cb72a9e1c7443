use Rattle.std.proofs.Common.{◌≡◌, drop, map}
use Rattle.xm_container.specs.Pack.{AreFilesOf, image_of}
use Rattle.xm_container.proofs.writing.file_of.Given as goal

abbrev pub invariant-loop-file : goal.invariant-loop-file
invariant-loop-file l = record {
  files : AreFilesOf (map (λ file. file.items) (drop l.file-index l.files)) l.rest;
  images : image_of l.rest l.id ≡ image_of l.images l.id;
}
