use Rattle.std.proofs.Common.{◌≡◌, ◌++◌, drop}
use Rattle.xm_container.specs.Box.{entries_text}
use Rattle.xm_container.specs.Texts.{image_lines}
use Rattle.xm_container.proofs.lines.put_images.Given as goal

abbrev pub invariant-loop-id : goal.invariant-loop-id
invariant-loop-id l = record {
  lines : l.lines.items ++ image_lines l.id (drop l.id l.system.images) ≡ l.fn.lines.items ++ image_lines 0 l.system.images;
  rest : l.rest ≡ entries_text l.id (drop l.id l.system.images);
}
