use Rattle.std.proofs.Common.{◌≡◌, ◌≤◌, length, map, take, vec_capacity}
use Rattle.xef_images.specs.Image.{Image}
use Rattle.system_state.specs.lemmas.StateTerms.{booted_own}
use Rattle.system_state.proofs.starting.boot_parts.Given as goal

abbrev pub invariant-loop-p : goal.invariant-loop-p
invariant-loop-p l = record {
  reserved : length l.system.conf.parts ≤ vec_capacity l.parts;
  counted : length l.parts.items ≡ l.p;
  booted : l.parts.items ≡ map (λ (image : Image). booted_own image.entry) (take l.p l.system.images);
}
