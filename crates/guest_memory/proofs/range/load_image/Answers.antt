use Rattle.std.proofs.Common.{ℕ, length, replicate, ap, ◌∙◌}
use Rattle.std.proofs.lemmas.List.{length-replicate}
use Rattle.guest_bus.specs.Memory.{Memory}
use Rattle.xef_images.specs.Image.{Segment}
use Rattle.guest_memory.specs.Flat.{listed, memory_in}
use Rattle.guest_memory.specs.Loading.{areas_with_image, with_segments}
use Rattle.guest_memory.proofs.RangeLemmas.{still_space}
use Rattle.guest_memory.proofs.SegmentLemmas.{segment_allowed, segments_on}
use Rattle.guest_memory.proofs.ZeroLemmas.{memory_in-zeros}
use Rattle.guest_memory.proofs.range.load_image.Goals as goal

pub loop-segment-init : goal.loop-segment-init
unfolding areas_with_image
loop-segment-init c = record {
  rest = ap (λ (m : Memory). with_segments m c.args.image.now.segments)
      (ap (memory_in (listed c.args.entries.now)) (c.clear.ensures.value ∙ ap (λ (n : ℕ). replicate {A = ℕ} n 0) c.requires.space.whole) ∙ memory_in-zeros (listed c.args.entries.now));
  length = ap length c.clear.ensures.value ∙ length-replicate (length c.args.bytes.now) 0;
}

pub write-requires-clause-space : goal.write-requires-clause-space
write-requires-clause-space c = still_space c.args.entries.now c.args.bytes.now c.loop-segment.bytes c.requires.space c.loop-segment.invariant.length

pub write-requires-clause-allowed : goal.write-requires-clause-allowed
write-requires-clause-allowed c =
    let at = c.from.ensures ∙ ap (λ (s : Segment). s.address) c.segment.view_is in
    let bytes = c.deref.ensures.value ∙ ap (λ (s : Segment). s.bytes) c.segment.view_is in
    rw (at, bytes) (segment_allowed (listed c.args.entries.now) c.args.image.now c.segments-segment-items.result.now c.loop-segment.segment-index c.segment-item.result
    c.segments-segment-items.ensures.value c.requires.inside c.segments-segment-items.ensures.image c.loop-segment-test.true c.segment-item.is)

pub loop-segment-preserved : goal.loop-segment-preserved
loop-segment-preserved c = record {
  rest = segments_on c.segments-segment-items.result.now c.args.image.now.segments c.loop-segment.segment-index c.segment-item.result
      (memory_in (listed c.args.entries.now) c.loop-segment.bytes) (memory_in (listed c.args.entries.now) c.write.new.bytes) c.from.result c.deref.result.now
      c.segments-segment-items.ensures.value c.loop-segment-test.true c.segment-item.is
      (c.from.ensures ∙ ap (λ (s : Segment). s.address) c.segment.view_is) (c.deref.ensures.value ∙ ap (λ (s : Segment). s.bytes) c.segment.view_is) c.write.ensures.written
      ∙ c.loop-segment.invariant.rest;
  length = c.write.ensures.length ∙ c.loop-segment.invariant.length;
}
