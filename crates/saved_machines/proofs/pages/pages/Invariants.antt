use Rattle.std.proofs.Common.{◌≡◌, drop, map}
use Rattle.codecs.specs.Codec.{each_read}
use Rattle.codecs.specs.lemmas.LoopLemmas.{with_front}
use Rattle.guest_memory.specs.Loading.{area_of}
use Rattle.guest_memory.specs.Memories.{map_at}
use Rattle.saved_machines.specs.SavedFormat.{area_pages_format}
use Rattle.saved_machines.proofs.pages.pages.Given as goal

abbrev pub invariant-loop-n : goal.invariant-loop-n
invariant-loop-n l =
    with_front (map (λ area. area.items) l.pages.items) (each_read (λ area. area_pages_format (map_at l.p l.loaded) area) (drop l.n (map area_of l.areas)) l.cursor)
    ≡ each_read (λ area. area_pages_format (map_at l.p l.loaded) area) (map area_of l.areas) l.fn.cursor
