-- Rows that are kept stay so where bytes are put that nothing refuses.
use Rattle.std.proofs.Common.{◌≡◌, ℕ, ◌+◌, ◌*◌, ◌/◌, ◌^◌, ◌<◌, List, length, Ok}
use Rattle.guest_bus.specs.Memory.{with_bytes}
use Rattle.guest_memory.specs.Memories.{AreMemories, Memories, areas_at, map_at, with_map}
use Rattle.predecode.specs.declared.rows.Row.{Row}
use Rattle.predecoded_memory.specs.declared.share.PartRows.{PartRows}
use Rattle.predecode.specs.lemmas.Reached.{word_after}
use Rattle.predecoded_memory.specs.lemmas.SharesTerms.{AreReached}
use Rattle.predecoded_memory.specs.Shares.{AreKept, first_address}
use Rattle.predecoded_memory.proofs.KeptLemmas.{copied_kept}

-- what is put is a copy that was not refused
pub put_kept : (old other : Memories) (rows new : List Row) (lengths : List ℕ) (parts : List PartRows) (share top : ℕ) (own : PartRows) (p address : ℕ) (bytes : List ℕ)
    → AreKept old rows lengths parts share top own → p < length old.areas → address < 2 ^ 32 → AreReached (p * share) top (word_after (first_address (areas_at p old)) address) (length bytes / 4 + 2) rows new
    → other ≡ with_map p (with_bytes (map_at p old) address bytes) old → AreMemories other → AreKept other new lengths parts share top own
put_kept old other rows new lengths parts share top own p address bytes is below small reached written are =
    copied_kept {E = ℕ} (Ok tt) old other rows new lengths parts share top own p address bytes is below small reached written tt are
