-- Rows of the selected partition, whose memory a processor changes.
use Rattle.std.proofs.Common.{◌≡◌, ℕ, ◌+◌, ◌*◌, ◌%◌, ◌^◌, ◌<◌, ◌≤◌, Bool, false, List, [], length, sym, ap, ◌∙◌, subst, arith}
use Rattle.std.specs.Bool.{OnTrue}
use Rattle.std.specs.FinMap.{empty}
use Rattle.std.proofs.lemmas.List.{set-get_or}
use Rattle.guest_bus.specs.Access.{after_store}
use Rattle.guest_bus.specs.Memory.{Memory, is_writable, with_bytes}
use Rattle.guest_bus.specs.Words.{MayStand, bytes_of}
use Rattle.guest_bus.specs.declared.bus.Size.{Size}
use Rattle.guest_memory.specs.Memories.{AreMemories, Memories, areas_at, map_at, others_of, with_map}
use Rattle.guest_memory.specs.lemmas.SelectedLemmas.{changed_selected}
use Rattle.predecode.specs.lemmas.Reached.{word_after, words_written}
use Rattle.predecoded_memory.specs.lemmas.SharesTerms.{AreEmptied, AreReached}
use Rattle.predecoded_memory.specs.Shares.{AreKept, AreUnmade, first_address}
use Rattle.predecode.specs.Kept.{AreKeptRows}
use Rattle.predecode.specs.declared.rows.Row.{Row}
use Rattle.predecoded_memory.specs.declared.share.PartRows.{PartRows}
use Rattle.predecoded_memory.proofs.KeptLemmas.{first_low, first_whole, mapped_kept, sixteen_kept, stored_kept}
use Rattle.predecoded_memory.proofs.ShareLemmas.{share_fits}

-- the share of the selected partition ends within all rows
pub selected_fits : (old : Memories) (rows : List Row) (lengths : List ℕ) (parts : List PartRows) (share top : ℕ) (own : PartRows) → AreKept old rows lengths parts share top own → own.words.begin + share ≤ length rows
selected_fits old rows lengths parts share top own is =
    let fits = share_fits old.selected share (length old.areas) is.are.selected in
    omega (arith, is.current.begin, is.whole, fits)

-- its rows are kept of its memory
own_rows : (old : Memories) (rows : List Row) (lengths : List ℕ) (parts : List PartRows) (share top : ℕ) (own : PartRows) → AreKept old rows lengths parts share top own → AreKeptRows rows own.words.begin share (areas_at old.selected old) (map_at old.selected old) own.first
own_rows old rows lengths parts share top own is =
    subst (λ (b : ℕ). AreKeptRows rows b share (areas_at old.selected old) (map_at old.selected old) own.first) (sym is.current.begin)
    (subst (λ (f : ℕ). AreKeptRows rows (old.selected * share) share (areas_at old.selected old) (map_at old.selected old) f) (sym is.current.first) (is.each old.selected is.are.selected))

-- and those from the top on are empty
own_free : (old : Memories) (rows : List Row) (lengths : List ℕ) (parts : List PartRows) (share top : ℕ) (own : PartRows) → AreKept old rows lengths parts share top own → AreUnmade rows own.words.begin top share
own_free old rows lengths parts share top own is = subst (λ (b : ℕ). AreUnmade rows b top share) (sym is.current.begin) (is.free old.selected is.are.selected)

-- the top lies within all rows
pub top_fits : (old : Memories) (rows : List Row) (lengths : List ℕ) (parts : List PartRows) (share top : ℕ) (own : PartRows) → AreKept old rows lengths parts share top own → own.words.begin + top ≤ length rows
top_fits old rows lengths parts share top own is = omega (arith, is.high, selected_fits old rows lengths parts share top own is)

-- a memory that is left as it was
pub bus_same : (old new : Memories) → AreMemories old → AreMemories new → others_of new ≡ others_of old → areas_at new.selected new ≡ areas_at old.selected old → map_at new.selected new ≡ map_at old.selected old → new ≡ old
bus_same old new were are others areas map =
    changed_selected old new were are others areas
    ∙ ap (λ (m : Memory). with_map old.selected m old) map
    ∙ ap (λ (maps : List Memory). record { areas = old.areas; maps = maps; selected = old.selected }) (set-get_or old.maps old.selected empty)

pub read_kept : (old new : Memories) (rows : List Row) (lengths : List ℕ) (parts : List PartRows) (share top : ℕ) (own : PartRows) → AreKept old rows lengths parts share top own → AreMemories new → others_of new ≡ others_of old → areas_at new.selected new ≡ areas_at old.selected old → map_at new.selected new ≡ map_at old.selected old
    → AreKept new rows lengths parts share top own
read_kept old new rows lengths parts share top own is are others areas map =
    subst (λ (m : Memories). AreKept m rows lengths parts share top own) (sym (bus_same old new is.are are others areas map)) is

-- one that is changed
bus_kept : (old new : Memories) (rows now : List Row) (lengths : List ℕ) (parts : List PartRows) (share top : ℕ) (own : PartRows) (begin end : ℕ) → AreKept old rows lengths parts share top own → AreMemories new → others_of new ≡ others_of old → areas_at new.selected new ≡ areas_at old.selected old
    → AreEmptied begin end rows now → AreKeptRows now own.words.begin share (areas_at old.selected old) (map_at new.selected new) own.first → AreKept new now lengths parts share top own
bus_kept old new rows now lengths parts share top own begin end is are others areas emptied mine =
    let changed = changed_selected old new is.are are others areas in
    subst (λ (m : Memories). AreKept m now lengths parts share top own) (sym changed)
    (mapped_kept old (map_at new.selected new) rows now lengths parts share top own old.selected begin end is (subst (λ (m : Memories). AreMemories m) changed are) emptied is.are.selected
    (subst (λ (b : ℕ). AreKeptRows now b share (areas_at old.selected old) (map_at new.selected new) (first_address (areas_at old.selected old))) is.current.begin
    (subst (λ (f : ℕ). AreKeptRows now own.words.begin share (areas_at old.selected old) (map_at new.selected new) f) is.current.first mine)))

-- by a store
pub store_kept : (old new : Memories) (rows now : List Row) (lengths : List ℕ) (parts : List PartRows) (share top : ℕ) (own : PartRows) (address value : ℕ) (size : Size) → AreKept old rows lengths parts share top own → AreMemories new → others_of new ≡ others_of old → areas_at new.selected new ≡ areas_at old.selected old
    → map_at new.selected new ≡ after_store (areas_at old.selected old) (map_at old.selected old) address size value → address < 2 ^ 32 → AreReached own.words.begin top (word_after own.first address) (words_written size) rows now → AreKept new now lengths parts share top own
store_kept old new rows now lengths parts share top own address value size is are others areas map small reached =
    let placed = is.are.placed old.selected [] is.are.selected in
    let whole : own.first % 4 ≡ 0 = rw is.current.first (first_whole (areas_at old.selected old) placed) in
    let low : own.first ≤ 2 ^ 32 = rw is.current.first (first_low (areas_at old.selected old) placed) in
    bus_kept old new rows now lengths parts share top own (own.words.begin + reached.begin) (own.words.begin + reached.end) is are others areas reached.done
    (subst (λ (m : Memory). AreKeptRows now own.words.begin share (areas_at old.selected old) m own.first) (sym map)
    (stored_kept rows now own.words.begin share top (areas_at old.selected old) (map_at old.selected old) own.first address size value reached (own_free old rows lengths parts share top own is) whole low small (own_rows old rows lengths parts share top own is)))

-- by a spill
pub put_kept : (done : Bool) (old new : Memories) (rows now : List Row) (lengths : List ℕ) (parts : List PartRows) (share top : ℕ) (own : PartRows) (address : ℕ) (words : List ℕ) → AreKept old rows lengths parts share top own → AreMemories new → others_of new ≡ others_of old → areas_at new.selected new ≡ areas_at old.selected old
    → OnTrue done (MayStand (is_writable (areas_at old.selected old)) address) → OnTrue done (map_at new.selected new ≡ with_bytes (map_at old.selected old) address (bytes_of words)) → (done ≡ false → map_at new.selected new ≡ map_at old.selected old)
    → length words ≡ 16 → address < 2 ^ 32 → AreReached own.words.begin top (word_after own.first address) 16 rows now → AreKept new now lengths parts share top own
put_kept done old new rows now lengths parts share top own address words is are others areas stands written not_done counted small reached =
    let placed = is.are.placed old.selected [] is.are.selected in
    let whole : own.first % 4 ≡ 0 = rw is.current.first (first_whole (areas_at old.selected old) placed) in
    let low : own.first ≤ 2 ^ 32 = rw is.current.first (first_low (areas_at old.selected old) placed) in
    bus_kept old new rows now lengths parts share top own (own.words.begin + reached.begin) (own.words.begin + reached.end) is are others areas reached.done
    (sixteen_kept done rows now own.words.begin share top (areas_at old.selected old) (map_at old.selected old) (map_at new.selected new) own.first address words reached (own_free old rows lengths parts share top own is) stands written not_done counted whole low small (own_rows old rows lengths parts share top own is))
