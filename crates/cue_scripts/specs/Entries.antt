-- The entries of a script: cues that are alike stand together, so that four thousand million of them take five bytes.
use Rattle.std.specs.Prelude.{◌≡◌, ◌≢◌, ℕ, suc, ◌≤◌, Bool, true, false, ◌&&◌, if◌then◌else◌, List, [], ◌∷◌, ◌++◌, replicate, Option, Some, None, is_none}
use Rattle.machine_model.specs.Cue.{Away, Cue, Mine, CueSlot}
use Rattle.machine_model.specs.Emission.{AllHalted, AllReset, NoEvent, NotKept, OwnPuts, OwnSignals, OwnStill, OwnTakes, OwnTraffic, Sight, Unseen, WholeEvent, Words}

-- an entry: this many cues with nothing but whose slot it is, which began before where it is the partition's own; or one other cue
pub data Entry : Type 0 where
  Alike : (own : Bool) (count : ℕ) → Entry
  Other : (cue : Cue) → Entry

-- whose slot it is; one of the partition's own began before
abbrev pub running_slot : Bool → CueSlot
running_slot true = Mine false
running_slot false = Away

-- the cue with nothing but whose slot it is
unfoldable pub bare_cue : Bool → Cue
bare_cue own = record { mine = running_slot own; traffic = OwnStill; order = None; whole = NoEvent; seen = Unseen }

-- the cue with nothing but that a slot of the partition's own begins
abbrev pub first_cue : Cue
first_cue = record { mine = Mine true; traffic = OwnStill; order = None; whole = NoEvent; seen = Unseen }

-- whether the slot is not the partition's own
abbrev pub is_away : CueSlot → Bool
is_away Away = true
is_away (Mine first) = false

-- whether nothing was put or taken, and nothing signalled
abbrev pub is_still : OwnTraffic → Bool
is_still OwnStill = true
is_still (OwnPuts name bytes) = false
is_still (OwnTakes name) = false
is_still (OwnSignals number) = false

-- whether nothing was done to the whole system
abbrev pub is_no_event : WholeEvent → Bool
is_no_event NoEvent = true
is_no_event (AllReset mode) = false
is_no_event AllHalted = false

-- whether nothing was shown
abbrev pub is_unseen : Sight → Bool
is_unseen Unseen = true
is_unseen NotKept = false
is_unseen (Words bytes) = false

-- whether a cue has nothing but whose slot it is
unfoldable pub is_bare : Cue → Bool
is_bare cue = is_still cue.traffic && is_none cue.order && is_no_event cue.whole && is_unseen cue.seen

-- whose running slot it is; none where a slot of the partition's own begins
abbrev pub running_in : CueSlot → Option Bool
running_in Away = Some false
running_in (Mine false) = Some true
running_in (Mine true) = None

-- which plain cue a cue is, if it is one
unfoldable pub plain_kind : Cue → Option Bool
plain_kind cue = if is_bare cue then running_in cue.mine else None

-- how many cues an entry has
abbrev pub cue_count : Entry → ℕ
cue_count (Alike own count) = count
cue_count (Other cue) = 1

-- which plain cue an entry repeats, if it does
abbrev pub plain_cue_of : Entry → Option Bool
plain_cue_of (Alike own count) = Some own
plain_cue_of (Other cue) = None

-- the cues of an entry
abbrev pub cues_of : Entry → List Cue
cues_of (Alike own count) = replicate count (bare_cue own)
cues_of (Other cue) = cue ∷ []

-- the cues of entries, one after the other
abbrev pub expanded : List Entry → List Cue
expanded [] = []
expanded (entry ∷ later) = cues_of entry ++ expanded later

-- whether two flags are the same
abbrev pub is_same : Bool → Bool → Bool
is_same true true = true
is_same true false = false
is_same false true = false
is_same false false = true

-- a plain cue before entries: the first one is longer where it repeats the same cue
abbrev pub longer : Bool → List Entry → List Entry
longer own [] = Alike own 1 ∷ []
longer own (Alike kind count ∷ later) = if is_same kind own then Alike own (suc count) ∷ later else Alike own 1 ∷ Alike kind count ∷ later
longer own (Other cue ∷ later) = Alike own 1 ∷ Other cue ∷ later

-- a cue before entries
abbrev pub cue_before : Option Bool → Cue → List Entry → List Entry
cue_before (Some own) cue later = longer own later
cue_before None cue later = Other cue ∷ later

-- the entries of cues: those that repeat a cue are as long as they can be
unfoldable pub runs : List Cue → List Entry
runs [] = []
runs (cue ∷ later) = cue_before (plain_kind cue) cue (runs later)

-- an entry may stand after one that repeats a plain cue, or after another: it repeats a different one, once at least, or its cue is not plain
abbrev pub MayFollow : Option Bool → Entry → Type 0
MayFollow last (Alike own count) = (last ≢ Some own) × (1 ≤ count)
MayFollow last (Other cue) = plain_kind cue ≡ None

-- each entry may stand after the one before it
abbrev pub AreLongest : Option Bool → List Entry → Type 0
AreLongest last [] = Unit {0}
AreLongest last (entry ∷ later) = MayFollow last entry × AreLongest (plain_cue_of entry) later
