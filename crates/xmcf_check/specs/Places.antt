-- The place of each item in the text: that of the `<` of its element.
use Rattle.std.specs.Prelude.{ℕ, ◌-◌, ◌==◌, ◌&&◌, if◌then◌else◌, Bool, true, false, List, [], ◌∷◌, filter, flat_map, slice_get, Option, Some, None}
use Rattle.xm_conf.specs.Along.{added_by_each}
use Rattle.xm_conf.specs.Health.{event_row, events}
use Rattle.xm_conf.specs.declared.health.Event.{Event}
use Rattle.xm_conf.specs.declared.item.Item.{Item}
use Rattle.xm_conf.specs.declared.item.Item.TheVariants as item
use Rattle.xmcf_reader.specs.Drafts.{after_root}
use Rattle.xmcf_reader.specs.declared.draft.Element.{Element}
use Rattle.xmcf_reader.specs.declared.draft.Element.TheVariants as element
use Rattle.xmcf_reader.specs.declared.draft.Entry.{Entry}
use Rattle.xmcf_check.specs.Described.{is_child}
use Rattle.xmcf_check.specs.declared.sorts.Owner.{Owner}
use Rattle.xmcf_check.specs.declared.sorts.Owner.TheVariants as owner
use Rattle.xmcf_check.specs.declared.sorts.Sort.{Sort}
use Rattle.xmcf_check.specs.declared.sorts.Sort.TheVariants as sort

-- whether an element is of a sort
abbrev pub is_of : Sort → Element → Bool
is_of sort.Region (element.Region start size) = true
is_of sort.Uart (element.Uart id name) = true
is_of sort.Plan (element.Plan id frame) = true
is_of sort.Slot (element.Slot id start duration part) = true
is_of sort.Part (element.Partition id name system console) = true
is_of sort.Area (element.Area start size read_only) = true
is_of sort.Port (element.Port name kind way) = true
is_of (sort.Answer wanted) (element.Event event action log) = (event_row event).number == (event_row wanted).number
is_of sort.Chan (element.Sampling length refresh) = true
is_of sort.Chan (element.Queuing length most) = true
is_of sort.Source (element.Source part name) = true
is_of sort.Dest (element.Destination part name) = true
is_of sort.Link (element.Ipvi id source dest) = true
is_of _ _ = false

-- whether an entry belongs to an owner: to none, to its parent, or to its parent's parent
abbrev pub belongs : List Entry → Owner → Entry → Bool
belongs entries owner.Nobody entry = true
belongs entries (owner.Parent number) entry = entry.parent == number
belongs entries (owner.Grandparent number) entry = is_child number (slice_get entries entry.parent)

-- whether an entry is of a sort and belongs to an owner
abbrev pub is_item : List Entry → Sort → Owner → Entry → Bool
is_item entries which whose entry = is_of which entry.what && belongs entries whose entry

-- the entries of a sort that belong to an owner, in the order of the text
abbrev pub items : List Entry → Sort → Owner → List Entry
items entries which whose = filter (is_item entries which whose) (after_root entries)

-- the place of an entry, or 0 where there is none
abbrev pub place_or_none : Option Entry → ℕ
place_or_none None = 0
place_or_none (Some entry) = entry.at

-- the place of the entry of a number in a list
unfoldable pub place_nth : ℕ → List Entry → ℕ
place_nth n entries = place_or_none (slice_get entries n)

-- a number, where a test passes
abbrev pub number_if : Bool → ℕ → List ℕ
number_if true number = number ∷ []
number_if false number = []

-- the number of an entry that is of a sort
abbrev pub number_of_sort : Sort → ℕ → Entry → List ℕ
number_of_sort which number entry = number_if (is_of which entry.what) number

-- the number of the n-th entry of a sort
unfoldable pub number_nth : List Entry → Sort → ℕ → Option ℕ
number_nth entries which n = slice_get (added_by_each (number_of_sort which) entries) n

-- the items of a sort among the children of an entry, where there is one
abbrev pub child_items : List Entry → Sort → Option ℕ → List Entry
child_items entries which None = []
child_items entries which (Some number) = items entries which (owner.Parent number)

-- the items of a sort among the children of an entry's children, where there is one
abbrev pub grandchild_items : List Entry → Sort → Option ℕ → List Entry
grandchild_items entries which None = []
grandchild_items entries which (Some number) = items entries which (owner.Grandparent number)

-- the answers of a partition to an event
abbrev pub event_items : List Entry → Option ℕ → Event → List Entry
event_items entries part event = grandchild_items entries (sort.Answer event) part

-- the place of the end of a channel: 0 is the source, and the destinations count from 1
unfoldable pub end_place : List Entry → Option ℕ → ℕ → ℕ
end_place entries chan n = if n == 0 then place_nth 0 (child_items entries sort.Source chan) else place_nth (n - 1) (child_items entries sort.Dest chan)

-- the place of an item; the answers of a partition stand in the order of the events and then of the text
unfoldable pub place_of : List Entry → Item → ℕ
place_of entries item.Whole = place_nth 0 entries
place_of entries (item.Region n) = place_nth n (items entries sort.Region owner.Nobody)
place_of entries (item.Uart n) = place_nth n (items entries sort.Uart owner.Nobody)
place_of entries (item.Plan n) = place_nth n (items entries sort.Plan owner.Nobody)
place_of entries (item.Slot p n) = place_nth n (child_items entries sort.Slot (number_nth entries sort.Plan p))
place_of entries (item.Part n) = place_nth n (items entries sort.Part owner.Nobody)
place_of entries (item.Area p n) = place_nth n (grandchild_items entries sort.Area (number_nth entries sort.Part p))
place_of entries (item.Port p n) = place_nth n (grandchild_items entries sort.Port (number_nth entries sort.Part p))
place_of entries (item.Event p n) = place_nth n (flat_map (event_items entries (number_nth entries sort.Part p)) events)
place_of entries (item.Chan n) = place_nth n (items entries sort.Chan owner.Nobody)
place_of entries (item.End c n) = end_place entries (number_nth entries sort.Chan c) n
place_of entries (item.Link n) = place_nth n (items entries sort.Link owner.Nobody)
