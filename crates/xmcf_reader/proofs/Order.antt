-- The first of a text's faults is the least of them.
use Rattle.std.proofs.Common.{◌≡◌, ℕ, zero, suc, ◌+◌, ◌-◌, ◌<◌, ◌≤◌, Bool, true, false, cond, List, [], ◌∷◌, ◌++◌, map, length, Option, Some, None, ◌⊎◌, inl, inr, refl, sym, ap, arith, subst, append_assoc}
use Rattle.std.specs.Prelude.{nat_eq}
use Rattle.std.proofs.lemmas.Bool.Decides.{nat_tests}
use Rattle.xmcf_reader.specs.Draft.{Context, Open, Tag, empty_draft, after_token, attribute_named}
use Rattle.xmcf_reader.specs.Faults.{cut, cut_at, stopped, when, faults_of, faults_from, element_faults, attribute_faults, value_faults, missing_attributes, missing_children, missing_of, place, rank, comes_before, lesser_fault, least}
use Rattle.xmcf_reader.specs.lemmas.FaultsTerms.{first_of}
use Rattle.xmcf_reader.specs.Words.{element_named}
use Rattle.xmcf_reader.specs.Elements.{Pair}
use Rattle.xmcf_reader.specs.Tokens.{Token, Blanks, Comment, Declaration, Opening, Name, Equals, Value, TagEnd, EmptyEnd, EndTag, Front, Found, Broken, front}
use Rattle.xmcf_reader.specs.declared.fault.ReadFault.{ReadFault}
use Rattle.xmcf_reader.specs.declared.fault.ReadFault.TheVariants as fault
use Rattle.xmcf_reader.specs.declared.stage.Stage.{Stage}
use Rattle.xmcf_reader.specs.declared.stage.Stage.TheVariants.{Between, Bare, Spaced, Named, Equaled}
use Rattle.xmcf_reader.specs.declared.table.Attribute.{Attribute}
use Rattle.xmcf_reader.specs.declared.token.Stop.{Stop}
use Rattle.xmcf_reader.specs.declared.token.Stop.TheVariants.{Break, Reference, Ended}
use Rattle.xmcf_reader.specs.declared.word.Word.{Word}
use Rattle.xmcf_reader.proofs.Quotes.{HasQuotes, front_quotes}

-- a fault stands after a place, or there with a kind that is no lesser
abbrev pub AtLeast : ℕ → ℕ → ReadFault → Type 0
AtLeast at kind found = (at < place found) ⊎ ((place found ≡ at) × (kind ≤ rank found))

-- all faults do
abbrev pub AllAtLeast : ℕ → ℕ → List ReadFault → Type 0
AllAtLeast at kind [] = Unit {0}
AllAtLeast at kind (one ∷ others) = AtLeast at kind one × AllAtLeast at kind others

-- what there is does
abbrev pub SomeAtLeast : ℕ → ℕ → Option ReadFault → Type 0
SomeAtLeast at kind None = Unit {0}
SomeAtLeast at kind (Some one) = AtLeast at kind one

-- faults from a place and a kind on, of which the first is the least
pub record InOrder (at kind : ℕ) (faults : List ReadFault) : Type 0 where
  pub good : least faults ≡ first_of faults
  pub following : AllAtLeast at kind faults

-- what is no lesser does not come before
not_before : (one other : ReadFault) → AtLeast (place one) (rank one) other → comes_before other one ≡ false
not_before one other (inl far) = grind (arith, nat_tests)
not_before one other (inr near) = let same : place other ≡ place one = near.0 in let kinds : rank one ≤ rank other = near.1 in grind (arith, nat_tests)

-- a fault before which none comes is the lesser
lesser_head : (one : ReadFault) (other : Option ReadFault) → SomeAtLeast (place one) (rank one) other → lesser_fault one other ≡ Some one
lesser_head one None h = refl
lesser_head one (Some other) h = rw (not_before one other h) refl

-- the lesser of two is one of them
lesser_at_least : (at kind : ℕ) (one : ReadFault) (other : Option ReadFault) → AtLeast at kind one → SomeAtLeast at kind other → SomeAtLeast at kind (lesser_fault one other)
lesser_at_least at kind one None h k = h
lesser_at_least at kind one (Some other) h k = by (comes_before other one)
  where
    by : (test : Bool) → SomeAtLeast at kind (cond test (Some other) (Some one))
    by true = k
    by false = h

-- the least of faults is one of them
least_at_least : (at kind : ℕ) (faults : List ReadFault) → AllAtLeast at kind faults → SomeAtLeast at kind (least faults)
least_at_least at kind [] h = tt
least_at_least at kind (one ∷ others) h = lesser_at_least at kind one (least others) h.0 (least_at_least at kind others h.1)

-- from an earlier place or a lesser kind on
sooner_one : (at kind early low : ℕ) (one : ReadFault) → (early < at) ⊎ ((early ≡ at) × (low ≤ kind)) → AtLeast at kind one → AtLeast early low one
sooner_one at kind early low one (inl h) (inl far) = inl (omega arith)
sooner_one at kind early low one (inl h) (inr near) = let same : place one ≡ at = near.0 in inl (omega arith)
sooner_one at kind early low one (inr h) (inl far) = let same : early ≡ at = h.0 in inl (omega arith)
sooner_one at kind early low one (inr h) (inr near) = let same : early ≡ at = h.0 in let here : place one ≡ at = near.0 in let fewer : low ≤ kind = h.1 in let kinds : kind ≤ rank one = near.1 in inr (omega arith, omega arith)

sooner_all : (at kind early low : ℕ) (faults : List ReadFault) → (early < at) ⊎ ((early ≡ at) × (low ≤ kind)) → AllAtLeast at kind faults → AllAtLeast early low faults
sooner_all at kind early low [] h k = tt
sooner_all at kind early low (one ∷ others) h k = (sooner_one at kind early low one h k.0, sooner_all at kind early low others h k.1)

sooner : (at kind early low : ℕ) (faults : List ReadFault) → (early < at) ⊎ ((early ≡ at) × (low ≤ kind)) → InOrder at kind faults → InOrder early low faults
sooner at kind early low faults h order = record { good = order.good; following = sooner_all at kind early low faults h order.following }

-- all faults stand at one place, with one kind
abbrev pub Level : ℕ → ℕ → List ReadFault → Type 0
Level at kind [] = Unit {0}
Level at kind (one ∷ others) = (place one ≡ at) × (rank one ≡ kind) × Level at kind others

-- a level before what is in order is in order
level_then : (at kind : ℕ) (some more : List ReadFault) → Level at kind some → InOrder at kind more → InOrder at kind (some ++ more)
level_then at kind [] more level order = order
level_then at kind (one ∷ others) more level order = put (level_then at kind others more level.2 order) level.0 level.1
  where
    put : InOrder at kind (others ++ more) → place one ≡ at → rank one ≡ kind → InOrder at kind (one ∷ (others ++ more))
    put rest here same = record {
      good = lesser_head one (least (others ++ more)) (least_at_least (place one) (rank one) (others ++ more)
          (sooner_all at kind (place one) (rank one) (others ++ more) (inr (here, omega (arith, same))) rest.following));
      following = (inr (here, omega (arith, same)), rest.following);
    }

-- a fault that comes or not is a level
when_level : (at kind : ℕ) (comes : Bool) (one : ReadFault) → place one ≡ at → rank one ≡ kind → Level at kind (when comes one)
when_level at kind true one here same = (here, same, tt)
when_level at kind false one here same = tt

-- faults of one place and kind are a level
map_level : {X : Type 0} (at kind : ℕ) (fault_of : X → ReadFault) (xs : List X) → ((x : X) → place (fault_of x) ≡ at) → ((x : X) → rank (fault_of x) ≡ kind) → Level at kind (map fault_of xs)
map_level at kind fault_of [] here same = tt
map_level at kind fault_of (x ∷ xs) here same = (here x, same x, map_level at kind fault_of xs here same)

-- what stands after a place stands after it in any kind
later : (at kind : ℕ) (more : List ReadFault) → InOrder (at + 1) 0 more → InOrder at kind more
later at kind more order = sooner (at + 1) 0 at kind more (inl (omega arith)) order

-- one level and what stands after
one_level : (at kind : ℕ) (some more : List ReadFault) → Level at kind some → InOrder (at + 1) 0 more → InOrder at kind (some ++ more)
one_level at kind some more level order = level_then at kind some more level (later at kind more order)

-- a level before another that is greater
lower : (at kind low : ℕ) (more : List ReadFault) → low ≤ kind → InOrder at kind more → InOrder at low more
lower at kind low more h order = sooner at kind at low more (inr (refl, h)) order

attributes_level : (word : Word) (given : List Pair) (at : ℕ) → Level at 5 (missing_attributes word given at)
unfolding missing_attributes
attributes_level word given at = map_level at 5 _ _ (λ _. refl) (λ _. refl)

children_level : (word : Word) (noted : List Word) (at : ℕ) → Level at 10 (missing_children word noted at)
unfolding missing_children
children_level word noted at = map_level at 10 _ _ (λ _. refl) (λ _. refl)

missing_level : (outer : List Open) (at : ℕ) → Level at 10 (missing_of outer at)
missing_level [] at = tt
missing_level (inner ∷ outer) at = children_level inner.word inner.children at

element_order : (word : Option Word) (outer : List Open) (at : ℕ) (more : List ReadFault) → InOrder (at + 1) 0 more → InOrder at 1 (element_faults word outer at ++ more)
element_order None outer at more order = lower at 3 1 _ (omega arith) (one_level at 3 (fault.UnknownElement at ∷ []) more (refl, refl, tt) order)
element_order (Some word) outer at more order = lower at 9 1 _ (omega arith) (one_level at 9 _ more (when_level at 9 _ (fault.WrongChild at) refl refl) order)

attribute_order : (attribute : Option Attribute) (tag : Tag) (at : ℕ) (more : List ReadFault) → InOrder (at + 1) 0 more → InOrder at 1 (attribute_faults attribute tag at ++ more)
attribute_order None tag at more order = lower at 4 1 _ (omega arith) (one_level at 4 (fault.UnknownAttribute at ∷ []) more (refl, refl, tt) order)
attribute_order (Some attribute) tag at more order = lower at 6 1 _ (omega arith) (one_level at 6 _ more (when_level at 6 _ (fault.RepeatedAttribute at) refl refl) order)

-- a value stands before what is after its first byte
abbrev pub ValueFirst : Token → ℕ → List ReadFault → Type 0
ValueFirst Blanks at more = Unit {0}
ValueFirst Comment at more = Unit {0}
ValueFirst Declaration at more = Unit {0}
ValueFirst (Opening name) at more = Unit {0}
ValueFirst (Name name) at more = Unit {0}
ValueFirst Equals at more = Unit {0}
ValueFirst (Value text) at more = InOrder (at + 1) 7 more
ValueFirst TagEnd at more = Unit {0}
ValueFirst EmptyEnd at more = Unit {0}
ValueFirst (EndTag name) at more = Unit {0}

-- an item that is out of place, before what is in order
item_order : (comes : Bool) (at : ℕ) (more : List ReadFault) → InOrder at 1 more → InOrder at 0 (when comes (fault.BadItem at) ++ more)
item_order comes at more order = lower at 1 0 _ (omega arith) (level_then at 1 (when comes (fault.BadItem at)) more (when_level at 1 comes (fault.BadItem at) refl refl) order)

-- two parts of a token's faults, before what is after it
two_parts : (comes : Bool) (at : ℕ) (some more : List ReadFault) → InOrder at 1 (some ++ more) → InOrder at 0 ((when comes (fault.BadItem at) ++ some) ++ more)
two_parts comes at some more order = subst (λ (all : List ReadFault). InOrder at 0 all) (sym (append_assoc (when comes (fault.BadItem at)) some more)) (item_order comes at (some ++ more) order)

value_order : (stage : Stage) (text : List ℕ) (at : ℕ) (more : List ReadFault) → InOrder (at + 1) 7 more → InOrder at 0 (value_faults stage text at ++ more)
value_order Between text at more order = item_order true at more (later at 1 more (lower (at + 1) 7 0 more (omega arith) order))
value_order Bare text at more order = item_order true at more (later at 1 more (lower (at + 1) 7 0 more (omega arith) order))
value_order Spaced text at more order = item_order true at more (later at 1 more (lower (at + 1) 7 0 more (omega arith) order))
value_order (Named attribute) text at more order = item_order true at more (later at 1 more (lower (at + 1) 7 0 more (omega arith) order))
value_order (Equaled attribute) text at more order =
    sooner (at + 1) 7 at 0 _ (inl (omega arith)) (level_then (at + 1) 7 _ more (when_level (at + 1) 7 _ (fault.BadValue (at + 1)) refl refl) order)

-- the faults of a token and of what stands after it
token_order : (context : Context) (token : Token) (at : ℕ) (more : List ReadFault) → InOrder (at + 1) 0 more → ValueFirst token at more → InOrder at 0 (faults_of context token at ++ more)
token_order context Blanks at more order first = later at 0 more order
token_order context Comment at more order first = item_order _ at more (later at 1 more order)
token_order context Declaration at more order first = item_order _ at more (later at 1 more order)
token_order context (Opening name) at more order first = two_parts _ at _ more (element_order (element_named name) context.open_elements at more order)
token_order context (Name name) at more order first = two_parts _ at _ more (attribute_order (attribute_named name context.tag.word) context.tag at more order)
token_order context Equals at more order first = item_order _ at more (later at 1 more order)
token_order context (Value text) at more order first = value_order context.stage text at more first
token_order context TagEnd at more order first =
    two_parts _ at _ more (lower at 5 1 _ (omega arith) (one_level at 5 _ more (attributes_level context.tag.word context.tag.given at) order))
token_order context EmptyEnd at more order first =
    two_parts _ at _ more (lower at 5 1 _ (omega arith)
    (subst (λ (all : List ReadFault). InOrder at 5 all)
    (sym (append_assoc (missing_attributes context.tag.word context.tag.given at) (missing_children context.tag.word [] at) more))
    (level_then at 5 (missing_attributes context.tag.word context.tag.given at) (missing_children context.tag.word [] at ++ more) (attributes_level context.tag.word context.tag.given at)
    (lower at 10 5 _ (omega arith) (one_level at 10 (missing_children context.tag.word [] at) more (children_level context.tag.word [] at) order)))))
token_order context (EndTag name) at more order first =
    two_parts _ at _ more (lower at 10 1 _ (omega arith) (one_level at 10 _ more (missing_level context.open_elements at) order))

-- the kind from which faults stand after a token's first byte, of which this many bytes are left
abbrev pub low_of_left : ℕ → ℕ
low_of_left zero = 0
low_of_left (suc left) = 7

-- a fault some bytes after a place
from_place : (at following kind : ℕ) (one : ReadFault) → place one ≡ at + following → kind ≤ rank one → AtLeast at kind one
from_place at zero kind one here kinds = inr (omega (arith, here), kinds)
from_place at (suc following) kind one here kinds = inl (omega (arith, here))

-- the fault of a spelling that stops
stop_order : (at size : ℕ) (stop : Stop) → InOrder at 1 (stopped at size stop ∷ [])
stop_order at size (Break following) = record { good = refl; following = (from_place at following 1 (fault.BadItem (at + following)) refl (omega arith), tt) }
stop_order at size (Reference following) = record { good = refl; following = (from_place at following 1 (fault.Reference (at + following)) refl (omega arith), tt) }
stop_order at size Ended = record { good = refl; following = (from_place at size 1 (fault.Unclosed (at + size)) refl (omega arith), tt) }

-- the fault at the end
end_order : (comes : Bool) (at : ℕ) → InOrder at 8 (when comes (fault.Unclosed at))
end_order true at = record { good = refl; following = (inr (refl, omega arith), tt) }
end_order false at = record { good = refl; following = tt }

-- where two bytes belong to a value, faults after its first byte are of a value's kind or greater
value_first : (token : Token) (size at : ℕ) (more : List ReadFault) → HasQuotes (Found token size) → InOrder (at + 1) (low_of_left (size - 1)) more → ValueFirst token at more
value_first Blanks size at more quotes order = tt
value_first Comment size at more quotes order = tt
value_first Declaration size at more quotes order = tt
value_first (Opening name) size at more quotes order = tt
value_first (Name name) size at more quotes order = tt
value_first Equals size at more quotes order = tt
value_first (Value text) size at more quotes order = subst (λ (kind : ℕ). InOrder (at + 1) kind more) (low_seven size quotes) order
  where
    low_seven : (n : ℕ) → 2 ≤ n → low_of_left (n - 1) ≡ 7
    low_seven zero h = absurd (omega arith)
    low_seven (suc zero) h = absurd (omega arith)
    low_seven (suc (suc n)) h = let one_less : suc (suc n) - 1 ≡ suc n = omega arith in ap low_of_left one_less
value_first TagEnd size at more quotes order = tt
value_first EmptyEnd size at more quotes order = tt
value_first (EndTag name) size at more quotes order = tt

-- all faults from a place on are in order
pub cut_order : (at more : ℕ) (bytes : List ℕ) (context : Context) → InOrder at (low_of_left more) (faults_from context (cut at more bytes))
unfolding cut
cut_order at zero [] context = lower at 8 0 _ (omega arith) (end_order _ at)
cut_order at (suc more) [] context = lower at 8 7 _ (omega arith) (end_order _ at)
cut_order at (suc more) (byte ∷ bytes) context = sooner (at + 1) (low_of_left more) at 7 _ (inl (omega arith)) (cut_order (at + 1) more bytes context)
cut_order at zero (byte ∷ bytes) context = by (front (nat_eq at 0) (byte ∷ bytes)) (front_quotes (nat_eq at 0) (byte ∷ bytes)) (λ more next. cut_order (at + 1) more bytes next)
  where
    by : (found : Front) → HasQuotes found → ((more : ℕ) (next : Context) → InOrder (at + 1) (low_of_left more) (faults_from next (cut (at + 1) more bytes)))
        → InOrder at 0 (faults_from context (cut_at found at byte (length bytes) (λ more. cut (at + 1) more bytes)))
    by (Found token size) quotes order =
        token_order context token at _ (lower (at + 1) (low_of_left (size - 1)) 0 _ (omega arith) (order (size - 1) (after_token context token at)))
        (value_first token size at _ quotes (order (size - 1) (after_token context token at)))
    by (Broken stop) quotes order = item_order _ at _ (stop_order at (length bytes + 1) stop)

-- the first of a text's faults is the least of them
pub first_least : (text : List ℕ) → least (faults_from empty_draft (cut 0 0 text)) ≡ first_of (faults_from empty_draft (cut 0 0 text))
first_least text = (cut_order 0 0 text empty_draft).good
