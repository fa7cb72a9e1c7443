-- The open elements, found by counting where elements begin and end.
use Rattle.std.proofs.Common.{◌≡◌, ℕ, ◌+◌, ◌<◌, ◌≤◌, Bool, true, false, List, [], ◌∷◌, ◌++◌, length, refl, sym, ap, ◌∙◌, arith, subst, append_assoc, length-append}
use Rattle.std.specs.List.{AllByRecursion}
use Rattle.xmcf_reader.specs.Draft.{Open, child_noted}
use Rattle.xmcf_reader.specs.Tags.{Placed, begins, ends, count_begun, count_ended, AllClosed, IsInnermost}
use Rattle.xmcf_reader.specs.Tokens.{Token, Blanks, Comment, Declaration, Opening, Name, Equals, Value, TagEnd, EmptyEnd, EndTag}
use Rattle.xmcf_reader.specs.declared.draft.Entry.{Entry}
use Rattle.xmcf_reader.specs.declared.word.Word.{Word}

-- where elements begin is counted part by part
pub begun_more : (some more : List Placed) → count_begun (some ++ more) ≡ count_begun some + count_begun more
begun_more [] more = omega arith
begun_more (one ∷ some) more = omega (arith, begun_more some more)

-- where elements end is counted part by part
pub ended_more : (some more : List Placed) → count_ended (some ++ more) ≡ count_ended some + count_ended more
ended_more [] more = omega arith
ended_more (one ∷ some) more = omega (arith, ended_more some more)

-- at most one element begins or ends at a token
one_at_most : (token : Token) → begins token + ends token ≤ 1
one_at_most Blanks = omega arith
one_at_most Comment = omega arith
one_at_most Declaration = omega arith
one_at_most (Opening name) = omega arith
one_at_most (Name name) = omega arith
one_at_most Equals = omega arith
one_at_most (Value text) = omega arith
one_at_most TagEnd = omega arith
one_at_most EmptyEnd = omega arith
one_at_most (EndTag name) = omega arith

-- at closed tokens not more begin than end
closed_count : (tokens : List Placed) → AllClosed tokens → count_begun tokens ≤ count_ended tokens
closed_count [] closed = omega arith
closed_count (one ∷ more) closed = closed.0

-- closed tokens after closed tokens
closed_more : (some more : List Placed) → AllClosed some → AllClosed more → AllClosed (some ++ more)
closed_more [] more closed also = also
closed_more (one ∷ some) more closed also = (
  let here : begins one.token + count_begun some ≤ ends one.token + count_ended some = closed.0 in
      let there : count_begun more ≤ count_ended more = closed_count more also in
      omega (arith, begun_more some more, ended_more some more),
  closed_more some more closed.1 also,
)

-- at these tokens nothing begins and nothing ends
abbrev pub ArePlain : List Placed → Type 0
ArePlain tokens = AllByRecursion (λ one. (begins one.token ≡ 0) × (ends one.token ≡ 0)) tokens

-- one more plain token
pub plain_more : (tokens : List Placed) (one : Placed) → ArePlain tokens → begins one.token ≡ 0 → ends one.token ≡ 0 → ArePlain (tokens ++ one ∷ [])
plain_more [] one plain begin end = ((begin, end), tt)
plain_more (first ∷ tokens) one plain begin end = (plain.0, plain_more tokens one plain.1 begin end)

-- at plain tokens nothing begins
plain_begun : (tokens : List Placed) → ArePlain tokens → count_begun tokens ≡ 0
plain_begun [] plain = refl
plain_begun (one ∷ tokens) plain = let here : begins one.token ≡ 0 = plain.0.0 in omega (arith, plain_begun tokens plain.1)

-- at plain tokens nothing ends
plain_ended : (tokens : List Placed) → ArePlain tokens → count_ended tokens ≡ 0
plain_ended [] plain = refl
plain_ended (one ∷ tokens) plain = let here : ends one.token ≡ 0 = plain.0.1 in omega (arith, plain_ended tokens plain.1)

-- plain tokens are closed
plain_closed : (tokens : List Placed) → ArePlain tokens → AllClosed tokens
plain_closed [] plain = tt
plain_closed (one ∷ tokens) plain = (let here : begins one.token ≡ 0 = plain.0.0 in omega (arith, plain_begun tokens plain.1), plain_closed tokens plain.1)

-- the open elements are those that are open after tokens
abbrev pub AreOpen : List Placed → List Open → Type 0
AreOpen tokens [] = AllClosed tokens
AreOpen tokens (inner ∷ outer) = (innermost : IsInnermost tokens inner.number) × AreOpen innermost.before outer

-- after tokens at which all that begins ends, the same are open
open_more : (tokens more : List Placed) (open_elements : List Open) → AreOpen tokens open_elements → AllClosed more → count_begun more ≡ count_ended more → AreOpen (tokens ++ more) open_elements
open_more tokens more [] all closed same = closed_more tokens more all closed
open_more tokens more (inner ∷ outer) all closed same = (
  record {
    before = all.0.before;
    start = all.0.start;
    following = all.0.following ++ more;
    is = ap (λ some. some ++ more) all.0.is ∙ append_assoc all.0.before (all.0.start ∷ all.0.following) more;
    open_here = (let here : ends all.0.start.token + count_ended all.0.following < begins all.0.start.token + count_begun all.0.following = all.0.open_here in
        omega (arith, begun_more all.0.following more, ended_more all.0.following more));
    closed = closed_more all.0.following more all.0.closed closed;
    number_is = all.0.number_is;
  },
  all.1,
)

-- a child more does not change which are open
noted_open : (tokens : List Placed) (word : Word) (open_elements : List Open) → AreOpen tokens open_elements → AreOpen tokens (child_noted word open_elements)
noted_open tokens word [] all = all
noted_open tokens word (inner ∷ outer) all = all

-- after an end tag the outer ones are open
open_end : (tokens : List Placed) (one : Placed) (inner : Open) (outer : List Open) → AreOpen tokens (inner ∷ outer) → begins one.token ≡ 0 → ends one.token ≡ 1 → AreOpen (tokens ++ one ∷ []) outer
open_end tokens one inner outer all begin end =
    subst (λ (some : List Placed). AreOpen some outer) (sym (ap (λ some. some ++ one ∷ []) all.0.is ∙ append_assoc all.0.before (all.0.start ∷ all.0.following) (one ∷ [])))
    (open_more all.0.before (all.0.start ∷ (all.0.following ++ one ∷ [])) outer all.1 whole_closed balanced)
  where
    balanced : begins all.0.start.token + count_begun (all.0.following ++ one ∷ []) ≡ ends all.0.start.token + count_ended (all.0.following ++ one ∷ [])
    balanced =
        let here : ends all.0.start.token + count_ended all.0.following < begins all.0.start.token + count_begun all.0.following = all.0.open_here in
        let following : count_begun all.0.following ≤ count_ended all.0.following = closed_count all.0.following all.0.closed in
        omega (arith, begun_more all.0.following (one ∷ []), ended_more all.0.following (one ∷ []), one_at_most all.0.start.token)

    whole_closed : AllClosed (all.0.start ∷ (all.0.following ++ one ∷ []))
    whole_closed = (omega (arith, balanced), closed_more all.0.following (one ∷ []) all.0.closed ((omega arith, tt)))

-- after a start tag its element is open, too
open_start : (before : List Placed) (start : Placed) (inside : List Placed) (word : Word) (number : ℕ) (open_elements : List Open) → AreOpen before open_elements → begins start.token ≡ 1 → ends start.token ≡ 0 → ArePlain inside → number ≡ count_begun before
    → AreOpen (before ++ start ∷ inside) ((record { word = word; number = number; children = [] }) ∷ child_noted word open_elements)
open_start before start inside word number open_elements all begin end plain counted = (
  record {
    before = before;
    start = start;
    following = inside;
    is = refl;
    open_here = omega (arith, plain_begun inside plain, plain_ended inside plain);
    closed = plain_closed inside plain;
    number_is = counted;
  },
  noted_open before word open_elements all,
)

-- after an empty tag the same are open
open_empty : (before : List Placed) (start : Placed) (inside : List Placed) (one : Placed) (word : Word) (open_elements : List Open) → AreOpen before open_elements → begins start.token ≡ 1 → ends start.token ≡ 0 → ArePlain inside
    → begins one.token ≡ 0 → ends one.token ≡ 1 → AreOpen (before ++ start ∷ (inside ++ one ∷ [])) (child_noted word open_elements)
open_empty before start inside one word open_elements all begin end plain begin_one end_one =
    noted_open (before ++ start ∷ (inside ++ one ∷ [])) word open_elements (open_more before (start ∷ (inside ++ one ∷ [])) open_elements all whole_closed balanced)
  where
    balanced : begins start.token + count_begun (inside ++ one ∷ []) ≡ ends start.token + count_ended (inside ++ one ∷ [])
    balanced = omega (arith, begun_more inside (one ∷ []), ended_more inside (one ∷ []), plain_begun inside plain, plain_ended inside plain)

    whole_closed : AllClosed (start ∷ (inside ++ one ∷ []))
    whole_closed = (omega (arith, balanced), closed_more inside (one ∷ []) (plain_closed inside plain) ((omega arith, tt)))

-- what tokens between tags account for: as many entries as begin, and what is open
pub record Accounted (tokens : List Placed) (entries : List Entry) (open_elements : List Open) : Type 0 where
  pub count : length entries ≡ count_begun tokens
  pub balance : count_begun tokens ≡ count_ended tokens + length open_elements
  pub all : AreOpen tokens open_elements

-- what tokens in a start tag account for
pub record InTag (tokens : List Placed) (entries : List Entry) (open_elements : List Open) : Type 0 where
  pub before : List Placed
  pub start : Placed
  pub inside : List Placed
  pub is : tokens ≡ before ++ start ∷ inside
  pub begin : begins start.token ≡ 1
  pub end : ends start.token ≡ 0
  pub plain : ArePlain inside
  pub accounted : Accounted before entries open_elements

-- what tokens account for, between tags or not
abbrev pub Accounts : Bool → List Placed → List Entry → List Open → Type 0
Accounts true tokens entries open_elements = Accounted tokens entries open_elements
Accounts false tokens entries open_elements = InTag tokens entries open_elements

-- as many are open with a child more
noted_length : (word : Word) (open_elements : List Open) → length (child_noted word open_elements) ≡ length open_elements
noted_length word [] = refl
noted_length word (inner ∷ outer) = refl

-- between tags
pub between_of : (between : Bool) (tokens : List Placed) (entries : List Entry) (open_elements : List Open) → between ≡ true → Accounts between tokens entries open_elements → Accounted tokens entries open_elements
between_of true tokens entries open_elements e accounts = accounts
between_of false tokens entries open_elements e accounts = cc

-- in a start tag
pub in_tag_of : (between : Bool) (tokens : List Placed) (entries : List Entry) (open_elements : List Open) → between ≡ false → Accounts between tokens entries open_elements → InTag tokens entries open_elements
in_tag_of true tokens entries open_elements e accounts = cc
in_tag_of false tokens entries open_elements e accounts = accounts

-- a plain token in a start tag
pub accounts_inside : (tokens : List Placed) (one : Placed) (entries : List Entry) (open_elements : List Open) → InTag tokens entries open_elements → begins one.token ≡ 0 → ends one.token ≡ 0 → InTag (tokens ++ one ∷ []) entries open_elements
accounts_inside tokens one entries open_elements accounts begin end = record {
  before = accounts.before;
  start = accounts.start;
  inside = accounts.inside ++ one ∷ [];
  is = ap (λ some. some ++ one ∷ []) accounts.is ∙ append_assoc accounts.before (accounts.start ∷ accounts.inside) (one ∷ []);
  begin = accounts.begin;
  end = accounts.end;
  plain = plain_more accounts.inside one accounts.plain begin end;
  accounted = accounts.accounted;
}

-- a plain token
pub accounts_plain : (between : Bool) (tokens : List Placed) (one : Placed) (entries : List Entry) (open_elements : List Open) → Accounts between tokens entries open_elements → begins one.token ≡ 0 → ends one.token ≡ 0
    → Accounts between (tokens ++ one ∷ []) entries open_elements
accounts_plain true tokens one entries open_elements accounts begin end = record {
  count = (let here : length entries ≡ count_begun tokens = accounts.count in omega (arith, begun_more tokens (one ∷ [])));
  balance = (let here : count_begun tokens ≡ count_ended tokens + length open_elements = accounts.balance in omega (arith, begun_more tokens (one ∷ []), ended_more tokens (one ∷ [])));
  all = open_more tokens (one ∷ []) open_elements accounts.all ((omega arith, tt)) (omega arith);
}
accounts_plain false tokens one entries open_elements accounts begin end = accounts_inside tokens one entries open_elements accounts begin end

-- a start tag begins
pub accounts_opening : (tokens : List Placed) (one : Placed) (entries : List Entry) (open_elements : List Open) → Accounted tokens entries open_elements → begins one.token ≡ 1 → ends one.token ≡ 0 → InTag (tokens ++ one ∷ []) entries open_elements
accounts_opening tokens one entries open_elements accounted begin end = record { before = tokens; start = one; inside = []; is = refl; begin = begin; end = end; plain = tt; accounted = accounted }

-- a start tag ends, and its element is open
pub accounts_open : (tokens : List Placed) (one : Placed) (entries : List Entry) (entry : Entry) (word : Word) (open_elements : List Open) → InTag tokens entries open_elements → begins one.token ≡ 0 → ends one.token ≡ 0
    → Accounted (tokens ++ one ∷ []) (entries ++ entry ∷ []) ((record { word = word; number = length entries; children = [] }) ∷ child_noted word open_elements)
accounts_open tokens one entries entry word open_elements accounts begin end =
    let now = accounts_inside tokens one entries open_elements accounts begin end in
    subst (λ (some : List Placed). Accounted some (entries ++ entry ∷ []) ((record { word = word; number = length entries; children = [] }) ∷ child_noted word open_elements)) (sym now.is)
    (record {
      count = (let here : length entries ≡ count_begun now.before = now.accounted.count in
          omega (arith, begun_more now.before (now.start ∷ now.inside), plain_begun now.inside now.plain, now.begin, length-append entries (entry ∷ [])));
      balance = (let here : count_begun now.before ≡ count_ended now.before + length open_elements = now.accounted.balance in
          omega (arith, begun_more now.before (now.start ∷ now.inside), ended_more now.before (now.start ∷ now.inside), plain_begun now.inside now.plain, plain_ended now.inside now.plain, now.begin, now.end, noted_length word open_elements));
      all = open_start now.before now.start now.inside word (length entries) open_elements now.accounted.all now.begin now.end now.plain now.accounted.count;
    })

-- an empty tag ends
pub accounts_empty : (tokens : List Placed) (one : Placed) (entries : List Entry) (entry : Entry) (word : Word) (open_elements : List Open) → InTag tokens entries open_elements → begins one.token ≡ 0 → ends one.token ≡ 1
    → Accounted (tokens ++ one ∷ []) (entries ++ entry ∷ []) (child_noted word open_elements)
accounts_empty tokens one entries entry word open_elements accounts begin end =
    subst (λ (some : List Placed). Accounted some (entries ++ entry ∷ []) (child_noted word open_elements))
    (sym (ap (λ some. some ++ one ∷ []) accounts.is ∙ append_assoc accounts.before (accounts.start ∷ accounts.inside) (one ∷ [])))
    (record {
      count = (let here : length entries ≡ count_begun accounts.before = accounts.accounted.count in
          omega (arith, begun_more accounts.before (accounts.start ∷ (accounts.inside ++ one ∷ [])), begun_more accounts.inside (one ∷ []), plain_begun accounts.inside accounts.plain, accounts.begin, length-append entries (entry ∷ [])));
      balance = (let here : count_begun accounts.before ≡ count_ended accounts.before + length open_elements = accounts.accounted.balance in
          omega (arith, begun_more accounts.before (accounts.start ∷ (accounts.inside ++ one ∷ [])), ended_more accounts.before (accounts.start ∷ (accounts.inside ++ one ∷ [])), begun_more accounts.inside (one ∷ []), ended_more accounts.inside (one ∷ []), plain_begun accounts.inside accounts.plain, plain_ended accounts.inside accounts.plain, accounts.begin, accounts.end, noted_length word open_elements));
      all = open_empty accounts.before accounts.start accounts.inside one word open_elements accounts.accounted.all accounts.begin accounts.end accounts.plain begin end;
    })

-- an end tag
pub accounts_end : (tokens : List Placed) (one : Placed) (entries : List Entry) (inner : Open) (outer : List Open) → Accounted tokens entries (inner ∷ outer) → begins one.token ≡ 0 → ends one.token ≡ 1 → Accounted (tokens ++ one ∷ []) entries outer
accounts_end tokens one entries inner outer accounted begin end = record {
  count = (let here : length entries ≡ count_begun tokens = accounted.count in omega (arith, begun_more tokens (one ∷ [])));
  balance = (let here : count_begun tokens ≡ count_ended tokens + length (inner ∷ outer) = accounted.balance in omega (arith, begun_more tokens (one ∷ []), ended_more tokens (one ∷ [])));
  all = open_end tokens one inner outer accounted.all begin end;
}

-- before the first token
pub accounts_start : Accounted [] [] []
accounts_start = record { count = refl; balance = omega arith; all = tt }
