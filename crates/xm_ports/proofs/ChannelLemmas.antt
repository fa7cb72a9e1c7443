-- The channels as they are kept and the table that they make.
use Rattle.std.proofs.Common.{◌≡◌, ℕ, zero, suc, ◌+◌, List, [], ◌∷◌, ◌++◌, length, map, take, drop, get_or, set, Option, None, Some, refl, sym, ap, ◌∙◌, add-one}
use Rattle.std.specs.Prelude.{◌↔◌, slice_get, option_map, IsSomeAnd, IsNone, IfNone, OnSome, Result, Ok, Err, OnOk, OnErr, IsErr}
use Rattle.xm_ports.specs.Channels.{Shape, Content, ChannelTable, Sampling, Queuing, changed, with_content, cleared, put, first_taken, messages_of, first_message, most_of, HasQueue, FitsChannel, IsFull, IsTable}
use Rattle.xm_ports.proofs.TableLemmas.{kept_send}
use Rattle.xm_ports.specs.Stored.{channel_shape, channel_content, table_of}
use Rattle.xm_ports.specs.declared.channel.Channel.{Channel}
use Rattle.xm_ports.specs.declared.queuing.Full.{Full}

-- an element that has a shape in the table is there
pub there : (P : Shape → Type 0) (xs : List Channel) (n : ℕ) (old : Channel) → IsSomeAnd (slice_get (map channel_shape xs) n) P → old ≡ get_or xs n old
    → slice_get xs n ≡ Some old
there P [] n old has e = absurd has
there P (x ∷ xs) zero old has e = ap Some (sym e)
there P (x ∷ xs) (suc n) old has e = there P xs n old has e

-- its shape stands in the table
pub shape_there : (xs : List Channel) (n : ℕ) (old : Channel) → slice_get xs n ≡ Some old → slice_get (map channel_shape xs) n ≡ Some (channel_shape old)
shape_there [] n old here = absurd cc
shape_there (x ∷ xs) zero old here = ap (option_map channel_shape) here
shape_there (x ∷ xs) (suc n) old here = shape_there xs n old here

-- its content stands in the table
pub content_there : (xs : List Channel) (n : ℕ) (old : Channel) → slice_get xs n ≡ Some old → slice_get (map channel_content xs) n ≡ Some (channel_content old)
content_there [] n old here = absurd cc
content_there (x ∷ xs) zero old here = ap (option_map channel_content) here
content_there (x ∷ xs) (suc n) old here = content_there xs n old here

-- a list whose element stays
changed-same : {X : Type 0} (f : X → X) (xs : List X) (n : ℕ) (x : X) → slice_get xs n ≡ Some x → f x ≡ x → changed f n xs ≡ xs
changed-same f [] n x here same = refl
changed-same {X} f (y ∷ xs) zero x here same = let e : f y ≡ y = cc in ap (λ (z : X). z ∷ xs) e
changed-same {X} f (y ∷ xs) (suc n) x here same = ap (λ (ys : List X). y ∷ ys) (changed-same f xs n x here same)

-- nothing is taken where no message waits
taken-none : (content : Content) → option_map length (first_message content) ≡ None → first_taken content ≡ content
unfolding first_taken
taken-none (Sampling sample) e = refl
taken-none (Queuing []) e = refl
taken-none (Queuing (first ∷ later)) e = absurd cc

-- an element put back in its place
pub set_same : (xs : List Channel) (n : ℕ) (old new : Channel) → slice_get xs n ≡ Some old → new ≡ old → set xs n new ≡ xs
set_same [] n old new here same = refl
set_same (x ∷ xs) zero old new here same = let e : new ≡ x = cc in ap (λ (y : Channel). y ∷ xs) e
set_same (x ∷ xs) (suc n) old new here same = ap (λ (ys : List Channel). x ∷ ys) (set_same xs n old new here same)

-- the shapes stay where an element of the same shape is put
pub shapes-set : (xs : List Channel) (n : ℕ) (old new : Channel) → slice_get xs n ≡ Some old → channel_shape new ≡ channel_shape old
    → map channel_shape (set xs n new) ≡ map channel_shape xs
shapes-set [] n old new here same = refl
shapes-set (x ∷ xs) zero old new here same =
    let e : channel_shape new ≡ channel_shape x = cc in ap (λ (s : Shape). s ∷ map channel_shape xs) e
shapes-set (x ∷ xs) (suc n) old new here same = ap (λ (ss : List Shape). channel_shape x ∷ ss) (shapes-set xs n old new here same)

-- the contents are changed where an element of changed content is put
contents-set : (f : Content → Content) (xs : List Channel) (n : ℕ) (old new : Channel) → slice_get xs n ≡ Some old
    → channel_content new ≡ f (channel_content old) → map channel_content (set xs n new) ≡ changed f n (map channel_content xs)
contents-set f [] n old new here differs = refl
contents-set f (x ∷ xs) zero old new here differs =
    let same : old ≡ x = cc in
    let e : channel_content new ≡ f (channel_content x) = differs ∙ ap (λ (y : Channel). f (channel_content y)) same in
    ap (λ (k : Content). k ∷ map channel_content xs) e
contents-set f (x ∷ xs) (suc n) old new here differs = ap (λ (ks : List Content). channel_content x ∷ ks) (contents-set f xs n old new here differs)

-- the table where a channel is replaced by one of the same shape and of changed content
pub table-set : (f : Content → Content) (xs : List Channel) (n : ℕ) (old new : Channel) → slice_get xs n ≡ Some old
    → channel_shape new ≡ channel_shape old → channel_content new ≡ f (channel_content old) → table_of (set xs n new) ≡ with_content f n (table_of xs)
table-set f xs n old new here same differs =
    λ i. record { shapes = shapes-set xs n old new here same i; contents = contents-set f xs n old new here differs i }

-- one content more is changed
pub changed-front : {X : Type 0} (f : X → X) (n : ℕ) (xs : List X) → changed f n (map f (take n xs) ++ drop n xs) ≡ map f (take (suc n) xs) ++ drop (suc n) xs
changed-front f zero [] = refl
changed-front f (suc n) [] = refl
changed-front f zero (x ∷ xs) = refl
changed-front {X} f (suc n) (x ∷ xs) = ap (λ (ys : List X). f x ∷ ys) (changed-front f n xs)

-- a count is there exactly where something is that is counted
pub none-counted : {X : Type 0} (count : X → ℕ) (r : Option ℕ) (o : Option X) → r ≡ option_map count o → IsNone r ↔ (o ≡ None)
none-counted count None None e = (λ n. refl, λ n. refl)
none-counted count None (Some x) e = absurd cc
none-counted count (Some n) None e = absurd cc
none-counted count (Some n) (Some x) e = (λ none. absurd cc, λ none. absurd cc)

-- a queue is full in the table where it is in what is kept
pub full-there : (xs : List Channel) (n : ℕ) (old : Channel) → slice_get xs n ≡ Some old
    → (P : Type 0) → P ↔ (length (messages_of (channel_content old)) ≡ most_of (channel_shape old).kind) → P ↔ IsFull n (table_of xs)
full-there xs n old here P full = rw (shape_there xs n old here, content_there xs n old here) full

-- the table after a send: a message more, or the same where the queue is full
pub table-sent : (bytes : List ℕ) (xs : List Channel) (n : ℕ) (old new : Channel) (r : Result (Unit {0}) Full) → slice_get xs n ≡ Some old
    → channel_shape new ≡ channel_shape old → OnOk r ((time : ℕ) → channel_content new ≡ put time bytes (channel_content old)) → OnErr r (new ≡ old)
    → IsErr r ↔ IsFull n (table_of xs) → IsTable (table_of xs) → HasQueue n (table_of xs) → FitsChannel bytes n (table_of xs)
    → IsTable (table_of (set xs n new)) × OnOk r ((time : ℕ) → table_of (set xs n new) ≡ with_content (put time bytes) n (table_of xs)) × OnErr r (table_of (set xs n new) ≡ table_of xs)
table-sent bytes xs n old new (Ok done) here same sent stays full is has fits =
    let put_at : (time : ℕ) → table_of (set xs n new) ≡ with_content (put time bytes) n (table_of xs) = λ time. table-set (put time bytes) xs n old new here same (sent time) in
    let free : IsFull n (table_of xs) → ⊥ = λ yes. let err = full.1 yes in absurd cc in
    (rw (put_at 0) (kept_send (table_of xs) n 0 bytes is has fits free), put_at, tt)
table-sent bytes xs n old new (Err fault) here same sent stays full is has fits =
    let e : table_of (set xs n new) ≡ table_of xs = ap table_of (set_same xs n old new here stays) in
    (rw e is, tt, e)

-- a send keeps the shapes
pub shapes-sent : (c : ℕ) (bytes : List ℕ) (old new : ChannelTable) (r : Result (Unit {0}) Full)
    → OnOk r ((time : ℕ) → new ≡ with_content (put time bytes) c old) → OnErr r (new ≡ old) → new.shapes ≡ old.shapes
shapes-sent c bytes old new (Ok done) sent stays = ap (λ (table : ChannelTable). table.shapes) (sent 0)
shapes-sent c bytes old new (Err fault) sent stays = ap (λ (table : ChannelTable). table.shapes) stays

-- two facts on what is not there
pub both_none : {X : Type 0} (P Q : Type 0) (r : Option X) → IfNone r P → IfNone r Q → IfNone r (P × Q)
both_none P Q None p q = (p, q)
both_none P Q (Some x) p q = tt

-- the table after a receive: a message less, or the same where none waited
pub table-received : (xs : List Channel) (n : ℕ) (old new : Channel) (r : Option ℕ) → slice_get xs n ≡ Some old
    → channel_shape new ≡ channel_shape old → channel_content new ≡ first_taken (channel_content old) → r ≡ option_map length (first_message (channel_content old))
    → OnSome r (table_of (set xs n new) ≡ with_content first_taken n (table_of xs)) × IfNone r (table_of (set xs n new) ≡ table_of xs)
table-received xs n old new (Some count) here same less counted = (table-set first_taken xs n old new here same less, tt)
table-received xs n old new None here same less counted =
    let stays = taken-none (channel_content old) (sym counted) in
    let e : changed first_taken n (map channel_content xs) ≡ map channel_content xs =
    changed-same first_taken (map channel_content xs) n (channel_content old) (content_there xs n old here) stays in
    (tt, table-set first_taken xs n old new here same less ∙ (λ i. record { shapes = map channel_shape xs; contents = e i }))

-- the contents where one channel more is cleared
pub cleared-front : (xs : List Channel) (start : List Content) (n : ℕ) (old new : Channel) → slice_get xs n ≡ Some old
    → channel_content new ≡ cleared (channel_content old) → map channel_content xs ≡ map cleared (take n start) ++ drop n start
    → map channel_content (set xs n new) ≡ map cleared (take (n + 1) start) ++ drop (n + 1) start
cleared-front xs start n old new here less front =
    rw add-one (contents-set cleared xs n old new here less ∙ ap (changed cleared n) front ∙ changed-front cleared n start)
