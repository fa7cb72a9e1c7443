-- Bytes that are put one part after another.
use Rattle.std.proofs.Common.{◌≡◌, ◌≢◌, ℕ, zero, suc, ◌+◌, ◌<◌, ◌≤◌, List, [], ◌∷◌, ◌++◌, length, map, take, drop, get_or, Option, None, Some, refl, sym, ap, ◌∙◌, append_assoc, arith, add-one}
use Rattle.std.specs.Prelude.{IsSomeAnd, OnOk, Result, Ok, Err, slice_get, unwrap_or}
use Rattle.std.specs.List.{flat_map}
use Rattle.std.proofs.lemmas.List.{append-nil, drop_more, flat_map_more, take_more}
use Rattle.std.proofs.lemmas.Option.{get_or_from_slice_get, slice_get-get_or, slice_get-map, slice_get_within}
use Rattle.xm_conf.specs.Configuration.{Chan, Conf}
use Rattle.xm_conf.specs.declared.channel.ChanKind.{ChanKind}
use Rattle.xm_ports.specs.Channels.{ChannelTable, Content, IsTable, Queuing, Shape, content_at, shape_of}
use Rattle.machine_saves.specs.lemmas.SaveTerms.{all_texts, content_text, contents_text}

module _ {X Y : Type 0} (f : Y → List X) where
  -- the part of one element more
  pub found_written : (start mid new : List X) (ys : List Y) (i : ℕ) (y : Y) → slice_get ys i ≡ Some y → mid ≡ start ++ flat_map f (take i ys) → new ≡ mid ++ f y → new ≡ start ++ flat_map f (take (i + 1) ys)
  found_written start mid new ys i y there first second =
      let more : take (i + 1) ys ≡ take i ys ++ y ∷ [] =
      take_more ys i y (slice_get_within ys i y there) ∙ ap (λ (z : Y). take i ys ++ z ∷ []) (get_or_from_slice_get ys i y y there) in
      second ∙ ap (λ (xs : List X). xs ++ f y) first ∙ flat_map_more f start (take i ys) y ∙ ap (λ (zs : List Y). start ++ flat_map f zs) (sym more)

  -- one element less is to come
  pub found_put : (all mid new : List X) (ys : List Y) (i : ℕ) (y : Y) → slice_get ys i ≡ Some y → mid ++ flat_map f (drop i ys) ≡ all → new ≡ mid ++ f y → new ++ flat_map f (drop (i + 1) ys) ≡ all
  found_put all mid new ys i y there first second =
      let here : drop i ys ≡ y ∷ drop (i + 1) ys =
      drop_more ys i y (slice_get_within ys i y there) ∙ ap (λ (z : Y). z ∷ drop (i + 1) ys) (get_or_from_slice_get ys i y y there) in
      ap (λ (xs : List X). xs ++ flat_map f (drop (i + 1) ys)) second ∙ append_assoc mid (f y) (flat_map f (drop (i + 1) ys))
      ∙ ap (λ (zs : List Y). mid ++ flat_map f zs) (sym here) ∙ first

  -- none is to come
  pub none_left : (all mid : List X) (ys : List Y) (i : ℕ) → slice_get ys i ≡ None → mid ++ flat_map f (drop i ys) ≡ all → mid ≡ all
  none_left all mid ys i none first = sym (append-nil mid) ∙ ap (λ (zs : List Y). mid ++ flat_map f zs) (sym (past ys i none)) ∙ first
    where
      past : (zs : List Y) (k : ℕ) → slice_get zs k ≡ None → drop k zs ≡ []
      past [] zero none = refl
      past [] (suc k) none = refl
      past (z ∷ zs) zero none = absurd cc
      past (z ∷ zs) (suc k) none = past zs k none

-- what holds where a call went well
pub ok_then : {T E : Type 0} (result : Result T E) (P Q : Type 0) → (P → Q) → OnOk result P → OnOk result Q
ok_then (Ok value) P Q next before = next before
ok_then (Err fault) P Q next before = tt

-- the text of one number more
texts_last : (text : ℕ → List ℕ) (n : ℕ) → all_texts text (suc n) ≡ all_texts text n ++ text n
texts_last text zero = append-nil (text 0)
texts_last text (suc n) =
    ap (λ (rest : List ℕ). text 0 ++ rest) (texts_last (λ k. text (suc k)) n) ∙ sym (append_assoc (text 0) (all_texts (λ k. text (suc k)) n) (text (suc n)))

pub text_written : (text : ℕ → List ℕ) (start mid new : List ℕ) (n : ℕ) → mid ≡ start ++ all_texts text n → new ≡ mid ++ text n → new ≡ start ++ all_texts text (n + 1)
text_written text start mid new n first second =
    second ∙ ap (λ (xs : List ℕ). xs ++ text n) first ∙ append_assoc start (all_texts text n) (text n)
    ∙ ap (λ (rest : List ℕ). start ++ rest) (sym (texts_last text n)) ∙ ap (λ (m : ℕ). start ++ all_texts text m) (sym (add-one n))

-- a channel of the configuration is one of the table, of its kind
pub kind_there : (chans : List Chan) (shapes : List Shape) (c : ℕ) (chan : Chan) → shapes ≡ map shape_of chans → slice_get chans c ≡ Some chan → IsSomeAnd (slice_get shapes c) (λ shape. shape.kind ≡ chan.kind)
kind_there chans shapes c chan are there = rw (are, slice_get-map shape_of chans c, there) refl

-- so there is something that it holds
pub content_there : (table : ChannelTable) (c : ℕ) (kind : ChanKind) → IsTable table → IsSomeAnd (slice_get table.shapes c) (λ shape. shape.kind ≡ kind) → slice_get table.contents c ≡ Some (content_at c table)
content_there table c kind is there =
    let below : c < length table.contents = omega (arith, is.counted, within table.shapes c there) in
    let some = slice_get-get_or table.contents c (Queuing []) below in
    some ∙ ap (λ (found : Option Content). Some (unwrap_or found (Queuing []))) (sym some)
  where
    within : (shapes : List Shape) (k : ℕ) → IsSomeAnd (slice_get shapes k) (λ shape. shape.kind ≡ kind) → k < length shapes
    within [] zero some = absurd some
    within [] (suc k) some = absurd some
    within (shape ∷ shapes) zero some = omega arith
    within (shape ∷ shapes) (suc k) some = omega (arith, within shapes k some)

-- what one channel more holds is put
pub content_put : (all mid new : List ℕ) (chans : List Chan) (contents : List Content) (c : ℕ) (chan : Chan) (content : Content) → slice_get chans c ≡ Some chan → slice_get contents c ≡ Some content
    → mid ++ contents_text (drop c chans) (drop c contents) ≡ all → new ≡ mid ++ content_text chan.kind content → new ++ contents_text (drop (c + 1) chans) (drop (c + 1) contents) ≡ all
content_put all mid new chans contents c chan content chan_there content_is first second =
    let one : drop c chans ≡ chan ∷ drop (c + 1) chans =
    drop_more chans c chan (slice_get_within chans c chan chan_there) ∙ ap (λ (z : Chan). z ∷ drop (c + 1) chans) (get_or_from_slice_get chans c chan chan chan_there) in
    let other : drop c contents ≡ content ∷ drop (c + 1) contents =
    drop_more contents c content (slice_get_within contents c content content_is) ∙ ap (λ (z : Content). z ∷ drop (c + 1) contents) (get_or_from_slice_get contents c content content content_is) in
    ap (λ (xs : List ℕ). xs ++ contents_text (drop (c + 1) chans) (drop (c + 1) contents)) second
    ∙ append_assoc mid (content_text chan.kind content) (contents_text (drop (c + 1) chans) (drop (c + 1) contents))
    ∙ (λ i. mid ++ contents_text (sym one i) (sym other i)) ∙ first

-- no channel is left
pub contents_end : (all mid : List ℕ) (chans : List Chan) (contents : List Content) (c : ℕ) → length chans ≤ c → mid ++ contents_text (drop c chans) (drop c contents) ≡ all → mid ≡ all
contents_end all mid chans contents c past first =
    sym (append-nil mid) ∙ ap (λ (zs : List Chan). mid ++ contents_text zs (drop c contents)) (sym (ends chans c past)) ∙ first
  where
    ends : (zs : List Chan) (k : ℕ) → length zs ≤ k → drop k zs ≡ []
    ends [] zero past = refl
    ends [] (suc k) past = refl
    ends (z ∷ zs) zero past = absurd (omega (arith, past))
    ends (z ∷ zs) (suc k) past = ends zs k (omega (arith, past))
