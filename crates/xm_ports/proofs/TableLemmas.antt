-- A table of channels stays one, whatever a call does to it.
use Rattle.std.proofs.Common.{◌≡◌, ◌≢◌, ℕ, suc, ◌+◌, ◌≤◌, ◌⊎◌, inl, inr, List, [], ◌∷◌, ◌++◌, length, map, Option, None, Some, refl, ◌∙◌, arith, length-append}
use Rattle.std.specs.Prelude.{slice_get, unwrap_or, option_map, All, IfSome, IsSomeAnd}
use Rattle.std.proofs.lemmas.Bool.{cases_eq}
use Rattle.std.proofs.lemmas.List.{length-map}
use Rattle.std.proofs.lemmas.List.Elements.{All-cons, All-nil, All-push}
use Rattle.std.proofs.lemmas.Option.{slice_get-map}
use Rattle.xm_conf.specs.declared.channel.ChanKind.{ChanKind}
use Rattle.xm_conf.specs.declared.channel.ChanKind.TheVariants as chan_kind
use Rattle.xm_conf.specs.Configuration.{Chan, Conf}
use Rattle.xm_conf.specs.Fits.{IsChan, IsKind}
use Rattle.xm_conf.specs.declared.channel.End.{End}
use Rattle.xm_ports.specs.Channels.{Shape, Content, Sampling, Queuing, ChannelTable, shape_of, shapes_of, empty, empty_of, HasMost, IsShape, put, first_taken, cleared, first_message, changed, with_content, all_cleared, messages_of, content_at, most_of, IsSampling, IsQueuing, HasSampling, HasQueue, IsMessage, FitsChannel, IsFull, SuitsKind, Suits, IsTable}
use Rattle.xm_ports.proofs.ChangedLemmas.{slice_get-changed_same, slice_get-changed_other, length-changed}

-- what one change does to each content that suits its shape
abbrev pub Keeps : (Content → Content) → Shape → Content → Type 0
Keeps f shape content = Suits shape content → Suits shape (f content)

-- a change that keeps a content's shape, where both are there
change_there : (f : Content → Content) (shape : Option Shape) (content : Option Content)
    → IfSome shape (λ s. IfSome content (Keeps f s))
    → IfSome shape (λ s. IfSome content (Suits s)) → IfSome shape (λ s. IfSome (option_map f content) (Suits s))
change_there f None content keeps suits = tt
change_there f (Some s) None keeps suits = tt
change_there f (Some s) (Some k) keeps suits = keeps suits

-- a table of which one content is changed in a way that keeps its shape
pub kept_changed : (f : Content → Content) (table : ChannelTable) (c : ℕ) → IsTable table
    → IfSome (slice_get table.shapes c) (λ shape. IfSome (slice_get table.contents c) (Keeps f shape)) → IsTable (with_content f c table)
kept_changed f table c is keeps = record {
  few = is.few;
  counted = length-changed f c table.contents ∙ is.counted;
  shapes = is.shapes;
  contents = λ p. at p (cases_eq p c);
}
  where
    at : (p : ℕ) → (p ≡ c) ⊎ (p ≡ c → ⊥) → IfSome (slice_get table.shapes p) (λ s. IfSome (slice_get (changed f c table.contents) p) (Suits s))
    at p (inl same) =
        rw (same, slice_get-changed_same f c table.contents) (change_there f (slice_get table.shapes c) (slice_get table.contents c) keeps (is.contents c))
    at p (inr differs) = rw (slice_get-changed_other f c p table.contents differs) (is.contents p)

-- a sampling channel holds a message that is written
put_sampling_suits : (time : ℕ) (bytes : List ℕ) (kind : ChanKind) (room : ℕ) (content : Content)
    → IsSampling kind → IsMessage room bytes → SuitsKind kind room content → SuitsKind kind room (put time bytes content)
unfolding put
put_sampling_suits time bytes (chan_kind.Sampling refresh) room (Sampling sample) is fits suits = fits
put_sampling_suits time bytes (chan_kind.Sampling refresh) room (Queuing messages) is fits suits = absurd suits
put_sampling_suits time bytes (chan_kind.Queuing most) room content is fits suits = absurd is

-- a queue that is not full holds a message more
send_suits : (time : ℕ) (bytes : List ℕ) (kind : ChanKind) (room : ℕ) (content : Content)
    → IsQueuing kind → IsMessage room bytes → length (messages_of content) ≢ most_of kind → SuitsKind kind room content → SuitsKind kind room (put time bytes content)
unfolding put
send_suits time bytes (chan_kind.Sampling refresh) room content is fits free suits = absurd is
send_suits time bytes (chan_kind.Queuing most) room (Sampling sample) is fits free suits = absurd suits
send_suits time bytes (chan_kind.Queuing most) room (Queuing messages) is fits free suits = record {
  few = let few : length messages ≤ most = suits.few in
      let longer : length (messages ++ bytes ∷ []) ≡ length messages + 1 = length-append messages (bytes ∷ []) in
      omega (arith, few, longer, free);
  each = All-push (IsMessage room) messages bytes suits.each fits;
}

-- a queue without its first message
taken_suits : (kind : ChanKind) (room : ℕ) (content : Content) → SuitsKind kind room content → SuitsKind kind room (first_taken content)
unfolding first_taken
taken_suits kind room (Sampling sample) suits = suits
taken_suits (chan_kind.Sampling refresh) room (Queuing messages) suits = absurd suits
taken_suits (chan_kind.Queuing most) room (Queuing []) suits = suits
taken_suits (chan_kind.Queuing most) room (Queuing (first ∷ later)) suits = record {
  few = let few : suc (length later) ≤ most = suits.few in omega (arith, few);
  each = λ k d below. suits.each (suc k) d (omega (arith, below));
}

-- a channel without a message
cleared_suits : (kind : ChanKind) (room : ℕ) (content : Content) → SuitsKind kind room content → SuitsKind kind room (cleared content)
unfolding cleared
cleared_suits (chan_kind.Sampling refresh) room (Sampling sample) suits = tt
cleared_suits (chan_kind.Queuing most) room (Sampling sample) suits = absurd suits
cleared_suits (chan_kind.Sampling refresh) room (Queuing messages) suits = absurd suits
cleared_suits (chan_kind.Queuing most) room (Queuing messages) suits = record { few = omega arith; each = All-nil (IsMessage room) }

-- a table stays one where a message is written to a sampling channel
pub kept_put_sampling : (table : ChannelTable) (c time : ℕ) (bytes : List ℕ) → IsTable table → HasSampling c table → FitsChannel bytes c table
    → IsTable (with_content (put time bytes) c table)
kept_put_sampling table c time bytes is has fits =
    kept_changed (put time bytes) table c is (at (slice_get table.shapes c) (slice_get table.contents c) has fits)
  where
    at : (shape : Option Shape) (content : Option Content) → IsSomeAnd shape (λ s. IsSampling s.kind) → IfSome shape (λ s. IsMessage s.length bytes)
        → IfSome shape (λ s. IfSome content (Keeps (put time bytes) s))
    at None content has fits = tt
    at (Some s) None has fits = tt
    at (Some s) (Some k) has fits = λ suits. record { held = put_sampling_suits time bytes s.kind s.length k has fits suits.held }

-- a table stays one where a message is put into a queue that is not full
pub kept_send : (table : ChannelTable) (c time : ℕ) (bytes : List ℕ) → IsTable table → HasQueue c table → FitsChannel bytes c table → ¬ (IsFull c table)
    → IsTable (with_content (put time bytes) c table)
kept_send table c time bytes is has fits free =
    kept_changed (put time bytes) table c is (at (slice_get table.shapes c) (slice_get table.contents c) refl has fits free)
  where
    at : (shape : Option Shape) (content : Option Content) → slice_get table.contents c ≡ content → IsSomeAnd shape (λ s. IsQueuing s.kind) → IfSome shape (λ s. IsMessage s.length bytes)
        → ¬ (IsSomeAnd shape (λ s. length (messages_of (content_at c table)) ≡ most_of s.kind)) → IfSome shape (λ s. IfSome content (Keeps (put time bytes) s))
    at None content there has fits free = tt
    at (Some s) None there has fits free = tt
    at (Some s) (Some k) there has fits free =
        λ suits. record { held = send_suits time bytes s.kind s.length k has fits (rw there at free) suits.held }

-- a table stays one where the first message of a queue is taken
pub kept_taken : (table : ChannelTable) (c : ℕ) → IsTable table → IsTable (with_content first_taken c table)
kept_taken table c is = kept_changed first_taken table c is (at (slice_get table.shapes c) (slice_get table.contents c))
  where
    at : (shape : Option Shape) (content : Option Content) → IfSome shape (λ s. IfSome content (Keeps first_taken s))
    at None content = tt
    at (Some s) None = tt
    at (Some s) (Some k) = λ suits. record { held = taken_suits s.kind s.length k suits.held }

-- a table stays one where all messages are dropped
pub kept_cleared : (table : ChannelTable) → IsTable table → IsTable (all_cleared table)
kept_cleared table is = record {
  few = is.few;
  counted = length-map table.contents cleared ∙ is.counted;
  shapes = is.shapes;
  contents = λ c. rw (slice_get-map cleared table.contents c) (at (slice_get table.shapes c) (slice_get table.contents c) (is.contents c));
}
  where
    at : (shape : Option Shape) (content : Option Content) → IfSome shape (λ s. IfSome content (Suits s)) → IfSome shape (λ s. IfSome (option_map cleared content) (Suits s))
    at None content suits = tt
    at (Some s) None suits = tt
    at (Some s) (Some k) suits = record { held = cleared_suits s.kind s.length k suits.held }

-- a kind of a configuration states as many messages as it may
most_of_kind : (kind : ChanKind) (dests : List End) → IsKind kind dests → HasMost kind
most_of_kind (chan_kind.Sampling refresh) dests is = tt
most_of_kind (chan_kind.Queuing most) dests is = (is.1, is.2)

-- a channel without a message
empty_suits : (kind : ChanKind) (room : ℕ) → SuitsKind kind room (empty_of kind)
empty_suits (chan_kind.Sampling refresh) room = tt
empty_suits (chan_kind.Queuing most) room = record { few = omega arith; each = All-nil (IsMessage room) }

-- the shapes of configured channels are ones that a channel may have
shapes_are : (chans : List Chan) → All IsChan chans → All IsShape (map shape_of chans)
shapes_are [] each = All-nil IsShape
shapes_are (chan ∷ chans) each =
    let is : IsChan chan = each 0 chan (omega arith) in
    All-cons IsShape (shape_of chan) (map shape_of chans)
    (record { some = is.some; few = is.most; most = most_of_kind chan.kind chan.dests is.kind })
    (shapes_are chans (λ k d below. each (suc k) d (omega (arith, below))))

-- the channels of a configuration without a message are a table
pub kept_new : (conf : Conf) → length conf.chans ≤ 64 → All IsChan conf.chans
    → IsTable record { shapes = shapes_of conf; contents = map empty (shapes_of conf) }
unfolding shapes_of
kept_new conf few each = record {
  few = rw (length-map conf.chans shape_of) few;
  counted = length-map (map shape_of conf.chans) empty;
  shapes = shapes_are conf.chans each;
  contents = λ c. rw (slice_get-map empty (map shape_of conf.chans) c) (at (slice_get (map shape_of conf.chans) c));
}
  where
    at : (shape : Option Shape) → IfSome shape (λ s. IfSome (option_map empty shape) (Suits s))
    at None = tt
    at (Some s) = record { held = empty_suits s.kind s.length }

-- the first message of a queue has at most as many bytes as the queue's messages have
pub first_fits : (table : ChannelTable) (c : ℕ) → IsTable table
    → IfSome (slice_get table.shapes c) (λ shape. IfSome (first_message (content_at c table)) (IsMessage shape.length))
first_fits table c is = at (slice_get table.shapes c) (slice_get table.contents c) (is.contents c)
  where
    of_kind : (kind : ChanKind) (room : ℕ) (content : Content) → SuitsKind kind room content → IfSome (first_message content) (IsMessage room)
    of_kind kind room (Sampling sample) suits = tt
    of_kind kind room (Queuing []) suits = tt
    of_kind (chan_kind.Sampling refresh) room (Queuing (first ∷ later)) suits = absurd suits
    of_kind (chan_kind.Queuing most) room (Queuing (first ∷ later)) suits = suits.each 0 first (omega arith)

    at : (shape : Option Shape) (content : Option Content) → IfSome shape (λ s. IfSome content (Suits s))
        → IfSome shape (λ s. IfSome (first_message (unwrap_or content (Queuing []))) (IsMessage s.length))
    at None content suits = tt
    at (Some s) None suits = tt
    at (Some s) (Some k) suits = of_kind s.kind s.length k suits.held
