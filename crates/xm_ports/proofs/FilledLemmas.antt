-- Channels that are made with what they hold.
use Rattle.std.proofs.Common.{◌≡◌, ℕ, zero, suc, ◌+◌, ◌<◌, ◌≤◌, List, [], ◌∷◌, ◌++◌, length, map, take, get_or, Some, sym, ap, ◌∙◌, add-one, subst, arith}
use Rattle.std.specs.Prelude.{All}
use Rattle.std.proofs.lemmas.List.{get_or-map, length-map}
use Rattle.xm_conf.specs.Configuration.{Chan, Conf}
use Rattle.xm_conf.specs.Fits.{IsChan}
use Rattle.xm_conf.specs.declared.channel.ChanKind.{ChanKind}
use Rattle.xm_conf.specs.declared.channel.ChanKind.TheVariants as chan_kind
use Rattle.xm_ports.specs.Channels.{Content, HeldSample, IsTable, Queuing, Sampling, Suits, SuitsKind, empty_of, put, shape_of, shapes_of}
use Rattle.xm_ports.specs.Contents.{EachSuits, content_of}
use Rattle.xm_ports.specs.declared.content.ContentValue.{ContentValue}
use Rattle.xm_ports.proofs.TableLemmas.{kept_new}

-- contents of which each suits its channel make a table
pub kept_filled : (conf : Conf) (contents : List Content) → length conf.chans ≤ 64 → All IsChan conf.chans → length contents ≡ length (shapes_of conf) → EachSuits (shapes_of conf) contents
    → IsTable record { shapes = shapes_of conf; contents = contents }
kept_filled conf contents few chans counted suits =
    let new = kept_new conf few chans in
    record { few = new.few; counted = counted; shapes = new.shapes; contents = suits }

-- a message that is put into an empty channel is what it holds
pub sample_put : (kind : ChanKind) (room time : ℕ) (bytes : List ℕ) (sample : HeldSample) (before after : Content) → SuitsKind kind room (Sampling (Some sample)) → before ≡ empty_of kind → sample.time ≡ time → sample.bytes ≡ bytes
    → after ≡ put time bytes before → after ≡ Sampling (Some sample)
unfolding put
sample_put (chan_kind.Sampling refresh) room time bytes sample before after suits none timed same is =
    is ∙ ap (put time bytes) none ∙ (λ i. Sampling (Some record { time = sym timed i; bytes = sym same i }))
sample_put (chan_kind.Queuing most) room time bytes sample before after suits none timed same is = absurd suits

-- each message of a queue has no more bytes than its channel says
pub message_fits : {X : Type 0} (f : X → List ℕ) (kind : ChanKind) (room : ℕ) (xs : List X) (n : ℕ) (x : X) → SuitsKind kind room (Queuing (map f xs)) → n < length xs → x ≡ get_or xs n x → length (f x) ≤ room
message_fits f (chan_kind.Sampling refresh) room xs n x suits below here = absurd suits
message_fits f (chan_kind.Queuing most) room xs n x suits below here =
    let there : f x ≡ get_or (map f xs) n (f x) = ap f here ∙ sym (get_or-map f xs n x (f x) below) in
    let within : n < length (map f xs) = omega (arith, below, length-map xs f) in
    subst (λ (message : List ℕ). length message ≤ room) (sym there) (suits.each n (f x) within).fit

-- the first of some messages and the next one
first_more : {X : Type 0} (f : X → List ℕ) (xs : List X) (n : ℕ) (x : X) → n < length xs → x ≡ get_or xs n x → map f (take n xs) ++ f x ∷ [] ≡ map f (take (suc n) xs)
first_more f [] n x below here = absurd (omega (arith, below))
first_more {X} f (y ∷ xs) zero x below here = ap (λ (z : X). f z ∷ []) here
first_more f (y ∷ xs) (suc n) x below here = ap (λ (messages : List (List ℕ)). f y ∷ messages) (first_more f xs n x (omega (arith, below)) here)

-- a queue after one message more
pub queue_more : {X : Type 0} (f : X → List ℕ) (xs : List X) (n : ℕ) (x : X) (bytes : List ℕ) (before after : Content) → n < length xs → x ≡ get_or xs n x → bytes ≡ f x
    → before ≡ Queuing (map f (take n xs)) → after ≡ put 0 bytes before → after ≡ Queuing (map f (take (n + 1) xs))
unfolding put
queue_more f xs n x bytes before after below here same was is =
    let more : n + 1 ≡ suc n = add-one n in
    rw more
    (is ∙ ap (put 0 bytes) was ∙ ap (λ (last : List ℕ). Queuing (map f (take n xs) ++ last ∷ [])) same ∙ ap Queuing (first_more f xs n x below here))

-- what is given for a channel suits it
pub suits_there : (chans : List Chan) (contents : List ContentValue) (c : ℕ) (chan : Chan) (content : ContentValue) → EachSuits (map shape_of chans) (map content_of contents) → length contents ≡ length chans → c < length chans
    → chan ≡ get_or chans c chan → content ≡ get_or contents c content → Suits (shape_of chan) (content_of content)
suits_there [] contents c chan content suits counted below here there = absurd (omega (arith, below))
suits_there (x ∷ xs) [] c chan content suits counted below here there = absurd (omega (arith, counted))
suits_there (x ∷ xs) (k ∷ ks) zero chan content suits counted below here there =
    subst (λ (value : ContentValue). Suits (shape_of chan) (content_of value)) (sym there)
    (subst (λ (one : Chan). Suits (shape_of one) (content_of k)) (sym here) (suits 0))
suits_there (x ∷ xs) (k ∷ ks) (suc c) chan content suits counted below here there =
    suits_there xs ks c chan content (λ n. suits (suc n)) (omega (arith, counted)) (omega (arith, below)) here there
