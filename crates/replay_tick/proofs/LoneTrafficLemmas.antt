-- What others do to the channels of one partition, under the system's numbers.
use Rattle.std.proofs.Common.{◌≡◌, ℕ, zero, suc, ◌<◌, ◌≤◌, Bool, true, false, List, [], ◌∷◌, length, map, get_or, Option, None, Some, refl, sym, ap, ◌∙◌, subst, arith}
use Rattle.std.specs.Prelude.{All, IfSome, IsSome, IsSomeAnd, ◌==◌, ◌&&◌, not, if◌then◌else◌, nat_le, nat_lt, slice_get, slice_index_or, unwrap_or}
use Rattle.std.proofs.lemmas.Bool.Decides.{nat_tests}
use Rattle.std.proofs.lemmas.Option.{get_or_from_slice_get, same_Some}
use Rattle.cue_scripts.specs.Script.{numbered_chan, chan_called, gives_in, gives_queue, heard_in, is_length, is_queue, most_heard}
use Rattle.std.specs.List.{list_any}
use Rattle.system_state.specs.State.{SysState, with_machine}
use Rattle.xm_conf.specs.Configuration.{Chan, Conf}
use Rattle.xm_conf.specs.View.{channel_of}
use Rattle.xm_conf.specs.declared.channel.ChanKind.{ChanKind}
use Rattle.xm_conf.specs.declared.channel.ChanKind.TheVariants as kinds
use Rattle.xm_ports.specs.Channels.{ChannelTable, Content, IsFull, IsMessage, IsQueuing, IsShape, IsTable, Queuing, Sampling, Shape, Suits, content_at, first_message, messages_of, most_of, shape_of, shapes_of}
use Rattle.machine_model.specs.lemmas.ListLemmas.{table_at}
use Rattle.machine_model.specs.lemmas.NameLemmas.{number_is, of_name_below}
use Rattle.machine_model.specs.Lists.{is_number, table, then_some}
use Rattle.machine_model.specs.Machine.{Machine, copies}
use Rattle.machine_model.specs.Emission.{OwnPuts, OwnTakes}
use Rattle.machine_model.specs.Traffic.{content_if, copies_of, puts_at, takes_at}
use Rattle.machine_model.specs.View.{PortChannel, if_named, name_of, named, part_of, port_channel, view_of, with_its_name, with_name}
use Rattle.span_model.specs.Passes.{traded}
use Rattle.replay_model.specs.Taking.{is_empty_copy, is_queue_full, is_full_copy, takes_traffic}
use Rattle.replay_tick.specs.lemmas.LoneWorkTerms.{IsChannelFor, IsChannelOfKind, has_first, has_room, is_full_in, put_in, taken_in, traffic_done}

-- the channel that a partition calls q: it is that of port q, and q is its name, a port's number
pub record IsCalledSo (conf : Conf) (p q c : ℕ) : Type 0 where
  pub channel : channel_of conf p q ≡ Some c
  pub name : name_of conf p c ≡ Some q
  pub below : q < length (part_of conf p).ports

called_if : (conf : Conf) (p q c : ℕ) (o : Option ℕ) → channel_of conf p q ≡ o → if_named conf p q o ≡ Some c → IsCalledSo conf p q c
called_if conf p q c None at is = absurd cc
called_if conf p q c (Some d) at is = by (is_number (name_of conf p d) q) refl is
  where
    by : (b : Bool) → is_number (name_of conf p d) q ≡ b → then_some b d ≡ Some c → IsCalledSo conf p q c
    by true found same =
        let e : d ≡ c = same_Some d c same in
        let name : name_of conf p c ≡ Some q = ap (name_of conf p) (sym e) ∙ number_is (name_of conf p d) q found in
        record { channel = at ∙ ap Some e; name = name; below = of_name_below conf p c q name }
    by false found same = absurd cc

pub called_so : (conf : Conf) (p q c : ℕ) → named conf p q ≡ Some c → IsCalledSo conf p q c
unfolding named
called_so conf p q c is = called_if conf p q c (channel_of conf p q) refl is

-- the view's channel and the copy of it
view_channel : (g : Machine) (p q c : ℕ) (chan : Chan) → IsCalledSo g.system.conf p q c → slice_get g.system.conf.chans c ≡ Some chan
    → slice_index_or (view_of g.system p).channels q None ≡ Some (record { shape = shape_of chan; name = q })
unfolding view_of port_channel
view_channel g p q c chan called there =
    table_at (port_channel g.system.conf p) (length (part_of g.system.conf p).ports) q called.below
    ∙ ap (with_its_name g.system.conf p) called.channel
    ∙ ap (λ (o : Option Chan). with_name o (name_of g.system.conf p c)) there
    ∙ ap (with_name (Some chan)) called.name

copy_called : (g : Machine) (p q c : ℕ) → IsCalledSo g.system.conf p q c → named g.system.conf p q ≡ Some c → slice_index_or (copies g p) q None ≡ slice_get g.channels c
unfolding copies copies_of
copy_called g p q c called is =
    table_at (λ r. content_if g.channels (named g.system.conf p r)) (length (part_of g.system.conf p).ports) q called.below ∙ ap (content_if g.channels) is

same_fullness : (chan : Chan) (q : ℕ) (o : Option Content) → is_full_copy (Some (record { shape = shape_of chan; name = q })) o ≡ is_full_in (Some chan) o
same_fullness chan q None = refl
same_fullness chan q (Some content) = refl

-- a message that others put
pub put_taken : (g : Machine) (p q c : ℕ) (chan : Chan) (bytes : List ℕ) → named g.system.conf p q ≡ Some c → slice_get g.system.conf.chans c ≡ Some chan
    → has_room g c ≡ takes_traffic (view_of g.system p) (copies g p) (OwnPuts q bytes)
put_taken g p q c chan bytes is there =
    let called = called_so g.system.conf p q c is in
    sym (ap (λ (o : Option PortChannel). not (is_full_copy o (slice_index_or (copies g p) q None))) (view_channel g p q c chan called there)
    ∙ ap (λ (o : Option Content). not (is_full_copy (Some (record { shape = shape_of chan; name = q })) o)) (copy_called g p q c called is)
    ∙ ap not (same_fullness chan q (slice_get g.channels c))
    ∙ ap (λ (o : Option Chan). not (is_full_in o (slice_get g.channels c))) (sym there))

pub put_done : (b : Bool) (g : Machine) (p q c : ℕ) (bytes : List ℕ) → named g.system.conf p q ≡ Some c → put_in b g c bytes ≡ traffic_done b g p (OwnPuts q bytes)
put_done true g p q c bytes is = sym (ap (λ (o : Option ℕ). traded (puts_at o bytes) g) is)
put_done false g p q c bytes is = refl

-- a message that others took
pub take_taken : (g : Machine) (p q c : ℕ) → named g.system.conf p q ≡ Some c → has_first g c ≡ takes_traffic (view_of g.system p) (copies g p) (OwnTakes q)
take_taken g p q c is = sym (ap (λ (o : Option Content). not (is_empty_copy o)) (copy_called g p q c (called_so g.system.conf p q c is) is))

pub take_done : (b : Bool) (g : Machine) (p q c : ℕ) → named g.system.conf p q ≡ Some c → taken_in b g c ≡ traffic_done b g p (OwnTakes q)
take_done true g p q c is = sym (ap (λ (o : Option ℕ). traded (takes_at o) g) is)
take_done false g p q c is = refl

-- a message may be for a partition only on a channel that it calls so
pub record IsHeardOn (conf : Conf) (p q count : ℕ) : Type 0 where
  pub c : ℕ
  pub is : named conf p q ≡ Some c
  pub chan : Chan
  pub there : slice_get conf.chans c ≡ Some chan
  pub some : 1 ≤ count
  pub fits : count ≤ chan.length

length_in : (most : Option ℕ) (count : ℕ) → is_length most count ≡ true → (m : ℕ) × (most ≡ Some m) × (1 ≤ count) × (count ≤ m)
length_in None count is = absurd cc
length_in (Some m) count is = by (nat_le 1 count) (nat_le count m) refl refl is
  where
    by : (a b : Bool) → nat_le 1 count ≡ a → nat_le count m ≡ b → (a && b) ≡ true → (n : ℕ) × (Some m ≡ Some n) × (1 ≤ count) × (count ≤ n)
    by true true one other both = (m, refl, grind (arith, nat_tests), grind (arith, nat_tests))
    by true false one other both = absurd cc
    by false b one other both = absurd cc

heard_at : (conf : Conf) (p q count m : ℕ) (o : Option ℕ) (found : Option Chan) → named conf p q ≡ o → numbered_chan conf o ≡ found → heard_in p found ≡ Some m → 1 ≤ count → count ≤ m → IsHeardOn conf p q count
heard_at conf p q count m None found is there heard some fits = absurd (let e : found ≡ None = sym there in let f : heard_in p found ≡ None = ap (heard_in p) e in let no : None ≡ Some m = sym f ∙ heard in cc)
heard_at conf p q count m (Some c) None is there heard some fits = absurd cc
heard_at conf p q count m (Some c) (Some chan) is there heard some fits = at (list_any (λ end. end.part == p) chan.dests) heard
  where
    at : (b : Bool) → (if b then Some chan.length else None) ≡ Some m → IsHeardOn conf p q count
    at true same = let e : chan.length ≡ m = same_Some chan.length m same in record { c = c; is = is; chan = chan; there = there; some = some; fits = omega (arith, fits, e) }
    at false same = absurd cc

pub heard_on : (conf : Conf) (p q count : ℕ) → is_length (most_heard conf p q) count ≡ true → IsHeardOn conf p q count
unfolding most_heard chan_called
heard_on conf p q count is =
    let most = length_in (heard_in p (numbered_chan conf (named conf p q))) count is in
    heard_at conf p q count most.0 (named conf p q) (numbered_chan conf (named conf p q)) refl refl most.1 most.2 most.3

-- and one is taken only from a queue that it calls so
pub record IsGivenOn (conf : Conf) (p q : ℕ) : Type 0 where
  pub c : ℕ
  pub is : named conf p q ≡ Some c
  pub chan : Chan
  pub there : slice_get conf.chans c ≡ Some chan
  pub queue : is_queue chan.kind ≡ true

given_at : (conf : Conf) (p q : ℕ) (o : Option ℕ) (found : Option Chan) → named conf p q ≡ o → numbered_chan conf o ≡ found → gives_in p found ≡ true → IsGivenOn conf p q
given_at conf p q None found is there gives = absurd (let e : gives_in p found ≡ false = ap (gives_in p) (sym there) in let no : false ≡ true = sym e ∙ gives in cc)
given_at conf p q (Some c) None is there gives = absurd cc
given_at conf p q (Some c) (Some chan) is there gives = record { c = c; is = is; chan = chan; there = there; queue = first_of (is_queue chan.kind) (chan.source.part == p) gives }
  where
    first_of : (a b : Bool) → (a && b) ≡ true → a ≡ true
    first_of true b both = refl
    first_of false b both = absurd cc

pub given_on : (conf : Conf) (p q : ℕ) → gives_queue conf p q ≡ true → IsGivenOn conf p q
unfolding gives_queue chan_called
given_on conf p q gives = given_at conf p q (named conf p q) (numbered_chan conf (named conf p q)) refl refl gives

-- the channel that the code finds is that one
pub record IsFor (conf : Conf) (p q code : ℕ) (bytes : List ℕ) : Type 0 where
  pub named_so : named conf p q ≡ Some code
  pub chan : Chan
  pub there : slice_get conf.chans code ≡ Some chan
  pub fits : IsMessage chan.length bytes

pub put_for : (conf : Conf) (p q code : ℕ) (bytes : List ℕ) → is_length (most_heard conf p q) (length bytes) ≡ true → channel_of conf p q ≡ Some code → IsFor conf p q code bytes
put_for conf p q code bytes is found =
    let on = heard_on conf p q (length bytes) is in
    let same : on.c ≡ code = same_Some on.c code (sym (called_so conf p q on.c on.is).channel ∙ found) in
    record {
      named_so = on.is ∙ ap Some same;
      chan = on.chan;
      there = ap (slice_get conf.chans) (sym same) ∙ on.there;
      fits = record { some = on.some; fit = on.fits };
    }

pub put_channel : (conf : Conf) (p q code : ℕ) (bytes : List ℕ) → is_length (most_heard conf p q) (length bytes) ≡ true → channel_of conf p q ≡ Some code → IsChannelFor conf code bytes
put_channel conf p q code bytes is found =
    let its = put_for conf p q code bytes is found in
    record { chan = its.chan; there = its.there; fits = its.fits }

-- there is one
pub put_some : (conf : Conf) (p q count : ℕ) → is_length (most_heard conf p q) count ≡ true → channel_of conf p q ≡ None → ⊥
put_some conf p q count is none =
    let on = heard_on conf p q count is in
    let no : None ≡ Some on.c = sym none ∙ (called_so conf p q on.c on.is).channel in
    cc

-- what the code answers and does, where it finds it
pub put_result : (g : Machine) (p q code : ℕ) (bytes : List ℕ) (result : Bool) → is_length (most_heard g.system.conf p q) (length bytes) ≡ true → channel_of g.system.conf p q ≡ Some code
    → result ≡ has_room g code → result ≡ takes_traffic (view_of g.system p) (copies g p) (OwnPuts q bytes)
put_result g p q code bytes result is found taken =
    let its = put_for g.system.conf p q code bytes is found in
    taken ∙ put_taken g p q code its.chan bytes its.named_so its.there

pub put_system : (p q code : ℕ) (bytes : List ℕ) (result : Bool) (old new : SysState) → is_length (most_heard old.machine.system.conf p q) (length bytes) ≡ true
    → channel_of old.machine.system.conf p q ≡ Some code → new ≡ with_machine (put_in result old.machine code bytes) old → new ≡ with_machine (traffic_done result old.machine p (OwnPuts q bytes)) old
put_system p q code bytes result old new is found done =
    let its = put_for old.machine.system.conf p q code bytes is found in
    done ∙ ap (λ (g : Machine). with_machine g old) (put_done result old.machine p q code bytes its.named_so)

-- the same of a message that is taken
pub record IsFrom (conf : Conf) (p q code : ℕ) : Type 0 where
  pub named_so : named conf p q ≡ Some code
  pub chan : Chan
  pub there : slice_get conf.chans code ≡ Some chan
  pub queue : is_queue chan.kind ≡ true

pub take_from : (conf : Conf) (p q code : ℕ) → gives_queue conf p q ≡ true → channel_of conf p q ≡ Some code → IsFrom conf p q code
take_from conf p q code gives found =
    let on = given_on conf p q gives in
    let same : on.c ≡ code = same_Some on.c code (sym (called_so conf p q on.c on.is).channel ∙ found) in
    record { named_so = on.is ∙ ap Some same; chan = on.chan; there = ap (slice_get conf.chans) (sym same) ∙ on.there; queue = on.queue }

pub take_some : (conf : Conf) (p q : ℕ) → gives_queue conf p q ≡ true → channel_of conf p q ≡ None → ⊥
take_some conf p q gives none =
    let on = given_on conf p q gives in
    let no : None ≡ Some on.c = sym none ∙ (called_so conf p q on.c on.is).channel in
    cc

queuing : (kind : ChanKind) → is_queue kind ≡ true → IsQueuing kind
queuing (kinds.Sampling refresh) is = absurd cc
queuing (kinds.Queuing most) is = tt

pub take_kind : (conf : Conf) (p q code : ℕ) → gives_queue conf p q ≡ true → channel_of conf p q ≡ Some code → IsChannelOfKind IsQueuing conf code
take_kind conf p q code gives found =
    let its = take_from conf p q code gives found in
    subst (λ (o : Option Chan). IsSomeAnd o (λ (chan : Chan). IsQueuing chan.kind)) (sym its.there) (queuing its.chan.kind its.queue)

pub take_result : (g : Machine) (p q code : ℕ) (result : Bool) → gives_queue g.system.conf p q ≡ true → channel_of g.system.conf p q ≡ Some code
    → result ≡ has_first g code → result ≡ takes_traffic (view_of g.system p) (copies g p) (OwnTakes q)
take_result g p q code result gives found taken = taken ∙ take_taken g p q code (take_from g.system.conf p q code gives found).named_so

pub take_system : (p q code : ℕ) (result : Bool) (old new : SysState) → gives_queue old.machine.system.conf p q ≡ true
    → channel_of old.machine.system.conf p q ≡ Some code → new ≡ with_machine (taken_in result old.machine code) old → new ≡ with_machine (traffic_done result old.machine p (OwnTakes q)) old
take_system p q code result old new gives found done =
    done ∙ ap (λ (g : Machine). with_machine g old) (take_done result old.machine p q code (take_from old.machine.system.conf p q code gives found).named_so)

-- the kind of a channel is that of its shape, and so is the length of its messages
kind_mapped : (Of : ChanKind → Type 0) (chans : List Chan) (c : ℕ) → IsSomeAnd (slice_get chans c) (λ chan. Of chan.kind) → IsSomeAnd (slice_get (map shape_of chans) c) (λ shape. Of shape.kind)
kind_mapped Of [] c is = is
kind_mapped Of (chan ∷ chans) zero is = is
kind_mapped Of (chan ∷ chans) (suc c) is = kind_mapped Of chans c is

pub kind_shape : (Of : ChanKind → Type 0) (conf : Conf) (shapes : List Shape) (c : ℕ) → shapes ≡ shapes_of conf → IsChannelOfKind Of conf c → IsSomeAnd (slice_get shapes c) (λ shape. Of shape.kind)
unfolding shapes_of
kind_shape Of conf shapes c same is = subst (λ (xs : List Shape). IsSomeAnd (slice_get xs c) (λ shape. Of shape.kind)) (sym same) (kind_mapped Of conf.chans c is)

fits_mapped : (chans : List Chan) (c : ℕ) (chan : Chan) (bytes : List ℕ) → slice_get chans c ≡ Some chan → IsMessage chan.length bytes → IfSome (slice_get (map shape_of chans) c) (λ shape. IsMessage shape.length bytes)
fits_mapped [] c chan bytes there fits = tt
fits_mapped (one ∷ chans) zero chan bytes there fits = subst (λ (x : Chan). IsMessage x.length bytes) (sym (same_Some one chan there)) fits
fits_mapped (one ∷ chans) (suc c) chan bytes there fits = fits_mapped chans c chan bytes there fits

pub fits_shape : (conf : Conf) (shapes : List Shape) (c : ℕ) (bytes : List ℕ) → shapes ≡ shapes_of conf → IsChannelFor conf c bytes → IfSome (slice_get shapes c) (λ shape. IsMessage shape.length bytes)
unfolding shapes_of
fits_shape conf shapes c bytes same is = subst (λ (xs : List Shape). IfSome (slice_get xs c) (λ shape. IsMessage shape.length bytes)) (sym same) (fits_mapped conf.chans c is.chan bytes is.there is.fits)

-- the channel that the code finds, in the configuration of the system
pub found_in : (one other : Conf) (p q : ℕ) (o : Option ℕ) → one ≡ other → o ≡ channel_of one p q → channel_of other p q ≡ o
found_in one other p q o same is = sym (is ∙ ap (λ (conf : Conf). channel_of conf p q) same)

-- a queue that holds no more than it may
pub record IsQueueAt (conf : Conf) (table : ChannelTable) (c : ℕ) : Type 0 where
  pub chan : Chan
  pub there : slice_get conf.chans c ≡ Some chan
  pub most : ℕ
  pub kind : chan.kind ≡ kinds.Queuing most
  pub messages : List (List ℕ)
  pub held : slice_get table.contents c ≡ Some (Queuing messages)
  pub few : length messages ≤ most
  pub each : All (IsMessage chan.length) messages

queue_held : (conf : Conf) (table : ChannelTable) (c : ℕ) (chan : Chan) (k : ChanKind) (o : Option Content) → slice_get conf.chans c ≡ Some chan → chan.kind ≡ k → IsQueuing k
    → slice_get table.contents c ≡ o → IsSome o → IfSome o (Suits (record { kind = k; length = chan.length })) → IsQueueAt conf table c
queue_held conf table c chan (kinds.Sampling refresh) o there kind is held some suits = absurd is
queue_held conf table c chan (kinds.Queuing most) None there kind is held some suits = absurd cc
queue_held conf table c chan (kinds.Queuing most) (Some (Sampling sample)) there kind is held some suits = absurd suits.held
queue_held conf table c chan (kinds.Queuing most) (Some (Queuing messages)) there kind is held some suits =
    record { chan = chan; there = there; most = most; kind = kind; messages = messages; held = held; few = suits.held.few; each = suits.held.each }

shape_there : (chans : List Chan) (c : ℕ) (chan : Chan) → slice_get chans c ≡ Some chan → slice_get (map shape_of chans) c ≡ Some (shape_of chan)
shape_there [] c chan there = absurd cc
shape_there (one ∷ chans) zero chan there = ap (λ (x : Chan). Some (shape_of x)) (same_Some one chan there)
shape_there (one ∷ chans) (suc c) chan there = shape_there chans c chan there

get_some : {X : Type 0} (xs : List X) (c : ℕ) → c < length xs → IsSome (slice_get xs c)
get_some [] c below = absurd (omega (arith, below))
get_some (x ∷ xs) zero below = refl
get_some (x ∷ xs) (suc c) below = get_some xs c (omega (arith, below))

get_below : {X : Type 0} (xs : List X) (c : ℕ) (x : X) → slice_get xs c ≡ Some x → c < length xs
get_below [] c x there = absurd cc
get_below (y ∷ ys) zero x there = omega arith
get_below (y ∷ ys) (suc c) x there = let below = get_below ys c x there in omega (arith, below)

kind_some : (conf : Conf) (c : ℕ) (o : Option Chan) → slice_get conf.chans c ≡ o → IsSomeAnd o (λ (chan : Chan). IsQueuing chan.kind) → (chan : Chan) × (slice_get conf.chans c ≡ Some chan) × IsQueuing chan.kind
kind_some conf c None is kind = absurd kind
kind_some conf c (Some chan) is kind = (chan, is, kind)

pub queue_at : (conf : Conf) (table : ChannelTable) (c : ℕ) → IsTable table → table.shapes ≡ shapes_of conf → IsChannelOfKind IsQueuing conf c → IsQueueAt conf table c
unfolding shapes_of
queue_at conf table c is shapes kind =
    let found = kind_some conf c (slice_get conf.chans c) refl kind in
    let shape : slice_get table.shapes c ≡ Some (shape_of found.0) = ap (λ (xs : List Shape). slice_get xs c) shapes ∙ shape_there conf.chans c found.0 found.1 in
    let counted : length table.contents ≡ length table.shapes = is.counted in
    let below : c < length table.shapes = get_below table.shapes c (shape_of found.0) shape in
    queue_held conf table c found.0 found.0.kind (slice_get table.contents c) found.1 refl found.2 refl (get_some table.contents c (omega (arith, counted, below)))
    (subst (λ (o : Option Shape). IfSome o (λ s. IfSome (slice_get table.contents c) (Suits s))) shape (is.contents c))

-- whether it has room, by how many messages wait
room_is : (g : Machine) (table : ChannelTable) (c : ℕ) (at : IsQueueAt g.system.conf table c) → table.contents ≡ g.channels → has_room g c ≡ not (not (nat_lt (length at.messages) at.most))
room_is g table c at same =
    ap (λ (o : Option Chan). not (is_full_in o (slice_get g.channels c))) at.there
    ∙ ap (λ (o : Option Content). not (is_full_in (Some at.chan) o)) (ap (λ (xs : List Content). slice_get xs c) (sym same) ∙ at.held)
    ∙ ap (λ (k : ChanKind). not (is_queue_full k (Queuing at.messages))) at.kind

-- a full queue, as the channels say
full_is : (conf : Conf) (table : ChannelTable) (shapes : List Shape) (contents : List Content) (c : ℕ) (at : IsQueueAt conf table c) → shapes ≡ shapes_of conf → table.contents ≡ contents
    → (P : Type 0) → ((length at.messages ≡ at.most) → P) → IsFull c (record { shapes = shapes; contents = contents }) → P
unfolding shapes_of
full_is conf table shapes contents c at same_shapes same P follows full =
    let shape : slice_get shapes c ≡ Some (shape_of at.chan) = ap (λ (xs : List Shape). slice_get xs c) same_shapes ∙ shape_there conf.chans c at.chan at.there in
    let held : slice_get contents c ≡ Some (Queuing at.messages) = ap (λ (xs : List Content). slice_get xs c) (sym same) ∙ at.held in
    let counted : length (messages_of (unwrap_or (slice_get contents c) (Queuing []))) ≡ most_of at.chan.kind =
    subst (λ (o : Option Shape). IsSomeAnd o (λ s. length (messages_of (unwrap_or (slice_get contents c) (Queuing []))) ≡ most_of s.kind)) shape full in
    follows (sym (ap (λ (o : Option Content). length (messages_of (unwrap_or o (Queuing [])))) held) ∙ counted ∙ ap most_of at.kind)

is_full_so : (conf : Conf) (table : ChannelTable) (shapes : List Shape) (contents : List Content) (c : ℕ) (at : IsQueueAt conf table c) → shapes ≡ shapes_of conf → table.contents ≡ contents
    → length at.messages ≡ at.most → IsFull c (record { shapes = shapes; contents = contents })
unfolding shapes_of
is_full_so conf table shapes contents c at same_shapes same all =
    let shape : slice_get shapes c ≡ Some (shape_of at.chan) = ap (λ (xs : List Shape). slice_get xs c) same_shapes ∙ shape_there conf.chans c at.chan at.there in
    let held : slice_get contents c ≡ Some (Queuing at.messages) = ap (λ (xs : List Content). slice_get xs c) (sym same) ∙ at.held in
    subst (λ (o : Option Shape). IsSomeAnd o (λ s. length (messages_of (unwrap_or (slice_get contents c) (Queuing []))) ≡ most_of s.kind)) (sym shape)
    (ap (λ (o : Option Content). length (messages_of (unwrap_or o (Queuing [])))) held ∙ all ∙ sym (ap most_of at.kind))

pub room_left : (g : Machine) (table : ChannelTable) (shapes : List Shape) (c : ℕ) (at : IsQueueAt g.system.conf table c) → shapes ≡ shapes_of g.system.conf → table.contents ≡ g.channels
    → (IsFull c (record { shapes = shapes; contents = g.channels }) → ⊥) → true ≡ has_room g c
room_left g table shapes c at same_shapes same none =
    let apart : (length at.messages ≡ at.most) → ⊥ = λ all. none (is_full_so g.system.conf table shapes g.channels c at same_shapes same all) in
    let few : length at.messages ≤ at.most = at.few in
    let less : length at.messages < at.most = omega (arith, few, apart) in
    sym (room_is g table c at same ∙ by (nat_lt (length at.messages) at.most) refl less)
  where
    by : (b : Bool) → nat_lt (length at.messages) at.most ≡ b → length at.messages < at.most → not (not b) ≡ true
    by b is less = grind (arith, nat_tests)

pub room_none : (g : Machine) (table : ChannelTable) (shapes : List Shape) (c : ℕ) (at : IsQueueAt g.system.conf table c) → shapes ≡ shapes_of g.system.conf → table.contents ≡ g.channels
    → IsFull c (record { shapes = shapes; contents = g.channels }) → false ≡ has_room g c
room_none g table shapes c at same_shapes same full =
    sym (room_is g table c at same ∙ full_is g.system.conf table shapes g.channels c at same_shapes same (not (not (nat_lt (length at.messages) at.most)) ≡ false)
    (λ all. by (nat_lt (length at.messages) at.most) refl all) full)
  where
    by : (b : Bool) → nat_lt (length at.messages) at.most ≡ b → length at.messages ≡ at.most → not (not b) ≡ false
    by b is all = grind (arith, nat_tests)

-- the first message of a queue is no longer than the longest
length_few : (conf : Conf) (table : ChannelTable) (c : ℕ) (at : IsQueueAt conf table c) → IsTable table → table.shapes ≡ shapes_of conf → at.chan.length ≤ 4096
unfolding shapes_of
length_few conf table c at is shapes =
    let shape : slice_get table.shapes c ≡ Some (shape_of at.chan) = ap (λ (xs : List Shape). slice_get xs c) shapes ∙ shape_there conf.chans c at.chan at.there in
    let its : IsShape (get_or table.shapes c (shape_of at.chan)) = is.shapes c (shape_of at.chan) (get_below table.shapes c (shape_of at.chan) shape) in
    subst (λ (s : Shape). s.length ≤ 4096) (get_or_from_slice_get table.shapes c (shape_of at.chan) (shape_of at.chan) shape) its.few

first_in : (messages : List (List ℕ)) (most : ℕ) → All (IsMessage most) messages → most ≤ 4096 → (slice_get messages 0 ≡ None → ⊥) → IsSomeAnd (slice_get messages 0) (λ first. length first ≤ 4096)
first_in [] most each few some = absurd (some refl)
first_in (message ∷ later) most each few some =
    let its : IsMessage most message = each 0 message (omega arith) in
    let fit : length message ≤ most = its.fit in
    omega (arith, fit, few)

pub first_few : (g : Machine) (table : ChannelTable) (shapes : List Shape) (c : ℕ) (at : IsQueueAt g.system.conf table c) → IsTable table → table.shapes ≡ shapes_of g.system.conf → table.contents ≡ g.channels
    → (first_message (content_at c table) ≡ None → ⊥) → IsSomeAnd (first_message (content_at c (record { shapes = shapes; contents = g.channels }))) (λ first. length first ≤ 4096)
first_few g table shapes c at is same_shapes same some =
    let before : content_at c table ≡ Queuing at.messages = ap (λ (o : Option Content). unwrap_or o (Queuing [])) at.held in
    let now : content_at c (record { shapes = shapes; contents = g.channels }) ≡ Queuing at.messages =
    ap (λ (o : Option Content). unwrap_or o (Queuing [])) (ap (λ (xs : List Content). slice_get xs c) (sym same) ∙ at.held) in
    subst (λ (content : Content). IsSomeAnd (first_message content) (λ first. length first ≤ 4096)) (sym now)
    (first_in at.messages at.chan.length at.each (length_few g.system.conf table c at is same_shapes) (λ none. some (ap first_message before ∙ none)))

-- whether one waits
pub none_waits : (g : Machine) (table : ChannelTable) (c : ℕ) (at : IsQueueAt g.system.conf table c) → table.contents ≡ g.channels → first_message (content_at c table) ≡ None → has_first g c ≡ false
none_waits g table c at same none =
    ap (λ (o : Option Content). not (is_empty_copy o)) (ap (λ (xs : List Content). slice_get xs c) (sym same) ∙ at.held)
    ∙ by at.messages (sym (ap first_message (ap (λ (o : Option Content). unwrap_or o (Queuing [])) at.held)) ∙ none)
  where
    by : (messages : List (List ℕ)) → slice_get messages 0 ≡ None → not (is_empty_copy (Some (Queuing messages))) ≡ false
    by [] is = refl
    by (message ∷ later) is = absurd cc
