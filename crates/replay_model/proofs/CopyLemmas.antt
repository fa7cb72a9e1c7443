-- What traffic and resets leave of a partition's copies of channels.
use Rattle.std.proofs.Common.{◌≡◌, ℕ, zero, suc, Bool, true, false, List, [], ◌∷◌, length, map, Option, None, Some, refl, sym, ap, ◌∙◌, arith}
use Rattle.std.specs.Prelude.{◌==◌, if◌then◌else◌, slice_get, slice_index_or}
use Rattle.std.proofs.lemmas.Bool.{eqb-true}
use Rattle.std.proofs.lemmas.Option.{same_Some}
use Rattle.xm_base.specs.Options.{on}
use Rattle.xm_conf.specs.Configuration.{Chan, Conf}
use Rattle.xm_conf.specs.View.{channel_of}
use Rattle.xm_ports.specs.Channels.{Content, cleared, put, first_taken}
use Rattle.machine_model.specs.lemmas.ListLemmas.{get_each, get_map, same_tables, each_table, map_table}
use Rattle.machine_model.specs.lemmas.NameLemmas.{number_is}
use Rattle.machine_model.specs.Lists.{each, is_number, table, then_some}
use Rattle.machine_model.specs.Machine.{Machine}
use Rattle.machine_model.specs.Emission.{OwnPuts, OwnSignals, OwnStill, OwnTakes, OwnTraffic}
use Rattle.machine_model.specs.Traffic.{Puts, Still, Takes, Traffic, after_own, after_traffic, content_if, copies_after, copies_of, heard_of_own, puts_at, takes_at, traffic_as}
use Rattle.machine_model.specs.LocalTick.{has_name}
use Rattle.machine_model.specs.View.{PortChannel, if_named, name_of, named, part_of, port_channel, view_of, with_its_name, with_name}

-- a channel that a partition calls q has the name q
if_named_is : (conf : Conf) (p q c : ℕ) (o : Option ℕ) → if_named conf p q o ≡ Some c → (o ≡ Some c) × (name_of conf p c ≡ Some q)
if_named_is conf p q c None is = absurd cc
if_named_is conf p q c (Some d) is = at (is_number (name_of conf p d) q) refl is
  where
    at : (b : Bool) → is_number (name_of conf p d) q ≡ b → then_some b d ≡ Some c → (Some d ≡ Some c) × (name_of conf p c ≡ Some q)
    at true found is = (is, ap (name_of conf p) (sym (same_Some d c is)) ∙ number_is (name_of conf p d) q found)
    at false other is = absurd cc

pub named_name : (conf : Conf) (p q c : ℕ) → named conf p q ≡ Some c → name_of conf p c ≡ Some q
unfolding named
named_name conf p q c is = (if_named_is conf p q c (channel_of conf p q) is).1

pub named_channel : (conf : Conf) (p q c : ℕ) → named conf p q ≡ Some c → channel_of conf p q ≡ Some c
unfolding named
named_channel conf p q c is = (if_named_is conf p q c (channel_of conf p q) is).0

-- names are equal where their channels are
same_names : (conf : Conf) (p q r c d : ℕ) → named conf p q ≡ Some c → named conf p r ≡ Some d → (c == d) ≡ (q == r)
same_names conf p q r c d one other = by (c == d) (q == r) refl refl
  where
    by : (a b : Bool) → (c == d) ≡ a → (q == r) ≡ b → a ≡ b
    by true true same_c same_q = refl
    by false false same_c same_q = refl
    by true false same_c same_q =
        let names : Some q ≡ Some r = sym (named_name conf p q c one) ∙ ap (name_of conf p) (eqb-true c d same_c) ∙ named_name conf p r d other in
        let e : q ≡ r = same_Some q r names in
        absurd (let f : (q == r) ≡ true = rw e (grind (arith)) in let no : false ≡ true = sym same_q ∙ f in cc)
    by false true same_c same_q =
        let channels : Some c ≡ Some d = sym one ∙ ap (named conf p) (eqb-true q r same_q) ∙ other in
        let e : c ≡ d = same_Some c d channels in
        absurd (let f : (c == d) ≡ true = rw e (grind (arith)) in let no : false ≡ true = sym same_c ∙ f in cc)

-- what a channel holds that a partition calls r, after traffic under the partition's own name for it
abbrev copied : Conf → ℕ → ℕ → Traffic → List Content → ℕ → Option Content
copied conf p time traffic channels r = content_if (each (after_traffic time traffic) channels) (named conf p r)

content_each : (f : ℕ → Content → Content) (channels : List Content) (c : ℕ) → content_if (each f channels) (Some c) ≡ on (f c) (content_if channels (Some c))
content_each f channels c = get_each f channels c

pub on_same : (f g : Content → Content) (o : Option Content) → ((x : Content) → f x ≡ g x) → on f o ≡ on g o
on_same f g None same = refl
on_same f g (Some x) same = ap Some (same x)

pub on_id : (o : Option Content) → on (λ x. x) o ≡ o
on_id None = refl
on_id (Some x) = refl

pub each_id : (channels : List Content) → each (λ c content. content) channels ≡ channels
each_id [] = refl
each_id (x ∷ xs) = ap (λ rest. x ∷ rest) (each_id xs)

-- a message that is put
put_copied : (conf : Conf) (p time q : ℕ) (bytes : List ℕ) (channels : List Content) (r : ℕ) (o : Option ℕ) → named conf p q ≡ o → (n : Option ℕ) → named conf p r ≡ n
    → content_if (each (after_traffic time (puts_at o bytes)) channels) n ≡ on (after_own time (OwnPuts q bytes) r) (content_if channels n)
put_copied conf p time q bytes channels r o is None its = refl
put_copied conf p time q bytes channels r (Some c) is (Some d) its =
    content_each (after_traffic time (Puts c bytes)) channels d
    ∙ on_same (after_traffic time (Puts c bytes) d) (after_own time (OwnPuts q bytes) r) (content_if channels (Some d))
    (λ x. ap (λ (b : Bool). if b then put time bytes x else x) (same_names conf p q r c d is its))
put_copied conf p time q bytes channels r None is (Some d) its =
    content_each (after_traffic time Still) channels d
    ∙ on_same (after_traffic time Still d) (after_own time (OwnPuts q bytes) r) (content_if channels (Some d)) (λ x. by (q == r) refl x)
  where
    by : (b : Bool) → (q == r) ≡ b → (x : Content) → x ≡ (if b then put time bytes x else x)
    by true same x = absurd (let e : None ≡ Some d = sym is ∙ ap (named conf p) (eqb-true q r same) ∙ its in cc)
    by false other x = refl

-- a message that is taken
take_copied : (conf : Conf) (p time q : ℕ) (channels : List Content) (r : ℕ) (o : Option ℕ) → named conf p q ≡ o → (n : Option ℕ) → named conf p r ≡ n
    → content_if (each (after_traffic time (takes_at o)) channels) n ≡ on (after_own time (OwnTakes q) r) (content_if channels n)
take_copied conf p time q channels r o is None its = refl
take_copied conf p time q channels r (Some c) is (Some d) its =
    content_each (after_traffic time (Takes c)) channels d
    ∙ on_same (after_traffic time (Takes c) d) (after_own time (OwnTakes q) r) (content_if channels (Some d))
    (λ x. ap (λ (b : Bool). if b then first_taken x else x) (same_names conf p q r c d is its))
take_copied conf p time q channels r None is (Some d) its =
    content_each (after_traffic time Still) channels d
    ∙ on_same (after_traffic time Still d) (after_own time (OwnTakes q) r) (content_if channels (Some d)) (λ x. by (q == r) refl x)
  where
    by : (b : Bool) → (q == r) ≡ b → (x : Content) → x ≡ (if b then first_taken x else x)
    by true same x = absurd (let e : None ≡ Some d = sym is ∙ ap (named conf p) (eqb-true q r same) ∙ its in cc)
    by false other x = refl

still_copied : (conf : Conf) (p : ℕ) (channels : List Content) (r : ℕ)
    → content_if (each (λ c content. content) channels) (named conf p r) ≡ on (λ x. x) (content_if channels (named conf p r))
still_copied conf p channels r = ap (λ (xs : List Content). content_if xs (named conf p r)) (each_id channels) ∙ sym (on_id (content_if channels (named conf p r)))

own_copied : (conf : Conf) (p time : ℕ) (own : OwnTraffic) (channels : List Content) (r : ℕ)
    → copied conf p time (traffic_as conf p own) channels r ≡ on (after_own time (heard_of_own own) r) (content_if channels (named conf p r))
own_copied conf p time OwnStill channels r = still_copied conf p channels r
own_copied conf p time (OwnPuts q bytes) channels r = put_copied conf p time q bytes channels r (named conf p q) refl (named conf p r) refl
own_copied conf p time (OwnTakes q) channels r = take_copied conf p time q channels r (named conf p q) refl (named conf p r) refl
own_copied conf p time (OwnSignals number) channels r = still_copied conf p channels r

-- the copies that a partition has of the channels, after traffic of its own
pub own_copies : (conf : Conf) (p ports time : ℕ) (own : OwnTraffic) (channels : List Content)
    → copies_of conf p ports (each (after_traffic time (traffic_as conf p own)) channels) ≡ copies_after time (heard_of_own own) (copies_of conf p ports channels)
unfolding copies_of copies_after
own_copies conf p ports time own channels =
    same_tables (copied conf p time (traffic_as conf p own) channels) (λ r. on (after_own time (heard_of_own own) r) (content_if channels (named conf p r))) ports
    (λ r. own_copied conf p time own channels r)
    ∙ sym (each_table (λ r copy. on (after_own time (heard_of_own own) r) copy) (λ r. content_if channels (named conf p r)) ports)

-- none, and a signal, do nothing to them
each_kept : (xs : List (Option Content)) → each (λ q copy. on (λ (content : Content). content) copy) xs ≡ xs
each_kept [] = refl
each_kept (x ∷ xs) = rw (each_kept xs, on_id x) refl

pub still_kept : (contents : List (Option Content)) (time : ℕ) → copies_after time OwnStill contents ≡ contents
unfolding copies_after
still_kept contents time = each_kept contents

pub signal_kept : (contents : List (Option Content)) (time number : ℕ) → copies_after time (OwnSignals number) contents ≡ contents
unfolding copies_after
signal_kept contents time number = each_kept contents

-- and after all channels were emptied
cleared_if : (channels : List Content) (n : Option ℕ) → content_if (map cleared channels) n ≡ on cleared (content_if channels n)
cleared_if channels None = refl
cleared_if channels (Some c) = get_map cleared channels c

pub cleared_copies : (conf : Conf) (p ports : ℕ) (channels : List Content) → copies_of conf p ports (map cleared channels) ≡ map (on cleared) (copies_of conf p ports channels)
unfolding copies_of
cleared_copies conf p ports channels =
    same_tables (λ r. content_if (map cleared channels) (named conf p r)) (λ r. on cleared (content_if channels (named conf p r))) ports (λ r. cleared_if channels (named conf p r))
    ∙ sym (map_table (on cleared) (λ r. content_if channels (named conf p r)) ports)

-- a port whose channel bears its number as the name: the partition calls that channel so
table_none : {Y : Type 0} (P : Option Y → Type 0) (f : ℕ → Option Y) (n q : ℕ) → P (slice_index_or (table f n) q None) → (P None → P (f q)) → P (f q)
table_none P f zero q at none = none at
table_none P f (suc n) zero at none = at
table_none P f (suc n) (suc q) at none = table_none P (λ k. f (suc k)) n q at none

with_name_is : (chan : Option Chan) (name : Option ℕ) (q : ℕ) → has_name (with_name chan name) q ≡ true → name ≡ Some q
with_name_is None name q has = absurd cc
with_name_is (Some chan) None q has = absurd cc
with_name_is (Some chan) (Some m) q has = ap Some (eqb-true m q has)

name_named : (conf : Conf) (p q c : ℕ) → channel_of conf p q ≡ Some c → name_of conf p c ≡ Some q → named conf p q ≡ Some c
unfolding named
name_named conf p q c at is =
    ap (if_named conf p q) at ∙ ap (λ (o : Option ℕ). then_some (is_number o q) c) is ∙ ap (λ (b : Bool). then_some b c) same
  where
    same : (q == q) ≡ true
    same = grind (arith)

port_named : (conf : Conf) (p q : ℕ) → has_name (port_channel conf p q) q ≡ true → (c : ℕ) × (named conf p q ≡ Some c)
unfolding port_channel
port_named conf p q has = at (channel_of conf p q) refl has
  where
    at : (o : Option ℕ) → channel_of conf p q ≡ o → has_name (with_its_name conf p o) q ≡ true → (c : ℕ) × (named conf p q ≡ Some c)
    at None is has = absurd cc
    at (Some c) is has = (c, name_named conf p q c is (with_name_is (slice_get conf.chans c) (name_of conf p c) q has))

pub its_channel : (g : Machine) (p q : ℕ) → has_name (slice_index_or (view_of g.system p).channels q None) q ≡ true → (c : ℕ) × (named g.system.conf p q ≡ Some c)
unfolding view_of
its_channel g p q has =
    port_named g.system.conf p q
    (table_none (λ (channel : Option PortChannel). has_name channel q ≡ true) (port_channel g.system.conf p) (length (part_of g.system.conf p).ports) q has (λ none. absurd cc))
