-- Traffic under the system's numbers and under a partition's own names is the same for the partition.
use Rattle.std.proofs.Common.{◌≡◌, ℕ, Bool, true, false, List, length, map, Option, None, Some, refl, sym, ap, ◌∙◌, arith}
use Rattle.std.specs.Prelude.{slice_get, slice_index_or, ◌==◌, if◌then◌else◌}
use Rattle.std.proofs.lemmas.Bool.{eqb-true}
use Rattle.std.proofs.lemmas.Option.{same_Some}
use Rattle.xm_base.specs.Options.{on}
use Rattle.xm_conf.specs.Configuration.{Conf}
use Rattle.xm_ports.specs.Channels.{Content, put, first_taken}
use Rattle.machine_model.specs.lemmas.LinkLemmas.{own_signal}
use Rattle.machine_model.specs.Lists.{each, is_number}
use Rattle.machine_model.specs.LocalTick.{bounded, has_name}
use Rattle.machine_model.specs.Emission as emission
use Rattle.machine_model.specs.Emission.{Act, OwnPuts, OwnSignals, OwnStill, OwnTakes}
use Rattle.machine_model.specs.Traffic.{Puts, Signals, Still, Takes, Traffic, after_own, after_traffic, content_if, copies_after, copies_of, heard_as, heard_of_own, own_puts_at, own_signals_at, own_takes_at, traffic_as, traffic_of}
use Rattle.machine_model.specs.View.{System, has_number, linked, name_of, named, part_of, port_channel, view_of}
use Rattle.machine_model.specs.Whole.{WholeEvent, content_after}
use Rattle.machine_model.specs.lemmas.ListLemmas.{each_table, get_each, map_table, same_tables, table_or_none}
use Rattle.machine_model.specs.lemmas.NameLemmas.{has_name_named, name_is, named_is}

-- two channels that a partition calls the same are one
pub same_channel : (conf : Conf) (p q c d : ℕ) → name_of conf p c ≡ Some q → name_of conf p d ≡ Some q → c ≡ d
same_channel conf p q c d one other = same_Some c d (sym (name_is conf p c q one) ∙ name_is conf p d q other)

-- a choice that is made by whether two numbers are equal
same_choice : {X : Type 0} (a b : Bool) (x y : X) → (a ≡ true → b ≡ true) → (b ≡ true → a ≡ true) → (if a then x else y) ≡ (if b then x else y)
same_choice true true x y there back = refl
same_choice true false x y there back = absurd (let e = there refl in cc)
same_choice false true x y there back = absurd (let e = back refl in cc)
same_choice false false x y there back = refl

-- a put under the system's number does to channel c what it does under the name to what the name means
put_same : (conf : Conf) (p q c : ℕ) → name_of conf p c ≡ Some q → (time d : ℕ) (bytes : List ℕ) (name : Option ℕ) → name_of conf p d ≡ name → (content : Content)
    → after_own time (own_puts_at name bytes) q content ≡ after_traffic time (Puts d bytes) c content
put_same conf p q c named_c time d bytes None is content = at (d == c) refl
  where
    at : (b : Bool) → (d == c) ≡ b → content ≡ (if b then put time bytes content else content)
    at true same = absurd (let e : name_of conf p c ≡ None = ap (name_of conf p) (sym (eqb-true d c same)) ∙ is in let f = sym e ∙ named_c in cc)
    at false other = refl
put_same conf p q c named_c time d bytes (Some name) is content =
    same_choice (name == q) (d == c) (put time bytes content) content
    (λ same. let e : name_of conf p d ≡ Some q = is ∙ ap Some (eqb-true name q same) in
    let f : d ≡ c = same_channel conf p q d c e named_c in rw f (grind (arith)))
    (λ same. let e : Some name ≡ Some q = sym is ∙ ap (name_of conf p) (eqb-true d c same) ∙ named_c in
    let f : name ≡ q = same_Some name q e in rw f (grind (arith)))

take_same : (conf : Conf) (p q c : ℕ) → name_of conf p c ≡ Some q → (time d : ℕ) (name : Option ℕ) → name_of conf p d ≡ name → (content : Content)
    → after_own time (own_takes_at name) q content ≡ after_traffic time (Takes d) c content
take_same conf p q c named_c time d None is content = at (d == c) refl
  where
    at : (b : Bool) → (d == c) ≡ b → content ≡ (if b then first_taken content else content)
    at true same = absurd (let e : name_of conf p c ≡ None = ap (name_of conf p) (sym (eqb-true d c same)) ∙ is in let f = sym e ∙ named_c in cc)
    at false other = refl
take_same conf p q c named_c time d (Some name) is content =
    same_choice (name == q) (d == c) (first_taken content) content
    (λ same. let e : name_of conf p d ≡ Some q = is ∙ ap Some (eqb-true name q same) in
    let f : d ≡ c = same_channel conf p q d c e named_c in rw f (grind (arith)))
    (λ same. let e : Some name ≡ Some q = sym is ∙ ap (name_of conf p) (eqb-true d c same) ∙ named_c in
    let f : name ≡ q = same_Some name q e in rw f (grind (arith)))

-- a signal does nothing to a copy, whoever it is for
signal_same : (b : Bool) (time number q : ℕ) (content : Content) → after_own time (own_signals_at b number) q content ≡ content
signal_same true time number q content = refl
signal_same false time number q content = refl

-- traffic does to a channel what it does to a copy of it under its name
traffic_same : (conf : Conf) (p q c time : ℕ) (traffic : Traffic) (content : Content) → name_of conf p c ≡ Some q
    → after_own time (heard_as conf p traffic) q content ≡ after_traffic time traffic c content
traffic_same conf p q c time Still content is = refl
traffic_same conf p q c time (Puts d bytes) content is = put_same conf p q c is time d bytes (name_of conf p d) refl content
traffic_same conf p q c time (Takes d) content is = take_same conf p q c is time d (name_of conf p d) refl content
traffic_same conf p q c time (Signals source number) content is = signal_same (is_number (linked conf source number) p) time number q content

-- what a tick leaves of a channel, as a function of its number
abbrev channel_after_of : ℕ → WholeEvent → Traffic → ℕ → Content → Content
channel_after_of time event traffic c content = content_after event (after_traffic time traffic c content)

copied_by : (f : ℕ → Content → Content) (g : Content → Content) (channels : List Content) (c : ℕ) (o : Option Content) → slice_get channels c ≡ o → ((content : Content) → f c content ≡ g content)
    → slice_get (each f channels) c ≡ on g o
copied_by f g channels c None is same = get_each f channels c ∙ ap (on (f c)) is
copied_by f g channels c (Some content) is same = get_each f channels c ∙ ap (on (f c)) is ∙ ap Some (same content)

copy_same : (conf : Conf) (p q time : ℕ) (event : WholeEvent) (traffic : Traffic) (channels : List Content) (o : Option ℕ) → named conf p q ≡ o
    → content_if (each (channel_after_of time event traffic) channels) o
    ≡ on (content_after event) (on (after_own time (heard_as conf p traffic) q) (content_if channels o))
copy_same conf p q time event traffic channels None is = refl
copy_same conf p q time event traffic channels (Some c) is =
    copied_by (channel_after_of time event traffic) (λ content. content_after event (after_own time (heard_as conf p traffic) q content)) channels c (slice_get channels c) refl
    (λ content. ap (content_after event) (sym (traffic_same conf p q c time traffic content (named_is conf p q c is))))
    ∙ twice (slice_get channels c)
  where
    twice : (o : Option Content) → on (λ content. content_after event (after_own time (heard_as conf p traffic) q content)) o
        ≡ on (content_after event) (on (after_own time (heard_as conf p traffic) q) o)
    twice None = refl
    twice (Some content) = refl

-- the copies that a partition has of the channels after a tick are what the tick leaves of its copies
pub copies_same : (conf : Conf) (p ports time : ℕ) (event : WholeEvent) (traffic : Traffic) (channels : List Content)
    → copies_of conf p ports (each (channel_after_of time event traffic) channels)
    ≡ map (on (content_after event)) (copies_after time (heard_as conf p traffic) (copies_of conf p ports channels))
unfolding copies_of copies_after
copies_same conf p ports time event traffic channels =
    same_tables _ (λ q. on (content_after event) (on (after_own time (heard_as conf p traffic) q) (content_if channels (named conf p q)))) ports
    (λ q. copy_same conf p q time event traffic channels (named conf p q) refl)
    ∙ sym (map_table (on (content_after event)) (λ q. on (after_own time (heard_as conf p traffic) q) (content_if channels (named conf p q))) ports)
    ∙ ap (map (on (content_after event))) (sym (each_table (λ q copy. on (after_own time (heard_as conf p traffic) q) copy) (λ q. content_if channels (named conf p q)) ports))

-- traffic on a channel that a partition has, put under the system's number and back
there_and_back : (conf : Conf) (p : ℕ) → (q : ℕ) → has_name (port_channel conf p q) q ≡ true → (c : ℕ) × (named conf p q ≡ Some c) × (name_of conf p c ≡ Some q)
there_and_back conf p q has = has_name_named conf p q has

-- what a partition's act does to a channel is on a channel that it has
pub view_has : (system : System) (p q : ℕ) → has_name (slice_index_or (view_of system p).channels q None) q ≡ true → has_name (port_channel system.conf p q) q ≡ true
unfolding view_of
view_has system p q has =
    table_or_none (λ channel. has_name channel q ≡ true) (port_channel system.conf p) (length (part_of system.conf p).ports) q has (λ none. absurd cc)

-- a partition's own traffic, put under the system's numbers, is under its own names what it hears of it
pub own_traffic : (system : System) (p : ℕ) (act : Act)
    → heard_as system.conf p (traffic_as system.conf p (traffic_of (bounded (view_of system p) act))) ≡ heard_of_own (traffic_of (bounded (view_of system p) act))
own_traffic system p emission.Nothing = refl
own_traffic system p (emission.Trades OwnStill) = refl
own_traffic system p (emission.Trades (OwnPuts q bytes)) = at (has_name (slice_index_or (view_of system p).channels q None) q) refl
  where
    at : (b : Bool) → has_name (slice_index_or (view_of system p).channels q None) q ≡ b
        → heard_as system.conf p (traffic_as system.conf p (traffic_of (if b then emission.Trades (OwnPuts q bytes) else emission.Nothing)))
        ≡ heard_of_own (traffic_of (if b then emission.Trades (OwnPuts q bytes) else emission.Nothing))
    at true has =
        let found = has_name_named system.conf p q (view_has system p q has) in
        rw (found.1, found.2) refl
    at false not_its = refl
own_traffic system p (emission.Trades (OwnTakes q)) = at (has_name (slice_index_or (view_of system p).channels q None) q) refl
  where
    at : (b : Bool) → has_name (slice_index_or (view_of system p).channels q None) q ≡ b
        → heard_as system.conf p (traffic_as system.conf p (traffic_of (if b then emission.Trades (OwnTakes q) else emission.Nothing)))
        ≡ heard_of_own (traffic_of (if b then emission.Trades (OwnTakes q) else emission.Nothing))
    at true has =
        let found = has_name_named system.conf p q (view_has system p q has) in
        rw (found.1, found.2) refl
    at false not_its = refl
own_traffic system p (emission.Trades (OwnSignals number)) = at (has_number (view_of system p).links number)
  where
    at : (b : Bool) → heard_as system.conf p (traffic_as system.conf p (traffic_of (if b then emission.Trades (OwnSignals number) else emission.Nothing)))
        ≡ heard_of_own (traffic_of (if b then emission.Trades (OwnSignals number) else emission.Nothing))
    at true = own_signal system.conf p number
    at false = refl
own_traffic system p (emission.Upon id order) = at (id == (view_of system p).id)
  where
    at : (b : Bool) → heard_as system.conf p (traffic_as system.conf p (traffic_of (if b then emission.Nothing else emission.Upon id order)))
        ≡ heard_of_own (traffic_of (if b then emission.Nothing else emission.Upon id order))
    at true = refl
    at false = refl
own_traffic system p (emission.Plans change) = refl
own_traffic system p (emission.UponAll event) = refl
