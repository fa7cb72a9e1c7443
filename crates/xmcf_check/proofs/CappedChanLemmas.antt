-- The rules on channels say the same of a configuration whose numbers are capped, and one that breaks none keeps its numbers.
use Rattle.std.proofs.Common.{◌≡◌, ℕ, zero, suc, ◌+◌, ◌<◌, ◌≤◌, ◌&&◌, Bool, true, false, List, [], ◌∷◌, ◌++◌, length, map, Option, Some, None, refl, ap, ◌∙◌, arith}
use Rattle.std.specs.Prelude.{slice_get, is_some, All, IfSome}
use Rattle.std.proofs.lemmas.List.{length-map}
use Rattle.std.proofs.lemmas.List.Elements.{All-head, All-tail}
use Rattle.std.proofs.lemmas.Option.{slice_get_within}
use Rattle.xm_base.specs.Options.{on}
use Rattle.xm_conf.specs.Along.{head_of, added_by_each, each_from, along, unless}
use Rattle.xm_conf.specs.Configuration.{Part, Chan, Conf}
use Rattle.xm_conf.specs.Rules as rules
use Rattle.xm_conf.specs.declared.port.Port.{Port}
use Rattle.xm_conf.specs.declared.port.Kind.{Kind}
use Rattle.xm_conf.specs.declared.port.Kind.TheVariants as port_kind
use Rattle.xm_conf.specs.declared.port.Way.{Way}
use Rattle.xm_conf.specs.declared.port.Way.TheVariants as way
use Rattle.xm_conf.specs.declared.channel.ChanKind.{ChanKind}
use Rattle.xm_conf.specs.declared.channel.ChanKind.TheVariants as chan_kind
use Rattle.xm_conf.specs.declared.channel.End.{End}
use Rattle.xm_conf.specs.declared.item.Item.{Item}
use Rattle.xm_conf.specs.declared.item.Item.TheVariants as item
use Rattle.xmcf_check.specs.lemmas.Capped.{capped, capped_end, capped_kind, capped_chan, capped_part, capped_conf}
use Rattle.xmcf_check.proofs.ListLemmas.{both, front_none, back_none, each-made, slice_get-on, last_first}
use Rattle.xmcf_check.proofs.CappedLemmas.{capped-above, capped-most, capped-kept, slice_get-capped}

-- what holds of each element holds of one that is found
pub found-all : {X : Type 0} (P : X → Type 0) (xs : List X) (n : ℕ) → All P xs → IfSome (slice_get xs n) P
found-all P [] n all = tt
found-all P (x ∷ xs) zero all = All-head P x xs all
found-all P (x ∷ xs) (suc n) all = found-all P xs n (All-tail P x xs all)

-- a partition's ports are no more than a field holds
abbrev pub HasFewPorts : Part → Type 0
HasFewPorts part = length part.ports ≤ 255

-- no more partitions and ports than fields hold
pub record AreFew (parts : List Part) : Type 0 where
  pub parts_few : length parts ≤ 255
  pub ports_few : All HasFewPorts parts

-- a partition's port
port_of-capped : (port : ℕ) (found : Option Part) → IfSome found HasFewPorts → rules.port_of (capped 255 port) (on capped_part found) ≡ rules.port_of port found
unfolding capped_part
port_of-capped port None few = refl
port_of-capped port (Some part) few = slice_get-capped 255 port part.ports few

-- the port at the end of a channel
pub port_at-capped : (parts : List Part) (end : End) → AreFew parts → rules.port_at (map capped_part parts) (capped_end end) ≡ rules.port_at parts end
unfolding rules.port_at capped_end
port_at-capped parts end few =
    ap (λ found. rules.port_of (capped 255 end.port) found)
    (slice_get-on capped_part parts (capped 255 end.part) ∙ ap (λ found. on capped_part found) (slice_get-capped 255 end.part parts few.parts_few))
    ∙ port_of-capped end.port (slice_get parts end.part) (found-all HasFewPorts parts end.part few.ports_few)

-- a channel's kind
is_kind-capped : (kind : ChanKind) (dests : List End) → rules.is_kind (capped_kind kind) (map capped_end dests) ≡ rules.is_kind kind dests
unfolding rules.is_kind capped_kind
is_kind-capped (chan_kind.Sampling refresh) dests = rw (length-map dests capped_end) refl
is_kind-capped (chan_kind.Queuing most) dests =
    rw (length-map dests capped_end, capped-above 255 most 0 (omega arith), capped-most 255 most 64 (omega arith)) refl

-- a channel's messages
unfit_chan-capped : (n : ℕ) (chan : Chan) → rules.unfit_chan n (capped_chan chan) ≡ rules.unfit_chan n chan
unfolding rules.unfit_chan capped_chan
unfit_chan-capped n chan =
    rw (capped-above 65535 chan.length 0 (omega arith), capped-most 65535 chan.length 4096 (omega arith), is_kind-capped chan.kind chan.dests) refl

-- rule 15
rule_15-capped : (conf : Conf) → rules.rule_15 (capped_conf conf) ≡ rules.rule_15 conf
unfolding rules.rule_15 capped_conf
rule_15-capped conf = each-made rules.unfit_chan rules.unfit_chan capped_chan unfit_chan-capped conf.chans

-- an end's port
stray_end-capped : (parts : List Part) (it : Item) (end : End) → AreFew parts → rules.stray_end (map capped_part parts) it (capped_end end) ≡ rules.stray_end parts it end
unfolding rules.stray_end
stray_end-capped parts it end few = ap (λ found. unless (is_some found) (rules.alone 16 it)) (port_at-capped parts end few)

-- a destination's port
stray_dest-capped : (parts : List Part) (c n : ℕ) (end : End) → AreFew parts
    → rules.stray_dest (map capped_part parts) c n (capped_end end) ≡ rules.stray_dest parts c n end
unfolding rules.stray_dest
stray_dest-capped parts c n end few = stray_end-capped parts (item.End c (n + 1)) end few

-- the ports of a channel's ends
stray_ends-capped : (parts : List Part) (c : ℕ) (chan : Chan) → AreFew parts
    → rules.stray_ends (map capped_part parts) c (capped_chan chan) ≡ rules.stray_ends parts c chan
unfolding rules.stray_ends capped_chan
stray_ends-capped parts c chan few =
    both (stray_end-capped parts (item.End c 0) chan.source few)
    (each-made (rules.stray_dest (map capped_part parts) c) (rules.stray_dest parts c) capped_end (λ n end. stray_dest-capped parts c n end few) chan.dests)

-- rule 16
rule_16-capped : (conf : Conf) → AreFew conf.parts → rules.rule_16 (capped_conf conf) ≡ rules.rule_16 conf
unfolding rules.rule_16 capped_conf
rule_16-capped conf few =
    each-made (rules.stray_ends (map capped_part conf.parts)) (rules.stray_ends conf.parts) capped_chan
    (λ c chan. stray_ends-capped conf.parts c chan few) conf.chans

-- whether a port may be an end
may_be_end-capped : (kind : ChanKind) (way : Way) (found : Option Port) → rules.may_be_end (capped_kind kind) way found ≡ rules.may_be_end kind way found
unfolding capped_kind
may_be_end-capped (chan_kind.Sampling refresh) way found = refl
may_be_end-capped (chan_kind.Queuing most) way None = refl
may_be_end-capped (chan_kind.Queuing most) way (Some port) = ap (λ t. t && rules.is_way way port.way) (of port.kind)
  where
    of : (k : Kind) → rules.is_of_kind (chan_kind.Queuing (capped 255 most)) k ≡ rules.is_of_kind (chan_kind.Queuing most) k
    of port_kind.Sampling = refl
    of port_kind.Queuing = refl

-- an end's kind and way
wrong_end-capped : (parts : List Part) (kind : ChanKind) (way : Way) (it : Item) (end : End) → AreFew parts
    → rules.wrong_end (map capped_part parts) (capped_kind kind) way it (capped_end end) ≡ rules.wrong_end parts kind way it end
unfolding rules.wrong_end
wrong_end-capped parts kind way it end few =
    ap (λ found. unless (rules.may_be_end (capped_kind kind) way found) (rules.alone 17 it)) (port_at-capped parts end few)
    ∙ ap (λ t. unless t (rules.alone 17 it)) (may_be_end-capped kind way (rules.port_at parts end))

-- a destination's kind and way
wrong_dest-capped : (parts : List Part) (kind : ChanKind) (c n : ℕ) (end : End) → AreFew parts
    → rules.wrong_dest (map capped_part parts) (capped_kind kind) c n (capped_end end) ≡ rules.wrong_dest parts kind c n end
unfolding rules.wrong_dest
wrong_dest-capped parts kind c n end few = wrong_end-capped parts kind way.Destination (item.End c (n + 1)) end few

-- the kinds and ways of a channel's ends
wrong_ends-capped : (parts : List Part) (c : ℕ) (chan : Chan) → AreFew parts
    → rules.wrong_ends (map capped_part parts) c (capped_chan chan) ≡ rules.wrong_ends parts c chan
unfolding rules.wrong_ends capped_chan
wrong_ends-capped parts c chan few =
    both (wrong_end-capped parts chan.kind way.Source (item.End c 0) chan.source few)
    (each-made (rules.wrong_dest (map capped_part parts) (capped_kind chan.kind) c) (rules.wrong_dest parts chan.kind c) capped_end
    (λ n end. wrong_dest-capped parts chan.kind c n end few) chan.dests)

-- rule 17
rule_17-capped : (conf : Conf) → AreFew conf.parts → rules.rule_17 (capped_conf conf) ≡ rules.rule_17 conf
unfolding rules.rule_17 capped_conf
rule_17-capped conf few =
    each-made (rules.wrong_ends (map capped_part conf.parts)) (rules.wrong_ends conf.parts) capped_chan
    (λ c chan. wrong_ends-capped conf.parts c chan few) conf.chans

-- a test that is not reported passes
pub unless_none : {Y : Type 0} (t : Bool) (y : Y) → unless t y ≡ [] → t ≡ true
unless_none true y none = refl
unless_none false y none = absurd (let no : ⊥ = cc in no)

-- the first of two tests that pass
pub and_first : (s t : Bool) → (s && t) ≡ true → s ≡ true
and_first true t both = refl
and_first false t both = both

-- the second of two tests that pass
pub and_second : (s t : Bool) → (s && t) ≡ true → t ≡ true
and_second true t both = both
and_second false t both = absurd (let no : ⊥ = cc in no)

-- a port that is found has a number that a field holds
port_kept : (port : ℕ) (found : Option Part) → IfSome found HasFewPorts → is_some (rules.port_of port found) ≡ true → capped 255 port ≡ port
port_kept port None few some = absurd (let no : ⊥ = cc in no)
port_kept port (Some part) few some = at (slice_get part.ports port) refl some
  where
    at : (at : Option Port) → slice_get part.ports port ≡ at → is_some at ≡ true → capped 255 port ≡ port
    at None is some = absurd (let no : ⊥ = cc in no)
    at (Some x) is some = let below : port < length part.ports = slice_get_within part.ports port x is in capped-kept 255 port (omega arith)

-- a partition that has a port has a number that a field holds
part_kept : (parts : List Part) (part port : ℕ) → length parts ≤ 255 → is_some (rules.port_of port (slice_get parts part)) ≡ true → capped 255 part ≡ part
part_kept parts part port few some = at (slice_get parts part) refl some
  where
    at : (found : Option Part) → slice_get parts part ≡ found → is_some (rules.port_of port found) ≡ true → capped 255 part ≡ part
    at None is some = absurd (let no : ⊥ = cc in no)
    at (Some x) is some = let below : part < length parts = slice_get_within parts part x is in capped-kept 255 part (omega arith)

-- an end that is a port keeps its numbers
end_kept : (parts : List Part) (it : Item) (end : End) → AreFew parts → rules.stray_end parts it end ≡ [] → capped_end end ≡ end
unfolding rules.stray_end rules.port_at capped_end
end_kept parts it end few none =
    let some : is_some (rules.port_of end.port (slice_get parts end.part)) ≡ true = unless_none _ (rules.alone 16 it) none in
    let part : capped 255 end.part ≡ end.part = part_kept parts end.part end.port few.parts_few some in
    let port : capped 255 end.port ≡ end.port = port_kept end.port (slice_get parts end.part) (found-all HasFewPorts parts end.part few.ports_few) some in
    ap (λ n. record { part = n; port = capped 255 end.port }) part ∙ ap (λ n. record { part = end.part; port = n }) port

-- destinations that are ports keep their numbers
dests_kept : (parts : List Part) (c n : ℕ) (dests : List End) → AreFew parts → each_from (rules.stray_dest parts c) n dests ≡ [] → map capped_end dests ≡ dests
unfolding rules.stray_dest
dests_kept parts c n [] few none = refl
dests_kept parts c n (end ∷ dests) few none =
    let first : capped_end end ≡ end = end_kept parts (item.End c (n + 1)) end few (front_none _ _ none) in
    let rest : map capped_end dests ≡ dests = dests_kept parts c (n + 1) dests few (back_none _ _ none) in
    ap (λ y. y ∷ map capped_end dests) first ∙ ap (λ ys. end ∷ ys) rest

-- a channel whose ends are ports has the same ends
pub ends_kept : (parts : List Part) (c : ℕ) (chan : Chan) → AreFew parts → rules.stray_ends parts c chan ≡ []
    → (capped_end chan.source ≡ chan.source) × (map capped_end chan.dests ≡ chan.dests)
unfolding rules.stray_ends
ends_kept parts c chan few none = (
  end_kept parts (item.End c 0) chan.source few (front_none _ _ none),
  dests_kept parts c 0 chan.dests few (back_none _ _ none),
)

-- the ends of channels whose ends are ports
all_ends_kept : (parts : List Part) (c : ℕ) (chans : List Chan) → AreFew parts → each_from (rules.stray_ends parts) c chans ≡ []
    → each_from rules.chan_ends c (map capped_chan chans) ≡ each_from rules.chan_ends c chans
unfolding rules.chan_ends capped_chan
all_ends_kept parts c [] few none = refl
all_ends_kept parts c (chan ∷ chans) few none =
    let kept = ends_kept parts c chan few (front_none _ _ none) in
    both
    (ap (λ source. (item.End c 0, source) ∷ added_by_each (rules.dest_item c) (map capped_end chan.dests)) kept.0
    ∙ ap (λ dests. (item.End c 0, chan.source) ∷ added_by_each (rules.dest_item c) dests) kept.1)
    (all_ends_kept parts (c + 1) chans few (back_none _ _ none))

-- rule 18, where rule 16 holds
rule_18-capped : (conf : Conf) → AreFew conf.parts → rules.rule_16 conf ≡ [] → rules.rule_18 (capped_conf conf) ≡ rules.rule_18 conf
unfolding rules.rule_16 rules.rule_18 capped_conf
rule_18-capped conf few none = ap (λ all. along (rules.meets 18 rules.same_end) all) (all_ends_kept conf.parts 0 conf.chans few none)

-- the first that breaks a rule on channels
pub chan_rules-capped : (conf : Conf) → AreFew conf.parts → head_of (rules.chan_rules (capped_conf conf)) ≡ head_of (rules.chan_rules conf)
unfolding rules.chan_rules
chan_rules-capped conf few =
    ap (λ front. head_of (front ++ rules.rule_18 (capped_conf conf)))
    (both (both (rule_15-capped conf) (rule_16-capped conf few)) (rule_17-capped conf few))
    ∙ last_first (rules.rule_15 conf ++ rules.rule_16 conf ++ rules.rule_17 conf) (rules.rule_18 (capped_conf conf)) (rules.rule_18 conf)
    (λ none. rule_18-capped conf few (back_none (rules.rule_15 conf) _ (front_none _ _ none)))
