-- The rounds over the channels and links end with the least set that keeps the rule of each.
use Rattle.std.proofs.Common.{◌≡◌, ℕ, zero, suc, ◌<◌, ◌≤◌, ◌+◌, Bool, true, false, List, [], ◌∷◌, length, refl, sym, ap, ◌∙◌, arith, subst, inl, inr}
use Rattle.std.specs.Prelude.{◌⊎◌, ◌||◌, ◌&&◌, ◌↔◌, nat_lt, if◌then◌else◌, slice_get, slice_index_or, All, IsSome}
use Rattle.std.proofs.lemmas.Bool.Decides.{nat_tests}
use Rattle.std.proofs.lemmas.List.Elements.{All-cons, All-head, All-nil, All-tail, All-weaker}
use Rattle.xm_conf.specs.Configuration.{Chan, Conf, Part}
use Rattle.xm_conf.specs.Description.{described}
use Rattle.xm_conf.specs.Fits.{Fits, HasPorts, IsLink}
use Rattle.xm_conf.specs.Rules.{port_at, port_of}
use Rattle.xm_conf.specs.declared.channel.ChanKind.{ChanKind}
use Rattle.xm_conf.specs.declared.channel.ChanKind.TheVariants as kind
use Rattle.xm_conf.specs.declared.channel.End.{End}
use Rattle.xm_conf.specs.declared.link.Link.{Link}
use Rattle.xm_conf.specs.Limits.{most_parts}
use Rattle.machine_model.specs.View.{no_part, part_of}
use Rattle.xm_flows.specs.Groups.{HasItsPeers, HasNoSystem, IsClosed, IsGroupOf, KeepsLink, KeepsRule, KeepsIn, KeepsRules, Members, has_dest_in, is_in}
use Rattle.xm_flows.specs.lemmas.MasksTerms.{AreAllLow, HasLowEnds, HasLowSource, IsClosureOf}
use Rattle.xm_flows.specs.Masks.{has_no_system, members_of, widened, widened_all, widened_by, widened_by_link, widened_by_links, with_ends, with_member}
use Rattle.xm_flows.proofs.MaskLemmas.{mask_grows, member_cases, member_kept, member_set, none_member}

-- one set is part of another
abbrev pub IsPartOf : Members → Members → Type 0
IsPartOf one other = (q : ℕ) → one q ≡ true → other q ≡ true

-- a larger set has the destinations that a smaller one has
dests_more : (one other : Members) (ends : List End) → IsPartOf one other → has_dest_in one ends ≡ true → has_dest_in other ends ≡ true
dests_more one other [] more is = absurd cc
dests_more one other (end ∷ ends) more is = by (one end.part) refl is (dests_more one other ends more)
  where
    later : (b : Bool) → has_dest_in other ends ≡ true → (b || has_dest_in other ends) ≡ true
    later true further = refl
    later false further = further

    by : (b : Bool) → one end.part ≡ b → (b || has_dest_in one ends) ≡ true → (has_dest_in one ends ≡ true → has_dest_in other ends ≡ true) → (other end.part || has_dest_in other ends) ≡ true
    by true its said further = ap (λ b. b || has_dest_in other ends) (more end.part its)
    by false its said further = later (other end.part) (further said)

-- What the ends of a channel add.
abbrev AreLow : List End → Type 0
AreLow ends = All (λ end. end.part < 32) ends

low_head : (end : End) (ends : List End) → AreLow (end ∷ ends) → end.part < 32
low_head end ends low = All-head (λ (e : End). e.part < 32) end ends low

low_tail : (end : End) (ends : List End) → AreLow (end ∷ ends) → AreLow ends
low_tail end ends low = All-tail (λ (e : End). e.part < 32) end ends low

abbrev AreIn : Members → List End → Type 0
AreIn members ends = All (λ end. is_in members end ≡ true) ends

ends_keep : (ends : List End) (mask : ℕ) → AreLow ends → IsPartOf (members_of mask) (members_of (with_ends mask ends))
ends_keep [] mask low q is = is
ends_keep (end ∷ ends) mask low q is = ends_keep ends (with_member mask end.part) (low_tail end ends low) q (member_kept mask end.part q (low_head end ends low) is)

ends_set : (ends : List End) (mask : ℕ) → AreLow ends → AreIn (members_of (with_ends mask ends)) ends
ends_set [] mask low = All-nil (λ end. is_in (members_of mask) end ≡ true)
ends_set (end ∷ ends) mask low =
    All-cons (λ e. is_in (members_of (with_ends (with_member mask end.part) ends)) e ≡ true) end ends
    (ends_keep ends (with_member mask end.part) (low_tail end ends low) end.part (member_set mask end.part (low_head end ends low)))
    (ends_set ends (with_member mask end.part) (low_tail end ends low))

ends_grow : (ends : List End) (mask : ℕ) → mask ≤ with_ends mask ends
ends_grow [] mask = omega arith
ends_grow (end ∷ ends) mask =
    let one : mask ≤ with_member mask end.part = mask_grows mask end.part in
    let further : with_member mask end.part ≤ with_ends (with_member mask end.part) ends = ends_grow ends (with_member mask end.part) in
    omega (arith, one, further)

-- a partition that was added is in each set that has what was there and it
pub added : (mask p : ℕ) → p < 32 → (other : Members) → IsPartOf (members_of mask) other → other p ≡ true → IsPartOf (members_of (with_member mask p)) other
added mask p below other part its q is = by (member_cases mask p q below is)
  where
    by : (members_of mask q ≡ true) ⊎ (q ≡ p) → other q ≡ true
    by (inl before) = part q before
    by (inr same) = ap other same ∙ its

ends_forced : (ends : List End) (mask : ℕ) → AreLow ends → (other : Members) → IsPartOf (members_of mask) other → AreIn other ends → IsPartOf (members_of (with_ends mask ends)) other
ends_forced [] mask low other part all q is = part q is
ends_forced (end ∷ ends) mask low other part all q is =
    ends_forced ends (with_member mask end.part) (low_tail end ends low) other
    (added mask end.part (low_head end ends low) other part (All-head (λ e. is_in other e ≡ true) end ends all))
    (All-tail (λ e. is_in other e ≡ true) end ends all) q is

-- What a channel adds.
pub record Widens (keeps : Members → Type 0) (before after : ℕ) : Type 0 where
  pub has : IsPartOf (members_of before) (members_of after)
  pub grows : before ≤ after
  pub forced : (other : Members) → keeps other → IsPartOf (members_of before) other → IsPartOf (members_of after) other
  pub done : after ≡ before → keeps (members_of before)

sampling_widens : (refresh : ℕ) (source : End) (dests : List End) (mask : ℕ) → source.part < 32
    → Widens (λ set. KeepsIn set (kind.Sampling refresh) source dests) mask (widened_by (kind.Sampling refresh) source dests mask)
sampling_widens refresh source dests mask low = by (has_dest_in (members_of mask) dests) refl
  where
    by : (b : Bool) → has_dest_in (members_of mask) dests ≡ b → Widens (λ set. KeepsIn set (kind.Sampling refresh) source dests) mask (if b then with_member mask source.part else mask)
    by true fed = record {
      has = λ q is. member_kept mask source.part q low is;
      grows = mask_grows mask source.part;
      forced = λ other keeps part. added mask source.part low other part (keeps (dests_more (members_of mask) other dests part fed));
      done = λ same fed_so. ap (λ m. members_of m source.part) (sym same) ∙ member_set mask source.part low;
    }
    by false unfed = record {
      has = λ q is. is;
      grows = omega arith;
      forced = λ other keeps part. part;
      done = λ same fed. absurd cc;
    }

queue_ends : (one other : Members) (source : End) (dests : List End) → IsPartOf one other → (is_in one source || has_dest_in one dests) ≡ true → (is_in other source || has_dest_in other dests) ≡ true
queue_ends one other source dests more is = by (one source.part) refl is
  where
    later : (b : Bool) → has_dest_in other dests ≡ true → (b || has_dest_in other dests) ≡ true
    later true further = refl
    later false further = further

    by : (b : Bool) → one source.part ≡ b → (b || has_dest_in one dests) ≡ true → (other source.part || has_dest_in other dests) ≡ true
    by true its said = ap (λ b. b || has_dest_in other dests) (more source.part its)
    by false its said = later (other source.part) (dests_more one other dests more said)

queue_widens : (most : ℕ) (source : End) (dests : List End) (mask : ℕ) → source.part < 32 → AreLow dests
    → Widens (λ set. KeepsIn set (kind.Queuing most) source dests) mask (widened_by (kind.Queuing most) source dests mask)
queue_widens most source dests mask low lows = by (is_in (members_of mask) source || has_dest_in (members_of mask) dests) refl
  where
    all : ℕ
    all = with_ends (with_member mask source.part) dests

    by : (b : Bool) → (is_in (members_of mask) source || has_dest_in (members_of mask) dests) ≡ b
        → Widens (λ set. KeepsIn set (kind.Queuing most) source dests) mask (if b then with_ends (with_member mask source.part) dests else mask)
    by true joined = record {
      has = λ q is. ends_keep dests (with_member mask source.part) lows q (member_kept mask source.part q low is);
      grows =
          let one : mask ≤ with_member mask source.part = mask_grows mask source.part in
          let further : with_member mask source.part ≤ with_ends (with_member mask source.part) dests = ends_grow dests (with_member mask source.part) in
          omega (arith, one, further);
      forced = λ other keeps part.
          let kept = keeps (queue_ends (members_of mask) other source dests part joined) in
          ends_forced dests (with_member mask source.part) lows other (added mask source.part low other part kept.0) kept.1;
      done = λ same joined_so. (
        ap (λ m. members_of m source.part) (sym same) ∙ ends_keep dests (with_member mask source.part) lows source.part (member_set mask source.part low),
        subst (λ (m : ℕ). AreIn (members_of m) dests) same (ends_set dests (with_member mask source.part) lows),
      );
    }
    by false apart = record {
      has = λ q is. is;
      grows = omega arith;
      forced = λ other keeps part. part;
      done = λ same joined. absurd cc;
    }

channel_widens : (the_kind : ChanKind) (source : End) (dests : List End) (mask : ℕ) → source.part < 32 → AreLow dests
    → Widens (λ set. KeepsIn set the_kind source dests) mask (widened_by the_kind source dests mask)
channel_widens (kind.Sampling refresh) source dests mask low lows = sampling_widens refresh source dests mask low
channel_widens (kind.Queuing most) source dests mask low lows = queue_widens most source dests mask low lows

-- What the channels add to a round.
round_widens : (chans : List Chan) (mask : ℕ) → All HasLowEnds chans → Widens (λ set. All (KeepsRule set) chans) mask (widened chans mask)
round_widens [] mask low = record {
  has = λ q is. is;
  grows = omega arith;
  forced = λ other keeps part. part;
  done = λ same. All-nil (KeepsRule (members_of mask));
}
round_widens (chan ∷ chans) mask low =
    let ends = All-head HasLowEnds chan chans low in
    let next = widened_by chan.kind chan.source chan.dests mask in
    let first = channel_widens chan.kind chan.source chan.dests mask ends.source ends.dests in
    let further = round_widens chans next (All-tail HasLowEnds chan chans low) in
    let grows : mask ≤ next = first.grows in
    let grows_on : next ≤ widened chans next = further.grows in
    record {
      has = λ q is. further.has q (first.has q is);
      grows = omega (arith, grows, grows_on);
      forced = λ other keeps part.
          further.forced other (All-tail (KeepsRule other) chan chans keeps) (first.forced other (All-head (KeepsRule other) chan chans keeps) part);
      done = λ same.
          let stays : next ≡ mask = omega (arith, grows, grows_on, same) in
          All-cons (KeepsRule (members_of mask)) chan chans (first.done stays)
          (subst (λ (m : ℕ). All (KeepsRule (members_of m)) chans) stays (further.done (same ∙ sym stays)));
    }

-- What a link adds.
link_widens : (link : Link) (mask : ℕ) → link.source < 32 → Widens (λ set. KeepsLink set link) mask (widened_by_link link mask)
link_widens link mask low = by (members_of mask link.dest) refl
  where
    by : (b : Bool) → members_of mask link.dest ≡ b → Widens (λ set. KeepsLink set link) mask (if b then with_member mask link.source else mask)
    by true reached = record {
      has = λ q is. member_kept mask link.source q low is;
      grows = mask_grows mask link.source;
      forced = λ other keeps part. added mask link.source low other part (keeps (part link.dest reached));
      done = λ same reached_so. ap (λ m. members_of m link.source) (sym same) ∙ member_set mask link.source low;
    }
    by false apart = record {
      has = λ q is. is;
      grows = omega arith;
      forced = λ other keeps part. part;
      done = λ same reached. absurd cc;
    }

-- What the links add to a round.
links_widen : (joins : List Link) (mask : ℕ) → All HasLowSource joins → Widens (λ set. All (KeepsLink set) joins) mask (widened_by_links joins mask)
links_widen [] mask low = record {
  has = λ q is. is;
  grows = omega arith;
  forced = λ other keeps part. part;
  done = λ same. All-nil (KeepsLink (members_of mask));
}
links_widen (link ∷ joins) mask low =
    let end = All-head HasLowSource link joins low in
    let next = widened_by_link link mask in
    let first = link_widens link mask end.source in
    let further = links_widen joins next (All-tail HasLowSource link joins low) in
    let grows : mask ≤ next = first.grows in
    let grows_on : next ≤ widened_by_links joins next = further.grows in
    record {
      has = λ q is. further.has q (first.has q is);
      grows = omega (arith, grows, grows_on);
      forced = λ other keeps part.
          further.forced other (All-tail (KeepsLink other) link joins keeps) (first.forced other (All-head (KeepsLink other) link joins keeps) part);
      done = λ same.
          let stays : next ≡ mask = omega (arith, grows, grows_on, same) in
          All-cons (KeepsLink (members_of mask)) link joins (first.done stays)
          (subst (λ (m : ℕ). All (KeepsLink (members_of m)) joins) stays (further.done (same ∙ sym stays)));
    }

-- all is low
pub low : {chans : List Chan} {joins : List Link} → All HasLowEnds chans → All HasLowSource joins → AreAllLow chans joins
low ends sources = record { channels = ends; links = sources }

-- What a round adds.
pub all_widens : (chans : List Chan) (joins : List Link) (mask : ℕ) → AreAllLow chans joins → Widens (λ set. KeepsRules set chans joins) mask (widened_all chans joins mask)
all_widens chans joins mask low =
    let next = widened chans mask in
    let first = round_widens chans mask low.channels in
    let further = links_widen joins next low.links in
    let grows : mask ≤ next = first.grows in
    let grows_on : next ≤ widened_by_links joins next = further.grows in
    record {
      has = λ q is. further.has q (first.has q is);
      grows = omega (arith, grows, grows_on);
      forced = λ other keeps part. further.forced other keeps.links (first.forced other keeps.channels part);
      done = λ same.
          let stays : next ≡ mask = omega (arith, grows, grows_on, same) in
          record {
            channels = first.done stays;
            links = subst (λ (m : ℕ). All (KeepsLink (members_of m)) joins) stays (further.done (same ∙ sym stays));
          };
    }

-- where the rounds stand: what the next one leaves, and that what there is was there or has to be
pub record IsRound (chans : List Chan) (joins : List Link) (mask members wider : ℕ) : Type 0 where
  pub next : wider ≡ widened_all chans joins members
  pub has : IsPartOf (members_of mask) (members_of members)
  pub least : (other : Members) → KeepsRules other chans joins → IsPartOf (members_of mask) other → IsPartOf (members_of members) other

pub first_round : (chans : List Chan) (joins : List Link) (mask wider : ℕ) → wider ≡ widened_all chans joins mask → IsRound chans joins mask mask wider
first_round chans joins mask wider next = record { next = next; has = λ q is. is; least = λ other keeps part. part }

pub next_round : (chans : List Chan) (joins : List Link) (mask members wider next : ℕ) → AreAllLow chans joins → IsRound chans joins mask members wider → next ≡ widened_all chans joins wider → IsRound chans joins mask wider next
next_round chans joins mask members wider next low round is =
    let widens : Widens (λ set. KeepsRules set chans joins) members wider = subst (Widens (λ set. KeepsRules set chans joins) members) (sym round.next) (all_widens chans joins members low) in
    record {
      next = is;
      has = λ q before. widens.has q (round.has q before);
      least = λ other keeps part. widens.forced other keeps (round.least other keeps part);
    }

-- a round that adds something raises the number
pub rounds_rise : (chans : List Chan) (joins : List Link) (mask members wider : ℕ) → AreAllLow chans joins → IsRound chans joins mask members wider → members ≤ wider
rounds_rise chans joins mask members wider low round =
    let grows : members ≤ widened_all chans joins members = (all_widens chans joins members low).grows in
    let next : wider ≡ widened_all chans joins members = round.next in
    omega (arith, grows, next)

pub last_round : (chans : List Chan) (joins : List Link) (mask members wider : ℕ) → AreAllLow chans joins → IsRound chans joins mask members wider → wider ≡ members → IsClosureOf chans joins mask members
last_round chans joins mask members wider low round same = record {
  has = round.has;
  kept = (all_widens chans joins members low).done (sym round.next ∙ same);
  least = round.least;
}

-- The group.

-- the partition of an end is there
part_there : (parts : List Part) (p r : ℕ) → IsSome (port_of r (slice_get parts p)) → p < length parts
part_there [] p r is = absurd cc
part_there (part ∷ parts) zero r is = omega arith
part_there (part ∷ parts) (suc p) r is = let below = part_there parts p r is in omega (arith, below)

ends_there : (parts : List Part) (chan : Chan) → HasPorts parts chan → (chan.source.part < length parts) × All (λ end. end.part < length parts) chan.dests
unfolding port_at
ends_there parts chan ports = (
  part_there parts chan.source.part chan.source.port ports.source,
  All-weaker (λ end. IsSome (port_at parts end)) (λ (end : End). end.part < length parts) (λ end is. part_there parts end.part end.port is) chan.dests ports.dests,
)

pub low_ends : (conf : Conf) → Fits (described conf) → All HasLowEnds conf.chans
unfolding described
low_ends conf fits =
    let few : length conf.parts ≤ most_parts = fits.counts.parts.few in
    All-weaker (HasPorts conf.parts) HasLowEnds
    (λ chan ports.
    let there = ends_there conf.parts chan ports in
    let source : chan.source.part < length conf.parts = there.0 in
    record {
      source = omega (arith, few, source);
      dests = All-weaker (λ (end : End). end.part < length conf.parts) (λ (end : End). end.part < 32) (λ end below. omega (arith, few, below)) chan.dests there.1;
    })
    conf.chans fits.ends_exist

-- so is the partition of a link
pub low_sources : (conf : Conf) → Fits (described conf) → All HasLowSource conf.links
unfolding described
low_sources conf fits =
    let few : length conf.parts ≤ most_parts = fits.counts.parts.few in
    All-weaker (IsLink (length conf.parts)) HasLowSource
    (λ link is. let below : link.source < length conf.parts = is.source in record { source = omega (arith, few, below) }) conf.links fits.links_suit

pub all_low : (conf : Conf) → Fits (described conf) → AreAllLow conf.chans conf.links
all_low conf fits = record { channels = low_ends conf fits; links = low_sources conf fits }

pub low_part : (conf : Conf) (p : ℕ) → Fits (described conf) → p < length conf.parts → p < 32
unfolding described
low_part conf p fits below = let few : length conf.parts ≤ most_parts = fits.counts.parts.few in omega (arith, few, below)

pub few_parts : (conf : Conf) → Fits (described conf) → length conf.parts ≤ 32
unfolding described
few_parts conf fits = let few : length conf.parts ≤ most_parts = fits.counts.parts.few in omega (arith, few)

pub is_group : (conf : Conf) (p members : ℕ) → p < 32 → IsClosureOf conf.chans conf.links (with_member 0 p) members → IsGroupOf conf p (members_of members)
is_group conf p members low closure = record {
  has = closure.has p (member_set 0 p low);
  peers = closure.kept;
  least = λ other peers its q is. closure.least other peers (added 0 p low other (λ r fails. absurd (none_member r fails)) its) q is;
}

-- all partitions together have their peers
all_kept : (parts : ℕ) (the_kind : ChanKind) (source : End) (dests : List End) → source.part < parts → All (λ end. end.part < parts) dests → KeepsIn (λ q. nat_lt q parts) the_kind source dests
all_kept parts (kind.Sampling refresh) source dests below all = λ fed. grind (arith, nat_tests)
all_kept parts (kind.Queuing most) source dests below all =
    λ joined. (grind (arith, nat_tests), All-weaker (λ (end : End). end.part < parts) (λ end. is_in (λ q. nat_lt q parts) end ≡ true) (λ end is. grind (arith, nat_tests)) dests all)

pub all_peers : (conf : Conf) → Fits (described conf) → HasItsPeers conf (λ q. nat_lt q (length conf.parts))
unfolding described
all_peers conf fits = record {
  channels =
      All-weaker (HasPorts conf.parts) (KeepsRule (λ q. nat_lt q (length conf.parts)))
      (λ chan ports.
      let there = ends_there conf.parts chan ports in
      all_kept (length conf.parts) chan.kind chan.source chan.dests there.0 there.1)
      conf.chans fits.ends_exist;
  links =
      All-weaker (IsLink (length conf.parts)) (KeepsLink (λ q. nat_lt q (length conf.parts)))
      (λ link is its. let below : link.source < length conf.parts = is.source in grind (arith, nat_tests)) conf.links fits.links_suit;
}

-- so each member of a group is a partition that there is
pub group_within : (conf : Conf) (p : ℕ) (members : Members) → Fits (described conf) → p < length conf.parts → IsGroupOf conf p members → (q : ℕ) → members q ≡ true → q < length conf.parts
group_within conf p members fits below group q is =
    let inside : nat_lt q (length conf.parts) ≡ true = group.least (λ r. nat_lt r (length conf.parts)) (all_peers conf fits) (grind (arith, nat_tests)) q is in
    grind (arith, nat_tests)

-- whether no member is a system partition
plain_from : (mask k : ℕ) (parts : List Part) → has_no_system mask k parts ≡ true → (p q : ℕ) → q ≡ k + p → members_of mask q ≡ true → (slice_index_or parts p no_part).system ≡ false
plain_from mask k [] plain p q at is = refl
plain_from mask k (part ∷ parts) plain p q at is = by part.system (members_of mask k) refl refl plain (plain_from mask (k + 1) parts) p at
  where
    by : (a b : Bool) → part.system ≡ a → members_of mask k ≡ b → (if a && b then false else has_no_system mask (k + 1) parts) ≡ true
        → (has_no_system mask (k + 1) parts ≡ true → (r s : ℕ) → s ≡ k + 1 + r → members_of mask s ≡ true → (slice_index_or parts r no_part).system ≡ false)
        → (r : ℕ) → q ≡ k + r → (slice_index_or (part ∷ parts) r no_part).system ≡ false
    by true true flag member said further r place = absurd cc
    by true false flag other said further zero place =
        let same : q ≡ k = omega (arith, place) in
        let its : members_of mask q ≡ members_of mask k = ap (members_of mask) same in
        absurd cc
    by true false flag other said further (suc r) place = further said r q (omega (arith, place)) is
    by false b flag member said further zero place = flag
    by false b flag member said further (suc r) place = further said r q (omega (arith, place)) is

plain_to : (mask k : ℕ) (parts : List Part) → ((p q : ℕ) → q ≡ k + p → members_of mask q ≡ true → (slice_index_or parts p no_part).system ≡ false) → has_no_system mask k parts ≡ true
plain_to mask k [] plain = refl
plain_to mask k (part ∷ parts) plain =
    by part.system (members_of mask k) refl refl (plain_to mask (k + 1) parts (λ p q place is. plain (suc p) q (omega (arith, place)) is))
  where
    by : (a b : Bool) → part.system ≡ a → members_of mask k ≡ b → has_no_system mask (k + 1) parts ≡ true → (if a && b then false else has_no_system mask (k + 1) parts) ≡ true
    by true true flag member further = absurd (let fails : part.system ≡ false = plain 0 k (omega arith) member in cc)
    by true false flag member further = further
    by false b flag member further = further

pub plain_is : (conf : Conf) (mask : ℕ) → (has_no_system mask 0 conf.parts ≡ true) ↔ HasNoSystem conf (members_of mask)
unfolding part_of
plain_is conf mask = (
  λ plain p is. plain_from mask 0 conf.parts plain p p (omega arith) is,
  λ plain. plain_to mask 0 conf.parts (λ p q place is. let same : q ≡ p = omega (arith, place) in plain p (ap (members_of mask) (sym same) ∙ is)),
)

-- and whether the group is closed
pub closed_is : (conf : Conf) (p : ℕ) (members : Members) → IsGroupOf conf p members → HasNoSystem conf members ↔ IsClosed conf members
closed_is conf p members group = (λ plain. record { plain = plain; peers = group.peers }, λ closed. closed.plain)
