-- The channels and links of two configurations that are the same for a set of partitions: they belong together by their ends at members.
use Rattle.std.proofs.Common.{◌≡◌, ℕ, zero, suc, Bool, true, false, cond, List, [], ◌∷◌, length, Option, None, Some, refl, sym, ap, ◌∙◌, subst}
use Rattle.std.specs.Prelude.{slice_get, ◌||◌, if◌then◌else◌, filter}
use Rattle.std.specs.List.{list_any}
use Rattle.std.proofs.lemmas.Option.{same_Some}
use Rattle.xm_conf.specs.Configuration.{Chan, Conf}
use Rattle.xm_conf.specs.Description.{described}
use Rattle.xm_conf.specs.Fits.{Fits}
use Rattle.xm_conf.specs.View.{channel_of, has_end, is_port}
use Rattle.xm_conf.specs.declared.channel.End.{End}
use Rattle.machine_model.specs.lemmas.EndLemmas.{end_is}
use Rattle.machine_model.specs.Lists.{is_number, then_some}
use Rattle.machine_model.specs.Emission.{OwnPuts, OwnSignals, OwnStill, OwnTakes, OwnTraffic}
use Rattle.machine_model.specs.Traffic.{heard_as, own_puts_at, own_takes_at, puts_at, takes_at, traffic_as}
use Rattle.machine_model.specs.View.{if_named, name_from, name_of, named, part_of}
use Rattle.xm_flows.specs.Alike.{HasChannelsOf, HasLinksOf, chan_among}
use Rattle.xm_flows.specs.Groups.{Members, has_dest_in, has_end_in, is_in}
use Rattle.xm_flows.proofs.EndLemmas.{channel_is, either_true, is_its_channel, its_channel}
use Rattle.xm_flows.proofs.LinkLemmas.{signals_alike}

-- a port of a member is among the destinations of members where it is among all
any_among : (members : Members) (p r : ℕ) (ends : List End) → members p ≡ true → list_any (is_port p r) (filter (is_in members) ends) ≡ list_any (is_port p r) ends
any_among members p r [] member = refl
any_among members p r (end ∷ ends) member = by (members end.part) refl (any_among members p r ends member)
  where
    other : members end.part ≡ false → (b : Bool) → is_port p r end ≡ b → list_any (is_port p r) ends ≡ (b || list_any (is_port p r) ends)
    other fails false is = refl
    other fails true is =
        let its : members end.part ≡ members p = ap (λ e. members e.part) (end_is p r end is) in
        absurd cc

    by : (b : Bool) → members end.part ≡ b → list_any (is_port p r) (filter (is_in members) ends) ≡ list_any (is_port p r) ends
        → list_any (is_port p r) (cond b (end ∷ filter (is_in members) ends) (filter (is_in members) ends)) ≡ (is_port p r end || list_any (is_port p r) ends)
    by true its rest = ap (λ further. is_port p r end || further) rest
    by false fails rest = rest ∙ other fails (is_port p r end) refl

-- channels that are the same among members have the same ends at members
same_ends : (members : Members) (one other : Chan) → chan_among members one ≡ chan_among members other → (p r : ℕ) → members p ≡ true → has_end p r one ≡ has_end p r other
unfolding has_end
same_ends members one other same p r member =
    ap (λ b. is_port p r one.source || b) (sym (any_among members p r one.dests member))
    ∙ ap (λ chan. is_port p r chan.source || list_any (is_port p r) chan.dests) same
    ∙ ap (λ b. is_port p r other.source || b) (any_among members p r other.dests member)

-- a channel with a port of a member as an end has an end at a member
pub dest_in : (members : Members) (p r : ℕ) (ends : List End) → members p ≡ true → list_any (is_port p r) ends ≡ true → has_dest_in members ends ≡ true
dest_in members p r [] member is = absurd cc
dest_in members p r (end ∷ ends) member is =
    either_true (is_port p r end) (list_any (is_port p r) ends) is
    (λ its. ap (λ b. b || has_dest_in members ends) (ap (λ e. members e.part) (end_is p r end its) ∙ member))
    (λ further. by (members end.part) (dest_in members p r ends member further))
  where
    by : (b : Bool) → has_dest_in members ends ≡ true → (b || has_dest_in members ends) ≡ true
    by true further = refl
    by false further = further

pub end_in : (members : Members) (p r : ℕ) (chan : Chan) → members p ≡ true → has_end p r chan ≡ true → has_end_in members chan ≡ true
unfolding has_end
end_in members p r chan member is =
    either_true (is_port p r chan.source) (list_any (is_port p r) chan.dests) is
    (λ its. ap (λ b. b || has_dest_in members chan.dests) (ap (λ e. members e.part) (end_is p r chan.source its) ∙ member))
    (λ further. by (members chan.source.part) (dest_in members p r chan.dests member further))
  where
    by : (b : Bool) → has_dest_in members chan.dests ≡ true → (b || has_dest_in members chan.dests) ≡ true
    by true further = refl
    by false further = further

-- channel c of one configuration and channel d of another are the same, destinations that are no members apart
pub record Pair (members : Members) (one other : Conf) (c d : ℕ) : Type 0 where
  pub chan : Chan
  pub counterpart : Chan
  pub there : slice_get one.chans c ≡ Some chan
  pub there_too : slice_get other.chans d ≡ Some counterpart
  pub same : chan_among members chan ≡ chan_among members counterpart

-- two configurations that meet the rules have the same channels and links for a set of partitions, whose members have as many ports in both
pub record HaveSameChannels (members : Members) (one other : Conf) : Type 0 where
  pub fits_one : Fits (described one)
  pub fits_other : Fits (described other)
  pub channels : HasChannelsOf members other one
  pub channels_back : HasChannelsOf members one other
  pub links : HasLinksOf members other one
  pub links_back : HasLinksOf members one other
  pub ports : (p : ℕ) → members p ≡ true → length (part_of one p).ports ≡ length (part_of other p).ports

-- the channel of a member's port is that of the same port in the other configuration
pub record IsPaired (members : Members) (one other : Conf) (p r c : ℕ) : Type 0 where
  pub number : ℕ
  pub pair : Pair members one other c number
  pub found : channel_of other p r ≡ Some number

pub port_pair : (members : Members) (one other : Conf) → HaveSameChannels members one other → (p r c : ℕ) → members p ≡ true → channel_of one p r ≡ Some c → IsPaired members one other p r c
port_pair members one other same p r c member is =
    let its = its_channel one p r c is in
    let found = same.channels c its.chan its.there (end_in members p r its.chan member its.ends) in
    record {
      number = found.number;
      pair = record { chan = its.chan; counterpart = found.found; there = its.there; there_too = found.there; same = sym found.same };
      found = channel_is other same.fits_other found.number found.found p r found.there (same_ends members found.found its.chan found.same p r member ∙ its.ends);
    }

-- the other way round
back : (members : Members) (one other : Conf) → HaveSameChannels members one other → HaveSameChannels members other one
back members one other same = record {
  fits_one = same.fits_other;
  fits_other = same.fits_one;
  channels = same.channels_back;
  channels_back = same.channels;
  links = same.links_back;
  links_back = same.links;
  ports = λ p member. sym (same.ports p member);
}

-- a member has one name for both
names_from : (members : Members) (one other : Conf) → HaveSameChannels members one other → (c d : ℕ) → Pair members one other c d → (p : ℕ) → members p ≡ true → (count r : ℕ)
    → name_from one p c count r ≡ name_from other p d count r
names_from members one other same c d pair p member zero r = refl
names_from members one other same c d pair p member (suc count) r =
    ap (λ b. if b then Some r else name_from one p c count (suc r))
    (is_its_channel one same.fits_one c pair.chan p r pair.there ∙ same_ends members pair.chan pair.counterpart pair.same p r member
    ∙ sym (is_its_channel other same.fits_other d pair.counterpart p r pair.there_too))
    ∙ ap (λ further. if is_number (channel_of other p r) d then Some r else further) (names_from members one other same c d pair p member count (suc r))

pub same_name : (members : Members) (one other : Conf) → HaveSameChannels members one other → (c d : ℕ) → Pair members one other c d → (p : ℕ) → members p ≡ true → name_of one p c ≡ name_of other p d
unfolding name_of
same_name members one other same c d pair p member =
    ap (λ count. name_from one p c count 0) (same.ports p member) ∙ names_from members one other same c d pair p member (length (part_of other p).ports) 0

-- two channels that may not be there belong together
abbrev pub ArePaired : Members → Conf → Conf → Option ℕ → Option ℕ → Type 0
ArePaired members one other None None = Unit {0}
ArePaired members one other None (Some d) = ⊥
ArePaired members one other (Some c) None = ⊥
ArePaired members one other (Some c) (Some d) = Pair members one other c d

-- what a member calls so in one configuration, and what it calls so in the other
if_named_pair : (members : Members) (one other : Conf) → HaveSameChannels members one other → (p q : ℕ) → members p ≡ true → (o o' : Option ℕ) → channel_of one p q ≡ o → channel_of other p q ≡ o'
    → ArePaired members one other (if_named one p q o) (if_named other p q o')
if_named_pair members one other same p q member None None is is' = tt
if_named_pair members one other same p q member None (Some d) is is' =
    let paired = port_pair members other one (back members one other same) p q d member is' in
    let found : channel_of one p q ≡ Some paired.number = paired.found in
    absurd cc
if_named_pair members one other same p q member (Some c) None is is' =
    let paired = port_pair members one other same p q c member is in
    let found : channel_of other p q ≡ Some paired.number = paired.found in
    absurd cc
if_named_pair members one other same p q member (Some c) (Some d) is is' =
    let paired = port_pair members one other same p q c member is in
    let number : paired.number ≡ d = same_Some paired.number d (sym paired.found ∙ is') in
    by (subst (Pair members one other c) number paired.pair)
  where
    choose : Pair members one other c d → (b : Bool) → ArePaired members one other (then_some b c) (then_some b d)
    choose pair true = pair
    choose pair false = tt

    by : Pair members one other c d → ArePaired members one other (then_some (is_number (name_of one p c) q) c) (then_some (is_number (name_of other p d) q) d)
    by pair =
        subst (λ (o : Option ℕ). ArePaired members one other (then_some (is_number (name_of one p c) q) c) (then_some (is_number o q) d)) (same_name members one other same c d pair p member)
        (choose pair (is_number (name_of one p c) q))

pub named_pair : (members : Members) (one other : Conf) → HaveSameChannels members one other → (p q : ℕ) → members p ≡ true → ArePaired members one other (named one p q) (named other p q)
unfolding named
named_pair members one other same p q member = if_named_pair members one other same p q member (channel_of one p q) (channel_of other p q) refl refl

-- a member's traffic, as another member meets it, is the same in both
puts_alike : (members : Members) (one other : Conf) → HaveSameChannels members one other → (p : ℕ) → members p ≡ true → (bytes : List ℕ) (o o' : Option ℕ) → ArePaired members one other o o'
    → heard_as one p (puts_at o bytes) ≡ heard_as other p (puts_at o' bytes)
puts_alike members one other same p member bytes None None paired = refl
puts_alike members one other same p member bytes None (Some d) paired = absurd paired
puts_alike members one other same p member bytes (Some c) None paired = absurd paired
puts_alike members one other same p member bytes (Some c) (Some d) paired = ap (λ o. own_puts_at o bytes) (same_name members one other same c d paired p member)

takes_alike : (members : Members) (one other : Conf) → HaveSameChannels members one other → (p : ℕ) → members p ≡ true → (o o' : Option ℕ) → ArePaired members one other o o'
    → heard_as one p (takes_at o) ≡ heard_as other p (takes_at o')
takes_alike members one other same p member None None paired = refl
takes_alike members one other same p member None (Some d) paired = absurd paired
takes_alike members one other same p member (Some c) None paired = absurd paired
takes_alike members one other same p member (Some c) (Some d) paired = ap own_takes_at (same_name members one other same c d paired p member)

pub heard_alike : (members : Members) (one other : Conf) → HaveSameChannels members one other → (p q : ℕ) → members p ≡ true → members q ≡ true → (traffic : OwnTraffic)
    → heard_as one p (traffic_as one q traffic) ≡ heard_as other p (traffic_as other q traffic)
heard_alike members one other same p q member member_too OwnStill = refl
heard_alike members one other same p q member member_too (OwnPuts name bytes) =
    puts_alike members one other same p member bytes (named one q name) (named other q name) (named_pair members one other same q name member_too)
heard_alike members one other same p q member member_too (OwnTakes name) =
    takes_alike members one other same p member (named one q name) (named other q name) (named_pair members one other same q name member_too)
heard_alike members one other same p q member member_too (OwnSignals number) =
    signals_alike members one other same.fits_one same.fits_other same.links same.links_back p q number member
