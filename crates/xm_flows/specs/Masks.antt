-- Sets of partitions as the bits of a word, and how the group of a partition is found: a round adds what the channels and links
-- ask for, until one adds nothing.
use Rattle.std.specs.Prelude.{ℕ, zero, suc, ◌+◌, ◌*◌, ◌%◌, ◌^◌, ◌==◌, ◌&&◌, ◌||◌, Bool, true, false, if◌then◌else◌, List, [], ◌∷◌, length, bit_or}
use Rattle.std.specs.Int.{bit_at}
use Rattle.xm_conf.specs.Configuration.{Chan, Conf, Part}
use Rattle.xm_conf.specs.declared.channel.ChanKind.{ChanKind}
use Rattle.xm_conf.specs.declared.channel.ChanKind.TheVariants as kind
use Rattle.xm_conf.specs.declared.channel.End.{End}
use Rattle.xm_conf.specs.declared.link.Link.{Link}
use Rattle.xm_flows.specs.declared.answer.Group.{Group}
use Rattle.xm_flows.specs.Groups.{Members, has_dest_in, is_in}

-- the partitions whose bits are set
unfoldable pub members_of : ℕ → Members
members_of mask p = bit_at mask p == 1

-- the mask with a partition's bit set
unfoldable pub with_member : ℕ → ℕ → ℕ
with_member mask p = bit_or mask (1 * 2 ^ p % 2 ^ 32)

-- the mask with the partitions of these ends
abbrev pub with_ends : ℕ → List End → ℕ
with_ends mask [] = mask
with_ends mask (end ∷ ends) = with_ends (with_member mask end.part) ends

-- what the rule of its kind adds for a channel
abbrev pub widened_by : ChanKind → End → List End → ℕ → ℕ
widened_by (kind.Sampling refresh) source dests mask = if has_dest_in (members_of mask) dests then with_member mask source.part else mask
widened_by (kind.Queuing most) source dests mask =
    if is_in (members_of mask) source || has_dest_in (members_of mask) dests then with_ends (with_member mask source.part) dests else mask

-- what is left of a round that has gone over the channels
abbrev pub widened : List Chan → ℕ → ℕ
widened [] mask = mask
widened (chan ∷ chans) mask = widened chans (widened_by chan.kind chan.source chan.dests mask)

-- what its rule adds for a link
abbrev pub widened_by_link : Link → ℕ → ℕ
widened_by_link link mask = if members_of mask link.dest then with_member mask link.source else mask

-- what is left of a round that has gone over the links
abbrev pub widened_by_links : List Link → ℕ → ℕ
widened_by_links [] mask = mask
widened_by_links (link ∷ joins) mask = widened_by_links joins (widened_by_link link mask)

-- what a round leaves: over the channels, and then over the links
abbrev pub widened_all : List Chan → List Link → ℕ → ℕ
widened_all chans joins mask = widened_by_links joins (widened chans mask)

-- what this many rounds leave
abbrev pub after_rounds : ℕ → List Chan → List Link → ℕ → ℕ
after_rounds zero chans joins mask = mask
after_rounds (suc count) chans joins mask = after_rounds count chans joins (widened_all chans joins mask)

-- whether none of these partitions, of which the first has a number, is a system partition and in the mask
abbrev pub has_no_system : ℕ → ℕ → List Part → Bool
has_no_system mask p [] = true
has_no_system mask p (part ∷ parts) = if part.system && members_of mask p then false else has_no_system mask (p + 1) parts

-- the group of partition p, as a mask: as many rounds as there are partitions reach every member
unfoldable pub group_mask : Conf → ℕ → ℕ
group_mask conf p = after_rounds (length conf.parts) conf.chans conf.links (with_member 0 p)

-- what is found of the group of partition p
unfoldable pub group_of : Conf → ℕ → Group
group_of conf p = record { members = group_mask conf p; covered = has_no_system (group_mask conf p) 0 conf.parts }
