-- For proofs and private clauses: sets of partitions as the bits of a word, and how the group of a partition is found.
use Rattle.std.specs.Prelude.{◌≡◌, ℕ, ◌<◌, true, List, All}
use Rattle.xm_conf.specs.Configuration.{Chan}
use Rattle.xm_conf.specs.declared.link.Link.{Link}
use Rattle.xm_flows.specs.Groups.{KeepsRules, Members}
use Rattle.xm_flows.specs.Masks.{members_of}

-- the partitions of a channel's ends have bits in a word
pub record HasLowEnds (chan : Chan) : Type 0 where
  pub source : chan.source.part < 32
  pub dests : All (λ end. end.part < 32) chan.dests

-- so does the partition that a link comes from
pub record HasLowSource (link : Link) : Type 0 where
  pub source : link.source < 32

-- all that channels and links add has bits in a word
pub record AreAllLow (chans : List Chan) (joins : List Link) : Type 0 where
  pub channels : All HasLowEnds chans
  pub links : All HasLowSource joins

-- the mask has the partitions of another one, keeps the rules of channels and links, and is part of every set that does both
pub record IsClosureOf (chans : List Chan) (joins : List Link) (before after : ℕ) : Type 0 where
  pub has : (p : ℕ) → members_of before p ≡ true → members_of after p ≡ true
  pub kept : KeepsRules (members_of after) chans joins
  pub least : (other : Members) → KeepsRules other chans joins → ((p : ℕ) → members_of before p ≡ true → other p ≡ true) → (p : ℕ) → members_of after p ≡ true → other p ≡ true
