-- What a partition may receive from others, cue by cue.
use Rattle.std.specs.Prelude.{◌≡◌, ℕ, ◌<◌, ◌≤◌, ◌^◌, ◌==◌, ◌&&◌, Bool, true, false, if◌then◌else◌, nat_le, nat_lt, List, [], ◌∷◌, length, slice_get, Option, Some, None}
use Rattle.std.specs.List.{AllByRecursion, list_any}
use Rattle.xm_base.specs.Bytes.{AreBytes}
use Rattle.xm_base.specs.declared.partition.Order.{Order}
use Rattle.xm_base.specs.declared.partition.Order.TheVariants as order
use Rattle.xm_conf.specs.Configuration.{Chan, Conf}
use Rattle.xm_conf.specs.declared.channel.ChanKind.{ChanKind}
use Rattle.xm_conf.specs.declared.channel.ChanKind.TheVariants as kind
use Rattle.machine_model.specs.Cue.{Away, Cue, Mine, CueSlot}
use Rattle.machine_model.specs.Emission.{AllHalted, NotKept, OwnPuts, OwnSignals, OwnStill, OwnTakes, OwnTraffic, Sight, Unseen, Words}
use Rattle.machine_model.specs.View.{named, part_of}
use Rattle.cue_scripts.specs.Entries.{is_away}

-- a channel by its number, where there is one
abbrev pub numbered_chan : Conf → Option ℕ → Option Chan
numbered_chan conf None = None
numbered_chan conf (Some c) = slice_get conf.chans c

-- the channel that partition p calls q
unfoldable pub chan_called : Conf → ℕ → ℕ → Option Chan
chan_called conf p q = numbered_chan conf (named conf p q)

-- how many bytes a message has at most that others put where partition p hears it: p is a destination of the channel
abbrev pub heard_in : ℕ → Option Chan → Option ℕ
heard_in p None = None
heard_in p (Some chan) = if list_any (λ end. end.part == p) chan.dests then Some chan.length else None

-- the same for the channel that partition p calls q
unfoldable pub most_heard : Conf → ℕ → ℕ → Option ℕ
most_heard conf p q = heard_in p (chan_called conf p q)

-- whether messages wait in a channel of this kind
abbrev pub is_queue : ChanKind → Bool
is_queue (kind.Sampling refresh) = false
is_queue (kind.Queuing most) = true

-- whether others take messages of partition p out of a channel: it is a queue, and p is its source
abbrev pub gives_in : ℕ → Option Chan → Bool
gives_in p None = false
gives_in p (Some chan) = is_queue chan.kind && chan.source.part == p

-- the same for the channel that partition p calls q
unfoldable pub gives_queue : Conf → ℕ → ℕ → Bool
gives_queue conf p q = gives_in p (chan_called conf p q)

-- whether a partition may be signalled over a link of this number: it is one of a link that goes to partition p
unfoldable pub signals : Conf → ℕ → ℕ → Bool
signals conf p number = nat_lt number 8 && list_any (λ link. link.dest == p && link.number == number) conf.links

-- whether partition p is a system partition
unfoldable pub is_system_partition : Conf → ℕ → Bool
is_system_partition conf p = (part_of conf p).system

-- whether a message may have this many bytes, where it may have some at most
abbrev pub is_length : Option ℕ → ℕ → Bool
is_length None count = false
is_length (Some most) count = nat_le 1 count && nat_le count most

-- a message that others put
pub record IsHeardMessage (most : Option ℕ) (name : ℕ) (bytes : List ℕ) : Type 0 where
  pub called : name < 256
  pub fits : is_length most (length bytes) ≡ true
  pub short : length bytes < 2 ^ 16
  pub spelled : AreBytes bytes

-- what others may do to the channels of partition p, under p's names, and over links to it
abbrev pub CanHear : Conf → ℕ → OwnTraffic → Type 0
CanHear conf p OwnStill = Unit {0}
CanHear conf p (OwnPuts name bytes) = IsHeardMessage (most_heard conf p name) name bytes
CanHear conf p (OwnTakes name) = (name < 256) × (gives_queue conf p name ≡ true)
CanHear conf p (OwnSignals number) = (number < 8) × (signals conf p number ≡ true)

-- an order's status is a word
abbrev pub IsOrder : Option Order → Type 0
IsOrder None = Unit {0}
IsOrder (Some order.Halt) = Unit {0}
IsOrder (Some order.Suspend) = Unit {0}
IsOrder (Some order.Resume) = Unit {0}
IsOrder (Some order.Shutdown) = Unit {0}
IsOrder (Some (order.Reset mode status)) = status < 2 ^ 32

-- in a slot of its own a partition hears nothing of others, and has no order
abbrev pub HearsNothing : CueSlot → OwnTraffic → Option Order → Type 0
HearsNothing Away traffic order = Unit {0}
HearsNothing (Mine first) traffic order = (traffic ≡ OwnStill) × (order ≡ None)

-- whether a structure that an observing call writes has this many bytes
abbrev pub is_shown : ℕ → Bool
is_shown count = if count == 4 then true else if count == 8 then true else if count == 20 then true else count == 24

-- what a partition is shown: something in its own slot alone, and a system partition alone
abbrev pub CanSee : Bool → CueSlot → Sight → Type 0
CanSee system mine Unseen = Unit {0}
CanSee system mine NotKept = (is_away mine ≡ false) × (system ≡ true)
CanSee system mine (Words bytes) = (is_away mine ≡ false) × (system ≡ true) × (is_shown (length bytes) ≡ true) × AreBytes bytes

-- what partition p may receive in a tick
pub record IsCue (conf : Conf) (p : ℕ) (cue : Cue) : Type 0 where
  pub traffic : CanHear conf p cue.traffic
  pub order : IsOrder cue.order
  pub alone : HearsNothing cue.mine cue.traffic cue.order
  pub seen : CanSee (is_system_partition conf p) cue.mine cue.seen

-- nothing stands after a halt of the whole system
abbrev pub HaltsLast : List Cue → Type 0
HaltsLast [] = Unit {0}
HaltsLast (cue ∷ later) = (cue.whole ≡ AllHalted → later ≡ []) × HaltsLast later

-- what partition p may receive in a run: a cue for each tick, and no halt of the whole system before the last
pub record IsScript (conf : Conf) (p : ℕ) (cues : List Cue) : Type 0 where
  pub few : length cues ≤ 4000000000
  pub each : AllByRecursion (IsCue conf p) cues
  pub halts : HaltsLast cues
