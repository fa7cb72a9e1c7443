-- Machines that go together for a closed set of partitions agree on it: on its channels, too.
use Rattle.std.proofs.Common.{◌≡◌, ℕ, ◌<◌, true, length, Some, sym, ap, ◌∙◌}
use Rattle.std.specs.Prelude.{slice_get, ◌||◌}
use Rattle.std.proofs.lemmas.Option.{same_Some}
use Rattle.std.specs.List.{list_any}
use Rattle.xm_conf.specs.Configuration.{Chan}
use Rattle.xm_conf.specs.View.{channel_of, has_end, is_port}
use Rattle.machine_model.specs.lemmas.ListLemmas.{get_table}
use Rattle.machine_model.specs.lemmas.NameLemmas.{of_name_below as name_within, name_named}
use Rattle.machine_model.specs.Machine.{Machine, copies}
use Rattle.machine_model.specs.Traffic.{content_if, copies_of}
use Rattle.machine_model.specs.View.{name_of, named, part_of}
use Rattle.xm_flows.specs.Groups.{Members, has_end_in}
use Rattle.xm_flows.specs.Laws.{Agree, AreClosedAlike}
use Rattle.xm_flows.specs.Together.{GoTogether}
use Rattle.xm_flows.proofs.EndLemmas.{channel_is, its_port, name_there}
use Rattle.xm_flows.proofs.HeardLemmas.{member_is_source, source_within}
use Rattle.xm_flows.proofs.PairLemmas.{port_pair, same_name}
use Rattle.xm_flows.proofs.TickLemmas.{same_channels}

-- a partition's copy of a channel that it calls q
copy_at : (g : Machine) (p q : ℕ) → q < length (part_of g.system.conf p).ports → slice_get (copies g p) q ≡ Some (content_if g.channels (named g.system.conf p q))
unfolding copies copies_of
copy_at g p q below = get_table (λ k. content_if g.channels (named g.system.conf p k)) (length (part_of g.system.conf p).ports) q below

-- so channels that it calls so hold the same in two machines where its copies are the same
copies_hold : (g h : Machine) (p q c d : ℕ) → q < length (part_of g.system.conf p).ports → q < length (part_of h.system.conf p).ports → named g.system.conf p q ≡ Some c → named h.system.conf p q ≡ Some d
    → copies g p ≡ copies h p → slice_get g.channels c ≡ slice_get h.channels d
copies_hold g h p q c d below below_too is is_too same =
    ap (content_if g.channels) (sym is)
    ∙ same_Some _ _ (sym (copy_at g p q below) ∙ ap (λ all. slice_get all q) same ∙ copy_at h p q below_too)
    ∙ ap (content_if h.channels) is_too

-- the source of a channel is an end of it
source_ends : (chan : Chan) → has_end chan.source.part chan.source.port chan ≡ true
unfolding has_end
source_ends chan = ap (λ b. b || list_any (is_port chan.source.part chan.source.port) chan.dests) (its_port chan.source)

channels_hold : (members : Members) (g h : Machine) → AreClosedAlike members g.system h.system → GoTogether members g h → (c d : ℕ) (chan counterpart : Chan) → slice_get g.system.conf.chans c ≡ Some chan
    → slice_get h.system.conf.chans d ≡ Some counterpart → chan.source ≡ counterpart.source → has_end_in members chan ≡ true → slice_get g.channels c ≡ slice_get h.channels d
channels_hold members g h alike go c d chan counterpart there there_too source ends =
    let p = chan.source.part in
    let r = chan.source.port in
    let member : members p ≡ true = member_is_source g.system.conf members alike.closed_one.peers c chan there ends in
    let same = same_channels members g.system h.system alike in
    let found : channel_of g.system.conf p r ≡ Some c = channel_is g.system.conf alike.fits_one c chan p r there (source_ends chan) in
    let found_too : channel_of h.system.conf p r ≡ Some d =
    channel_is h.system.conf alike.fits_other d counterpart p r there_too (ap (λ end. has_end end.part end.port counterpart) source ∙ source_ends counterpart)
    in
    let paired = port_pair members g.system.conf h.system.conf same p r c member found in
    let number : paired.number ≡ d = same_Some paired.number d (sym paired.found ∙ found_too) in
    let name = name_there g.system.conf p c r found (source_within g.system.conf alike.fits_one c chan there) in
    let name_too : name_of h.system.conf p d ≡ Some name.0 =
    ap (name_of h.system.conf p) (sym number) ∙ sym (same_name members g.system.conf h.system.conf same c paired.number paired.pair p member) ∙ name.1
    in
    copies_hold g h p name.0 c d (name_within g.system.conf p c name.0 name.1) (name_within h.system.conf p d name.0 name_too)
    (name_named g.system.conf p name.0 c name.1) (name_named h.system.conf p name.0 d name_too) (go.parts p member).copies

pub agree_of : (members : Members) (g h : Machine) → AreClosedAlike members g.system h.system → GoTogether members g h → Agree members g h
agree_of members g h alike go = record {
  states = λ p member. let same = go.parts p member in same.there ∙ sym same.there_too;
  channels = channels_hold members g h alike go;
  ticks = go.ticks;
  time = go.time;
  plan = go.clock.plan;
  frame_start = go.clock.frame_start;
  halted = go.halted;
}
