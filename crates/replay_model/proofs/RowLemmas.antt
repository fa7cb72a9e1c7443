-- The rows on cues are computed.
use Rattle.std.proofs.Common.{◌≡◌, ℕ, Bool, true, false, [], ◌∷◌, length, Option, None, Some, refl, ap, ◌∙◌}
use Rattle.std.specs.Prelude.{◌==◌, ◌&&◌, not, if◌then◌else◌}
use Rattle.xm_ports.specs.Channels.{Content, Queuing, Sampling}
use Rattle.machine_model.specs.Observed.{asks}
use Rattle.machine_model.specs.Emission.{Act}
use Rattle.machine_model.specs.View.{PortChannel}
use Rattle.machine_model.specs.Whole.{WholeEvent, event_of}
use Rattle.replay_model.specs.Taking.{is_empty_copy, is_full_copy, is_same_event, may_write}
use Rattle.replay_model.specs.rows.TakingRows.{AskedRows, EventRows, QueueRows, SightRows, queue_of_two, samples, status_call}

-- a put, by the channel and what its copy holds
put_by : (channel found : Option PortChannel) (copy held : Option Content) → channel ≡ found → copy ≡ held → not (is_full_copy channel copy) ≡ not (is_full_copy found held)
put_by channel found copy held same_channel same_copy = ap (λ (o : Option PortChannel). not (is_full_copy o copy)) same_channel ∙ ap (λ (o : Option Content). not (is_full_copy found o)) same_copy

pub queue_rows : QueueRows
queue_rows = record {
  room = λ view copies q message one is holds. put_by _ (Some (queue_of_two q)) _ (Some (Queuing (one ∷ []))) is holds;
  full = λ view copies q message one two is holds. put_by _ (Some (queue_of_two q)) _ (Some (Queuing (one ∷ two ∷ []))) is holds;
  sample = λ view copies q refresh message held is holds. put_by _ (Some (samples refresh q)) _ (Some (Sampling held)) is holds;
  first = λ view copies q one later holds. ap (λ (o : Option Content). not (is_empty_copy o)) holds;
  empty = λ view copies q holds. ap (λ (o : Option Content). not (is_empty_copy o)) holds;
  signal = λ view copies number. refl;
}

both : (a b : Bool) → a ≡ true → b ≡ true → (a && b) ≡ true
both a b one other = rw (one, other) refl

no_second : (a b : Bool) → b ≡ false → (a && b) ≡ false
no_second true b none = none
no_second false b none = refl

pub sight_rows : SightRows
sight_rows = record {
  nothing = λ view. refl;
  unasked = λ view bytes. refl;
  no_entry = λ view. refl;
  words = λ view address bytes room size. both _ _ room (ap (λ (n : ℕ). n == 8) size);
  longer = λ view address bytes size. no_second (may_write view (status_call address)) _ (ap (λ (n : ℕ). n == 8) size);
  no_place = λ view address bytes none. ap (λ (b : Bool). b && (length bytes == 8)) none;
  hidden = λ view address room. ap not room;
  refused = λ view address none. ap not none;
  trace = λ view address. refl;
  health = λ view address. refl;
  count = λ view address. refl;
}

pub asked_rows : AskedRows
asked_rows = record {
  away = λ view a. refl;
  own = λ view a first turns. ap (λ (b : Bool). if b then asks view a.state a.time first else None) turns;
  rests = λ view a first rests. ap (λ (b : Bool). if b then asks view a.state a.time first else None) rests;
}

-- an event of an act
of_act : (event : WholeEvent) (act same : Act) → act ≡ same → is_same_event (event_of act) event ≡ is_same_event (event_of same) event
of_act event act same is = ap (λ (a : Act). is_same_event (event_of a) event) is

pub event_rows : EventRows
event_rows = record {
  away = λ tick event. refl;
  none = λ first. refl;
  idle = λ first. refl;
  quiet = λ first tick is. of_act _ tick.act _ is;
  halts = λ first tick is. of_act _ tick.act _ is;
  unreceived = λ first tick is. of_act _ tick.act _ is;
  resets = λ first tick is. of_act _ tick.act _ is;
  other = λ first tick is. of_act _ tick.act _ is;
}
