-- The rows on ports and channels: each is the run by its words.
use Rattle.std.proofs.Common.{ℕ, List, [], ◌∷◌, Option, Some, refl}
use Rattle.machine_model.specs.rows.PortRows.{EmptyQueueRefuses, FullQueueRefuses, NoRoomKeepsMessage, OldestIsReceived, QueueTakesMessage, SampleInterrupts, UnmadePortIsSilent}
use Rattle.machine_model.proofs.Computing.{computing}
use Rattle.machine_model.proofs.WordLemmas.{leaves_words}

-- one call
abbrev call_words : List (Option ℕ)
call_words = Some 0x91d02070 ∷ []

pub full_queue_refuses : FullQueueRefuses
unfolding computing
full_queue_refuses one other calls = (leaves_words call_words _ _ _ (calls, tt) refl, leaves_words call_words _ _ _ (calls, tt) refl)

pub queue_takes_message : QueueTakesMessage
unfolding computing
queue_takes_message one other calls = (leaves_words call_words _ _ _ (calls, tt) refl, leaves_words call_words _ _ _ (calls, tt) refl)

pub sample_interrupts : SampleInterrupts
unfolding computing
sample_interrupts one other calls = (leaves_words call_words _ _ _ (calls, tt) refl, leaves_words call_words _ _ _ (calls, tt) refl)

pub unmade_port_is_silent : UnmadePortIsSilent
unfolding computing
unmade_port_is_silent one other calls = (leaves_words call_words _ _ _ (calls, tt) refl, leaves_words call_words _ _ _ (calls, tt) refl)

pub oldest_is_received : OldestIsReceived
unfolding computing
oldest_is_received one other calls = (leaves_words call_words _ _ _ (calls, tt) refl, leaves_words call_words _ _ _ (calls, tt) refl)

pub no_room_keeps_message : NoRoomKeepsMessage
unfolding computing
no_room_keeps_message one other calls = (leaves_words call_words _ _ _ (calls, tt) refl, leaves_words call_words _ _ _ (calls, tt) refl)

pub empty_queue_refuses : EmptyQueueRefuses
unfolding computing
empty_queue_refuses one other calls = leaves_words call_words _ _ _ (calls, tt) refl
