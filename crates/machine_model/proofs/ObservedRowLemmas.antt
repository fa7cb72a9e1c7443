-- The rows on observing calls: each is computed.
use Rattle.std.proofs.Common.{[], ◌∷◌, Some, refl}
use Rattle.machine_model.specs.rows.ObservedRows.{AnswerRows, AskingRows, PlanStatusRows, RoomRows, SeesPlan, SilentRows}
use Rattle.machine_model.proofs.Computing.{computing}
use Rattle.machine_model.proofs.WordLemmas.{leaves_words}

pub asking_rows : AskingRows
unfolding computing
asking_rows = record {
  partition_status = λ memory. (refl, (refl, refl, refl));
  system_status = λ memory. (refl, refl);
  current_plan = λ memory. (refl, refl, refl, refl);
  plan_status = λ memory. (refl, refl);
  trace_read = λ memory. (refl, (refl, refl, refl));
  trace_status = λ memory. (refl, (refl, refl, refl));
  hm_read = λ memory. (refl, (refl, refl, refl));
  hm_status = λ memory. (refl, (refl, refl, refl));
  no_other = λ memory. (refl, refl, refl, refl, refl);
}

pub answer_rows : AnswerRows
unfolding computing
answer_rows = record {
  partition_status = λ one other. refl;
  no_partition = λ one other. refl;
  system_status = λ one other. refl;
  current_plan = λ one other. refl;
  plan_status = λ one other. refl;
  trace_entry = λ one other. refl;
  trace_not_kept = λ one other. refl;
  no_trace_yet = λ one other. refl;
  trace_counts = λ one other. refl;
  health_entry = λ one other. refl;
  last_health_entry = λ one other. refl;
  health_not_kept = λ one other. refl;
  health_counts = λ one other. refl;
}

pub plan_status_rows : PlanStatusRows
unfolding computing
plan_status_rows = record { asked = refl; in_gap = refl }

pub room_rows : RoomRows
unfolding computing
room_rows = record {
  room = λ one other. refl;
  no_room = λ one other. refl;
  read_only = λ one other. refl;
  not_kept = λ one other. refl;
  nothing = λ one other. refl;
}

pub silent_rows : SilentRows
unfolding computing
silent_rows = record { delivered = λ memory. refl; idle = λ memory. refl; suspended = λ memory. refl; halted = λ memory. refl }

pub sees_plan : SeesPlan
unfolding computing
sees_plan = (
  λ memory calls. leaves_words (Some 0x91d02070 ∷ []) _ _ _ (calls, tt) refl,
  λ memory calls. leaves_words (Some 0x91d02070 ∷ []) _ _ _ (calls, tt) refl,
)
