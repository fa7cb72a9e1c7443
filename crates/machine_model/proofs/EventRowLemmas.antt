-- The rows on health events: each is computed.
use Rattle.std.proofs.Common.{refl}
use Rattle.machine_model.specs.rows.EventRows.{ActionRows, DeliveryRows, EventsPassOver, RaisedRows, TrapsHaveEvents, UndoneRows}
use Rattle.machine_model.proofs.Computing.{computing}

pub traps_have_events : TrapsHaveEvents
unfolding computing
traps_have_events = refl

pub events_pass_over : EventsPassOver
unfolding computing
events_pass_over = (refl, refl)

pub action_rows : ActionRows
unfolding computing
action_rows = record {
  ignore = λ memory. (refl, refl);
  shutdown = λ memory. (refl, refl);
  cold_reset = λ memory. (refl, refl);
  warm_reset = λ memory. (refl, refl);
  last_reset = λ memory. (refl, refl);
  suspend = λ memory. (refl, refl);
  halt = λ memory. (refl, refl);
  propagate = λ memory. (refl, refl);
  propagate_disabled = λ memory. (refl, refl);
  hypervisor_cold_reset = λ memory. (refl, refl);
  hypervisor_warm_reset = λ memory. (refl, refl);
  hypervisor_halt = λ memory. (refl, refl);
  maintenance = λ memory. (refl, refl);
}

pub raised_rows : RaisedRows
unfolding computing
raised_rows = record { ignore = λ memory. refl; suspend = λ memory. refl; halt = λ memory. refl; maintenance = λ memory. refl }

pub delivery_rows : DeliveryRows
unfolding computing
delivery_rows = record {
  unlogged = λ memory. refl;
  logged = λ memory. refl;
  interrupt = λ memory. refl;
  delivered = λ memory. refl;
  same_type = λ memory. refl;
}

pub undone_rows : UndoneRows
unfolding computing
undone_rows = record { iret = λ memory. refl; flush = λ memory. refl; halts = λ memory. refl; raised = λ memory. refl }
