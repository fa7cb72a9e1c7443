-- The rows on what reaches several partitions: each is computed.
use Rattle.std.proofs.Common.{ℕ, List, [], ◌∷◌, ◌++◌, Some, refl, sym, ap, ◌∙◌}
use Rattle.machine_model.specs.Lines.{local_said}
use Rattle.machine_model.specs.Machine.{Happened, tick_of}
use Rattle.machine_model.specs.rows.WholeRows.{CounterRows, HearingRows, OrderRows, ResetRows, WritesToItsConsole, consoles, other_consoles, tracing_alone}
use Rattle.machine_model.proofs.Computing.{computing}
use Rattle.machine_model.proofs.WordLemmas.{happened_same, leaves_words, prints_words}

pub hearing_rows : HearingRows
unfolding computing
hearing_rows = record {
  sampling = λ memory. (refl, refl, refl);
  queuing = λ memory. (refl, refl);
  halted = λ memory. (refl, refl);
  second_port = λ memory. refl;
  not_made = λ memory. (refl, refl);
  source = λ memory. (refl, refl);
  taken = λ memory. refl;
}

pub order_rows : OrderRows
unfolding computing
order_rows = record {
  halt = λ memory. (refl, refl);
  suspend = λ memory. (refl, refl);
  resume = λ memory. (refl, refl);
  shutdown = λ memory. (refl, refl, refl);
  reset = λ memory. (refl, refl);
}

pub counter_rows : CounterRows
unfolding computing
counter_rows = record { part = λ memory. (refl, refl, refl); whole = (refl, refl, refl) }

pub reset_rows : ResetRows
unfolding computing
reset_rows = record {
  cold = λ one other illegal. (
    prints_words (Some 0 ∷ []) _ _ (illegal, tt) refl,
    leaves_words (Some 0 ∷ []) _ _ _ (illegal, tt) refl,
    leaves_words (Some 0 ∷ []) _ _ _ (illegal, tt) refl,
    leaves_words (Some 0 ∷ []) _ _ _ (illegal, tt) refl,
    leaves_words (Some 0 ∷ []) _ _ _ (illegal, tt) refl,
  );
  warm = λ one other illegal. (
    prints_words (Some 0 ∷ []) _ _ (illegal, tt) refl,
    leaves_words (Some 0 ∷ []) _ _ _ (illegal, tt) refl,
    leaves_words (Some 0 ∷ []) _ _ _ (illegal, tt) refl,
    leaves_words (Some 0 ∷ []) _ _ _ (illegal, tt) refl,
    leaves_words (Some 0 ∷ []) _ _ _ (illegal, tt) refl,
  );
}

-- the console bytes of partition 0 in a tick
abbrev first_said : Happened → List ℕ
first_said h = local_said (tick_of h 0) ++ [] ++ []

-- those of partition 1
abbrev second_said : Happened → List ℕ
second_said h = [] ++ (local_said (tick_of h 1) ++ []) ++ []

-- those of a partition alone
abbrev alone_said : Happened → List ℕ
alone_said h = (local_said (tick_of h 0) ++ []) ++ []

pub writes_to_its_console : WritesToItsConsole
unfolding computing
writes_to_its_console = record {
  first = λ one other calls. (
    record { got = sym (ap first_said (happened_same (Some 0x91d02070) (consoles (Some 1) (Some 0) one other) calls)) ∙ refl },
    record { got = refl },
    record { got = sym (ap first_said (happened_same (Some 0x91d02070) (consoles (Some 1) (Some 1) one other) calls)) ∙ refl },
    record { got = refl },
  );
  second = λ one other calls. (
    record { got = sym (ap second_said (happened_same (Some 0x91d02070) (other_consoles (Some 1) (Some 0) one other) calls)) ∙ refl },
    record { got = refl },
    record { got = sym (ap second_said (happened_same (Some 0x91d02070) (other_consoles (Some 1) (Some 1) one other) calls)) ∙ refl },
    record { got = refl },
  );
  traced = λ memory calls. record { got = sym (ap alone_said (happened_same (Some 0x91d02070) (tracing_alone memory) calls)) ∙ refl };
}
