-- What calls read: the clock of a number, double words in two registers, a status, and the entries and counts of a log.
use Rattle.std.specs.Prelude.{ℕ, if◌then◌else◌, ◌*◌, ◌+◌, ◌==◌, ◌^◌, Bool, suc, zero, List, None, Option, Some, [], is_none, nat_le}
use Rattle.virt_clocks.specs.declared.timer.Clock.TheVariants.{Exec, Hw}
use Rattle.virt_clocks.specs.declared.timer.Clock.{Clock}
use Rattle.xm_traces.specs.Ring.{Kept, entry_at}
use Rattle.machine_model.specs.Caller.{Caller, a_of, b_of, is_not_kept, shown}
use Rattle.machine_model.specs.Structures.{counts_bytes, partition_status}

-- the status of the partition that the call names: the caller's own, or what it is shown of another
abbrev pub status_seen : Caller → List ℕ
status_seen caller = if a_of caller == caller.view.id then partition_status caller.state else shown caller.sight

-- the clock with a number: 0 is the hardware clock, 1 the execution clock
abbrev pub clock_numbered : ℕ → Clock
clock_numbered zero = Hw
clock_numbered (suc n) = Exec

-- what a clock says
abbrev pub clock_of : Clock → Caller → ℕ
clock_of Hw caller = caller.time
clock_of Exec caller = caller.state.clocks.execution

-- a double word of two words, the high one first
abbrev pub joined : ℕ → ℕ → ℕ
joined high low = high * 2 ^ 32 + low

-- whether a double word with this high word is below zero
abbrev pub is_negative : ℕ → Bool
is_negative high = nat_le (2 ^ 31) high

-- whether the call names the caller
abbrev pub is_own : Caller → Bool
is_own caller = a_of caller == caller.view.id

-- an entry's bytes, where it is kept
abbrev pub bytes_of_entry : {T : Type 0} → (T → List ℕ) → Option T → List ℕ
bytes_of_entry bytes None = []
bytes_of_entry bytes (Some entry) = bytes entry

-- entry number b of a log is not kept: the caller's own, or another's, as the caller is shown
abbrev pub is_missing : {T : Type 0} → Caller → Kept T → Bool
is_missing caller kept = if is_own caller then is_none (entry_at (b_of caller) kept) else is_not_kept caller.sight

-- entry number b of a log: the caller's own, or what it is shown of another's
abbrev pub entry_seen : {T : Type 0} → (T → List ℕ) → Caller → Kept T → List ℕ
entry_seen bytes caller kept = if is_own caller then bytes_of_entry bytes (entry_at (b_of caller) kept) else shown caller.sight

-- the counts of a log: the caller's own, or what it is shown of another's
abbrev pub log_counts : {T : Type 0} → Caller → Kept T → List ℕ
log_counts caller kept = if is_own caller then counts_bytes kept else shown caller.sight
