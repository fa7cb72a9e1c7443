-- Parts of the work of one partition, one after the other.
use Rattle.std.proofs.Common.{◌≡◌, ℕ, ◌<◌, List, ◌++◌, length, map, sym, ap, ◌∙◌}
use Rattle.std.proofs.lemmas.List.{append_assoc, get_or-set_same, map-append, set-set}
use Rattle.xm_report.specs.Report.{ReportLine}
use Rattle.system_state.specs.State.{SysState, with_machine}
use Rattle.machine_model.specs.Machine.{Machine, booted_part}
use Rattle.machine_model.specs.Partition.{PartitionState}
use Rattle.machine_model.specs.Emission.{Emission, line_of}
use Rattle.machine_model.specs.View.{PartitionView, view_of}
use Rattle.span_model.specs.Passes.{part_at, with_part}
use Rattle.tick_steps.specs.Work.{IsPartDone}

-- the partition of a system in which it was put
pub put_there : (p : ℕ) (x : PartitionState) (g : Machine) (sys old : SysState) → p < length g.parts → sys ≡ with_machine (with_part p x g) old → part_at p sys.machine ≡ x
put_there p x g sys old below is = ap (λ (y : SysState). part_at p y.machine) is ∙ get_or-set_same g.parts p x (booted_part g.system p) below

-- a partition that is changed twice
pub state_then : (f : PartitionView → ℕ → PartitionState → PartitionState) (p : ℕ) (ps : PartitionState) (old mid new : SysState) → p < length old.machine.parts
    → mid ≡ with_machine (with_part p ps old.machine) old
    → new ≡ with_machine (with_part p (f (view_of mid.machine.system p) mid.machine.time (part_at p mid.machine)) mid.machine) mid
    → new ≡ with_machine (with_part p (f (view_of old.machine.system p) old.machine.time ps) old.machine) old
state_then f p ps old mid new below mid_is new_is =
    new_is
    ∙ ap (λ (x : PartitionState). with_machine (with_part p (f (view_of mid.machine.system p) mid.machine.time x) mid.machine) mid) (put_there p ps old.machine mid old below mid_is)
    ∙ ap (λ (s : SysState). with_machine (with_part p (f (view_of s.machine.system p) s.machine.time ps) s.machine) s) mid_is
    ∙ ap (λ (parts : List PartitionState). with_machine (record old.machine { parts = parts }) old) (set-set old.machine.parts p ps (f (view_of old.machine.system p) old.machine.time ps))

-- what is emitted twice
pub lines_then : (p : ℕ) (ps : PartitionState) (first second : List Emission) (old mid : SysState) (had between got : List ReportLine)
    → mid ≡ with_machine (with_part p ps old.machine) old
    → between ≡ had ++ map (line_of old.machine.ticks p) first
    → got ≡ between ++ map (line_of mid.machine.ticks p) second
    → got ≡ had ++ map (line_of old.machine.ticks p) (first ++ second)
lines_then p ps first second old mid had between got mid_is between_is got_is =
    got_is
    ∙ ap (λ (s : SysState). between ++ map (line_of s.machine.ticks p) second) mid_is
    ∙ ap (λ (lines : List ReportLine). lines ++ map (line_of old.machine.ticks p) second) between_is
    ∙ append_assoc had (map (line_of old.machine.ticks p) first) (map (line_of old.machine.ticks p) second)
    ∙ ap (λ (lines : List ReportLine). had ++ lines) (sym (map-append (line_of old.machine.ticks p) first second))

-- two parts of the work of a partition
pub done_then : (f : PartitionView → ℕ → PartitionState → PartitionState) (tale : PartitionView → ℕ → PartitionState → List Emission)
    (p : ℕ) (ps : PartitionState) (first : List Emission) (old mid new : SysState) (had between got : List ReportLine) → p < length old.machine.parts
    → IsPartDone p ps first old mid had between
    → IsPartDone p (f (view_of mid.machine.system p) mid.machine.time (part_at p mid.machine)) (tale (view_of mid.machine.system p) mid.machine.time (part_at p mid.machine)) mid new between got
    → IsPartDone p (f (view_of old.machine.system p) old.machine.time ps) (first ++ tale (view_of old.machine.system p) old.machine.time ps) old new had got
done_then f tale p ps first old mid new had between got below one two =
    let emitted : tale (view_of mid.machine.system p) mid.machine.time (part_at p mid.machine) ≡ tale (view_of old.machine.system p) old.machine.time ps =
    ap (λ (x : PartitionState). tale (view_of mid.machine.system p) mid.machine.time x) (put_there p ps old.machine mid old below one.state)
    ∙ ap (λ (s : SysState). tale (view_of s.machine.system p) s.machine.time ps) one.state in
    record {
      state = state_then f p ps old mid new below one.state two.state;
      lines = lines_then p ps first _ old mid had between got one.state one.lines two.lines
          ∙ ap (λ (more : List Emission). had ++ map (line_of old.machine.ticks p) (first ++ more)) emitted;
    }
