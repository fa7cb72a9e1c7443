-- The machine of a generated system starts with the system's channels and keeps them, its run reaches its end, and two lines report it.
use Rattle.std.proofs.Common.{◌≡◌, ℕ, false, List, [], length, Result, Ok, Err, refl, sym, ap, ◌∙◌, arith}
use Rattle.std.specs.Prelude.{replicate}
use Rattle.bin_config.specs.declared.version.Version.TheVariants.{Two}
use Rattle.loaded_system.specs.System as loaded_system
use Rattle.machine_model.specs.Facts.{BootsComplete, RunsKeepNumbers}
use Rattle.machine_model.specs.Lines.{report}
use Rattle.machine_model.specs.Machine.{Machine, run, start}
use Rattle.machine_model.specs.View.{System}
use Rattle.system_state.specs.State.{with_inputs}
use Rattle.xm_conf.specs.Configuration.{Conf}
use Rattle.xm_container.specs.Box.{box_text}
use Rattle.xm_container.specs.Reading.{unpacked}
use Rattle.fault_messages.specs.declared.fault.BoxFault.{BoxFault}
use Rattle.xm_machine.specs.Outcome.{report_of}
use Rattle.xm_outside.specs.Causes.{Rose}
use Rattle.xm_report.specs.Report.{ReportLine}
use Rattle.generated_system.specs.Generated.{all_chans, all_parts, generated_conf, conf_with, generated}
use Rattle.generated_system.specs.Reported.{generated_text, run_length, reported_of, reported_of_run, without_inputs}

-- an output that takes all never fails
pub never_rose : Rose 0 0 → ⊥
never_rose rose = omega (arith, rose.risen)

-- bytes are the container of one system alone
pub one_system : (bytes : List ℕ) (one other : loaded_system.System) → unpacked bytes ≡ Ok one → unpacked bytes ≡ Ok other → other ≡ one
one_system bytes one other is again = ap found (sym again ∙ is)
  where
    found : Result loaded_system.System BoxFault → loaded_system.System
    found (Ok system) = system
    found (Err fault) = one

-- a machine starts fresh
pub starts_fresh : (system : System) → (start system).ticks ≡ 0
unfolding start
starts_fresh system = refl

pub starts_running : (system : System) → (start system).halted ≡ false
unfolding start
starts_running system = refl

-- it has the configuration of its system, and a generated one eight channels
starts_with : (s : loaded_system.System) (words : List (List ℕ)) → (start (with_inputs s words)).system.conf ≡ s.conf
unfolding start
starts_with s words = refl

conf_is : (number : ℕ) → (generated number).conf ≡ generated_conf number
unfolding generated
conf_is number = refl

eight : (number : ℕ) → length (generated_conf number).chans ≡ 8
unfolding generated_conf conf_with all_chans
eight number = refl

-- the machine that has run has the system's configuration, and its eight channels
pub keeps_system : RunsKeepNumbers → BootsComplete → (number : ℕ) (system : loaded_system.System) (inputs : List (List ℕ)) (g : Machine) → system ≡ generated number → g ≡ run (start (with_inputs system inputs)) run_length
    → (g.system.conf ≡ generated_conf number) × (length g.channels ≡ 8)
keeps_system keeps boots number system inputs g is state =
    let same = keeps (start (with_inputs system inputs)) run_length in
    let conf : (start (with_inputs system inputs)).system.conf ≡ generated_conf number = starts_with system inputs ∙ ap (λ (s : loaded_system.System). s.conf) is ∙ conf_is number in (
      ap (λ (m : Machine). m.system.conf) state ∙ ap (λ (s : System). s.conf) same.system ∙ conf,
      ap (λ (m : Machine). length m.channels) state ∙ same.channels ∙ (boots (with_inputs system inputs)).channels ∙ ap (λ (c : Conf). length c.chans) conf ∙ eight number,
    )

-- there are as many partitions as input words are given for
pub sixteen : (number : ℕ) → length (generated number).conf.parts ≡ 16
unfolding generated generated_conf conf_with all_parts
sixteen number = refl

-- the report of a run from the start is that of the system
reports_same : (system : System) (ticks : ℕ) → report_of (start system) ticks ≡ report system ticks
unfolding report_of report start
reports_same system ticks = refl

-- what is reported of the machine that has run is the report of the number
pub reported_so : (number container reported : ℕ) (system : loaded_system.System) (inputs : List (List ℕ)) (g : Machine) → system ≡ generated number → inputs ≡ replicate 16 []
    → container ≡ length (box_text Two (generated number)) → g ≡ run (start (with_inputs system inputs)) run_length
    → reported ≡ length (report_of (start (with_inputs system inputs)) run_length) → reported_of number container reported g ≡ generated_text number
unfolding generated_text reported_of_run
reported_so number container reported system inputs g is words long ran counted =
    let booted : with_inputs system inputs ≡ without_inputs (generated number) = ap (λ (s : loaded_system.System). with_inputs s inputs) is ∙ ap (with_inputs (generated number)) words in
    let state : g ≡ run (start (without_inputs (generated number))) run_length = ran ∙ ap (λ (b : System). run (start b) run_length) booted in
    let lines : reported ≡ length (report (without_inputs (generated number)) run_length) =
    counted ∙ ap (λ (l : List ReportLine). length l) (reports_same (with_inputs system inputs) run_length) ∙ ap (λ (b : System). length (report b run_length)) booted in
    rw (long, lines, state) refl
