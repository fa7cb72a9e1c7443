use Rattle.std.proofs.Common.{ℕ, ◌<◌, Option, Err, subst, sym}
use Rattle.cue_scripts.specs.Script.{IsScript}
use Rattle.upset_files.specs.Fits.{AllFit}
use Rattle.xm_base.specs.declared.limits.TheConstants.{TICKS}
use Rattle.machine_model.specs.View.{System, view_of}
use Rattle.system_state.specs.State.{with_inputs}
use Rattle.xm_alone.specs.Replay.{IsSilentReplay, TakesAll, AnswersFit, lone_in}
use Rattle.xm_alone.specs.declared.keeping.Kept.{Kept}
use Rattle.recording_model.specs.Lone.{Lone}
use Rattle.xm_alone.proofs.BootLemmas.{booted-fresh, booted-lone, booted-same, booted-there}
use Rattle.xm_alone.proofs.ShownLemmas.{kept_silent}
use Rattle.xm_alone.proofs.SilentLemmas.{fault_fits}
use Rattle.xm_alone.proofs.alone.Alone.tried.Goals as goal

pub takes_all-requires-clause-partition : goal.takes_all-requires-clause-partition
takes_all-requires-clause-partition c =
    booted-there c.keeps_numbers.ensures.boots (with_inputs c.args.system c.args.inputs) c.in_ok-machine.machine.state c.args.p c.requires.partition c.in_ok-machine.ensures.state

pub takes_all-requires-clause-fresh : goal.takes_all-requires-clause-fresh
takes_all-requires-clause-fresh c =
    booted-fresh c.boots_alone.ensures.law c.keeps_numbers.ensures.boots (with_inputs c.args.system c.args.inputs) c.in_ok-machine.machine.state c.args.p c.requires.partition c.in_ok-machine.ensures.state

pub takes_all-requires-clause-script : goal.takes_all-requires-clause-script
takes_all-requires-clause-script c =
    subst (λ (system : System). IsScript system.conf c.args.p c.args.script.now) (sym (booted-same (with_inputs c.args.system c.args.inputs) c.in_ok-machine.machine.state c.in_ok-machine.ensures.state)) c.requires.script

pub takes_all-requires-clause-upsets : goal.takes_all-requires-clause-upsets
takes_all-requires-clause-upsets c =
    subst (λ (system : System). AllFit system.conf TICKS 0 c.args.upsets.now) (sym (booted-same (with_inputs c.args.system c.args.inputs) c.in_ok-machine.machine.state c.in_ok-machine.ensures.state)) c.requires.upsets

pub invariant_of-result : goal.invariant_of-result
invariant_of-result c =
    subst (λ (n : ℕ). c.args.p < n) (sym c.in-Ok.ensures.parts)
    (booted-there c.keeps_numbers.ensures.boots (with_inputs c.args.system c.args.inputs) c.in_ok-machine.machine.state c.args.p c.requires.partition c.in_ok-machine.ensures.state)

pub returns-then-is_silent-clause-fits : goal.returns-then-is_silent-clause-fits
returns-then-is_silent-clause-fits c =
    subst (λ (system : System). TakesAll c.args.upsets.now (view_of system c.args.p) c.args.script.now) (booted-same (with_inputs c.args.system c.args.inputs) c.in_ok-machine.machine.state c.in_ok-machine.ensures.state) c.in-Ok.ensures.fits

pub returns-then-is_silent-clause-silent : goal.returns-then-is_silent-clause-silent
returns-then-is_silent-clause-silent c =
    subst (λ (old : Lone). IsSilentReplay c.args.upsets.now c.args.script.now old (lone_in c.takes_all.new.machine.state c.args.p))
    (booted-lone c.boots_alone.ensures.law c.keeps_numbers.ensures.boots (with_inputs c.args.system c.args.inputs) c.in_ok-machine.machine.state c.args.p c.requires.partition c.in_ok-machine.ensures.state)
    (kept_silent c.in-Ok.kept c.args.upsets.now c.args.script.now (lone_in c.in_ok-machine.machine.state c.args.p) (lone_in c.takes_all.new.machine.state c.args.p) c.in-Ok.ensures.left (c.is_silent.ensures c.if-is_silent.true) c.in-Ok.ensures.shown)

pub returns-else-is_silent-clause-fits : goal.returns-else-is_silent-clause-fits
returns-else-is_silent-clause-fits c =
    subst (λ (system : System). TakesAll c.args.upsets.now (view_of system c.args.p) c.args.script.now) (booted-same (with_inputs c.args.system c.args.inputs) c.in_ok-machine.machine.state c.in_ok-machine.ensures.state) c.in-Ok.ensures.fits

pub returns-in-Err-clause-fits : goal.returns-in-Err-clause-fits
returns-in-Err-clause-fits c =
    fault_fits (Option Kept) (Option Lone) c.args.upsets.now (view_of (with_inputs c.args.system c.args.inputs) c.args.p) c.args.script.now c.in-Err.fault
    (subst (λ (system : System). AnswersFit {T = Option Kept} c.args.upsets.now (view_of system c.args.p) c.args.script.now (Err c.in-Err.fault)) (booted-same (with_inputs c.args.system c.args.inputs) c.in_ok-machine.machine.state c.in_ok-machine.ensures.state) c.in-Err.ensures.fits)
