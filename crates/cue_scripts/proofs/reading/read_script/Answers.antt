use Rattle.std.proofs.Common.{subst, sym, ◌∙◌, arith}
use Rattle.std.proofs.lemmas.Result.{err_from_is_err_and}
use Rattle.cue_scripts.specs.Gives.{Fails}
use Rattle.cue_scripts.specs.Values.{entry_values}
use Rattle.cue_scripts.proofs.FileAgainLemmas.{script_fails, script_is, spelled_read}
use Rattle.cue_scripts.proofs.FileTakeLemmas.{file_spells, file_takes}
use Rattle.cue_scripts.proofs.ScriptLemmas.{are_kept}
use Rattle.cue_scripts.proofs.reading.read_script.Goals as goal

pub returns-in_err-entries-clause-only : goal.returns-in_err-entries-clause-only
returns-in_err-entries-clause-only c = λ cues spelled.
    let p = err_from_is_err_and c.from_residual.result c.from_residual.ensures.1 in
    rw (p.1, p.2) (subst (λ read. Fails c.in_err-entries.field-0.0 read) (spelled_read c.args.conf.now c.args.p c.args.bytes.now cues c.ranges.p.fits spelled)
    (script_fails c.in_err-entries.field-0.0 c.args.conf.now c.args.p c.args.bytes.now c.in_err-entries.ensures))

pub returns-in_err-entries-clause-exact : goal.returns-in_err-entries-clause-exact
returns-in_err-entries-clause-exact c =
    let p = err_from_is_err_and c.from_residual.result c.from_residual.ensures.1 in
    rw (p.1, p.2) (script_fails c.in_err-entries.field-0.0 c.args.conf.now c.args.p c.args.bytes.now c.in_err-entries.ensures)

pub invariant_of-result : goal.invariant_of-result
invariant_of-result c =
    let entries = entry_values c.in_ok-entries.entries.items in
    let read = file_takes c.args.conf.now c.args.p c.args.bytes.now entries (λ i. omega (arith, c.type_inv.bytes i)) c.in_ok-entries.ensures in
    are_kept c.args.conf.now c.args.p read.total entries read.few read.are

pub returns-clause-found : goal.returns-clause-found
returns-clause-found c =
    let entries = entry_values c.in_ok-entries.entries.items in
    file_spells c.args.conf.now c.args.p c.args.bytes.now entries (file_takes c.args.conf.now c.args.p c.args.bytes.now entries (λ i. omega (arith, c.type_inv.bytes i)) c.in_ok-entries.ensures)

pub returns-clause-only : goal.returns-clause-only
returns-clause-only c = λ cues spelled.
    sym (spelled_read c.args.conf.now c.args.p c.args.bytes.now cues c.ranges.p.fits spelled)
    ∙ script_is c.args.conf.now c.args.p c.args.bytes.now (entry_values c.in_ok-entries.entries.items) c.in_ok-entries.ensures

pub returns-clause-exact : goal.returns-clause-exact
returns-clause-exact c = script_is c.args.conf.now c.args.p c.args.bytes.now (entry_values c.in_ok-entries.entries.items) c.in_ok-entries.ensures
