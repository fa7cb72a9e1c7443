use Rattle.std.proofs.Common.{◌≡◌, None, arith, subst}
use Rattle.std.proofs.lemmas.Result.{err_from_is_err_and}
use Rattle.cue_scripts.specs.Reading.{script_entries_at}
use Rattle.cue_scripts.specs.Values.{entry_value, entry_values}
use Rattle.cue_scripts.proofs.EntriesLemmas.{IsLeft, all_left, all_read, entry_fails, fewer_left, one_kept}
use Rattle.cue_scripts.proofs.reading.entries.Goals as goal

pub loop-cues-init : goal.loop-cues-init
loop-cues-init c = rw c.new-entries.ensures.items (all_left c.args.conf.now c.args.p c.args.total c.args.cursor.now)

pub returns-in_err-entry : goal.returns-in_err-entry
returns-in_err-entry c =
    let p = err_from_is_err_and c.from_residual.result c.from_residual.ensures.1 in
    rw (p.1, p.2) (entry_fails c.in_err-entry.field-0.0 c.args.conf.now c.args.p c.loop-cues.cues c.loop-cues.last c.loop-cues.cursor (entry_values c.loop-cues.entries.items)
    (script_entries_at c.args.conf.now c.args.p c.args.total c.args.total None c.args.cursor.now) (omega (arith, c.loop-cues-test.true)) c.in_err-entry.ensures.value c.loop-cues.invariant)

pub loop-cues-preserved : goal.loop-cues-preserved
loop-cues-preserved c =
    rw (c.in_ok-push.ensures.items, one_kept c.loop-cues.entries.items c.in_ok-entry.entry, c.count-cues.ensures, c.own-last.ensures)
    (fewer_left c.args.conf.now c.args.p c.loop-cues.cues c.loop-cues.last c.loop-cues.cursor (entry_values c.loop-cues.entries.items)
    (script_entries_at c.args.conf.now c.args.p c.args.total c.args.total None c.args.cursor.now) (entry_value c.in_ok-entry.entry) c.entry.new.cursor
    (omega (arith, c.loop-cues-test.true)) c.in_ok-entry.ensures.counted.0 c.in_ok-entry.ensures.value c.loop-cues.invariant)

pub returns : goal.returns
returns c =
    let whole = script_entries_at c.args.conf.now c.args.p c.args.total c.args.total None c.args.cursor.now in
    let none : c.loop-cues.cues ≡ 0 = omega (arith, c.loop-cues-test.false) in
    all_read c.args.conf.now c.args.p c.loop-cues.last c.loop-cues.cursor (entry_values c.loop-cues.entries.items) whole
    (subst (λ cues. IsLeft c.args.conf.now c.args.p cues c.loop-cues.last c.loop-cues.cursor (entry_values c.loop-cues.entries.items) whole) none c.loop-cues.invariant)
