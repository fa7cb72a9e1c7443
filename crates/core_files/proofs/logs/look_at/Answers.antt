use Rattle.std.proofs.Common.{◌≡◌, ◌<◌, ◌∙◌, ap, arith, length, sym, take}
use Rattle.std.proofs.lemmas.List.{take_all}
use Rattle.std.proofs.lemmas.List.Elements.{All-more, All-same}
use Rattle.std.proofs.lemmas.Option.{get_or_from_slice_get}
use Rattle.xm_traces.specs.declared.entry.TraceEntry.{TraceEntry}
use Rattle.core_files.proofs.logs.look_at.Goals as goal

pub loop-place-preserved : goal.loop-place-preserved
loop-place-preserved c =
    let below : c.loop-place.place < length c.args.traces.now.entries = omega (arith, c.loop-place-test.true, c.kept-place-end.ensures.value) in
    let there = get_or_from_slice_get c.args.traces.now.entries c.loop-place.place c.entry_at-entry.result c.entry_at-entry.result c.entry_at-entry.ensures.value in
    All-more (λ (entry : TraceEntry). length entry.load ≡ 8) c.args.traces.now.entries c.loop-place.place c.entry_at-entry.result below c.loop-place.invariant
    (ap (λ (entry : TraceEntry). length entry.load) there ∙ c.look_at_entry.ensures.eight)

pub returns-clause-loads : goal.returns-clause-loads
returns-clause-loads c =
    All-same (λ (entry : TraceEntry). length entry.load ≡ 8) c.args.traces.now.entries (take c.loop-place.place c.args.traces.now.entries)
    (sym (take_all c.loop-place.place c.args.traces.now.entries (omega (arith, c.loop-place-test.false, c.kept-place-end.ensures.value)))) c.loop-place.invariant
