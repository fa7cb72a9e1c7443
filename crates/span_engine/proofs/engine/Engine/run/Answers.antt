use Rattle.std.proofs.Common.{◌≡◌, ◌≤◌, ap, arith, length, rules, sym, take, ◌∙◌}
use Rattle.std.proofs.lemmas.List.{with_items_is}
use Rattle.std.specs.Vec.{with_items}
use Rattle.system_state.specs.State.{memory_of}
use Rattle.tick_steps.specs.lemmas.KeptTerms.{bytes_noted}
use Rattle.span_engine.proofs.NotedLemmas.{few_noted, kept_so}
use Rattle.span_engine.proofs.engine.Engine.run.Goals as goal

pub returns-clause-kept : goal.returns-clause-kept
returns-clause-kept c =
    let all : (with_items c.self.inside.bytes c.read_noted-self-inside.new.bytes).items ≡ c.read_noted-self-inside.new.bytes =
    with_items_is c.self.inside.bytes c.read_noted-self-inside.new.bytes (c.read_noted-self-inside.ensures.room ∙ c.deref_mut.ensures.len) in
    kept_so _ _ c.run_span-self-inside.new.span.worked c.run_span-self-inside.new.span.note c.run_span-self-inside.new.span.reach _ _ c.run_span-self-inside.ensures.turn
    (ap (take c.read_noted-self-inside.result) all ∙ c.read_noted-self-inside.ensures.bytes)
    ∙ sym c.run_span-self-inside.ensures.done.kept

pub read_noted-self-inside-requires-clause-few : goal.read_noted-self-inside-requires-clause-few
read_noted-self-inside-requires-clause-few c =
    let few : length (bytes_noted c.run_span-self-inside.new.span.note (memory_of c.run_span-self-inside.new.span.part c.run_span-self-inside.new.sys.machine)) ≤ 4096 =
    few_noted c.trades_few_bytes.ensures.messages c.trades_few_bytes.ensures.sights
    c.keeps_facts.ensures.ticks c.keeps_hardware_clock.ensures.ticks c.keeps_numbers.ensures.ticks c.keeps_plans.ensures.ticks
    c.run_span-self-inside.new.span c.args.most c.args.sys.now c.run_span-self-inside.new.sys c.run_span-self-inside.new.lines c.requires.machine c.run_span-self-inside.ensures.done c.requires.ticks in
    let room : length c.deref_mut.result.now ≡ 4096 = search rules in
    omega (arith, few, room)
