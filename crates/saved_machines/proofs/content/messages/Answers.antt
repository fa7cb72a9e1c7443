use Rattle.std.proofs.Common.{ℕ, ◌≤◌, ◌<◌, Global, Vec, map, arith}
use Rattle.std.proofs.lemmas.Result.{err_from_is_err_and}
use Rattle.codecs.specs.lemmas.LoopLemmas.{items_done, items_fail, items_on}
use Rattle.saved_machines.specs.SavedFields.{message_field}
use Rattle.saved_machines.specs.declared.fault.SavedFault.TheVariants as fault
use Rattle.saved_machines.proofs.ReadLemmas.{map_more}
use Rattle.saved_machines.proofs.content.messages.Goals as goal

pub returns-in_err-message : goal.returns-in_err-message
returns-in_err-message c =
    let p = err_from_is_err_and c.from_residual.result c.from_residual.ensures.1 in
    let below : c.loop.counter < c.args.count = omega (arith, c.loop-test.true) in
    rw (p.1, p.2)
    (items_fail (λ (u : Unit {0}). message_field c.args.most) (λ u x. u) (map (λ (message : Vec ℕ Global). message.items) c.loop.messages.items) c.args.count c.loop.counter tt c.loop.cursor fault.Memory c.in_err-message.field-0.0 _
    below c.in_err-message.ensures c.loop.invariant)

pub loop-preserved : goal.loop-preserved
loop-preserved c =
    let below : c.loop.counter < c.args.count = omega (arith, c.loop-test.true) in
    rw (map_more c.loop.messages.items c.push.new.self.items c.in_ok-message.message (λ (message : Vec ℕ Global). message.items) c.in-Ok.ensures.items)
    (items_on (λ (u : Unit {0}). message_field c.args.most) (λ u x. u) (map (λ (message : Vec ℕ Global). message.items) c.loop.messages.items) c.args.count c.loop.counter tt c.loop.cursor c.in_ok-message.message.items c.message.new.cursor _
    below c.in_ok-message.ensures c.loop.invariant)

pub returns : goal.returns
returns c =
    let past : c.args.count ≤ c.loop.counter = omega (arith, c.loop-test.false) in
    items_done (λ (u : Unit {0}). message_field c.args.most) (λ u x. u) (map (λ (message : Vec ℕ Global). message.items) c.loop.messages.items) c.args.count c.loop.counter tt c.loop.cursor _ past c.loop.invariant
