use Rattle.std.proofs.Common.{ℕ, ◌^◌, ◌<◌, ◌∙◌, sym}
use Rattle.system_state.specs.State.{input_words_of}
use Rattle.machine_saves.proofs.RangeLemmas.{all_of_each, each_more, none_past}
use Rattle.machine_saves.proofs.ranges.look_at_inputs.Goals as goal

pub loop-word-preserved : goal.loop-word-preserved
loop-word-preserved c =
    each_more (λ (word : ℕ). word < 2 ^ 32) (input_words_of c.args.p c.args.sys.now.machine) c.loop-word.place c.in-Some.word (sym c.in-Some.ensures.value) c.look_at_word.ensures c.loop-word.invariant

pub returns : goal.returns
returns c =
    let words = input_words_of c.args.p c.args.sys.now.machine in
    all_of_each (λ (word : ℕ). word < 2 ^ 32) words c.loop-word.place (none_past words c.loop-word.place (sym c.input.ensures.value ∙ c.in_default.is)) c.loop-word.invariant
