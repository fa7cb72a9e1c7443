use Rattle.std.proofs.Common.{◌≡◌, [], ◌∷◌, ◌+◌, ◌∙◌, sym, subst, drop}
use Rattle.control_calls.proofs.ProcessorLemmas.{input_asked, inputs_left, inputs_next, inputs_none}
use Rattle.system_state.specs.Serving.{caller_of}
use Rattle.system_state.specs.State.{OwnState, input_words_of}
use Rattle.control_calls.proofs.processor_calls.read_input.Goals as goal

pub returns-in-None : goal.returns-in-None
returns-in-None c =
    let sys = c.args.sys.now in
    let words = input_words_of c.args.site.part sys.machine in
    input_asked c.args.site.part [] (caller_of c.args.site sys) c.answer.result sys c.answer.new.sys
    (inputs_left c.args.site sys c.part.result.now c.part.ensures.value
    ∙ subst (λ (own : OwnState). drop own.used words ≡ []) c.behind-sys.view_is (inputs_none words c.behind-sys.inside.used (sym c.in-None.ensures.value)))
    c.answer.ensures

pub returns-in-Some : goal.returns-in-Some
returns-in-Some c =
    let sys = c.args.sys.now in
    let words = input_words_of c.args.site.part sys.machine in
    let used = c.behind-sys.inside.used in
    input_asked c.args.site.part (c.in-Some.word ∷ drop (used + 1) words) (caller_of c.args.site sys) c.hand_over.result sys c.hand_over.new.sys
    (inputs_left c.args.site sys c.part.result.now c.part.ensures.value
    ∙ subst (λ (own : OwnState). drop own.used words ≡ c.in-Some.word ∷ drop (used + 1) words) c.behind-sys.view_is (inputs_next words used c.in-Some.word (sym c.in-Some.ensures.value)))
    c.hand_over.ensures
