use Rattle.std.proofs.Common.{drop}
use Rattle.control_calls.proofs.ProcessorLemmas.{has_room, input_allowed, input_refused}
use Rattle.system_state.specs.Serving.{caller_of}
use Rattle.system_state.specs.State.{input_words_of}
use Rattle.control_calls.proofs.processor_calls.hand_over.Goals as goal

pub put_input-requires : goal.put_input-requires
put_input-requires c = record { caller = c.requires.caller; room = has_room (caller_of c.args.site c.args.sys.now) c.args.at 4 c.in-None.ensures }

pub returns-in-Some : goal.returns-in-Some
returns-in-Some c =
    input_refused c.args.site.part c.args.at c.in-Some.code c.args.word (drop c.args.used (input_words_of c.args.site.part c.args.sys.now.machine)) (caller_of c.args.site c.args.sys.now) c.answer.result c.args.sys.now c.answer.new.sys
    c.requires.at c.in-Some.ensures c.answer.ensures

pub returns-in-None : goal.returns-in-None
returns-in-None c =
    input_allowed c.args.site.part c.args.at c.args.word (drop c.args.used (input_words_of c.args.site.part c.args.sys.now.machine)) (caller_of c.args.site c.args.sys.now) c.put_input.result c.args.sys.now c.put_input.new.sys
    c.requires.at c.in-None.ensures c.put_input.ensures
