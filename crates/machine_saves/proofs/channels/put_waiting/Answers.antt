use Rattle.std.proofs.Common.{◌∙◌, ◌++◌, List, ℕ, ap, arith, sym}
use Rattle.std.specs.List.{flat_map}
use Rattle.std.proofs.lemmas.List.{take_all}
use Rattle.xm_ports.specs.Channels.{content_at, messages_of}
use Rattle.machine_saves.specs.lemmas.SaveTerms.{message_text}
use Rattle.machine_saves.proofs.PutLemmas.{found_written}
use Rattle.machine_saves.proofs.channels.put_waiting.Goals as goal

pub loop-place-preserved : goal.loop-place-preserved
loop-place-preserved c =
    found_written message_text _ _ _ (messages_of (content_at c.args.c c.args.channels.now)) c.loop-place.place c.in-Some.message.now (sym c.in-Some.ensures.value) c.loop-place.invariant c.in_ok-put_message-in-Some.ensures

pub returns : goal.returns
returns c =
    let messages = messages_of (content_at c.args.c c.args.channels.now) in
    c.loop-place.invariant
    ∙ ap (λ (waiting : List (List ℕ)). c.args.out.now.items ++ flat_map message_text waiting) (take_all c.loop-place.place messages (omega (arith, c.loop-place-test.false, c.count-place-end.ensures.value)))
