use Rattle.std.proofs.Common.{◌≡◌, ◌++◌, take}
use Rattle.std.specs.List.{flat_map}
use Rattle.xm_ports.specs.Channels.{content_at, messages_of}
use Rattle.machine_saves.specs.lemmas.SaveTerms.{message_text}
use Rattle.machine_saves.proofs.channels.put_waiting.Given as goal

abbrev pub invariant-loop-place : goal.invariant-loop-place
invariant-loop-place l = l.out.items ≡ l.fn.out.items ++ flat_map message_text (take l.place (messages_of (content_at l.c l.channels)))
