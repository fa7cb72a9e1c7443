use Rattle.std.proofs.Common.{◌≡◌, ◌++◌, drop}
use Rattle.machine_saves.specs.lemmas.SaveTerms.{contents_text}
use Rattle.machine_saves.proofs.channels.put_channels.Given as goal

abbrev pub invariant-loop-c : goal.invariant-loop-c
invariant-loop-c l =
    l.out.items ++ contents_text (drop l.c l.sys.machine.system.conf.chans) (drop l.c l.sys.machine.channels) ≡ l.fn.out.items ++ contents_text l.sys.machine.system.conf.chans l.sys.machine.channels
