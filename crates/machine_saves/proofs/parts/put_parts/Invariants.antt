use Rattle.std.proofs.Common.{◌≡◌, ◌++◌}
use Rattle.machine_saves.specs.lemmas.SaveTerms.{all_texts, part_text}
use Rattle.machine_saves.proofs.parts.put_parts.Given as goal

abbrev pub invariant-loop-p : goal.invariant-loop-p
invariant-loop-p l = l.out.items ≡ l.fn.out.items ++ all_texts (part_text l.sys.machine) l.p
