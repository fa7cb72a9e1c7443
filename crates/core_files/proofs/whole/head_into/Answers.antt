use Rattle.std.proofs.Common.{◌≤◌, ◌∙◌, arith, length, sym}
use Rattle.std.proofs.lemmas.List.{take_all}
use Rattle.core_files.proofs.whole.head_into.Goals as goal

pub returns : goal.returns
returns c =
    let all : length c.put_head.new.into ≤ c.put_head.result = omega (arith, c.requires.size, c.put_head.ensures.place, c.put_head.ensures.room) in
    record { head = sym (take_all c.put_head.result c.put_head.new.into all) ∙ c.put_head.ensures.text }
