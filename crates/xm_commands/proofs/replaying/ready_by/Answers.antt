use Rattle.std.proofs.Common.{arith, map}
use Rattle.command_line.specs.Seen.{seen_replay}
use Rattle.command_line.specs.Words.{replay_input}
use Rattle.file_commands.specs.EndingValues.{vector_bytes}
use Rattle.xm_commands.proofs.ReplayLemmas.{content_last, content_second, content_third}
use Rattle.xm_commands.proofs.replaying.ready_by.Goals as goal

pub make_ready-requires : goal.make_ready-requires
make_ready-requires c =
    let all = map vector_bytes c.args.contents.now in
    let others = map vector_bytes c.split_contents.result.1.now in
    let more = map vector_bytes c.split_contents-2.result.1.now in
    let words = rw (c.input.ensures.value, content_third all others more c.split_contents-2.ensures.others c.split_contents.ensures.others) at c.split_if_any.ensures.first in
    let few = c.requires in
    rw words (omega (arith, few))

pub returns : goal.returns
returns c =
    let all = map vector_bytes c.args.contents.now in
    let others = map vector_bytes c.split_contents.result.1.now in
    let more = map vector_bytes c.split_contents-2.result.1.now in
    let received = content_second all others _ c.split_contents-2.ensures.first c.split_contents.ensures.others in
    let words = rw (c.input.ensures.value, content_third all others more c.split_contents-2.ensures.others c.split_contents.ensures.others) at c.split_if_any.ensures.first in
    let taken = rw c.input.ensures.value at c.split_if_any.ensures.others in
    let struck = rw (c.upsets.ensures.value, content_last (replay_input (seen_replay c.args.options)) all others more _ taken c.split_contents-2.ensures.others c.split_contents.ensures.others) at c.split_if_any-2.ensures.first in
    rw (struck, words, received, c.split_contents.ensures.first) at c.make_ready.ensures
