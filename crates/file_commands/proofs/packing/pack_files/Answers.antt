use Rattle.std.proofs.Common.{◌∷◌, map, drop}
use Rattle.std.proofs.lemmas.List.{append-nil}
use Rattle.command_line.specs.Seen.{seen_files}
use Rattle.command_line.specs.Words.{Pack}
use Rattle.file_commands.specs.Outcome.{content, first_long}
use Rattle.file_commands.specs.Packing.{container_of, file_names}
use Rattle.file_commands.specs.lemmas.PackingTerms.{limited}
use Rattle.file_commands.specs.EndingValues.{vector_bytes, ending_of}
use Rattle.file_commands.proofs.PackingLemmas.{packed_outcome}
use Rattle.file_commands.specs.lemmas.CommandLemmas.{done_by, not_all_read_done}
use Rattle.file_commands.proofs.packing.pack_files.Goals as goal

pub returns-in-Ok : goal.returns-in-Ok
returns-in-Ok g c =
    let configuration = c.args.configuration.now in
    let images = seen_files c.args.images in
    let command = Pack configuration c.args.output.now images in
    let ending = ending_of c.write_container.result in
    let contents = map vector_bytes c.in-Ok.contents.items in
    let read = rw (append-nil (file_names images), append-nil (file_names images)) at c.in-Ok.ensures (g.O.Sink.got c.args.out.now) (g.O.Sink.faults c.args.out.now) in
    let makes = rw c.deref.ensures.value at c.container-container.ensures.value in
    let comes = c.write_container.ensures (limited (first_long (configuration ∷ file_names images) contents) (container_of configuration (content 0 contents) images (drop 1 contents))) makes in
    done_by ending command contents _ _ read.0 (packed_outcome ending configuration c.args.output.now images contents _ _ _ read.1 comes)

pub returns-in-Err : goal.returns-in-Err
returns-in-Err g c =
    not_all_read_done (ending_of c.in-Err.ending) (Pack c.args.configuration.now c.args.output.now (seen_files c.args.images)) _ _
    (rw (append-nil (file_names (seen_files c.args.images)), append-nil (file_names (seen_files c.args.images))) at c.in-Err.ensures (g.O.Sink.got c.args.out.now) (g.O.Sink.faults c.args.out.now))
