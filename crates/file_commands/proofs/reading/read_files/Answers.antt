use Rattle.std.proofs.Common.{ap, map}
use Rattle.std.specs.Prelude.{option_copied}
use Rattle.command_line.specs.Seen.{seen_files}
use Rattle.file_commands.specs.EndingValues.{vector_bytes}
use Rattle.file_commands.specs.Outcome.{name_if_any}
use Rattle.file_commands.specs.Packing.{file_names}
use Rattle.file_commands.proofs.PackingLemmas.{has_all, read_begun, rest_grouped, rest_named}
use Rattle.file_commands.proofs.reading.read_files.Goals as goal

pub returns-in-Err : goal.returns-in-Err
returns-in-Err g c = λ got faults. c.in-Err.ensures got faults _ _ _ (read_begun _ _ _ (ap (map vector_bytes) c.new-contents.ensures.items))

pub returns-in-Err-read_for_parts : goal.returns-in-Err-read_for_parts
returns-in-Err-read_for_parts g c = λ got faults.
    c.in-Err-read_for_parts.ensures got faults _ _ _ (rest_grouped _ (file_names (seen_files c.args.others)) (name_if_any (option_copied c.args.upsets)) (name_if_any (option_copied c.args.from)) _ _ _ (c.in-Ok.ensures got faults _ _ _ (read_begun _ _ _ (ap (map vector_bytes) c.new-contents.ensures.items))))

pub returns-in-Err-read_if_any : goal.returns-in-Err-read_if_any
returns-in-Err-read_if_any g c = λ got faults.
    c.in-Err-read_if_any.ensures got faults _ _ _ (c.in-Ok-read_for_parts.ensures got faults _ _ _
    (rest_grouped _ (file_names (seen_files c.args.others)) (name_if_any (option_copied c.args.upsets)) (name_if_any (option_copied c.args.from)) _ _ _ (c.in-Ok.ensures got faults _ _ _ (read_begun _ _ _ (ap (map vector_bytes) c.new-contents.ensures.items)))))

pub returns : goal.returns
returns g c = λ got faults.
    c.in-Err-read_if_any-2.ensures got faults _ _ _ (rest_named _ _ _ _ _
    (c.in-Ok-read_if_any.ensures got faults _ _ _ (c.in-Ok-read_for_parts.ensures got faults _ _ _
    (rest_grouped _ (file_names (seen_files c.args.others)) (name_if_any (option_copied c.args.upsets)) (name_if_any (option_copied c.args.from)) _ _ _ (c.in-Ok.ensures got faults _ _ _ (read_begun _ _ _ (ap (map vector_bytes) c.new-contents.ensures.items)))))))

pub returns-in-Ok-read_if_any-2 : goal.returns-in-Ok-read_if_any-2
returns-in-Ok-read_if_any-2 g c = λ got faults.
    has_all _ _ _ _ (c.in-Ok-read_if_any-2.ensures got faults _ _ _ (rest_named _ _ _ _ _
    (c.in-Ok-read_if_any.ensures got faults _ _ _ (c.in-Ok-read_for_parts.ensures got faults _ _ _
    (rest_grouped _ (file_names (seen_files c.args.others)) (name_if_any (option_copied c.args.upsets)) (name_if_any (option_copied c.args.from)) _ _ _ (c.in-Ok.ensures got faults _ _ _ (read_begun _ _ _ (ap (map vector_bytes) c.new-contents.ensures.items))))))))
