use Rattle.std.proofs.Common.{refl}
use Rattle.file_commands.specs.Conversion.{command_making}
use Rattle.file_commands.specs.Outcome.{outcome_of_file, outcome_of_print}
use Rattle.file_commands.specs.declared.converting.Conversion.TheVariants.{File, Report}
use Rattle.file_commands.specs.lemmas.CommandLemmas.{outcome_by_report, one-long, refused_outcome, unmade_outcome}
use Rattle.file_commands.specs.lemmas.ConversionLemmas.{command_outcome, made_outcome, reads_one}
use Rattle.file_commands.proofs.converting.convert_bytes.Goals as goal

pub returns-then-bytes-gt-FILE_BYTES : goal.returns-then-bytes-gt-FILE_BYTES
returns-then-bytes-gt-FILE_BYTES g c =
    rw (one-long (command_making c.args.conversion c.args.file.now) c.args.file.now c.args.bytes.now (reads_one c.args.conversion c.args.file.now) c.if-bytes-gt-FILE_BYTES.true)
    (refused_outcome c.args.file.now _ _)

pub returns-in-Ok : goal.returns-in-Ok
returns-in-Ok g c =
    let saved = rw c.deref.ensures.value at c.save.ensures in
    let comes = made_outcome _ c.args.file.now (outcome_of_file c.in-File.output.now) _ c.in-Ok.made.items _ _ c.in-Ok.ensures.exact saved in
    rw c.in-File.is (command_outcome _ (File c.in-File.what c.in-File.output) c.args.file.now c.args.bytes.now _ _ c.if-bytes-gt-FILE_BYTES.false comes)

pub returns-in-Err : goal.returns-in-Err
returns-in-Err g c =
    let comes = unmade_outcome _ c.args.file.now (outcome_of_file c.in-File.output.now) c.in-Err.why _ _ c.unmade.ensures c.in-Err.ensures.exact in
    rw c.in-File.is (command_outcome _ (File c.in-File.what c.in-File.output) c.args.file.now c.args.bytes.now _ _ c.if-bytes-gt-FILE_BYTES.false comes)

pub returns-in-Ok-printout_text : goal.returns-in-Ok-printout_text
returns-in-Ok-printout_text g c =
    let reports = rw c.deref-in-Ok-printout_text.ensures.value at c.report.ensures in
    let done = outcome_by_report _ (outcome_of_print c.in-Ok-printout_text.text.items) _ _ _ _ _ _ _ _ refl refl reports in
    let comes = made_outcome _ c.args.file.now outcome_of_print _ c.in-Ok-printout_text.text.items _ _ c.in-Ok-printout_text.ensures done in
    rw c.in-Report.is (command_outcome _ (Report c.in-Report.what) c.args.file.now c.args.bytes.now _ _ c.if-bytes-gt-FILE_BYTES.false comes)

pub returns-in-Err-printout_text : goal.returns-in-Err-printout_text
returns-in-Err-printout_text g c =
    let comes = unmade_outcome _ c.args.file.now outcome_of_print c.in-Err-printout_text.why _ _ c.unmade-in-Err-printout_text.ensures c.in-Err-printout_text.ensures in
    rw c.in-Report.is (command_outcome _ (Report c.in-Report.what) c.args.file.now c.args.bytes.now _ _ c.if-bytes-gt-FILE_BYTES.false comes)
