-- What the top call promises, from what the work did.
use Rattle.std.proofs.Common.{◌≡◌, ◌≢◌, ℕ, suc, ◌+◌, ◌↔◌, inl, inr, ⊎_elim, List, [], ◌∷◌, ◌++◌, length, Option, Some, None, IsSome, Result, Ok, Err, refl, sym, ap, ◌∙◌, subst, arith, length-append}
use Rattle.xm_outside.specs.Causes.{HasCause, Rose}
use Rattle.xm_outside.specs.Files.{Files, IsAbsent, OthersStay}
use Rattle.xm_outside.specs.Growth.{grown, GrewByPrefix, Writes}
use Rattle.xm_outside.specs.lemmas.GrowthLemmas.{grown-nothing}
use Rattle.command_line.specs.Words.{Command, command_of}
use Rattle.xm_commands.specs.Answer.{Answer, answer, ending_answer, command_answer, answer_to_read, ending_by, files_saved, saved_all}
use Rattle.run_commands.specs.Contents.{read_all}
use Rattle.file_commands.specs.Ending.{Ending, Done, Usage, ReadFault, Refused, WriteFaultReport, WriteFaultFile, UartFault, NoMemory, complaint, status_of}
use Rattle.file_commands.specs.Denial.{Denial}
use Rattle.file_commands.specs.Outcome.{Output, Outcome, inputs_of, outcome_of, output_of}
use Rattle.xm_commands.specs.Top.{Answers, AreContents, FilesStay, HasCalls, HasCauses, HasNoFault, IsFaultless, IsNotWritten, IsLostAfter, IsQuiet, IsReadCause, IsRefusal, IsSaid, IsWriteCause, OtherFilesStay, writes_of}
use Rattle.file_commands.specs.Work.{counted_by, Outside, Does, IsCarriedOut, IsLostOf, IsMisuse, IsUnread, ReadsFiles, Works, after_store_call, called_for, did, file_in, reported_all, wrote, wrote_all}
use Rattle.file_commands.specs.lemmas.OutputLemmas.{called_for-is, output-named}
use Rattle.xm_commands.proofs.OutsideLemmas.{counted-counted_by, outcome-denied, read_all-absent, known_outcome, wrote-got}
use Rattle.xm_commands.proofs.WrittenLemmas.{did-faults, did-files, did-got, did-read_faults, did-write_faults, did_calls, did_stays, files_same, lost_count, lost_rose, lost_stays, never_lost, reported_calls, reported_stays, wrote-from, wrote_all-from, wrote_all-got}
use Rattle.xm_commands.specs.World.{World, sink_view}
use Rattle.file_commands.specs.declared.status.Status.{Status}
use Rattle.file_commands.specs.declared.status.Status.TheVariants as exit

-- usage comes exactly where the words spell no command
pub usage_exactly : (e : Ending) (contents : List (List ℕ)) (command : Option Command) (before after : Outside) → Works e contents command before after → (status_of e ≡ exit.Usage) ↔ (command ≡ None)
usage_exactly Usage contents None before after w = (λ _. refl, λ _. refl)
usage_exactly Usage contents (Some command) before after w = absurd w
usage_exactly Done contents None before after w = absurd w
usage_exactly Done contents (Some command) before after w = (λ h. cc, λ h. cc)
usage_exactly (ReadFault file) contents None before after w = absurd w
usage_exactly (ReadFault file) contents (Some command) before after w = (λ h. cc, λ h. cc)
usage_exactly (Refused file text) contents None before after w = absurd w
usage_exactly (Refused file text) contents (Some command) before after w = (λ h. cc, λ h. cc)
usage_exactly WriteFaultReport contents None before after w = absurd w
usage_exactly WriteFaultReport contents (Some command) before after w = (λ h. cc, λ h. cc)
usage_exactly (WriteFaultFile file) contents None before after w = absurd w
usage_exactly (WriteFaultFile file) contents (Some command) before after w = (λ h. cc, λ h. cc)
usage_exactly (UartFault place) contents None before after w = absurd w
usage_exactly (UartFault place) contents (Some command) before after w = (λ h. cc, λ h. cc)
usage_exactly NoMemory contents None before after w = absurd w
usage_exactly NoMemory contents (Some command) before after w = (λ h. cc, λ h. cc)

-- What stays.

-- words that spell no command change nothing
misused : (e : Ending) (before after : Outside) → IsMisuse e before after → after ≡ before
misused Done before after w = absurd w
misused Usage before after w = w
misused (ReadFault file) before after w = absurd w
misused (Refused file text) before after w = absurd w
misused WriteFaultReport before after w = absurd w
misused (WriteFaultFile file) before after w = absurd w
misused (UartFault place) before after w = absurd w
misused NoMemory before after w = absurd w

-- the calls for files change no file
called_for-files : (files : List (List ℕ)) (x : Outside) → (called_for files x).files ≡ x.files
called_for-files files x = ap (λ (y : Outside). y.files) (called_for-is files x)

-- the files stay as they do after the calls for those that are read
stays_from : (command : Command) (before : Outside) (now : Option Files) → FilesStay (writes_of command) (called_for (inputs_of command) before).files now → FilesStay (writes_of command) before.files now
stays_from command before now stays = subst (λ (f : Option Files). FilesStay (writes_of command) f now) (called_for-files (inputs_of command) before) stays

-- every file but those that the words name to be written is as before
pub files_stay : (e : Ending) (contents : List (List ℕ)) (command : Option Command) (before after : Outside) → Works e contents command before after → OtherFilesStay command before.files after.files
files_stay e contents None before after w = ap (λ (x : Outside). x.files) (misused e before after w)
files_stay e contents (Some command) before after w = done e w
  where
    as_before : after.files ≡ before.files → FilesStay (writes_of command) before.files after.files
    as_before same = subst (λ (f : Option Files). FilesStay (writes_of command) before.files f) (sym same) (files_same (writes_of command) before.files)

    from_read : (now : Outside) → after.files ≡ now.files → FilesStay (writes_of command) (called_for (inputs_of command) before).files now.files → FilesStay (writes_of command) before.files after.files
    from_read now same stays = subst (λ (f : Option Files). FilesStay (writes_of command) before.files f) (sym same) (stays_from command before now.files stays)

    carried : (d : Option Denial) → IsCarriedOut d contents command before after → FilesStay (writes_of command) before.files after.files
    carried d w = from_read (did (outcome_of command contents) (called_for (inputs_of command) before)) (ap (λ (x : Outside). x.files) w.outside) (did_stays command contents (called_for (inputs_of command) before))

    done : (e : Ending) → Does e contents command before after → FilesStay (writes_of command) before.files after.files
    done Done w = carried None w
    done Usage w = absurd w
    done (ReadFault file) w = as_before (ap (λ (x : Outside). x.files) w.outside ∙ called_for-files w.first before)
    done (Refused file text) w = carried _ w
    done WriteFaultReport w =
        from_read (reported_all (outcome_of command contents) (called_for (inputs_of command) before)) (ap (λ (x : Outside). x.files) w.outside) (reported_stays command contents (called_for (inputs_of command) before))
    done (WriteFaultFile file) w = stays_from command before after.files (lost_stays command contents file (called_for (inputs_of command) before) after w.lost)
    done (UartFault place) w = carried None w.carried
    done NoMemory w = as_before (ap (λ (x : Outside). x.files) w.outside ∙ called_for-files w.first before)

-- a command that is refused leaves the files
denied-files : (file text : List ℕ) (contents : List (List ℕ)) (command : Command) (before after : Outside) → IsCarriedOut (Some (record { file = file; text = text })) contents command before after → after.files ≡ before.files
denied-files file text contents command before after w =
    ap (λ (x : Outside). x.files) w.outside
    ∙ ap (λ (o : Outcome). (did o (called_for (inputs_of command) before)).files) (outcome-denied command contents _ w.denied)
    ∙ called_for-files (inputs_of command) before

-- a command that is refused leaves the report
denied-report : (file text : List ℕ) (contents : List (List ℕ)) (command : Command) (before after : Outside) → IsCarriedOut (Some (record { file = file; text = text })) contents command before after → after.got ≡ before.got
denied-report file text contents command before after w =
    ap (λ (x : Outside). x.got) w.outside
    ∙ ap (λ (o : Outcome). (did o (called_for (inputs_of command) before)).got) (outcome-denied command contents _ w.denied)
    ∙ grown-nothing (called_for (inputs_of command) before).got
    ∙ ap (λ (x : Outside). x.got) (called_for-is (inputs_of command) before)

-- a status that is none of the quiet ones is not quiet
pub loud : (status : Status) → status ≢ exit.Refused → status ≢ exit.Usage → status ≢ exit.ReadFault → status ≢ exit.NoMemory → IsQuiet status → ⊥
loud status refused usage read memory q = ⊎_elim refused (λ r. ⊎_elim usage (λ r. ⊎_elim read memory r) r) q

-- after these statuses no file was written
pub barren : (e : Ending) (contents : List (List ℕ)) (command : Option Command) (before after : Outside) → Works e contents command before after → IsQuiet (status_of e) → after.files ≡ before.files
barren e contents None before after w q = ap (λ (x : Outside). x.files) (misused e before after w)
barren Done contents (Some command) before after w q = absurd (loud exit.Done (λ h. cc) (λ h. cc) (λ h. cc) (λ h. cc) q)
barren Usage contents (Some command) before after w q = absurd w
barren (ReadFault file) contents (Some command) before after w q = ap (λ (x : Outside). x.files) w.outside ∙ called_for-files w.first before
barren (Refused file text) contents (Some command) before after w q = denied-files file text contents command before after w
barren WriteFaultReport contents (Some command) before after w q = absurd (loud exit.WriteFault (λ h. cc) (λ h. cc) (λ h. cc) (λ h. cc) q)
barren (WriteFaultFile file) contents (Some command) before after w q = absurd (loud exit.WriteFault (λ h. cc) (λ h. cc) (λ h. cc) (λ h. cc) q)
barren (UartFault place) contents (Some command) before after w q = absurd (loud exit.UartFault (λ h. cc) (λ h. cc) (λ h. cc) (λ h. cc) q)
barren NoMemory contents (Some command) before after w q = ap (λ (x : Outside). x.files) w.outside ∙ called_for-files w.first before

-- the calls for files, and all that is done, leave the count of failed writes
carried_writes : (command : Command) (o : Outcome) (x : Outside) → (did o (called_for (inputs_of command) x)).write_faults ≡ x.write_faults
carried_writes command o x = did-write_faults o _ ∙ ap (λ (y : Outside). y.write_faults) (called_for-is (inputs_of command) x)

-- the count of failed writes stays, but after a fault of a write
pub writes_stay : (e : Ending) (contents : List (List ℕ)) (command : Option Command) (before after : Outside) → Works e contents command before after → status_of e ≢ exit.WriteFault → after.write_faults ≡ before.write_faults
writes_stay e contents None before after w other = ap (λ (x : Outside). x.write_faults) (misused e before after w)
writes_stay Done contents (Some command) before after w other = ap (λ (x : Outside). x.write_faults) w.outside ∙ carried_writes command (outcome_of command contents) before
writes_stay Usage contents (Some command) before after w other = absurd w
writes_stay (ReadFault file) contents (Some command) before after w other = ap (λ (x : Outside). x.write_faults) w.outside ∙ ap (λ (y : Outside). y.write_faults) (called_for-is w.first before)
writes_stay (Refused file text) contents (Some command) before after w other = ap (λ (x : Outside). x.write_faults) w.outside ∙ carried_writes command (outcome_of command contents) before
writes_stay WriteFaultReport contents (Some command) before after w other = absurd (other refl)
writes_stay (WriteFaultFile file) contents (Some command) before after w other = absurd (other refl)
writes_stay (UartFault place) contents (Some command) before after w other = ap (λ (x : Outside). x.write_faults) w.carried.outside ∙ carried_writes command (outcome_of command contents) before
writes_stay NoMemory contents (Some command) before after w other = ap (λ (x : Outside). x.write_faults) w.outside ∙ ap (λ (y : Outside). y.write_faults) (called_for-is w.first before)

-- Causes.

-- the calls for all files of a command
all_calls : (command : Command) (before : Outside) → (called_for (inputs_of command) before).calls ≡ counted_by (length (inputs_of command)) before.calls
all_calls command before = ap (λ (x : Outside). x.calls) (called_for-is (inputs_of command) before)

-- the calls of the store are as many as the words name files, at most
calls_as_named : (e : Ending) (contents : List (List ℕ)) (command : Command) (before after : Outside) → Does e contents command before after → HasCalls command before.calls after.calls
calls_as_named Done contents command before after w =
    subst (HasCalls command before.calls) (sym (ap (λ (x : Outside). x.calls) w.outside)) (did_calls command contents before.calls (called_for (inputs_of command) before) (all_calls command before))
calls_as_named Usage contents command before after w = absurd w
calls_as_named (ReadFault file) contents command before after w = record {
  count = suc (length w.first);
  few = (let parts : length (inputs_of command) ≡ length w.first + suc (length w.rest) = ap length w.named ∙ length-append w.first _ in omega arith);
  calls = ap (λ (x : Outside). x.calls) w.outside ∙ ap (λ (x : Outside). (after_store_call x).calls) (called_for-is w.first before) ∙ counted-counted_by (length w.first) before.calls;
}
calls_as_named (Refused file text) contents command before after w =
    subst (HasCalls command before.calls) (sym (ap (λ (x : Outside). x.calls) w.outside)) (did_calls command contents before.calls (called_for (inputs_of command) before) (all_calls command before))
calls_as_named WriteFaultReport contents command before after w =
    subst (HasCalls command before.calls) (sym (ap (λ (x : Outside). x.calls) w.outside)) (reported_calls command contents before.calls (called_for (inputs_of command) before) (all_calls command before))
calls_as_named (WriteFaultFile file) contents command before after w = lost_count command contents before.calls file (called_for (inputs_of command) before) after w.lost (all_calls command before)
calls_as_named (UartFault place) contents command before after w =
    subst (HasCalls command before.calls) (sym (ap (λ (x : Outside). x.calls) w.carried.outside))
    (did_calls command contents before.calls (called_for (inputs_of command) before) (all_calls command before))
calls_as_named NoMemory contents command before after w = record {
  count = length w.first;
  few = (let parts : length (inputs_of command) ≡ length w.first + length w.rest = ap length w.named ∙ length-append w.first w.rest in omega arith);
  calls = ap (λ (x : Outside). x.calls) w.outside ∙ ap (λ (x : Outside). x.calls) (called_for-is w.first before);
}

-- a fault of a read has its cause
read_cause : (e : Ending) (contents : List (List ℕ)) (command : Command) (before after : Outside) → Does e contents command before after → status_of e ≡ exit.ReadFault → IsReadCause (Some command) before after
read_cause Done contents command before after w h = absurd (cc)
read_cause Usage contents command before after w h = absurd w
read_cause (ReadFault file) contents command before after w h =
    ⊎_elim inl (λ absent. inr (record { file = file; named = record { first = w.first; rest = w.rest; among = w.named }; absent = absent })) w.cause
read_cause (Refused file text) contents command before after w h = absurd (cc)
read_cause WriteFaultReport contents command before after w h = absurd (cc)
read_cause (WriteFaultFile file) contents command before after w h = absurd (cc)
read_cause (UartFault place) contents command before after w h = absurd (cc)
read_cause NoMemory contents command before after w h = absurd (cc)

-- a refusal has its cause
refusal_cause : (e : Ending) (contents : List (List ℕ)) (command : Command) (before after : Outside) → Does e contents command before after → status_of e ≡ exit.Refused → IsRefusal (Some command) before after
refusal_cause Done contents command before after w h = absurd (cc)
refusal_cause Usage contents command before after w h = absurd w
refusal_cause (ReadFault file) contents command before after w h = absurd (cc)
refusal_cause (Refused file text) contents command before after w h =
    let known = known_outcome before.files command contents w.read in
    record {
      contents = known.contents;
      are = known.are;
      refused = rw (ap (λ (o : Outcome). o.denial) (sym known.outcome) ∙ w.denied) refl;
      report = denied-report file text contents command before after w;
      files = denied-files file text contents command before after w;
    }
refusal_cause WriteFaultReport contents command before after w h = absurd (cc)
refusal_cause (WriteFaultFile file) contents command before after w h = absurd (cc)
refusal_cause (UartFault place) contents command before after w h = absurd (cc)
refusal_cause NoMemory contents command before after w h = absurd (cc)

-- the file before the report was not written
pub lost_first : (command : Command) (contents : List (List ℕ)) (file : List ℕ) (before after : Outside) → IsLostOf file (file_in (outcome_of command contents).output) (called_for (inputs_of command) before) after → IsNotWritten command before after
lost_first command contents file before after lost = record {
  cause = subst (λ (n : ℕ). Rose n after.write_faults) (ap (λ (x : Outside). x.write_faults) (called_for-is (inputs_of command) before)) lost.cause;
  output = at (outcome_of command contents).output (output-named command contents) lost;
  report = ap (λ (x : Outside). x.got) lost.outside ∙ wrote_all-got lost.first (called_for (inputs_of command) before) ∙ ap (λ (x : Outside). x.got) (called_for-is (inputs_of command) before);
}
  where
    at : (o : Option Output) → ((output : Output) → o ≡ Some output → output_of command ≡ Some output.file) → IsLostOf file (file_in o) (called_for (inputs_of command) before) after → IsSome (output_of command)
    at None named lost = absurd (never_lost file [] _ after refl lost)
    at (Some output) named lost = rw (named output refl) refl

-- all that an outcome has was done but a file after its report, and those after it
pub record IsSomeOf (before after : Outside) (outcome : Outcome) : Type 0 where
  pub first : List Output
  pub output : Output
  pub rest : List Output
  pub split : outcome.later ≡ first ++ output ∷ rest
  pub report : after.got ≡ (reported_all outcome before).got
  pub others : OthersStay (wrote_all first (reported_all outcome before)).files output.file after.files

-- a file after the report was not written
pub lost_some : (command : Command) (outcome : Outcome) (file : List ℕ) (before after : Outside) → IsLostOf file outcome.later (reported_all outcome (called_for (inputs_of command) before)) after → IsSomeOf before after outcome
lost_some command outcome file before after lost =
    let read_from = called_for (inputs_of command) before in
    let files : (reported_all outcome read_from).files ≡ (reported_all outcome before).files = wrote-from outcome.output read_from before (called_for-files (inputs_of command) before) in
    let got : (reported_all outcome read_from).got ≡ (reported_all outcome before).got =
    ap (λ (g : Option (List ℕ)). grown g outcome.report) (wrote-got outcome.output read_from ∙ ap (λ (x : Outside). x.got) (called_for-is (inputs_of command) before) ∙ sym (wrote-got outcome.output before)) in
    record {
      first = lost.first;
      output = lost.output;
      rest = lost.rest;
      split = lost.split;
      report = ap (λ (x : Outside). x.got) lost.outside ∙ wrote_all-got lost.first (reported_all outcome read_from) ∙ got;
      others = subst (λ (f : Option Files). OthersStay f lost.output.file after.files) (wrote_all-from lost.first (reported_all outcome read_from) (reported_all outcome before) files)
          (subst (λ (name : List ℕ). OthersStay (wrote_all lost.first (reported_all outcome read_from)).files name after.files) lost.named lost.others);
    }

lost_later : (command : Command) (contents : List (List ℕ)) (file : List ℕ) (before after : Outside) → ReadsFiles before.files (inputs_of command) contents
    → IsLostOf file (outcome_of command contents).later (reported_all (outcome_of command contents) (called_for (inputs_of command) before)) after → IsLostAfter command before after
lost_later command contents file before after read lost =
    let known = known_outcome before.files command contents read in
    let some : IsSomeOf before after (outcome_of command known.contents) = subst (IsSomeOf before after) known.outcome (lost_some command (outcome_of command contents) file before after lost) in
    let rose : Rose (called_for (inputs_of command) before).write_faults after.write_faults = lost_rose file (outcome_of command contents) (called_for (inputs_of command) before) after (inr lost) in
    record {
      cause = subst (λ (n : ℕ). Rose n after.write_faults) (ap (λ (x : Outside). x.write_faults) (called_for-is (inputs_of command) before)) rose;
      contents = known.contents;
      are = known.are;
      first = some.first;
      output = some.output;
      rest = some.rest;
      split = some.split;
      report = some.report;
      others = some.others;
    }

-- a fault of a write has its cause
write_cause : (e : Ending) (contents : List (List ℕ)) (command : Command) (before after : Outside) → Does e contents command before after → status_of e ≡ exit.WriteFault → IsWriteCause (Some command) before after
write_cause Done contents command before after w h = absurd (cc)
write_cause Usage contents command before after w h = absurd w
write_cause (ReadFault file) contents command before after w h = absurd (cc)
write_cause (Refused file text) contents command before after w h = absurd (cc)
write_cause WriteFaultReport contents command before after w h =
    let known = known_outcome before.files command contents w.read in
    inl (record {
      cause = w.cause;
      contents = known.contents;
      are = known.are;
      front = subst (λ (o : Outcome). GrewByPrefix before.got o.report after.got) known.outcome w.front;
      files = ap (λ (x : Outside). x.files) w.outside
          ∙ wrote-from (outcome_of command contents).output (called_for (inputs_of command) before) before (called_for-files (inputs_of command) before)
          ∙ ap (λ (o : Outcome). (wrote o.output before).files) known.outcome;
    })
write_cause (WriteFaultFile file) contents command before after w h = inr (⊎_elim
    (λ first. inl (lost_first command contents file before after first))
    (λ later. inr (lost_later command contents file before after w.read later))
    w.lost)
write_cause (UartFault place) contents command before after w h = absurd (cc)
write_cause NoMemory contents command before after w h = absurd (cc)

-- a call that is done has finished
pub done_is_finished : (e : Ending) → status_of e ≡ exit.Done → e ≡ Done
done_is_finished Done h = refl
done_is_finished Usage h = absurd (cc)
done_is_finished (ReadFault file) h = absurd (cc)
done_is_finished (Refused file text) h = absurd (cc)
done_is_finished WriteFaultReport h = absurd (cc)
done_is_finished (WriteFaultFile file) h = absurd (cc)
done_is_finished (UartFault place) h = absurd (cc)
done_is_finished NoMemory h = absurd (cc)

-- a call with a fault of a UART was carried out
pub unheard_finished : (e : Ending) (contents : List (List ℕ)) (command : Command) (before after : Outside) → status_of e ≡ exit.UartFault → Does e contents command before after → Does Done contents command before after
unheard_finished Done contents command before after h w = absurd (cc)
unheard_finished Usage contents command before after h w = absurd w
unheard_finished (ReadFault file) contents command before after h w = absurd (cc)
unheard_finished (Refused file text) contents command before after h w = absurd (cc)
unheard_finished WriteFaultReport contents command before after h w = absurd (cc)
unheard_finished (WriteFaultFile file) contents command before after h w = absurd (cc)
unheard_finished (UartFault place) contents command before after h w = w.carried
unheard_finished NoMemory contents command before after h w = absurd (cc)

-- each status has its cause
pub has_causes : (e : Ending) (contents : List (List ℕ)) (command : Option Command) (before after : Outside) → Works e contents command before after → HasCauses (status_of e) command before after
has_causes Done contents None before after w = absurd w
has_causes Usage contents None before after w = record {
  read_fault = λ h. absurd (cc);
  refused = λ h. absurd (cc);
  write_fault = λ h. absurd (cc);
  done = λ h. absurd (cc);
  uart_fault = λ h. absurd (cc);
  calls = ap (λ (x : Outside). x.calls) w;
}
has_causes (ReadFault file) contents None before after w = absurd w
has_causes (Refused file text) contents None before after w = absurd w
has_causes WriteFaultReport contents None before after w = absurd w
has_causes (WriteFaultFile file) contents None before after w = absurd w
has_causes (UartFault place) contents None before after w = absurd w
has_causes NoMemory contents None before after w = absurd w
has_causes e contents (Some command) before after w = record {
  read_fault = read_cause e contents command before after w;
  refused = refusal_cause e contents command before after w;
  write_fault = write_cause e contents command before after w;
  done = λ h. faultless (subst (λ (e : Ending). Does e contents command before after) (done_is_finished e h) w);
  uart_fault = λ h. faultless (unheard_finished e contents command before after h w);
  calls = calls_as_named e contents command before after w;
}
  where
    faultless : Does Done contents command before after → IsFaultless before after
    faultless w = record {
      reads = ap (λ (x : Outside). x.read_faults) w.outside ∙ did-read_faults (outcome_of command contents) (called_for (inputs_of command) before) ∙ ap (λ (x : Outside). x.read_faults) (called_for-is (inputs_of command) before);
      writes = ap (λ (x : Outside). x.write_faults) w.outside ∙ carried_writes command (outcome_of command contents) before;
      report = ap (λ (x : Outside). x.faults) w.outside ∙ did-faults (outcome_of command contents) (called_for (inputs_of command) before) ∙ ap (λ (x : Outside). x.faults) (called_for-is (inputs_of command) before);
    }

-- after these statuses the report has got nothing
pub quiet : (e : Ending) (contents : List (List ℕ)) (command : Option Command) (before after : Outside) → Works e contents command before after → IsQuiet (status_of e) → after.got ≡ before.got
quiet e contents None before after w q = ap (λ (x : Outside). x.got) (misused e before after w)
quiet Done contents (Some command) before after w q = absurd (loud exit.Done (λ h. cc) (λ h. cc) (λ h. cc) (λ h. cc) q)
quiet Usage contents (Some command) before after w q = absurd w
quiet (ReadFault file) contents (Some command) before after w q = ap (λ (x : Outside). x.got) w.outside ∙ ap (λ (x : Outside). x.got) (called_for-is w.first before)
quiet (Refused file text) contents (Some command) before after w q = denied-report file text contents command before after w
quiet WriteFaultReport contents (Some command) before after w q = absurd (loud exit.WriteFault (λ h. cc) (λ h. cc) (λ h. cc) (λ h. cc) q)
quiet (WriteFaultFile file) contents (Some command) before after w q = absurd (loud exit.WriteFault (λ h. cc) (λ h. cc) (λ h. cc) (λ h. cc) q)
quiet (UartFault place) contents (Some command) before after w q = absurd (loud exit.UartFault (λ h. cc) (λ h. cc) (λ h. cc) (λ h. cc) q)
quiet NoMemory contents (Some command) before after w q = ap (λ (x : Outside). x.got) w.outside ∙ ap (λ (x : Outside). x.got) (called_for-is w.first before)

-- a line goes out, or a prefix of it
pub said : {T F : Type 0} (r : Result T F) (line : List ℕ) (had got : Option (List ℕ)) (before now : ℕ) → Writes r had line got → HasCause r before now → IsSaid line (sink_view had before) (sink_view got now)
said (Ok _) line had got before now writes cause = inl (writes, cause)
said (Err _) line had got before now writes cause = inr (writes, cause)

-- The answer.

-- in a world without faults the definition gives this ending, with what went to the report and the files afterwards
pub record AnswersSo (e : Ending) (command : Option Command) (before after : Outside) (files : Files) : Type 0 where
  pub out : List ℕ
  pub kept : Files
  pub answer : command_answer command files ≡ ending_answer e out kept
  pub report : after.got ≡ grown before.got out
  pub files_are : after.files ≡ Some kept

-- a command that was carried out
carried_answer : (e : Ending) (denial : Option Denial) (contents : List (List ℕ)) (command : Command) (before after : Outside) (files : Files) → IsCarriedOut denial contents command before after → before.files ≡ Some files → ending_by denial ≡ e → AnswersSo e (Some command) before after files
carried_answer e denial contents command before after files w known ends =
    let is = known_outcome before.files command contents w.read in
    let are : AreContents (Some files) command is.contents = subst (λ (t : Option Files). AreContents t command is.contents) known is.are in
    let outcome = outcome_of command is.contents in
    let denied : outcome.denial ≡ denial = ap (λ (o : Outcome). o.denial) (sym is.outcome) ∙ w.denied in
    let here : (called_for (inputs_of command) before).files ≡ Some files = called_for-files (inputs_of command) before ∙ known in
    record {
      out = outcome.report;
      kept = saved_all outcome.later (files_saved outcome.output files);
      answer = ap (λ (r : Result (List (List ℕ)) (List ℕ)). answer_to_read command r files) are
          ∙ ap (λ (d : Option Denial). ending_answer (ending_by d) outcome.report (saved_all outcome.later (files_saved outcome.output files))) denied
          ∙ ap (λ (e : Ending). ending_answer e outcome.report (saved_all outcome.later (files_saved outcome.output files))) ends;
      report = ap (λ (x : Outside). x.got) w.outside
          ∙ did-got (outcome_of command contents) (called_for (inputs_of command) before)
          ∙ ap (λ (g : Option (List ℕ)). grown g (outcome_of command contents).report) (ap (λ (x : Outside). x.got) (called_for-is (inputs_of command) before))
          ∙ ap (λ (o : Outcome). grown before.got o.report) is.outcome;
      files_are = ap (λ (x : Outside). x.files) w.outside
          ∙ did-files (outcome_of command contents) (called_for (inputs_of command) before) files here
          ∙ ap (λ (o : Outcome). Some (saved_all o.later (files_saved o.output files))) is.outcome;
    }

-- a file that was not read is the first that is not there
unread_answer : (file : List ℕ) (command : Command) (before after : Outside) (files : Files) → IsUnread file (inputs_of command) before after → before.files ≡ Some files → HasNoFault before after → AnswersSo (ReadFault file) (Some command) before after files
unread_answer file command before after files w known none =
    let absent : IsAbsent (Some files) file = ⊎_elim (λ rose. absurd (none.reads rose)) (λ absent. subst (λ (o : Option Files). IsAbsent o file) known absent) w.cause in
    let read : ReadsFiles (Some files) w.first w.contents = subst (λ (o : Option Files). ReadsFiles o w.first w.contents) known w.read in
    record {
      out = [];
      kept = files;
      answer = ap (λ (names : List (List ℕ)). answer_to_read command (read_all files names) files) w.named
          ∙ ap (λ (r : Result (List (List ℕ)) (List ℕ)). answer_to_read command r files) (read_all-absent files w.first w.rest w.contents file read absent);
      report = ap (λ (x : Outside). x.got) w.outside ∙ ap (λ (x : Outside). x.got) (called_for-is w.first before) ∙ sym (grown-nothing before.got);
      files_are = ap (λ (x : Outside). x.files) w.outside ∙ called_for-files w.first before ∙ known;
    }

-- an ending, in a world in which no UART fails
abbrev pub heard : Ending → Ending
heard Done = Done
heard Usage = Usage
heard (ReadFault file) = ReadFault file
heard (Refused file text) = Refused file text
heard WriteFaultReport = WriteFaultReport
heard (WriteFaultFile file) = WriteFaultFile file
heard (UartFault place) = Done
heard NoMemory = NoMemory

-- where none failed, it is the ending
heard_same : (e : Ending) → status_of e ≢ exit.UartFault → heard e ≡ e
heard_same Done other = refl
heard_same Usage other = refl
heard_same (ReadFault file) other = refl
heard_same (Refused file text) other = refl
heard_same WriteFaultReport other = refl
heard_same (WriteFaultFile file) other = refl
heard_same (UartFault place) other = absurd (other refl)
heard_same NoMemory other = refl

-- in a world without faults the answer is that of the definition
answer_is : (e : Ending) (contents : List (List ℕ)) (command : Option Command) (before after : Outside) (files : Files) → Works e contents command before after → before.files ≡ Some files → HasNoFault before after → status_of e ≢ exit.NoMemory → AnswersSo (heard e) command before after files
answer_is Usage contents None before after files w known none memory = record {
  out = [];
  kept = files;
  answer = refl;
  report = ap (λ (x : Outside). x.got) w ∙ sym (grown-nothing before.got);
  files_are = ap (λ (x : Outside). x.files) w ∙ known;
}
answer_is Done contents None before after files w known none memory = absurd w
answer_is (ReadFault file) contents None before after files w known none memory = absurd w
answer_is (Refused file text) contents None before after files w known none memory = absurd w
answer_is WriteFaultReport contents None before after files w known none memory = absurd w
answer_is (WriteFaultFile file) contents None before after files w known none memory = absurd w
answer_is (UartFault place) contents None before after files w known none memory = absurd w
answer_is NoMemory contents None before after files w known none memory = absurd w
answer_is Done contents (Some command) before after files w known none memory = carried_answer Done None contents command before after files w known refl
answer_is Usage contents (Some command) before after files w known none memory = absurd w
answer_is (ReadFault file) contents (Some command) before after files w known none memory = unread_answer file command before after files w known none
answer_is (Refused file text) contents (Some command) before after files w known none memory = carried_answer (Refused file text) _ contents command before after files w known refl
answer_is WriteFaultReport contents (Some command) before after files w known none memory = absurd (none.report w.cause)
answer_is (WriteFaultFile file) contents (Some command) before after files w known none memory =
    let rose = lost_rose file (outcome_of command contents) (called_for (inputs_of command) before) after w.lost in
    absurd (none.writes (subst (λ (n : ℕ). Rose n after.write_faults) (ap (λ (x : Outside). x.write_faults) (called_for-is (inputs_of command) before)) rose))
answer_is (UartFault place) contents (Some command) before after files w known none memory = carried_answer Done None contents command before after files w.carried known refl
answer_is NoMemory contents (Some command) before after files w known none memory = absurd (memory refl)

-- the answer of words is that of their command
answer-command : (words : List (List ℕ)) (files : Files) → answer words files ≡ command_answer (command_of words) files
unfolding answer
answer-command words files = refl

-- in a world without faults the answer is that of the definition
pub answers : (e : Ending) (contents : List (List ℕ)) (words : List (List ℕ)) (before after : World) → Works e contents (command_of words) before.disk after.disk → IsSaid (complaint e) before.errors after.errors → Answers (status_of e) words before after
answers e contents words before after w line = record {
  answered = λ files known none memory well.
      let is = answer_is e contents (command_of words) before.disk after.disk files w known none memory in
      sym (ap (λ (a : Answer). a.status) (answer-command words files ∙ is.answer) ∙ ap status_of (heard_same e well));
  report = λ files known none memory.
      let is = answer_is e contents (command_of words) before.disk after.disk files w known none memory in
      is.report ∙ sym (ap (λ (a : Answer). grown before.disk.got a.out) (answer-command words files ∙ is.answer));
  files = λ files known none memory.
      let is = answer_is e contents (command_of words) before.disk after.disk files w known none memory in
      is.files_are ∙ sym (ap (λ (a : Answer). Some a.files) (answer-command words files ∙ is.answer));
  error = λ files known none memory well still.
      let is = answer_is e contents (command_of words) before.disk after.disk files w known none memory in
      ⊎_elim
      (λ whole. whole.0 ∙ ap (λ (x : Ending). grown before.errors.got (complaint x)) (sym (heard_same e well)) ∙ sym (ap (λ (a : Answer). grown before.errors.got a.err) (answer-command words files ∙ is.answer)))
      (λ cut. absurd (still cut.1)) line;
}
