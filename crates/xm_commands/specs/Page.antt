-- The promises of `xm_main` on one page: what a call answers to its words, in a world, and how it leaves that world.
use Rattle.std.specs.Prelude.{◌≡◌, ◌≢◌, ◌↔◌, ℕ, List, None}
use Rattle.command_line.specs.Words.{command_of}
use Rattle.file_commands.specs.Ending.{Ending, complaint, status_of}
use Rattle.file_commands.specs.Work.{Works}
use Rattle.run_commands.specs.Boards.{Plays}
use Rattle.xm_commands.specs.Complete.{Completes}
use Rattle.xm_commands.specs.Continued.{GoesOnFromSave, StoresNumbers}
use Rattle.xm_commands.specs.Played.{IsMarked}
use Rattle.xm_commands.specs.Separation.{AreShownAlone, ReplaysAlone, ShowsAlone, ShowsPart}
use Rattle.xm_commands.specs.Top.{Answers, HasCauses, IsCompleteStatus, IsQuiet, IsSaid, OtherFilesStay}
use Rattle.xm_commands.specs.World.{World}
use Rattle.file_commands.specs.declared.status.Status.{Status}
use Rattle.file_commands.specs.declared.status.Status.TheVariants.{Usage, WriteFault, UartFault}

-- how a call ended, and the contents of the files that it read
pub record Account : Type 0 where
  pub ending : Ending
  pub contents : List (List ℕ)

-- the status answers these words, in the world before, and the call leaves the world after
pub record IsAnswer (status : Status) (words : List (List ℕ)) (before after : World) : Type 0 where
  -- There is one account of the call: how it ended, and what the files held that it read.
  pub by : Account
  -- The status is that of the ending.
  pub answered : status ≡ status_of by.ending
  -- The error output got the line of the ending, or a prefix of it if that output failed.
  pub line : IsSaid (complaint by.ending) before.errors after.errors
  -- The files and the report are as this ending leaves them, after these contents were read.
  pub worked : Works by.ending by.contents (command_of words) before.disk after.disk
  -- Each UART got the run's console bytes, up to its end or to the tick that cut the report, or failed and is marked.
  pub played : Plays by.ending by.contents (command_of words) before.disk.got after.disk.got before.board after.board
  -- After a complete run of these contents, the report and the files show each partition as it is alone.
  pub alone : IsCompleteStatus status → AreShownAlone ShowsAlone by.contents (command_of words) before.disk after.disk
  -- After WriteFault, what was written of the report and of the files shows each partition so as far as it goes.
  pub part : status ≡ WriteFault → AreShownAlone ShowsPart by.contents (command_of words) before.disk after.disk
  -- If the store's files are known and nothing fails, the status, report, files and line are those of `answer`.
  pub answers : Answers status words before after
  -- Each status has its cause. The store is called at most once for each time that the words name a file.
  pub causes : HasCauses status (command_of words) before.disk after.disk
  -- The status is Usage exactly when the words are no command.
  pub usage : (status ≡ Usage) ↔ (command_of words ≡ None)
  -- A command against which nothing stands is done, or memory ran out.
  pub complete : Completes status (command_of words) before after
  -- A replay by the script of a run, with the upsets of that run, is not refused, and shows the partition's part of that run.
  pub replayed : ReplaysAlone status (command_of words) before after
  -- After a complete run that saves its machine, the numbers of that machine are in their ranges, as `continued` asks.
  pub stored : IsCompleteStatus status → StoresNumbers (command_of words) before.disk.files
  -- A run from the saved machine of a run reads it back, and shows what the run in one piece has after those ticks.
  pub continued : GoesOnFromSave status (command_of words) before after
  -- After UartFault a place of the board is marked.
  pub marked : status ≡ UartFault → IsMarked after.board
  -- After Refused, Usage, ReadFault and NoMemory the board is as before.
  pub still : IsQuiet status → after.board ≡ before.board
  -- After Refused, Usage, ReadFault and NoMemory the report got nothing.
  pub quiet : IsQuiet status → after.disk.got ≡ before.disk.got
  -- After Refused, Usage, ReadFault and NoMemory every file is as before.
  pub barren : IsQuiet status → after.disk.files ≡ before.disk.files
  -- Every file is as before, except those that the words name to be written.
  pub files : OtherFilesStay (command_of words) before.disk.files after.disk.files
  -- The count of failed writes is as before, except after WriteFault.
  pub writes : status ≢ WriteFault → after.disk.write_faults ≡ before.disk.write_faults
