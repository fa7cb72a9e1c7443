-- When a command is done.
use Rattle.std.proofs.Common.{◌≡◌, ◌⊎◌, inl, inr, ⊎_elim, ℕ, List, Option, Some, None, refl, sym, ap, ◌∙◌, subst}
use Rattle.std.specs.Prelude.{IsNone, IsSome}
use Rattle.xm_outside.specs.Causes.{Rose}
use Rattle.uart_board.specs.Views.{BoardView, mark_at}
use Rattle.command_line.specs.Words.{Command}
use Rattle.file_commands.specs.Ending.{Ending, Done, Usage, ReadFault, Refused, WriteFaultReport, WriteFaultFile, UartFault, NoMemory, status_of}
use Rattle.file_commands.specs.lemmas.OutputLemmas.{called_for-is}
use Rattle.file_commands.specs.Outcome.{Outcome, Running, inputs_of, outcome_of}
use Rattle.file_commands.specs.Work.{Does, Outside, Works, called_for}
use Rattle.run_commands.specs.Boards.{HasNoMark, LeavesBoard, Plays}
use Rattle.xm_commands.specs.Complete.{Completes, IsUnhindered}
use Rattle.xm_commands.specs.World.{World}
use Rattle.xm_commands.proofs.OutsideLemmas.{known_outcome}
use Rattle.xm_commands.proofs.WrittenLemmas.{lost_rose}
use Rattle.file_commands.specs.declared.status.Status.TheVariants as status

-- a place has a mark or none
not_both : {T : Type 0} (mark : Option T) → IsSome mark → IsNone mark → ⊥
not_both None some none = absurd (cc)
not_both (Some x) some none = absurd (cc)

-- a call that ended for a UART left a mark
marked_not : (place : ℕ) (run : Option Running) (had got : Option (List ℕ)) (board left : BoardView) → LeavesBoard (UartFault place) run had got board left → HasNoMark left → ⊥
marked_not place None had got board left leaves none = leaves
marked_not place (Some run) had got board left leaves none = not_both (mark_at place left.marks) leaves.marked.marked (none place)

-- a command against which nothing stands, by how it ended
unhindered : (e : Ending) (contents : List (List ℕ)) (command : Command) (before after : World) → Does e contents command before.disk after.disk
    → LeavesBoard e (outcome_of command contents).run before.disk.got after.disk.got before.board after.board → IsUnhindered command before after → (status_of e ≡ status.Done) ⊎ (status_of e ≡ status.NoMemory)
unhindered Done contents command before after w plays none = inl refl
unhindered Usage contents command before after w plays none = absurd w
unhindered (ReadFault file) contents command before after w plays none =
    absurd (⊎_elim none.faultless.reads (λ absent. none.there (record { file = file; named = record { first = w.first; rest = w.rest; among = w.named }; absent = absent })) w.cause)
unhindered (Refused file text) contents command before after w plays none =
    let known = known_outcome before.disk.files command contents w.read in
    let both = sym (none.granted known.contents known.are) ∙ ap (λ (o : Outcome). o.denial) (sym known.outcome) ∙ w.denied in
    absurd (cc)
unhindered WriteFaultReport contents command before after w plays none = absurd (none.faultless.report w.cause)
unhindered (WriteFaultFile file) contents command before after w plays none =
    let rose = lost_rose file (outcome_of command contents) (called_for (inputs_of command) before.disk) after.disk w.lost in
    absurd (none.faultless.writes (subst (λ (n : ℕ). Rose n after.disk.write_faults) (ap (λ (x : Outside). x.write_faults) (called_for-is (inputs_of command) before.disk)) rose))
unhindered (UartFault place) contents command before after w plays none = absurd (marked_not place (outcome_of command contents).run before.disk.got after.disk.got before.board after.board plays none.unmarked)
unhindered NoMemory contents command before after w plays none = inr refl

pub completes : (e : Ending) (contents : List (List ℕ)) (command : Option Command) (before after : World) → Works e contents command before.disk after.disk
    → Plays e contents command before.disk.got after.disk.got before.board after.board → Completes (status_of e) command before after
completes e contents None before after w plays = tt
completes e contents (Some command) before after w plays = unhindered e contents command before after w plays
