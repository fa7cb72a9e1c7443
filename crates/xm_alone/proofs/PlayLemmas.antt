-- What a replay prints and says, cue by cue.
use Rattle.std.proofs.Common.{◌≡◌, ℕ, ◌+◌, ◌<◌, ◌≤◌, Bool, true, false, if◌then◌else◌, List, [], ◌∷◌, ◌++◌, length, drop, take, Option, Result, Ok, Err, refl, sym, ap, subst, ◌∙◌, arith, append_assoc, length-append}
use Rattle.std.proofs.Math.Seq.{take-append-add, take-append_seam, take-length}
use Rattle.std.proofs.lemmas.List.{append-nil, take-append-drop, take-append-le}
use Rattle.xm_outside.specs.Growth.{GrewByPrefix, Writes, grown}
use Rattle.xm_outside.specs.lemmas.GrowthLemmas.{grown-nothing, grown_grown}
use Rattle.xm_report.specs.Report.{ReportLine, text_of, texts}
use Rattle.xm_report.specs.lemmas.ReportLemmas.{texts-append}
use Rattle.xm_report.specs.declared.output.WriteFault.{WriteFault}
use Rattle.uart_board.specs.Heard.{IsHeard, IsHeardAt}
use Rattle.uart_board.specs.lemmas.HeardLemmas.{heard_nothing, heard_then}
use Rattle.uart_board.specs.Views.{BoardView, mark_at, view_at}
use Rattle.machine_model.specs.Alone.{Alone}
use Rattle.machine_model.specs.Cue.{Cue}
use Rattle.machine_model.specs.Laws.{part}
use Rattle.machine_model.specs.Lines.{end_line}
use Rattle.machine_model.specs.Lists.{is_number}
use Rattle.machine_model.specs.Machine.{Machine}
use Rattle.machine_model.specs.View.{PartitionView, System, part_of, view_of}
use Rattle.span_model.specs.Passes.{part_at}
use Rattle.replay_model.specs.Passes.{part_in}
use Rattle.replay_model.specs.Step.{IsOfSystem}
use Rattle.recording_model.specs.Replayed.{cue_lines, replay_lines, replayed}
use Rattle.upset_model.specs.declared.upset_line.UpsetLine.{UpsetLine}
use Rattle.xm_alone.specs.Replay.{IsCutReplay, IsReplay, IsReplayed, IsWholeReplay, halted_by, lone_in}
use Rattle.xm_alone.specs.Shown.{IsCutShowing}
use Rattle.xm_alone.specs.lemmas.Struck.{IsStruckLone, own_at, said_struck, script_said, tick_lines, tick_said}
use Rattle.recording_model.specs.Lone.{Lone, booted_alone, own_view, replay_said}
use Rattle.xm_alone.proofs.FollowLemmas.{IsFollowing, cue_lines_add, lines_more, none_followed, one_after, one_followed, rest_lines, said_more}

-- the same bytes to each UART
pub heard_as : (said other : ℕ → List ℕ) (before after : BoardView) → ((uart : ℕ) → said uart ≡ other uart) → IsHeard said before after → IsHeard other before after
heard_as said other before after same heard place =
    subst (λ (bytes : List ℕ). IsHeardAt bytes (view_at place before) (mark_at place before.marks) (view_at place after) (mark_at place after.marks)) (same place) (heard place)

-- bytes for a console, and then more for it
both_said : (is : Bool) (one other : List ℕ) → (if is then one else []) ++ (if is then other else []) ≡ (if is then one ++ other else [])
both_said true one other = refl
both_said false one other = refl

-- partition p has followed the first cues, and the next has this number; their lines went out, and their console bytes were said
pub record IsPlaying (upsets : List UpsetLine) (p tick : ℕ) (cues left : List Cue) (old now : Machine) (had got : Option (List ℕ)) (first board : BoardView) : Type 0 where
  pub before : List Cue
  pub following : IsFollowing upsets p cues before left old now
  pub count : tick ≡ length before
  pub report : got ≡ grown had (texts (cue_lines upsets (view_of old.system p) before))
  pub heard : IsHeard (replay_said upsets (lone_in old p) before) first board

no_bytes : (is : Bool) → ◌≡◌ {A = List ℕ} [] (if is then [] else [])
no_bytes true = refl
no_bytes false = refl

-- none was done yet
pub none_played : (upsets : List UpsetLine) (p : ℕ) (cues left : List Cue) (g : Machine) (had : Option (List ℕ)) (board : BoardView) → left ≡ cues → lone_in g p ≡ booted_alone g.system p → IsPlaying upsets p 0 cues left g g had had board board
none_played upsets p cues left g had board all fresh = record {
  before = [];
  following = none_followed upsets p cues left g all fresh;
  count = refl;
  report = sym (grown-nothing had);
  heard = heard_as (λ uart. []) (replay_said upsets (lone_in g p) []) board board (λ uart. no_bytes (is_number (part_of g.system.conf p).console uart)) (heard_nothing board);
}

-- the lines of one more
lines_then : (upsets : List UpsetLine) (view : PartitionView) (before : List Cue) (a : Alone) (lines : List UpsetLine) (cue : Cue) (had mid got : Option (List ℕ)) → lines ≡ own_at upsets view (length before)
    → a ≡ replayed upsets view before → mid ≡ grown had (texts (cue_lines upsets view before))
    → got ≡ grown mid (texts (tick_lines view lines a cue)) → got ≡ grown had (texts (cue_lines upsets view (before ++ cue ∷ [])))
lines_then upsets view before a lines cue had mid got its is first adds =
    let earlier = cue_lines upsets view before in
    let last = tick_lines view lines a cue in
    adds ∙ ap (λ m. grown m (texts last)) first ∙ grown_grown had (texts earlier) (texts last) ∙ ap (grown had) (sym (texts-append earlier last))
    ∙ ap (λ (b : Alone). grown had (texts (earlier ++ tick_lines view lines b cue))) is ∙ ap (λ all. grown had (texts all)) (sym (lines_more upsets view before cue lines its))

-- the console bytes of one more
said_then : (upsets : List UpsetLine) (p : ℕ) (old now : Machine) (before : List Cue) (lines : List UpsetLine) (cue : Cue) (first mid board : BoardView) → lines ≡ own_at upsets (view_of old.system p) (length before)
    → now.system ≡ old.system → part_in now p ≡ replayed upsets (view_of old.system p) before
    → IsHeard (replay_said upsets (lone_in old p) before) first mid → IsHeard (said_struck now p lines cue) mid board → IsHeard (replay_said upsets (lone_in old p) (before ++ cue ∷ [])) first board
said_then upsets p old now before lines cue first mid board its same is heard more =
    let view = view_of old.system p in
    heard_as (λ uart. replay_said upsets (lone_in old p) before uart ++ said_struck now p lines cue uart) (replay_said upsets (lone_in old p) (before ++ cue ∷ [])) first board
    (λ uart.
    ap (λ (system : System). replay_said upsets (lone_in old p) before uart ++ (if is_number (part_of system.conf p).console uart then tick_said (view_of system p) lines (part_in now p) cue else [])) same
    ∙ ap (λ (a : Alone). replay_said upsets (lone_in old p) before uart ++ (if is_number (part_of old.system.conf p).console uart then tick_said view lines a cue else [])) is
    ∙ both_said (is_number (part_of old.system.conf p).console uart) (script_said upsets view before) (tick_said view lines (replayed upsets view before) cue)
    ∙ ap (λ bytes. if is_number (part_of old.system.conf p).console uart then bytes else []) (sym (said_more upsets view before cue lines its)))
    (heard_then (replay_said upsets (lone_in old p) before) (said_struck now p lines cue) first mid board heard more)

-- one more is played
pub one_played : (upsets : List UpsetLine) (p tick : ℕ) (cues left : List Cue) (lines : List UpsetLine) (cue : Cue) (later : List Cue) (old now next : Machine) (had mid got : Option (List ℕ)) (first between board : BoardView) → left ≡ cue ∷ later
    → IsPlaying upsets p tick cues left old now had mid first between → lines ≡ own_at upsets (view_of old.system p) tick → IsStruckLone p lines cue now next → IsOfSystem now next
    → got ≡ grown mid (texts (tick_lines (view_of now.system p) lines (part_in now p) cue)) → IsHeard (said_struck now p lines cue) between board
    → IsPlaying upsets p (tick + 1) cues later old next had got first board
one_played upsets p tick cues left lines cue later old now next had mid got first between board starts is these one same goes heard =
    let its : lines ≡ own_at upsets (view_of old.system p) (length is.before) = these ∙ ap (own_at upsets (view_of old.system p)) is.count in
    record {
      before = is.before ++ cue ∷ [];
      following = one_followed upsets p cues is.before left lines cue later old now next starts its is.following one same;
      count = omega (arith, is.count, one_after is.before cue);
      report = lines_then upsets (view_of old.system p) is.before (part_in now p) lines cue had mid got its is.following.part is.report
          (goes ∙ ap (λ (system : System). grown mid (texts (tick_lines (view_of system p) lines (part_in now p) cue))) is.following.system.system);
      heard = said_then upsets p old now is.before lines cue first between board its is.following.system.system is.following.part is.heard heard;
    }

-- a prefix of a text is a prefix of a longer one
pub front_of : (had got : Option (List ℕ)) (a b whole : List ℕ) (cut : GrewByPrefix had a got) → a ++ b ≡ whole → got ≡ grown had (take cut.count whole)
front_of had got a b whole cut all =
    let within : cut.count ≤ length a = omega (arith, cut.short) in
    cut.grew ∙ ap (grown had) (sym (take-append-le cut.count a b within) ∙ ap (take cut.count) all)

-- a text went out, and then a prefix of another
pub beyond : (had mid got : Option (List ℕ)) (a b rest whole : List ℕ) → mid ≡ grown had a → (cut : GrewByPrefix mid b got) → (a ++ b) ++ rest ≡ whole → got ≡ grown had (take (length a + cut.count) whole)
beyond had mid got a b rest whole first cut all =
    let within : length a + cut.count ≤ length (a ++ b) = omega (arith, cut.short, length-append a b) in
    cut.grew ∙ ap (λ m. grown m (take cut.count b)) first ∙ grown_grown had a (take cut.count b)
    ∙ ap (grown had) (sym (take-append-add a b cut.count) ∙ sym (take-append-le (length a + cut.count) (a ++ b) rest within) ∙ ap (take (length a + cut.count)) all)

-- the lines of the first cues are no longer than those of more
first_lines : (upsets : List UpsetLine) (view : PartitionView) (xs ys : List Cue) → length (texts (cue_lines upsets view xs)) ≤ length (texts (cue_lines upsets view (xs ++ ys)))
first_lines upsets view xs ys =
    let more = rest_lines upsets view xs ys in
    omega (arith, ap (λ (lines : List ReportLine). length (texts lines)) (cue_lines_add upsets view xs ys), ap (λ (bytes : List ℕ). length bytes) (texts-append (cue_lines upsets view xs) more), length-append (texts (cue_lines upsets view xs)) (texts more))

-- those of fewer of them, too
fewer_lines : (upsets : List UpsetLine) (view : PartitionView) (k : ℕ) (xs ys : List Cue) → k ≤ length xs → length (texts (cue_lines upsets view (take k (xs ++ ys)))) ≤ length (texts (cue_lines upsets view xs))
fewer_lines upsets view k xs ys within =
    let front : length (texts (cue_lines upsets view (take k (xs ++ ys)))) ≡ length (texts (cue_lines upsets view (take k xs))) = ap (λ some. length (texts (cue_lines upsets view some))) (take-append-le k xs ys within) in
    let back : length (texts (cue_lines upsets view (take k xs ++ drop k xs))) ≡ length (texts (cue_lines upsets view xs)) = ap (λ some. length (texts (cue_lines upsets view some))) (take-append-drop k xs) in
    omega (arith, front, back, first_lines upsets view (take k xs) (drop k xs))

-- the lines of one more went out in part
pub cut_showing : (upsets : List UpsetLine) (old : Lone) (cues before : List Cue) (lines : List UpsetLine) (cue : Cue) (later : List Cue) (had mid got : Option (List ℕ)) (first board : BoardView) → lines ≡ own_at upsets (own_view old) (length before)
    → (before ++ cue ∷ []) ++ later ≡ cues
    → mid ≡ grown had (texts (cue_lines upsets (own_view old) before)) → GrewByPrefix mid (texts (tick_lines (own_view old) lines (replayed upsets (own_view old) before) cue)) got
    → IsHeard (replay_said upsets old (before ++ cue ∷ [])) first board
    → (showing : IsCutShowing upsets cues (cue_lines upsets (own_view old) cues) old had got first board) × (showing.done ≡ length (before ++ cue ∷ []))
cut_showing upsets old cues before its_lines cue later had mid got first board its split report grew heard =
    let view = own_view old in
    let done = before ++ cue ∷ [] in
    let front : take (length done) cues ≡ done = ap (take (length done)) (sym split) ∙ take-append_seam done later in
    let lines = cue_lines upsets view before in
    let last = tick_lines view its_lines (replayed upsets view before) cue in
    let others = rest_lines upsets view done later in
    let all : (texts lines ++ texts last) ++ texts others ≡ texts (cue_lines upsets view cues) =
    ap (λ bytes. bytes ++ texts others) (sym (texts-append lines last)) ∙ sym (texts-append (lines ++ last) others)
    ∙ ap (λ (front : List ReportLine). texts (front ++ others)) (sym (lines_more upsets view before cue its_lines its))
    ∙ ap texts (sym (cue_lines_add upsets view done later)) ∙ ap (λ script. texts (cue_lines upsets view script)) split in (
      record {
        done = length done;
        within = omega (arith, length-append done later, ap (λ (xs : List Cue). length xs) split);
        report = record {
          count = length (texts lines) + grew.count;
          short = omega (arith, grew.short, length-append (texts lines ++ texts last) (texts others), length-append (texts lines) (texts last), ap (λ (bytes : List ℕ). length bytes) all);
          grew = beyond had mid got (texts lines) (texts last) (texts others) (texts (cue_lines upsets view cues)) report grew all;
        };
        heard = subst (λ some. IsHeard (replay_said upsets old some) first board) (sym front) heard;
        whole = λ k earlier.
            let within : k ≤ length before = omega (arith, earlier, length-append before (cue ∷ [])) in
            let same : length (texts (cue_lines upsets view (take k (before ++ (cue ∷ later))))) ≡ length (texts (cue_lines upsets view (take k cues))) =
            ap (λ script. length (texts (cue_lines upsets view (take k script)))) (sym (append_assoc before (cue ∷ []) later) ∙ split) in
            omega (arith, same, fewer_lines upsets view k before (cue ∷ later) within);
        cut = λ later_left.
            let same : length (texts (cue_lines upsets view (take (length done) cues))) ≡ length (texts (cue_lines upsets view done)) = ap (λ some. length (texts (cue_lines upsets view some))) front in
            let here : length (texts (cue_lines upsets view done)) ≡ length (texts (lines ++ last)) = ap (λ (all : List ReportLine). length (texts all)) (lines_more upsets view before cue its_lines its) in
            omega (arith, grew.short, same, here, ap (λ (bytes : List ℕ). length bytes) (texts-append lines last), length-append (texts lines) (texts last));
      },
      refl,
    )

-- and no more cues were done
with_left : (upsets : List UpsetLine) (cues : List Cue) (lines : List ReportLine) (old new : Lone) (had got : Option (List ℕ)) (first board : BoardView) (showing : IsCutShowing upsets cues lines old had got first board)
    → IsReplayed upsets (take showing.done cues) old new → IsCutReplay upsets cues lines old new had got first board
with_left upsets cues lines old new had got first board showing left =
    record { done = showing.done; within = showing.within; left = left; report = showing.report; heard = showing.heard; whole = showing.whole; cut = showing.cut }

pub one_cut : (upsets : List UpsetLine) (p tick : ℕ) (cues left : List Cue) (lines : List UpsetLine) (cue : Cue) (later : List Cue) (old now next : Machine) (had mid got : Option (List ℕ)) (first between board : BoardView) → left ≡ cue ∷ later
    → IsPlaying upsets p tick cues left old now had mid first between → lines ≡ own_at upsets (view_of old.system p) tick → IsStruckLone p lines cue now next → IsOfSystem now next
    → GrewByPrefix mid (texts (tick_lines (view_of now.system p) lines (part_in now p) cue)) got → IsHeard (said_struck now p lines cue) between board
    → IsCutReplay upsets cues (cue_lines upsets (view_of old.system p) cues) (lone_in old p) (lone_in next p) had got first board
one_cut upsets p tick cues left lines cue later old now next had mid got first between board starts is these one same grew heard =
    let view = view_of old.system p in
    let its : lines ≡ own_at upsets view (length is.before) = these ∙ ap (own_at upsets view) is.count in
    let next_is = one_followed upsets p cues is.before left lines cue later old now next starts its is.following one same in
    let done = is.before ++ cue ∷ [] in
    let grew_here : GrewByPrefix mid (texts (tick_lines view lines (part_in now p) cue)) got =
    subst (λ (system : System). GrewByPrefix mid (texts (tick_lines (view_of system p) lines (part_in now p) cue)) got) is.following.system.system grew in
    let showing = cut_showing upsets (lone_in old p) cues is.before lines cue later had mid got first board its next_is.split is.report
    (subst (λ (a : Alone). GrewByPrefix mid (texts (tick_lines view lines a cue)) got) is.following.part grew_here)
    (said_then upsets p old now is.before lines cue first between board its is.following.system.system is.following.part is.heard heard) in
    let front : take showing.0.done cues ≡ done = ap (λ n. take n cues) showing.1 ∙ ap (take (length done)) (sym next_is.split) ∙ take-append_seam done later in
    with_left upsets cues (cue_lines upsets view cues) (lone_in old p) (lone_in next p) had got first board showing.0
    (record { part = next_is.part ∙ ap (replayed upsets view) (sym front); halted = next_is.halted ∙ ap (halted_by false) (sym front); system = next_is.system.system; p = refl })

-- the cues are not played whole: no more goes out
pub showing_short : (upsets : List UpsetLine) (cues : List Cue) (old : Lone) (had got : Option (List ℕ)) (first board : BoardView) (cut : IsCutShowing upsets cues (cue_lines upsets (own_view old) cues) old had got first board)
    → (showing : IsCutShowing upsets cues (replay_lines upsets (own_view old) cues) old had got first board) × (showing.done ≡ cut.done)
showing_short upsets cues old had got first board cut =
    let view = own_view old in
    let last = end_line view.id (replayed upsets view cues).state ∷ [] in (
      record {
        done = cut.done;
        within = cut.within;
        report = record {
          count = cut.report.count;
          short = omega (arith, cut.report.short, ap (λ (bytes : List ℕ). length bytes) (texts-append (cue_lines upsets view cues) last), length-append (texts (cue_lines upsets view cues)) (texts last));
          grew = front_of had got (texts (cue_lines upsets view cues)) (texts last) (texts (replay_lines upsets view cues)) cut.report (sym (texts-append (cue_lines upsets view cues) last));
        };
        heard = cut.heard;
        whole = cut.whole;
        cut = cut.cut;
      },
      refl,
    )

pub cut_short : (upsets : List UpsetLine) (cues : List Cue) (old new : Lone) (had got : Option (List ℕ)) (first board : BoardView) → IsCutReplay upsets cues (cue_lines upsets (own_view old) cues) old new had got first board
    → IsCutReplay upsets cues (replay_lines upsets (own_view old) cues) old new had got first board
cut_short upsets cues old new had got first board cut =
    let showing = showing_short upsets cues old had got first board (record { done = cut.done; within = cut.within; report = cut.report; heard = cut.heard; whole = cut.whole; cut = cut.cut }) in
    with_left upsets cues (replay_lines upsets (own_view old) cues) old new had got first board showing.0 (subst (λ n. IsReplayed upsets (take n cues) old new) (sym showing.1) cut.left)

-- the line of the end is that of what the cues left
end_is : (upsets : List UpsetLine) (p : ℕ) (old now : Machine) (cues : List Cue) → part_in now p ≡ replayed upsets (view_of old.system p) cues
    → end_line p (part_at p now) ≡ end_line (view_of old.system p).id (replayed upsets (view_of old.system p) cues).state
unfolding part view_of
end_is upsets p old now cues is = ap (λ (a : Alone). end_line p a.state) is

none_more : (n : ℕ) → n < n → ⊥
none_more n more = omega (arith, more)

-- and then the line of the end, by what the replay leaves of the partition by itself
pub end_shown : {T : Type 0} (result : Result T WriteFault) (upsets : List UpsetLine) (cues : List Cue) (old now : Lone) (had mid got : Option (List ℕ)) (first board : BoardView)
    → IsWholeReplay upsets cues (cue_lines upsets (own_view old) cues) old now had mid first board → Writes result mid (texts (end_line (own_view old).id (replayed upsets (own_view old) cues).state ∷ [])) got
    → IsReplay result upsets cues (replay_lines upsets (own_view old) cues) old now had got first board
end_shown (Ok done) upsets cues old now had mid got first board is wrote =
    let view = own_view old in
    let last = end_line view.id (replayed upsets view cues).state ∷ [] in
    record {
      left = is.left;
      report = wrote ∙ ap (λ m. grown m (texts last)) is.report ∙ grown_grown had (texts (cue_lines upsets view cues)) (texts last) ∙ ap (grown had) (sym (texts-append (cue_lines upsets view cues) last));
      heard = is.heard;
    }
end_shown (Err unwritten) upsets cues old now had mid got first board is wrote =
    let view = own_view old in
    let last = end_line view.id (replayed upsets view cues).state ∷ [] in
    let all : (texts (cue_lines upsets view cues) ++ texts last) ++ [] ≡ texts (replay_lines upsets view cues) = append-nil (texts (cue_lines upsets view cues) ++ texts last) ∙ sym (texts-append (cue_lines upsets view cues) last) in
    record {
      done = length cues;
      within = omega arith;
      left = record {
        part = is.left.part ∙ ap (replayed upsets view) (sym (take-length cues));
        halted = is.left.halted ∙ ap (halted_by false) (sym (take-length cues));
        system = is.left.system;
        p = is.left.p;
      };
      report = record {
        count = length (texts (cue_lines upsets view cues)) + wrote.count;
        short = omega (arith, wrote.short, ap (λ (bytes : List ℕ). length bytes) (texts-append (cue_lines upsets view cues) last), length-append (texts (cue_lines upsets view cues)) (texts last));
        grew = beyond had mid got (texts (cue_lines upsets view cues)) (texts last) [] (texts (replay_lines upsets view cues)) is.report wrote all;
      };
      heard = subst (λ some. IsHeard (replay_said upsets old some) first board) (sym (take-length cues)) is.heard;
      whole = λ k earlier.
          let within : k ≤ length cues = omega (arith, earlier) in
          let same : length (texts (cue_lines upsets view (take k (cues ++ [])))) ≡ length (texts (cue_lines upsets view (take k cues))) = ap (λ script. length (texts (cue_lines upsets view (take k script)))) (append-nil cues) in
          omega (arith, same, fewer_lines upsets view k cues [] within);
      cut = λ more. absurd (none_more (length cues) more);
    }

pub end_played : {T : Type 0} (result : Result T WriteFault) (upsets : List UpsetLine) (p : ℕ) (cues : List Cue) (old now : Machine) (had mid got : Option (List ℕ)) (first board : BoardView)
    → IsWholeReplay upsets cues (cue_lines upsets (view_of old.system p) cues) (lone_in old p) (lone_in now p) had mid first board → Writes result mid (text_of (end_line p (part_at p now))) got
    → IsReplay result upsets cues (replay_lines upsets (view_of old.system p) cues) (lone_in old p) (lone_in now p) had got first board
end_played result upsets p cues old now had mid got first board is writes =
    let view = view_of old.system p in
    let last = end_line view.id (replayed upsets view cues).state in
    let one : text_of (end_line p (part_at p now)) ≡ texts (last ∷ []) = ap text_of (end_is upsets p old now cues is.left.part) ∙ sym (append-nil (text_of last)) in
    end_shown result upsets cues (lone_in old p) (lone_in now p) had mid got first board is (subst (λ bytes. Writes result mid bytes got) one writes)

-- the line of the end of a partition that was replayed
pub lone_end : (upsets : List UpsetLine) (cues : List Cue) (old now : Lone) → IsReplayed upsets cues old now → text_of (end_line now.p now.part.state) ≡ texts (end_line (own_view old).id (replayed upsets (own_view old) cues).state ∷ [])
unfolding view_of
lone_end upsets cues old now is =
    ap (λ p. text_of (end_line p now.part.state)) is.p ∙ ap (λ (a : Alone). text_of (end_line old.p a.state)) is.part
    ∙ sym (append-nil (text_of (end_line old.p (replayed upsets (own_view old) cues).state)))
