-- Ticks that were kept go out, one after the other: so a replay is shown that was done.
use Rattle.std.proofs.Common.{◌≡◌, ℕ, ◌<◌, ◌≤◌, Bool, true, false, if◌then◌else◌, List, [], ◌∷◌, ◌++◌, length, drop, take, Option, Some, None, Result, Ok, Err, refl, sym, ap, subst, ◌∙◌, arith, append_assoc}
use Rattle.std.proofs.lemmas.List.{append-nil, length-drop}
use Rattle.std.specs.Prelude.{IfSome, IsSome, ◌==◌, slice_index_or}
use Rattle.std.proofs.lemmas.Bool.Decides.{nat_tests}
use Rattle.xm_outside.specs.Growth.{GrewByPrefix, Writes, grown}
use Rattle.xm_outside.specs.lemmas.GrowthLemmas.{grown-nothing, grown_grown}
use Rattle.xm_report.specs.Report.{ReportLine, text_of, texts}
use Rattle.xm_report.specs.lemmas.ReportLemmas.{texts-append}
use Rattle.xm_report.specs.declared.output.WriteFault.{WriteFault}
use Rattle.xm_conf.specs.Configuration.{Conf, Part}
use Rattle.xm_conf.specs.Description.{described}
use Rattle.xm_conf.specs.Fits.{Fits}
use Rattle.uart_board.specs.Heard.{IsHeard, said_to}
use Rattle.uart_board.specs.lemmas.HeardLemmas.{heard_nothing, heard_then}
use Rattle.uart_board.specs.Views.{BoardView}
use Rattle.machine_model.specs.Alone.{Alone, alone_start}
use Rattle.machine_model.specs.Cue.{Cue}
use Rattle.machine_model.specs.Lines.{end_line}
use Rattle.machine_model.specs.Lists.{is_number}
use Rattle.machine_model.specs.Machine.{Machine}
use Rattle.machine_model.specs.View.{PartitionView, System, part_of}
use Rattle.recording_model.specs.Lone.{Lone, own_view, replay_said}
use Rattle.recording_model.specs.Replayed.{cue_lines, replay_lines, replayed}
use Rattle.upset_model.specs.Places.{Timetable}
use Rattle.upset_model.specs.Reports.{alone_reported}
use Rattle.upset_model.specs.Upsets.{Strike, alone_upset_from, alone_upset_said, later}
use Rattle.upset_model.specs.declared.upset_line.UpsetLine.{UpsetLine}
use Rattle.xm_alone.specs.lemmas.Struck.{own_at, script_said, tick_after, tick_lines, tick_said}
use Rattle.xm_alone.specs.Replay.{IsReplay, IsReplayed, IsSilentReplay, lone_in}
use Rattle.xm_alone.specs.Shown.{IsCutShowing, IsShown, ShownTick, shown_by, shown_from, shown_tick}
use Rattle.xm_alone.specs.Kept.{AreSized, IsKept, kept_ticks, ticks_in}
use Rattle.xm_alone.specs.lemmas.ShownTerms.{ArePlayed, AreCutPlayed, console_said, shown_said, shown_text}
use Rattle.xm_alone.specs.declared.keeping.Extent.{Extent}
use Rattle.xm_alone.specs.declared.keeping.Kept.{Kept}
use Rattle.xm_alone.proofs.FollowLemmas as follow
use Rattle.xm_alone.proofs.KeptLemmas.{tick_of}
use Rattle.xm_alone.proofs.PlayLemmas.{cut_showing, end_shown, heard_as, lone_end, showing_short}
use Rattle.xm_alone.proofs.SilentLemmas.{no_lines, tick_unsaid_too, unsaid}

-- bytes for a console, and then more for it
both_said : (is : Bool) (one other : List ℕ) → (if is then one else []) ++ (if is then other else []) ≡ (if is then one ++ other else [])
both_said true one other = refl
both_said false one other = refl

no_bytes : (is : Bool) → ◌≡◌ {A = List ℕ} [] (if is then [] else [])
no_bytes true = refl
no_bytes false = refl

-- what was said to a place is what is said to the console that is there
pub console_heard : (console : Option ℕ) (place : ℕ) (bytes : List ℕ) (before after : BoardView) → console ≡ Some place → IsHeard (said_to place bytes) before after → IsHeard (console_said console bytes) before after
console_heard console place bytes before after is heard = heard_as (said_to place bytes) (console_said console bytes) before after same heard
  where
    turned : (uart : ℕ) (b : Bool) → (uart == place) ≡ b → (place == uart) ≡ b
    turned uart true e = grind (arith, nat_tests)
    turned uart false e = grind (arith, nat_tests)

    same : (uart : ℕ) → said_to place bytes uart ≡ console_said console bytes uart
    same uart =
        ap (λ (b : Bool). if b then bytes else []) (sym (turned uart (uart == place) refl))
        ∙ ap (λ (o : Option ℕ). if is_number o uart then bytes else []) (sym is)

-- a partition without a console is not heard
pub console_silent : (console : Option ℕ) (bytes : List ℕ) (board : BoardView) → console ≡ None → IsHeard (console_said console bytes) board board
console_silent console bytes board none =
    heard_as (λ uart. []) (console_said console bytes) board board (λ uart. ap (λ (o : Option ℕ). if is_number o uart then bytes else []) (sym none)) (heard_nothing board)

-- no bytes are not heard
pub nothing_heard : (console : Option ℕ) (bytes : List ℕ) (board : BoardView) → bytes ≡ [] → IsHeard (console_said console bytes) board board
nothing_heard console bytes board none =
    heard_as (λ uart. []) (console_said console bytes) board board
    (λ uart. no_bytes (is_number console uart) ∙ ap (λ (said : List ℕ). if is_number console uart then said else []) (sym none)) (heard_nothing board)

-- the text of ticks of two parts, and their console bytes
text_add : (xs ys : List ShownTick) → shown_text (xs ++ ys) ≡ shown_text xs ++ shown_text ys
text_add [] ys = refl
text_add (x ∷ xs) ys = ap (λ later. x.text ++ later) (text_add xs ys) ∙ sym (append_assoc x.text (shown_text xs) (shown_text ys))

said_add : (xs ys : List ShownTick) → shown_said (xs ++ ys) ≡ shown_said xs ++ shown_said ys
said_add [] ys = refl
said_add (x ∷ xs) ys = ap (λ later. x.said ++ later) (said_add xs ys) ∙ sym (append_assoc x.said (shown_said xs) (shown_said ys))

text_more : (xs : List ShownTick) (x : ShownTick) → shown_text (xs ++ x ∷ []) ≡ shown_text xs ++ x.text
text_more xs x = text_add xs (x ∷ []) ∙ ap (λ last. shown_text xs ++ last) (append-nil x.text)

said_more : (xs : List ShownTick) (x : ShownTick) → shown_said (xs ++ x ∷ []) ≡ shown_said xs ++ x.said
said_more xs x = said_add xs (x ∷ []) ∙ ap (λ last. shown_said xs ++ last) (append-nil x.said)

-- the first ticks went out, and these are left
pub record IsShowing (console : Option ℕ) (ticks left : List ShownTick) (had got : Option (List ℕ)) (before after : BoardView) : Type 0 where
  pub earlier : List ShownTick
  pub split : ticks ≡ earlier ++ left
  pub report : got ≡ grown had (shown_text earlier)
  pub heard : IsHeard (console_said console (shown_said earlier)) before after

pub none_shown : (console : Option ℕ) (ticks left : List ShownTick) (had : Option (List ℕ)) (board : BoardView) → left ≡ ticks → IsShowing console ticks left had had board board
none_shown console ticks left had board all = record { earlier = []; split = sym all; report = sym (grown-nothing had); heard = nothing_heard console [] board refl }

-- the console bytes of one more
said_then : (console : Option ℕ) (earlier : List ShownTick) (tick : ShownTick) (begun between board : BoardView) → IsHeard (console_said console (shown_said earlier)) begun between
    → IsHeard (console_said console tick.said) between board → IsHeard (console_said console (shown_said (earlier ++ tick ∷ []))) begun board
said_then console earlier tick begun between board heard more =
    heard_as (λ uart. console_said console (shown_said earlier) uart ++ console_said console tick.said uart) (console_said console (shown_said (earlier ++ tick ∷ []))) begun board
    (λ uart. both_said (is_number console uart) (shown_said earlier) tick.said ∙ ap (λ (bytes : List ℕ). if is_number console uart then bytes else []) (sym (said_more earlier tick)))
    (heard_then (console_said console (shown_said earlier)) (console_said console tick.said) begun between board heard more)

one_shown : (console : Option ℕ) (ticks : List ShownTick) (tick : ShownTick) (left : List ShownTick) (had mid got : Option (List ℕ)) (begun between board : BoardView)
    → IsShowing console ticks (tick ∷ left) had mid begun between → got ≡ grown mid tick.text → IsHeard (console_said console tick.said) between board → IsShowing console ticks left had got begun board
one_shown console ticks tick left had mid got begun between board is goes heard = record {
  earlier = is.earlier ++ tick ∷ [];
  split = is.split ∙ sym (append_assoc is.earlier (tick ∷ []) left);
  report = goes ∙ ap (λ m. grown m tick.text) is.report ∙ grown_grown had (shown_text is.earlier) tick.text ∙ ap (grown had) (sym (text_more is.earlier tick));
  heard = said_then console is.earlier tick begun between board is.heard heard;
}

one_unshown : (console : Option ℕ) (ticks : List ShownTick) (tick : ShownTick) (left : List ShownTick) (had mid got : Option (List ℕ)) (begun between board : BoardView)
    → IsShowing console ticks (tick ∷ left) had mid begun between → GrewByPrefix mid tick.text got → IsHeard (console_said console tick.said) between board → AreCutPlayed console ticks had got begun board
one_unshown console ticks tick left had mid got begun between board is goes heard = record {
  earlier = is.earlier;
  tick = tick;
  later = left;
  split = is.split;
  mid = mid;
  report = is.report;
  last = goes;
  heard = said_then console is.earlier tick begun between board is.heard heard;
}

pub all_played : (console : Option ℕ) (ticks left : List ShownTick) (had got : Option (List ℕ)) (begun board : BoardView) → left ≡ [] → IsShowing console ticks left had got begun board → ArePlayed console ticks had got begun board
all_played console ticks left had got begun board none is =
    let all : is.earlier ≡ ticks = sym (append-nil is.earlier) ∙ ap (λ (rest : List ShownTick). is.earlier ++ rest) (sym none) ∙ sym is.split in
    record {
      report = is.report ∙ ap (λ (ts : List ShownTick). grown had (shown_text ts)) all;
      heard = subst (λ (ts : List ShownTick). IsHeard (console_said console (shown_said ts)) begun board) all is.heard;
    }

-- the first of ticks that are left: its bytes are there, and so are those of the later ones
module _ (es : List Extent) (e : Extent) (later : List Extent) (text said : List ℕ) (first : es ≡ e ∷ later) (sized : AreSized es text said) where
  sized_here : AreSized (e ∷ later) text said
  sized_here = subst (λ (these : List Extent). AreSized these text said) first sized

  pub text_there : e.text ≤ length text
  text_there = omega (arith, sized_here.texts)

  pub said_there : e.said ≤ length said
  said_there = omega (arith, sized_here.bytes)

  sized_rest : AreSized later (drop e.text text) (drop e.said said)
  sized_rest = record { texts = omega (arith, sized_here.texts, length-drop e.text text); bytes = omega (arith, sized_here.bytes, length-drop e.said said) }

  first_showing : (console : Option ℕ) (ticks : List ShownTick) (had mid : Option (List ℕ)) (begun between : BoardView) → IsShowing console ticks (ticks_in es text said) had mid begun between
      → IsShowing console ticks (tick_of (take e.text text) (take e.said said) ∷ ticks_in later (drop e.text text) (drop e.said said)) had mid begun between
  first_showing console ticks had mid begun between is = subst (λ (these : List Extent). IsShowing console ticks (ticks_in these text said) had mid begun between) first is

  module _ (t s others_t others_s : List ℕ) (t_is : t ≡ take e.text text) (s_is : s ≡ take e.said said) (others_t_are : others_t ≡ drop e.text text) (others_s_are : others_s ≡ drop e.said said) where
    pub sized_later : AreSized later others_t others_s
    sized_later = subst (λ (b : List ℕ). AreSized later others_t b) (sym others_s_are) (subst (λ (b : List ℕ). AreSized later b (drop e.said said)) (sym others_t_are) sized_rest)

    -- it goes out
    pub tick_shown : (console : Option ℕ) (ticks : List ShownTick) (had mid got : Option (List ℕ)) (begun between board : BoardView) → IsShowing console ticks (ticks_in es text said) had mid begun between
        → got ≡ grown mid t → IsHeard (console_said console s) between board → IsShowing console ticks (ticks_in later others_t others_s) had got begun board
    tick_shown console ticks had mid got begun between board is goes heard =
        subst (λ (b : List ℕ). IsShowing console ticks (ticks_in later others_t b) had got begun board) (sym others_s_are)
        (subst (λ (b : List ℕ). IsShowing console ticks (ticks_in later b (drop e.said said)) had got begun board) (sym others_t_are)
        (one_shown console ticks (tick_of (take e.text text) (take e.said said)) (ticks_in later (drop e.text text) (drop e.said said)) had mid got begun between board
        (first_showing console ticks had mid begun between is) (goes ∙ ap (grown mid) t_is) (subst (λ (b : List ℕ). IsHeard (console_said console b) between board) s_is heard)))

    -- or its text does not go out whole
    pub tick_cut : (console : Option ℕ) (ticks : List ShownTick) (had mid got : Option (List ℕ)) (begun between board : BoardView) → IsShowing console ticks (ticks_in es text said) had mid begun between
        → GrewByPrefix mid t got → IsHeard (console_said console s) between board → AreCutPlayed console ticks had got begun board
    tick_cut console ticks had mid got begun between board is goes heard =
        one_unshown console ticks (tick_of (take e.text text) (take e.said said)) (ticks_in later (drop e.text text) (drop e.said said)) had mid got begun between board
        (first_showing console ticks had mid begun between is) (subst (λ (b : List ℕ). GrewByPrefix mid b got) t_is goes) (subst (λ (b : List ℕ). IsHeard (console_said console b) between board) s_is heard)

-- the text of what a tick shows, and its console bytes
tick_text : (text said : List ℕ) → shown_text (shown_tick text said) ≡ text
tick_text [] said = refl
tick_text (byte ∷ text) said = append-nil (byte ∷ text)

tick_said_is : (text said : List ℕ) → (text ≡ [] → said ≡ []) → shown_said (shown_tick text said) ≡ said
tick_said_is [] said none = sym (none refl)
tick_said_is (byte ∷ text) said none = append-nil said

-- what cues show has the text of their lines, and their console bytes
pub text_from : (view : PartitionView) (t : Timetable) (a : Alone) (cues : List Cue) → shown_text (shown_from view t a cues) ≡ texts (alone_reported view t a cues)
text_from view t a [] = refl
text_from view t a (cue ∷ cues) =
    let lines = tick_lines view (t 0) a cue in
    let next = tick_after view (t 0) a cue in
    text_add (shown_tick (texts lines) (tick_said view (t 0) a cue)) (shown_from view (later t) next cues)
    ∙ ap (λ (bytes : List ℕ). bytes ++ shown_text (shown_from view (later t) next cues)) (tick_text (texts lines) (tick_said view (t 0) a cue))
    ∙ ap (λ (bytes : List ℕ). texts lines ++ bytes) (text_from view (later t) next cues)
    ∙ sym (texts-append lines (alone_reported view (later t) next cues))

said_from : (view : PartitionView) (t : Timetable) (a : Alone) (cues : List Cue) → shown_said (shown_from view t a cues) ≡ alone_upset_said view (follow.strikes_of t) a cues
said_from view t a [] = refl
said_from view t a (cue ∷ cues) =
    let lines = tick_lines view (t 0) a cue in
    let next = tick_after view (t 0) a cue in
    said_add (shown_tick (texts lines) (tick_said view (t 0) a cue)) (shown_from view (later t) next cues)
    ∙ ap (λ (s : List ℕ). s ++ shown_said (shown_from view (later t) next cues))
    (tick_said_is (texts lines) (tick_said view (t 0) a cue) (λ none. tick_unsaid_too view (t 0) a cue (no_lines lines none)))
    ∙ ap (λ (s : List ℕ). tick_said view (t 0) a cue ++ s) (said_from view (later t) next cues)

-- and so has a script from the boot on
text_by : (upsets : List UpsetLine) (view : PartitionView) (cues : List Cue) → shown_text (shown_by upsets view cues) ≡ texts (cue_lines upsets view cues)
text_by upsets view cues = text_from view (own_at upsets view) (alone_start view) cues

said_by : (upsets : List UpsetLine) (view : PartitionView) (cues : List Cue) → shown_said (shown_by upsets view cues) ≡ script_said upsets view cues
said_by upsets view cues =
    said_from view (own_at upsets view) (alone_start view) cues
    ∙ ap (λ (s : ℕ → List Strike). alone_upset_said view s (alone_start view) cues) (sym (follow.strikes_are upsets view))

-- a replay whose cues show nothing is silent
pub nothing_shown : (upsets : List UpsetLine) (cues : List Cue) (old new : Lone) → IsReplayed upsets cues old new → shown_by upsets (own_view old) cues ≡ [] → IsSilentReplay upsets cues old new
nothing_shown upsets cues old new left none =
    let view = own_view old in
    let lines : cue_lines upsets view cues ≡ [] = no_lines (cue_lines upsets view cues) (sym (text_by upsets view cues) ∙ ap shown_text none) in
    record {
      left = left;
      lines = lines;
      said = ap (λ (s : ℕ → List Strike). alone_upset_said view s (alone_start view) cues) (follow.strikes_are upsets view) ∙ unsaid view (own_at upsets view) (alone_start view) cues lines;
    }

-- the cue that shows this tick, which comes after what shows those
record IsShownAt (view : PartitionView) (t : Timetable) (a : Alone) (cues : List Cue) (earlier : List ShownTick) (tick : ShownTick) : Type 0 where
  front : List Cue
  cue : Cue
  rest : List Cue
  split : front ++ cue ∷ rest ≡ cues
  before : shown_from view t a front ≡ earlier
  text : tick.text ≡ texts (tick_lines view (t (length front)) (alone_upset_from view (follow.strikes_of t) a front) cue)
  said : tick.said ≡ tick_said view (t (length front)) (alone_upset_from view (follow.strikes_of t) a front) cue

not_none : (xs : List ShownTick) (x : ShownTick) (ys : List ShownTick) → [] ≡ xs ++ x ∷ ys → ⊥
not_none [] x ys same = cc
not_none (first ∷ xs) x ys same = cc

same_head : {X : Type 0} (x y : X) (xs ys : List X) → x ∷ xs ≡ y ∷ ys → x ≡ y
same_head x y xs ys same = cc

same_tail : {X : Type 0} (x y : X) (xs ys : List X) → x ∷ xs ≡ y ∷ ys → xs ≡ ys
same_tail x y xs ys same = cc

shown_at : (view : PartitionView) (t : Timetable) (a : Alone) (cues : List Cue) (earlier : List ShownTick) (tick : ShownTick) (more : List ShownTick) → shown_from view t a cues ≡ earlier ++ tick ∷ more → IsShownAt view t a cues earlier tick
shown_at view t a [] earlier tick more same = absurd (not_none earlier tick more same)
shown_at view t a (first ∷ others) earlier tick more same =
    at (texts (tick_lines view (t 0) a first)) refl earlier same (λ sooner rest. shown_at view (later t) (tick_after view (t 0) a first) others sooner tick more rest)
  where
    at : (text : List ℕ) → texts (tick_lines view (t 0) a first) ≡ text → (sooner : List ShownTick) → shown_tick text (tick_said view (t 0) a first) ++ shown_from view (later t) (tick_after view (t 0) a first) others ≡ sooner ++ tick ∷ more
        → ((some : List ShownTick) → shown_from view (later t) (tick_after view (t 0) a first) others ≡ some ++ tick ∷ more → IsShownAt view (later t) (tick_after view (t 0) a first) others some tick) → IsShownAt view t a (first ∷ others) sooner tick
    at [] is sooner these found_in =
        let found = found_in sooner these in
        record {
          front = first ∷ found.front;
          cue = found.cue;
          rest = found.rest;
          split = ap (λ (cues : List Cue). first ∷ cues) found.split;
          before = ap (λ (b : List ℕ). shown_tick b (tick_said view (t 0) a first) ++ shown_from view (later t) (tick_after view (t 0) a first) found.front) is ∙ found.before;
          text = found.text;
          said = found.said;
        }
    at (byte ∷ text) is [] these found_in =
        let here : tick_of (byte ∷ text) (tick_said view (t 0) a first) ≡ tick = same_head (tick_of (byte ∷ text) (tick_said view (t 0) a first)) tick (shown_from view (later t) (tick_after view (t 0) a first) others) more these in
        record {
          front = [];
          cue = first;
          rest = others;
          split = refl;
          before = refl;
          text = ap (λ (s : ShownTick). s.text) (sym here) ∙ sym is;
          said = ap (λ (s : ShownTick). s.said) (sym here);
        }
    at (byte ∷ text) is (one ∷ sooner) these found_in =
        let here : tick_of (byte ∷ text) (tick_said view (t 0) a first) ≡ one = same_head (tick_of (byte ∷ text) (tick_said view (t 0) a first)) one (shown_from view (later t) (tick_after view (t 0) a first) others) (sooner ++ tick ∷ more) these in
        let found = found_in sooner (same_tail (tick_of (byte ∷ text) (tick_said view (t 0) a first)) one (shown_from view (later t) (tick_after view (t 0) a first) others) (sooner ++ tick ∷ more) these) in
        record {
          front = first ∷ found.front;
          cue = found.cue;
          rest = found.rest;
          split = ap (λ (cues : List Cue). first ∷ cues) found.split;
          before = ap (λ (b : List ℕ). shown_tick b (tick_said view (t 0) a first) ++ shown_from view (later t) (tick_after view (t 0) a first) found.front) is
              ∙ ap (λ (s : ShownTick). s ∷ shown_from view (later t) (tick_after view (t 0) a first) found.front) here ∙ ap (λ (ts : List ShownTick). one ∷ ts) found.before;
          text = found.text;
          said = found.said;
        }

-- the same console of a partition that was replayed
same_console : (upsets : List UpsetLine) (cues : List Cue) (old now : Lone) (console : Option ℕ) → IsReplayed upsets cues old now → console ≡ (part_of now.system.conf now.p).console → console ≡ (part_of old.system.conf old.p).console
same_console upsets cues old now console left is = is ∙ ap (λ (system : System). (part_of system.conf now.p).console) left.system ∙ ap (λ p. (part_of old.system.conf p).console) left.p

-- the console bytes of ticks are those of the cues that show them
heard_cues : (upsets : List UpsetLine) (old : Lone) (console : Option ℕ) (some : List Cue) (said : List ℕ) (begun board : BoardView) → console ≡ (part_of old.system.conf old.p).console
    → said ≡ script_said upsets (own_view old) some → IsHeard (console_said console said) begun board → IsHeard (replay_said upsets old some) begun board
heard_cues upsets old console some said begun board console_is is heard =
    heard_as (console_said console said) (replay_said upsets old some) begun board
    (λ uart. ap (λ (place : Option ℕ). if is_number place uart then said else []) console_is ∙ ap (λ (bytes : List ℕ). if is_number (part_of old.system.conf old.p).console uart then bytes else []) is) heard

-- where a replay answers, its showing does
shown_replay : {T : Type 0} (result : Result T WriteFault) (upsets : List UpsetLine) (cues : List Cue) (lines : List ReportLine) (old now : Lone) (had got : Option (List ℕ)) (begun board : BoardView)
    → IsReplay result upsets cues lines old now had got begun board → IsShown result upsets cues lines old now had got begun board
shown_replay (Ok done) upsets cues lines old now had got begun board is = is
shown_replay (Err unwritten) upsets cues lines old now had got begun board is = record { done = is.done; within = is.within; report = is.report; heard = is.heard; whole = is.whole; cut = is.cut }

-- all ticks of a replay that was done went out, and then the line of its end
pub whole_showing : {T : Type 0} (result : Result T WriteFault) (upsets : List UpsetLine) (cues : List Cue) (old now : Lone) (console : Option ℕ) (ticks : List ShownTick) (had mid got : Option (List ℕ)) (begun board : BoardView)
    → console ≡ (part_of now.system.conf now.p).console → ArePlayed console ticks had mid begun board → Writes result mid (text_of (end_line now.p now.part.state)) got
    → IsReplayed upsets cues old now → ticks ≡ shown_by upsets (own_view old) cues → IsShown result upsets cues (replay_lines upsets (own_view old) cues) old now had got begun board
whole_showing result upsets cues old now console ticks had mid got begun board console_is played writes left shows =
    let view = own_view old in
    shown_replay result upsets cues (replay_lines upsets view cues) old now had got begun board
    (end_shown result upsets cues old now had mid got begun board
    (record {
      left = left;
      report = played.report ∙ ap (λ (ts : List ShownTick). grown had (shown_text ts)) shows ∙ ap (grown had) (text_by upsets view cues);
      heard = heard_cues upsets old console cues (shown_said ticks) begun board (same_console upsets cues old now console left console_is) (ap shown_said shows ∙ said_by upsets view cues) played.heard;
    })
    (subst (λ bytes. Writes result mid bytes got) (lone_end upsets cues old now left) writes))

-- or not all of them
pub cut_played : (upsets : List UpsetLine) (cues : List Cue) (old now : Lone) (console : Option ℕ) (ticks : List ShownTick) (had got : Option (List ℕ)) (begun board : BoardView)
    → console ≡ (part_of now.system.conf now.p).console → AreCutPlayed console ticks had got begun board
    → IsReplayed upsets cues old now → ticks ≡ shown_by upsets (own_view old) cues → IsCutShowing upsets cues (replay_lines upsets (own_view old) cues) old had got begun board
cut_played upsets cues old now console ticks had got begun board console_is played left shows =
    let view = own_view old in
    let own = own_at upsets view in
    let here = shown_at view own (alone_start view) cues played.earlier played.tick played.later (sym shows ∙ played.split) in
    let lines = own (length here.front) in
    let done = here.front ++ here.cue ∷ [] in
    let left_is : alone_upset_from view (follow.strikes_of own) (alone_start view) here.front ≡ replayed upsets view here.front =
    ap (λ (s : ℕ → List Strike). alone_upset_from view s (alone_start view) here.front) (sym (follow.strikes_are upsets view)) in
    let text : played.tick.text ≡ texts (tick_lines view lines (replayed upsets view here.front) here.cue) = here.text ∙ ap (λ (a : Alone). texts (tick_lines view lines a here.cue)) left_is in
    let bytes : played.tick.said ≡ tick_said view lines (replayed upsets view here.front) here.cue = here.said ∙ ap (λ (a : Alone). tick_said view lines a here.cue) left_is in
    let said : shown_said (played.earlier ++ played.tick ∷ []) ≡ script_said upsets view done =
    said_more played.earlier played.tick ∙ ap (λ (ts : List ShownTick). shown_said ts ++ played.tick.said) (sym here.before) ∙ ap (λ (front : List ℕ). front ++ played.tick.said) (said_by upsets view here.front)
    ∙ ap (λ (last : List ℕ). script_said upsets view here.front ++ last) bytes ∙ sym (follow.said_more upsets view here.front here.cue lines refl) in
    (showing_short upsets cues old had got begun board
    (cut_showing upsets old cues here.front lines here.cue here.rest had played.mid got begun board refl (append_assoc here.front (here.cue ∷ []) here.rest ∙ here.split)
    (played.report ∙ ap (λ (ts : List ShownTick). grown had (shown_text ts)) (sym here.before) ∙ ap (grown had) (text_by upsets view here.front))
    (subst (λ (tick : List ℕ). GrewByPrefix played.mid tick got) text played.last)
    (heard_cues upsets old console done (shown_said (played.earlier ++ played.tick ∷ [])) begun board (same_console upsets cues old now console left console_is) said played.heard)).0).0

-- where nothing is kept of a replay, and nothing was left out, it was silent
pub kept_silent : (kept : Option Kept) (upsets : List UpsetLine) (cues : List Cue) (old new : Lone) → IsReplayed upsets cues old new → IsSome kept × IfSome kept (λ k. kept_ticks k ≡ [])
    → IfSome kept (λ k. IsKept k × (kept_ticks k ≡ shown_by upsets (own_view old) cues)) → IsSilentReplay upsets cues old new
kept_silent None upsets cues old new left empty shows = absurd (not_so empty.0)
  where
    not_so : false ≡ true → ⊥
    not_so e = cc
kept_silent (Some kept) upsets cues old new left empty shows = nothing_shown upsets cues old new left (sym shows.1 ∙ empty.1)

-- a console is one of eight UARTs
pub console_below : (conf : Conf) (p : ℕ) (part : Part) → Fits (described conf) → p < length conf.parts → part ≡ slice_index_or conf.parts p part → IfSome part.console (λ place. place < 8)
unfolding described
console_below conf p part fits below is =
    at part.console (subst (λ (one : Part). IfSome one.console (λ uart. uart < length conf.uarts)) (sym is) (fits.consoles p part below))
  where
    few : length conf.uarts ≤ 8
    few = fits.counts.uarts

    at : (o : Option ℕ) → IfSome o (λ uart. uart < length conf.uarts) → IfSome o (λ place. place < 8)
    at None within = within
    at (Some place) within = omega (arith, within, few)

-- the console of a partition is that of the partition by itself
pub console-same : (lone : Lone) (g : Machine) (p : ℕ) → lone_in g p ≡ lone → (part_of g.system.conf p).console ≡ (part_of lone.system.conf lone.p).console
console-same lone g p is = ap (λ (l : Lone). (part_of l.system.conf l.p).console) is
