-- What a line says, in the order in which its text says it, and the text of lines.
use Rattle.std.proofs.Common.{◌≡◌, ℕ, ◌+◌, ◌==◌, Bool, true, false, if◌then◌else◌, List, [], ◌∷◌, ◌++◌, get_or, codes, decimal, refl, sym, ap, ◌∙◌, arith}
use Rattle.std.specs.Int.{w32, to_be_bytes}
use Rattle.std.proofs.lemmas.List.{append_assoc, append_cancel_left}
use Rattle.hex.specs.Hex.{encode_lower}
use Rattle.xm_base.specs.Bytes.{AreBytes}
use Rattle.xm_base.specs.State.{state_text}
use Rattle.xm_base.specs.declared.partition.State.{State}
use Rattle.xm_conf.specs.Health.{action_row, event_row}
use Rattle.xm_conf.specs.declared.health.Action.{Action}
use Rattle.xm_conf.specs.declared.health.Event.{Event}
use Rattle.xm_report.specs.Places.{IsSpelledPlace, place_text}
use Rattle.xm_report.specs.Report.{ReportLine, SystemLine, ConsoleLine, HealthLine, TraceLine, MovedLine, StruckLine, WholeLine, PlanLine, EndPart, EndWhole, console_text, end_part_text, end_whole_text, escaped, health_text, move_text, moved_text, plan_text, halted_text, struck_text, system_text, text_of, texts, trace_text, whole_text}
use Rattle.xm_report.specs.declared.line.Move.{Move}
use Rattle.xm_report.specs.declared.line.Move.TheVariants.{Halt, Suspend, Resume, Cold, Warm}
use Rattle.xm_report.specs.declared.place.Place.{Place}
use Rattle.report_model.specs.Texts.{IsCount, IsInRange, IsWord, LinesAreDetermined, TextsDetermineLines}
use Rattle.report_model.proofs.EscapeLemmas.{escaped_cut}
use Rattle.report_model.proofs.FieldLemmas.{action_cut, event_cut, hex_cut, move_cut, number_cut, place_cut, halted_cut, state_cut, tick_cut, word_cut}

-- What a partition does in a tick.
data Own : Type 0 where
  Con : (bytes : List ℕ) → Own
  Hm : (event : Event) (word : ℕ) (action : Action) → Own
  Tr : (bits : ℕ) (load : List ℕ) → Own
  Mv : (to : Move) → Own
  Up : (place : Place) (bit : ℕ) → Own

-- its numbers are in their ranges
abbrev IsOwnInRange : Own → Type 0
IsOwnInRange (Con bytes) = AreBytes bytes
IsOwnInRange (Hm event word action) = IsWord word
IsOwnInRange (Tr bits load) = IsWord bits × AreBytes load
IsOwnInRange (Mv to) = Unit {0}
IsOwnInRange (Up place bit) = IsSpelledPlace place × IsCount bit

-- its text, before more bytes
abbrev own_text : Own → List ℕ → List ℕ
own_text (Con bytes) more = codes "CON " ++ (escaped bytes ++ (codes "\n" ++ more))
own_text (Hm event word action) more =
    codes "HM " ++ ((event_row event).text ++ (codes " " ++ (encode_lower (to_be_bytes w32 word) ++ (codes " " ++ ((action_row action).text ++ (codes "\n" ++ more))))))
own_text (Tr bits load) more = codes "TRACE " ++ (encode_lower (to_be_bytes w32 bits) ++ (codes " " ++ (encode_lower load ++ (codes "\n" ++ more))))
own_text (Mv to) more = move_text to ++ (codes "\n" ++ more)
own_text (Up place bit) more = codes "UPSET " ++ (place_text place ++ (codes " bit " ++ (decimal bit ++ (codes "\n" ++ more))))

-- its kind, by the second and the third byte of its text
abbrev kind_by : ℕ → ℕ → ℕ
kind_by second third = if second == 80 then 4 else if third == 78 then 0 else if third == 32 then 1 else if third == 65 then 2 else 3

abbrev own_kind : Own → ℕ
own_kind (Con bytes) = 0
own_kind (Hm event word action) = 1
own_kind (Tr bits load) = 2
own_kind (Mv to) = 3
own_kind (Up place bit) = 4

kind_is : (own : Own) (more : List ℕ) → kind_by (get_or (own_text own more) 1 0) (get_or (own_text own more) 2 0) ≡ own_kind own
kind_is (Con bytes) more = refl
kind_is (Hm event word action) more = refl
kind_is (Tr bits load) more = refl
kind_is (Mv Halt) more = refl
kind_is (Mv Suspend) more = refl
kind_is (Mv Resume) more = refl
kind_is (Mv Cold) more = refl
kind_is (Mv Warm) more = refl
kind_is (Up place bit) more = refl

kinds_same : (one other : Own) (after later : List ℕ) → own_text one after ≡ own_text other later → own_kind one ≡ own_kind other
kinds_same one other after later same = sym (kind_is one after) ∙ ap (λ (text : List ℕ). kind_by (get_or text 1 0) (get_or text 2 0)) same ∙ kind_is other later

-- it is read back
own_cut : (one other : Own) (after later : List ℕ) → IsOwnInRange one → IsOwnInRange other → own_text one after ≡ own_text other later → (one ≡ other) × (after ≡ later)
own_cut (Con bytes) (Con others) after later range range_other same =
    let both = escaped_cut bytes others after later range range_other (append_cancel_left (codes "CON ") _ _ same) in
    (ap Con both.0, both.1)
own_cut (Hm event word action) (Hm event_of word_of action_of) after later range range_other same =
    let events = event_cut event event_of _ _ (append_cancel_left (codes "HM ") _ _ same) in
    let words = word_cut word word_of _ _ range range_other events.1 in
    let actions = action_cut action action_of after later (append_cancel_left (codes " ") _ _ words.1) in
    (same_health event event_of word word_of action action_of events.0 words.0 actions.0, actions.1)
  where
    same_health : (e f : Event) (w v : ℕ) (a b : Action) → e ≡ f → w ≡ v → a ≡ b → Hm e w a ≡ Hm f v b
    same_health e f w v a b events words actions = cc
own_cut (Tr bits load) (Tr bits_of load_of) after later range range_other same =
    let words = word_cut bits bits_of _ _ range.0 range_other.0 (append_cancel_left (codes "TRACE ") _ _ same) in
    let loads = hex_cut load load_of after later range.1 range_other.1 (append_cancel_left (codes " ") _ _ words.1) in
    (ap (λ (b : ℕ). Tr b load) words.0 ∙ ap (Tr bits_of) loads.0, loads.1)
own_cut (Mv to) (Mv to_of) after later range range_other same =
    let both = move_cut to to_of after later same in
    (ap Mv both.0, both.1)
own_cut (Up place bit) (Up place_of bit_of) after later range range_other same =
    let places = place_cut place place_of _ _ range.0 range_other.0 (append_cancel_left (codes "UPSET ") _ _ same) in
    let bits = number_cut 10 bit bit_of after later (omega arith) range.1 range_other.1 (append_cancel_left (codes "bit ") _ _ places.1) in
    (ap (λ (x : Place). Up x bit) places.0 ∙ ap (Up place_of) bits.0, bits.1)
own_cut (Con bytes) (Hm event_of word_of action_of) after later range range_other same = absurd (let kind = kinds_same (Con bytes) (Hm event_of word_of action_of) after later same in omega (arith, kind))
own_cut (Con bytes) (Tr bits_of load_of) after later range range_other same = absurd (let kind = kinds_same (Con bytes) (Tr bits_of load_of) after later same in omega (arith, kind))
own_cut (Con bytes) (Mv to_of) after later range range_other same = absurd (let kind = kinds_same (Con bytes) (Mv to_of) after later same in omega (arith, kind))
own_cut (Hm event word action) (Con others) after later range range_other same = absurd (let kind = kinds_same (Hm event word action) (Con others) after later same in omega (arith, kind))
own_cut (Hm event word action) (Tr bits_of load_of) after later range range_other same = absurd (let kind = kinds_same (Hm event word action) (Tr bits_of load_of) after later same in omega (arith, kind))
own_cut (Hm event word action) (Mv to_of) after later range range_other same = absurd (let kind = kinds_same (Hm event word action) (Mv to_of) after later same in omega (arith, kind))
own_cut (Tr bits load) (Con others) after later range range_other same = absurd (let kind = kinds_same (Tr bits load) (Con others) after later same in omega (arith, kind))
own_cut (Tr bits load) (Hm event_of word_of action_of) after later range range_other same = absurd (let kind = kinds_same (Tr bits load) (Hm event_of word_of action_of) after later same in omega (arith, kind))
own_cut (Tr bits load) (Mv to_of) after later range range_other same = absurd (let kind = kinds_same (Tr bits load) (Mv to_of) after later same in omega (arith, kind))
own_cut (Mv to) (Con others) after later range range_other same = absurd (let kind = kinds_same (Mv to) (Con others) after later same in omega (arith, kind))
own_cut (Mv to) (Hm event_of word_of action_of) after later range range_other same = absurd (let kind = kinds_same (Mv to) (Hm event_of word_of action_of) after later same in omega (arith, kind))
own_cut (Mv to) (Tr bits_of load_of) after later range range_other same = absurd (let kind = kinds_same (Mv to) (Tr bits_of load_of) after later same in omega (arith, kind))
own_cut (Up place bit) (Con others) after later range range_other same = absurd (let kind = kinds_same (Up place bit) (Con others) after later same in omega (arith, kind))
own_cut (Up place bit) (Hm event_of word_of action_of) after later range range_other same = absurd (let kind = kinds_same (Up place bit) (Hm event_of word_of action_of) after later same in omega (arith, kind))
own_cut (Up place bit) (Tr bits_of load_of) after later range range_other same = absurd (let kind = kinds_same (Up place bit) (Tr bits_of load_of) after later same in omega (arith, kind))
own_cut (Up place bit) (Mv to_of) after later range range_other same = absurd (let kind = kinds_same (Up place bit) (Mv to_of) after later same in omega (arith, kind))
own_cut (Con bytes) (Up place_of bit_of) after later range range_other same = absurd (let kind = kinds_same (Con bytes) (Up place_of bit_of) after later same in omega (arith, kind))
own_cut (Hm event word action) (Up place_of bit_of) after later range range_other same = absurd (let kind = kinds_same (Hm event word action) (Up place_of bit_of) after later same in omega (arith, kind))
own_cut (Tr bits load) (Up place_of bit_of) after later range range_other same = absurd (let kind = kinds_same (Tr bits load) (Up place_of bit_of) after later same in omega (arith, kind))
own_cut (Mv to) (Up place_of bit_of) after later range range_other same = absurd (let kind = kinds_same (Mv to) (Up place_of bit_of) after later same in omega (arith, kind))

-- What the whole system does in a tick.
data Whole : Type 0 where
  WholeMoves : (to : Move) → Whole
  Plans : (plan : ℕ) → Whole

abbrev IsWholeInRange : Whole → Type 0
IsWholeInRange (WholeMoves to) = Unit {0}
IsWholeInRange (Plans plan) = IsCount plan

abbrev whole_tail : Whole → List ℕ → List ℕ
whole_tail (WholeMoves to) more = move_text to ++ (codes "\n" ++ more)
whole_tail (Plans plan) more = codes "PLAN " ++ (decimal plan ++ (codes "\n" ++ more))

-- no change is named like a plan
move_first : (to : Move) (more : List ℕ) → (get_or (move_text to ++ more) 0 0 == 80) ≡ false
move_first Halt more = refl
move_first Suspend more = refl
move_first Resume more = refl
move_first Cold more = refl
move_first Warm more = refl

never_plan : (to : Move) (more others : List ℕ) → move_text to ++ more ≡ 80 ∷ others → ⊥
never_plan to more others same =
    let wrong : false ≡ true = sym (move_first to more) ∙ ap (λ (text : List ℕ). get_or text 0 0 == 80) same in
    cc

whole_cut : (one other : Whole) (after later : List ℕ) → IsWholeInRange one → IsWholeInRange other → whole_tail one after ≡ whole_tail other later → (one ≡ other) × (after ≡ later)
whole_cut (WholeMoves to) (WholeMoves to_of) after later range range_other same =
    let both = move_cut to to_of after later same in
    (ap WholeMoves both.0, both.1)
whole_cut (Plans plan) (Plans plan_of) after later range range_other same =
    let both = number_cut 10 plan plan_of after later (omega arith) range range_other (append_cancel_left (codes "PLAN ") _ _ same) in
    (ap Plans both.0, both.1)
whole_cut (WholeMoves to) (Plans plan) after later range range_other same = absurd (never_plan to (10 ∷ after) _ same)
whole_cut (Plans plan) (WholeMoves to) after later range range_other same = absurd (never_plan to (10 ∷ later) _ (sym same))

-- A line: the first, one of a partition or of the whole system in a tick, and one at the end.
data Frame : Type 0 where
  Head : (parts plans ticks : ℕ) → Frame
  OwnTick : (n p : ℕ) (own : Own) → Frame
  WholeTick : (n : ℕ) (whole : Whole) → Frame
  OwnEnd : (p : ℕ) (state : State) (resets exec pc : ℕ) → Frame
  WholeEnd : (halted : Bool) (plan clock ticks : ℕ) → Frame

abbrev IsFrameInRange : Frame → Type 0
IsFrameInRange (Head parts plans ticks) = IsCount parts × IsCount plans × IsCount ticks
IsFrameInRange (OwnTick n p own) = IsCount n × IsCount p × IsOwnInRange own
IsFrameInRange (WholeTick n whole) = IsCount n × IsWholeInRange whole
IsFrameInRange (OwnEnd p state resets exec pc) = IsCount p × IsCount resets × IsCount exec × IsWord pc
IsFrameInRange (WholeEnd halted plan clock ticks) = IsCount plan × IsCount clock × IsCount ticks

abbrev frame_text : Frame → List ℕ → List ℕ
frame_text (Head parts plans ticks) more = codes "SYSTEM parts=" ++ (decimal parts ++ (codes " plans=" ++ (decimal plans ++ (codes " ticks=" ++ (decimal ticks ++ (codes "\n" ++ more))))))
frame_text (OwnTick n p own) more = codes "[" ++ (decimal n ++ (codes "] P" ++ (decimal p ++ (codes " " ++ own_text own more))))
frame_text (WholeTick n whole) more = codes "[" ++ (decimal n ++ (codes "] XM " ++ whole_tail whole more))
frame_text (OwnEnd p state resets exec pc) more =
    codes "END P" ++ (decimal p ++ (codes " " ++ (state_text state ++ (codes " resets=" ++ (decimal resets ++ (codes " exec=" ++ (decimal exec ++ (codes " pc=" ++ (encode_lower (to_be_bytes w32 pc) ++ (codes "\n" ++ more))))))))))
frame_text (WholeEnd halted plan clock ticks) more =
    codes "END XM " ++ (halted_text halted ++ (codes " plan=" ++ (decimal plan ++ (codes " clock=" ++ (decimal clock ++ (codes " ticks=" ++ (decimal ticks ++ (codes "\n" ++ more))))))))

frame_cut : (one other : Frame) (after later : List ℕ) → IsFrameInRange one → IsFrameInRange other → frame_text one after ≡ frame_text other later → (one ≡ other) × (after ≡ later)
frame_cut (Head parts plans ticks) (Head parts_of plans_of ticks_of) after later range range_other same =
    let first = number_cut 32 parts parts_of _ _ (omega arith) range.0 range_other.0 (append_cancel_left (codes "SYSTEM parts=") _ _ same) in
    let second = number_cut 32 plans plans_of _ _ (omega arith) range.1 range_other.1 (append_cancel_left (codes "plans=") _ _ first.1) in
    let third = number_cut 10 ticks ticks_of after later (omega arith) range.2 range_other.2 (append_cancel_left (codes "ticks=") _ _ second.1) in
    (ap (λ (n : ℕ). Head n plans ticks) first.0 ∙ ap (λ (n : ℕ). Head parts_of n ticks) second.0 ∙ ap (Head parts_of plans_of) third.0, third.1)
frame_cut (OwnTick n p own) (OwnTick n_of p_of own_of) after later range range_other same =
    let tick = tick_cut n n_of _ _ range.0 range_other.0 (append_cancel_left (codes "[") _ _ same) in
    let part = number_cut 32 p p_of _ _ (omega arith) range.1 range_other.1 (append_cancel_left (codes " P") _ _ tick.1) in
    let rest = own_cut own own_of after later range.2 range_other.2 part.1 in
    (ap (λ (m : ℕ). OwnTick m p own) tick.0 ∙ ap (λ (q : ℕ). OwnTick n_of q own) part.0 ∙ ap (OwnTick n_of p_of) rest.0, rest.1)
frame_cut (WholeTick n whole) (WholeTick n_of whole_of) after later range range_other same =
    let tick = tick_cut n n_of _ _ range.0 range_other.0 (append_cancel_left (codes "[") _ _ same) in
    let rest = whole_cut whole whole_of after later range.1 range_other.1 (append_cancel_left (codes " XM ") _ _ tick.1) in
    (ap (λ (m : ℕ). WholeTick m whole) tick.0 ∙ ap (WholeTick n_of) rest.0, rest.1)
frame_cut (OwnEnd p state resets exec pc) (OwnEnd p_of state_of resets_of exec_of pc_of) after later range range_other same =
    let part = number_cut 32 p p_of _ _ (omega arith) range.0 range_other.0 (append_cancel_left (codes "END P") _ _ same) in
    let states = state_cut state state_of _ _ part.1 in
    let reset = number_cut 32 resets resets_of _ _ (omega arith) range.1 range_other.1 (append_cancel_left (codes "resets=") _ _ states.1) in
    let executed = number_cut 32 exec exec_of _ _ (omega arith) range.2 range_other.2 (append_cancel_left (codes "exec=") _ _ reset.1) in
    let counter = word_cut pc pc_of _ _ range.3 range_other.3 (append_cancel_left (codes "pc=") _ _ executed.1) in (
      ap (λ (q : ℕ). OwnEnd q state resets exec pc) part.0
          ∙ ap (λ (s : State). OwnEnd p_of s resets exec pc) states.0
          ∙ ap (λ (n : ℕ). OwnEnd p_of state_of n exec pc) reset.0
          ∙ ap (λ (n : ℕ). OwnEnd p_of state_of resets_of n pc) executed.0
          ∙ ap (OwnEnd p_of state_of resets_of exec_of) counter.0,
      append_cancel_left (codes "\n") after later counter.1,
    )
frame_cut (WholeEnd halted plan clock ticks) (WholeEnd halted_of plan_of clock_of ticks_of) after later range range_other same =
    let runs = halted_cut halted halted_of _ _ (append_cancel_left (codes "END XM ") _ _ same) in
    let first = number_cut 32 plan plan_of _ _ (omega arith) range.0 range_other.0 (append_cancel_left (codes "plan=") _ _ runs.1) in
    let second = number_cut 32 clock clock_of _ _ (omega arith) range.1 range_other.1 (append_cancel_left (codes "clock=") _ _ first.1) in
    let third = number_cut 10 ticks ticks_of after later (omega arith) range.2 range_other.2 (append_cancel_left (codes "ticks=") _ _ second.1) in (
      ap (λ (t : Bool). WholeEnd t plan clock ticks) runs.0
          ∙ ap (λ (n : ℕ). WholeEnd halted_of n clock ticks) first.0
          ∙ ap (λ (n : ℕ). WholeEnd halted_of plan_of n ticks) second.0
          ∙ ap (WholeEnd halted_of plan_of clock_of) third.0,
      third.1,
    )
frame_cut (OwnTick n p own) (WholeTick n_of whole) after later range range_other same =
    let tick = tick_cut n n_of _ _ range.0 range_other.0 (append_cancel_left (codes "[") _ _ same) in
    let tag : 80 ≡ 88 = ap (λ (text : List ℕ). get_or text 1 0) tick.1 in
    absurd (omega (arith, tag))
frame_cut (WholeTick n whole) (OwnTick n_of p own) after later range range_other same =
    let tick = tick_cut n n_of _ _ range.0 range_other.0 (append_cancel_left (codes "[") _ _ same) in
    let tag : 88 ≡ 80 = ap (λ (text : List ℕ). get_or text 1 0) tick.1 in
    absurd (omega (arith, tag))
frame_cut (OwnEnd p state resets exec pc) (WholeEnd halted plan clock ticks) after later range range_other same = (let tag : 80 ≡ 88 = ap (λ (text : List ℕ). get_or text 4 0) same in absurd (omega (arith, tag)))
frame_cut (WholeEnd halted plan clock ticks) (OwnEnd p state resets exec pc) after later range range_other same = (let tag : 88 ≡ 80 = ap (λ (text : List ℕ). get_or text 4 0) same in absurd (omega (arith, tag)))
frame_cut (Head parts plans ticks) (OwnTick n_of p_of own_of) after later range range_other same = (let first : 83 ≡ 91 = ap (λ (text : List ℕ). get_or text 0 0) same in absurd (omega (arith, first)))
frame_cut (Head parts plans ticks) (WholeTick n_of whole_of) after later range range_other same = (let first : 83 ≡ 91 = ap (λ (text : List ℕ). get_or text 0 0) same in absurd (omega (arith, first)))
frame_cut (Head parts plans ticks) (OwnEnd p_of state_of resets_of exec_of pc_of) after later range range_other same = (let first : 83 ≡ 69 = ap (λ (text : List ℕ). get_or text 0 0) same in absurd (omega (arith, first)))
frame_cut (Head parts plans ticks) (WholeEnd halted_of plan_of clock_of ticks_of) after later range range_other same = (let first : 83 ≡ 69 = ap (λ (text : List ℕ). get_or text 0 0) same in absurd (omega (arith, first)))
frame_cut (OwnTick n p own) (Head parts_of plans_of ticks_of) after later range range_other same = (let first : 91 ≡ 83 = ap (λ (text : List ℕ). get_or text 0 0) same in absurd (omega (arith, first)))
frame_cut (OwnTick n p own) (OwnEnd p_of state_of resets_of exec_of pc_of) after later range range_other same = (let first : 91 ≡ 69 = ap (λ (text : List ℕ). get_or text 0 0) same in absurd (omega (arith, first)))
frame_cut (OwnTick n p own) (WholeEnd halted_of plan_of clock_of ticks_of) after later range range_other same = (let first : 91 ≡ 69 = ap (λ (text : List ℕ). get_or text 0 0) same in absurd (omega (arith, first)))
frame_cut (WholeTick n whole) (Head parts_of plans_of ticks_of) after later range range_other same = (let first : 91 ≡ 83 = ap (λ (text : List ℕ). get_or text 0 0) same in absurd (omega (arith, first)))
frame_cut (WholeTick n whole) (OwnEnd p_of state_of resets_of exec_of pc_of) after later range range_other same = (let first : 91 ≡ 69 = ap (λ (text : List ℕ). get_or text 0 0) same in absurd (omega (arith, first)))
frame_cut (WholeTick n whole) (WholeEnd halted_of plan_of clock_of ticks_of) after later range range_other same = (let first : 91 ≡ 69 = ap (λ (text : List ℕ). get_or text 0 0) same in absurd (omega (arith, first)))
frame_cut (OwnEnd p state resets exec pc) (Head parts_of plans_of ticks_of) after later range range_other same = (let first : 69 ≡ 83 = ap (λ (text : List ℕ). get_or text 0 0) same in absurd (omega (arith, first)))
frame_cut (OwnEnd p state resets exec pc) (OwnTick n_of p_of own_of) after later range range_other same = (let first : 69 ≡ 91 = ap (λ (text : List ℕ). get_or text 0 0) same in absurd (omega (arith, first)))
frame_cut (OwnEnd p state resets exec pc) (WholeTick n_of whole_of) after later range range_other same = (let first : 69 ≡ 91 = ap (λ (text : List ℕ). get_or text 0 0) same in absurd (omega (arith, first)))
frame_cut (WholeEnd halted plan clock ticks) (Head parts_of plans_of ticks_of) after later range range_other same = (let first : 69 ≡ 83 = ap (λ (text : List ℕ). get_or text 0 0) same in absurd (omega (arith, first)))
frame_cut (WholeEnd halted plan clock ticks) (OwnTick n_of p_of own_of) after later range range_other same = (let first : 69 ≡ 91 = ap (λ (text : List ℕ). get_or text 0 0) same in absurd (omega (arith, first)))
frame_cut (WholeEnd halted plan clock ticks) (WholeTick n_of whole_of) after later range range_other same = (let first : 69 ≡ 91 = ap (λ (text : List ℕ). get_or text 0 0) same in absurd (omega (arith, first)))

-- A line is its frame.

abbrev frame_of : ReportLine → Frame
frame_of (SystemLine parts plans ticks) = Head parts plans ticks
frame_of (ConsoleLine n p bytes) = OwnTick n p (Con bytes)
frame_of (HealthLine n p event word action) = OwnTick n p (Hm event word action)
frame_of (TraceLine n p bits load) = OwnTick n p (Tr bits load)
frame_of (MovedLine n p to) = OwnTick n p (Mv to)
frame_of (StruckLine n p place bit) = OwnTick n p (Up place bit)
frame_of (WholeLine n to) = WholeTick n (WholeMoves to)
frame_of (PlanLine n plan) = WholeTick n (Plans plan)
frame_of (EndPart p state resets exec pc) = OwnEnd p state resets exec pc
frame_of (EndWhole halted plan clock ticks) = WholeEnd halted plan clock ticks

abbrev line_of : Frame → ReportLine
line_of (Head parts plans ticks) = SystemLine parts plans ticks
line_of (OwnTick n p (Con bytes)) = ConsoleLine n p bytes
line_of (OwnTick n p (Hm event word action)) = HealthLine n p event word action
line_of (OwnTick n p (Tr bits load)) = TraceLine n p bits load
line_of (OwnTick n p (Mv to)) = MovedLine n p to
line_of (OwnTick n p (Up place bit)) = StruckLine n p place bit
line_of (WholeTick n (WholeMoves to)) = WholeLine n to
line_of (WholeTick n (Plans plan)) = PlanLine n plan
line_of (OwnEnd p state resets exec pc) = EndPart p state resets exec pc
line_of (WholeEnd halted plan clock ticks) = EndWhole halted plan clock ticks

framed : (line : ReportLine) → line_of (frame_of line) ≡ line
framed (SystemLine parts plans ticks) = refl
framed (ConsoleLine n p bytes) = refl
framed (HealthLine n p event word action) = refl
framed (TraceLine n p bits load) = refl
framed (MovedLine n p to) = refl
framed (StruckLine n p place bit) = refl
framed (WholeLine n to) = refl
framed (PlanLine n plan) = refl
framed (EndPart p state resets exec pc) = refl
framed (EndWhole halted plan clock ticks) = refl

frame_in_range : (line : ReportLine) → IsInRange line → IsFrameInRange (frame_of line)
frame_in_range (SystemLine parts plans ticks) range = range
frame_in_range (ConsoleLine n p bytes) range = range
frame_in_range (HealthLine n p event word action) range = range
frame_in_range (TraceLine n p bits load) range = (range.0, range.1, (range.2, range.3))
frame_in_range (MovedLine n p to) range = (range.0, range.1, tt)
frame_in_range (StruckLine n p place bit) range = (range.0, range.1, (range.2, range.3))
frame_in_range (WholeLine n to) range = (range, tt)
frame_in_range (PlanLine n plan) range = range
frame_in_range (EndPart p state resets exec pc) range = range
frame_in_range (EndWhole halted plan clock ticks) range = range

-- pieces after a first one, from the left
abbrev pieces_after : List ℕ → List (List ℕ) → List ℕ
pieces_after first [] = first
pieces_after first (piece ∷ pieces) = pieces_after (first ++ piece) pieces

-- and from the right, before more bytes
abbrev pieces_before : List (List ℕ) → List ℕ → List ℕ
pieces_before [] more = more
pieces_before (piece ∷ pieces) more = piece ++ pieces_before pieces more

turned : (first : List ℕ) (pieces : List (List ℕ)) (more : List ℕ) → pieces_after first pieces ++ more ≡ first ++ pieces_before pieces more
turned first [] more = refl
turned first (piece ∷ pieces) more = turned (first ++ piece) pieces more ∙ append_assoc first piece (pieces_before pieces more)

-- the text of a line is that of its frame
text_framed : (line : ReportLine) (more : List ℕ) → text_of line ++ more ≡ frame_text (frame_of line) more
unfolding console_text end_part_text end_whole_text health_text moved_text plan_text struck_text system_text trace_text whole_text
text_framed (SystemLine parts plans ticks) more = turned (codes "SYSTEM parts=") (decimal parts ∷ codes " plans=" ∷ decimal plans ∷ codes " ticks=" ∷ decimal ticks ∷ codes "\n" ∷ []) more
text_framed (ConsoleLine n p bytes) more = turned (codes "[") (decimal n ∷ codes "] P" ∷ decimal p ∷ codes " CON " ∷ escaped bytes ∷ codes "\n" ∷ []) more
text_framed (HealthLine n p event word action) more =
    turned (codes "[") (decimal n ∷ codes "] P" ∷ decimal p ∷ codes " HM " ∷ (event_row event).text ∷ codes " " ∷ encode_lower (to_be_bytes w32 word) ∷ codes " " ∷ (action_row action).text ∷ codes "\n" ∷ []) more
text_framed (TraceLine n p bits load) more =
    turned (codes "[") (decimal n ∷ codes "] P" ∷ decimal p ∷ codes " TRACE " ∷ encode_lower (to_be_bytes w32 bits) ∷ codes " " ∷ encode_lower load ∷ codes "\n" ∷ []) more
text_framed (MovedLine n p to) more = turned (codes "[") (decimal n ∷ codes "] P" ∷ decimal p ∷ codes " " ∷ move_text to ∷ codes "\n" ∷ []) more
text_framed (StruckLine n p place bit) more =
    turned (codes "[") (decimal n ∷ codes "] P" ∷ decimal p ∷ codes " UPSET " ∷ place_text place ∷ codes " bit " ∷ decimal bit ∷ codes "\n" ∷ []) more
text_framed (WholeLine n to) more = turned (codes "[") (decimal n ∷ codes "] XM " ∷ move_text to ∷ codes "\n" ∷ []) more
text_framed (PlanLine n plan) more = turned (codes "[") (decimal n ∷ codes "] XM PLAN " ∷ decimal plan ∷ codes "\n" ∷ []) more
text_framed (EndPart p state resets exec pc) more =
    turned (codes "END P") (decimal p ∷ codes " " ∷ state_text state ∷ codes " resets=" ∷ decimal resets ∷ codes " exec=" ∷ decimal exec ∷ codes " pc=" ∷ encode_lower (to_be_bytes w32 pc) ∷ codes "\n" ∷ []) more
text_framed (EndWhole halted plan clock ticks) more =
    turned (codes "END XM ") (halted_text halted ∷ codes " plan=" ∷ decimal plan ∷ codes " clock=" ∷ decimal clock ∷ codes " ticks=" ∷ decimal ticks ∷ codes "\n" ∷ []) more

-- a line is read back from where it begins
pub line_determined : LinesAreDetermined
line_determined one other after later range range_other same =
    let text = sym (text_framed one after) ∙ same ∙ text_framed other later in
    let both = frame_cut (frame_of one) (frame_of other) after later (frame_in_range one range) (frame_in_range other range_other) text in
    (sym (framed one) ∙ ap line_of both.0 ∙ framed other, both.1)

-- a line has a text
line_some : (line : ReportLine) (more : List ℕ) → [] ≡ frame_text (frame_of line) more → ⊥
line_some (SystemLine parts plans ticks) more none = cc
line_some (ConsoleLine n p bytes) more none = cc
line_some (HealthLine n p event word action) more none = cc
line_some (TraceLine n p bits load) more none = cc
line_some (MovedLine n p to) more none = cc
line_some (StruckLine n p place bit) more none = cc
line_some (WholeLine n to) more none = cc
line_some (PlanLine n plan) more none = cc
line_some (EndPart p state resets exec pc) more none = cc
line_some (EndWhole halted plan clock ticks) more none = cc

-- so are lines
pub lines_determined : TextsDetermineLines
lines_determined [] [] range range_other same = refl
lines_determined [] (line ∷ other) range range_other same = absurd (line_some line (texts other) (same ∙ text_framed line (texts other)))
lines_determined (line ∷ one) [] range range_other same = absurd (line_some line (texts one) (sym same ∙ text_framed line (texts one)))
lines_determined (line ∷ one) (next ∷ other) range range_other same =
    let both = line_determined line next (texts one) (texts other) range.0 range_other.0 same in
    let rest = lines_determined one other range.1 range_other.1 both.1 in
    ap (λ (l : ReportLine). l ∷ one) both.0 ∙ ap (λ (ls : List ReportLine). next ∷ ls) rest
