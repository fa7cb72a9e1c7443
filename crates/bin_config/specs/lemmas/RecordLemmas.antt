-- What each record of a configuration is read of, and how it is spelled.
use Rattle.std.proofs.Common.{◌≡◌, ◌≢◌, ℕ, zero, suc, ◌<◌, Bool, true, false, cond, List, [], ◌∷◌, ◌++◌, length, Option, Some, None, Ok, refl, sym, ap, subst, ◌∙◌, append_assoc, arith, ◌⊎◌, inl, inr}
use Rattle.std.specs.Prelude.{⊤, ◌==◌, ◌&&◌, ◌||◌, nat_lt, slice_get, IfSome}
use Rattle.std.specs.List.{AllByRecursion}
use Rattle.std.proofs.lemmas.Bool.Decides.{nat_tests}
use Rattle.xm_base.specs.Bytes.{AreBytes}
use Rattle.xm_base.specs.Cursor.{Place, ahead}
use Rattle.xm_conf.specs.Health.{action_row, actions}
use Rattle.xm_conf.specs.Name.{IsName, is_name, name_from_bytes}
use Rattle.xm_conf.specs.lemmas.NameLemmas.{is_name-Decides}
use Rattle.xm_conf.specs.declared.health.Action.{Action}
use Rattle.xm_conf.specs.declared.health.Action.TheVariants as action
use Rattle.xm_conf.specs.declared.part.Need.{Need}
use Rattle.xm_conf.specs.declared.port.Kind.{Kind}
use Rattle.xm_conf.specs.declared.port.Kind.TheVariants as kind
use Rattle.xm_conf.specs.declared.port.Way.{Way}
use Rattle.xm_conf.specs.declared.port.Way.TheVariants as way
use Rattle.xm_conf.specs.declared.channel.ChanKind.{ChanKind}
use Rattle.xm_conf.specs.declared.channel.ChanKind.TheVariants as chan_kind
use Rattle.xm_conf.specs.declared.link.Link.{Link}
use Rattle.file_headers.specs.lemmas.FieldLemmas.{Reads, Takes, bytes_again, bytes_take, takes_both}
use Rattle.file_headers.specs.Fields.{field_bytes}
use Rattle.file_headers.specs.lemmas.StepLemmas.{ok_is, stepped}
use Rattle.file_headers.specs.Steps.{◌>>=◌}
use Rattle.bin_config.specs.Reading as reading
use Rattle.bin_config.specs.Spelled.{IsByte, IsHalfWord, HasFourBytes, IsSpelledRegion, IsSpelledSlot, IsSpelledNeed, IsSpelledMonitor, IsSpelledArea, IsSpelledPart, IsSpelledEnd, IsSpelledKind, IsSpelledLink, AreSpelledLinks, IsSpelledConf}
use Rattle.bin_config.specs.lemmas.SpelledTerms.{IsSpelledPlan, IsSpelledChan}
use Rattle.bin_config.specs.Xmc as xmc
use Rattle.bin_config.specs.lemmas.FieldLemmas.{IsReaderOf, had, byte_spells, half_word_spells, word_spells, coded_spells, elements_spells, counted_spells}
use Rattle.bin_config.specs.lemmas.FrontLemmas.{first, then, followed, made_of_fields, made_of_two}
use Rattle.bin_config.specs.declared.identity.Identity.{Identity}
use Rattle.bin_config.specs.declared.version.Version.{Version}
use Rattle.bin_config.specs.declared.version.Version.TheVariants as version
use Rattle.fault_messages.specs.declared.fault.XmcFault.TheVariants.{Short}

-- a region
pub region_spells : IsReaderOf reading.region_at xmc.region_record IsSpelledRegion
unfolding reading.region_at xmc.region_record
region_spells =
    made_of_two (λ t. record { start = t.0; size = t.1 }) (λ r. (r.start, r.size)) xmc.region_record IsSpelledRegion word_spells word_spells
    (λ t p. (refl, record { start = p.0; size = p.1 })) (λ r q. (refl, (q.start, q.size))) (λ r q. refl)

-- a slot
pub slot_spells : IsReaderOf reading.slot_record_at xmc.slot_record IsSpelledSlot
unfolding reading.slot_record_at xmc.slot_record
slot_spells =
    made_of_fields (λ t. record { start = t.0.0; duration = t.0.1; part = t.1 }) (λ s. ((s.start, s.duration), s.part)) xmc.slot_record IsSpelledSlot
    (then (then (first word_spells) word_spells) byte_spells)
    (λ t p. (refl, record { start = p.0.0; duration = p.0.1; part = p.1 })) (λ s q. (refl, ((q.start, q.duration), q.part))) (λ s q. refl)

-- a plan
pub plan_spells : IsReaderOf reading.plan_record_at xmc.plan_record IsSpelledPlan
unfolding reading.plan_record_at xmc.plan_record
plan_spells =
    made_of_two (λ t. record { frame = t.0; slots = t.1 }) (λ p. (p.frame, p.slots)) xmc.plan_record IsSpelledPlan
    word_spells (counted_spells reading.slot_record_at xmc.slot_record IsSpelledSlot slot_spells)
    (λ t p. (refl, record { frame = p.0; slots = p.1 })) (λ x q. (refl, (q.frame, q.slots))) (λ x q. refl)

-- what was found is the value
some_is : {X : Type 0} (x y : X) → (let found : Option X = Some x in found ≡ Some y) → x ≡ y
some_is x y e = cc

-- a byte that means one of two values
two_there : {X : Type 0} (first second x : X) (byte : ℕ) → reading.one_of_two first second byte ≡ Some x → ((byte ≡ 0) × (first ≡ x)) ⊎ ((byte ≡ 1) × (second ≡ x))
two_there {X} first second x byte e = at (byte == 0) refl (byte == 1) refl e
  where
    at : (a : Bool) → (byte == 0) ≡ a → (b : Bool) → (byte == 1) ≡ b → cond a (Some first) (cond b (Some second) None) ≡ Some x → ((byte ≡ 0) × (first ≡ x)) ⊎ ((byte ≡ 1) × (second ≡ x))
    at true none b is found = inl (grind (arith, nat_tests), some_is first x found)
    at false some true is found = inr (grind (arith, nat_tests), some_is second x found)
    at false some false more found = absurd cc

-- a byte for the first of two values, and one for the second, where there is no other value
two_spells : {X : Type 0} (first second : X) (code : X → ℕ) → code first ≡ 0 → code second ≡ 1 → ((x : X) → reading.one_of_two first second (code x) ≡ Some x)
    → IsReaderOf (reading.coded_at reading.byte_field_at (reading.one_of_two first second)) (λ x. code x ∷ []) (λ x. ⊤)
two_spells {X} first second code none one known =
    coded_spells reading.byte_field_at (λ n. n ∷ []) IsByte (reading.one_of_two first second) code (λ x. ⊤) byte_spells there (λ x q. (known x, small x (two_there first second x (code x) (known x))))
  where
    there : (byte : ℕ) (x : X) → IsByte byte → reading.one_of_two first second byte ≡ Some x → (byte ≡ code x) × ⊤
    there byte x below e =
        elim (two_there first second x byte e) [
          | inl p ↦ (p.0 ∙ sym none ∙ ap code p.1, tt)
          | inr p ↦ (p.0 ∙ sym one ∙ ap code p.1, tt)
        ]

    small : (x : X) → ((code x ≡ 0) × (first ≡ x)) ⊎ ((code x ≡ 1) × (second ≡ x)) → IsByte (code x)
    small x (inl p) = omega (arith, p.0)
    small x (inr p) = omega (arith, p.0)

-- a flag's byte
flag_known : (x : Bool) → reading.one_of_two false true (xmc.flag_field x) ≡ Some x
flag_known false = refl
flag_known true = refl

-- a port's kind's byte
kind_known : (x : Kind) → reading.one_of_two kind.Sampling kind.Queuing (xmc.kind_byte x) ≡ Some x
kind_known kind.Sampling = refl
kind_known kind.Queuing = refl

-- a port's way's byte
way_known : (x : Way) → reading.one_of_two way.Source way.Destination (xmc.way_byte x) ≡ Some x
way_known way.Source = refl
way_known way.Destination = refl

-- a flag
pub flag_spells : IsReaderOf reading.flag_at (λ x. xmc.flag_field x ∷ []) (λ x. ⊤)
unfolding reading.flag_at
flag_spells = two_spells false true xmc.flag_field refl refl flag_known

-- a port's kind
pub kind_spells : IsReaderOf reading.kind_at (λ x. xmc.kind_byte x ∷ []) (λ x. ⊤)
unfolding reading.kind_at
kind_spells = two_spells kind.Sampling kind.Queuing xmc.kind_byte refl refl kind_known

-- a port's way
pub way_spells : IsReaderOf reading.way_at (λ x. xmc.way_byte x ∷ []) (λ x. ⊤)
unfolding reading.way_at
way_spells = two_spells way.Source way.Destination xmc.way_byte refl refl way_known

-- the byte of an action
action_there : (byte : ℕ) (x : Action) → IsByte byte → slice_get actions byte ≡ Some x → (byte ≡ (action_row x).number) × ⊤
action_there zero x below e = (ap (λ a. (action_row a).number) (some_is action.Ignore x e), tt)
action_there (suc zero) x below e = (ap (λ a. (action_row a).number) (some_is action.Shutdown x e), tt)
action_there (suc (suc zero)) x below e = (ap (λ a. (action_row a).number) (some_is action.PartitionColdReset x e), tt)
action_there (suc (suc (suc zero))) x below e = (ap (λ a. (action_row a).number) (some_is action.PartitionWarmReset x e), tt)
action_there (suc (suc (suc (suc zero)))) x below e = (ap (λ a. (action_row a).number) (some_is action.Suspend x e), tt)
action_there (suc (suc (suc (suc (suc zero))))) x below e = (ap (λ a. (action_row a).number) (some_is action.Halt x e), tt)
action_there (suc (suc (suc (suc (suc (suc zero)))))) x below e = (ap (λ a. (action_row a).number) (some_is action.Propagate x e), tt)
action_there (suc (suc (suc (suc (suc (suc (suc zero))))))) x below e = (ap (λ a. (action_row a).number) (some_is action.HypervisorColdReset x e), tt)
action_there (suc (suc (suc (suc (suc (suc (suc (suc zero)))))))) x below e = (ap (λ a. (action_row a).number) (some_is action.HypervisorWarmReset x e), tt)
action_there (suc (suc (suc (suc (suc (suc (suc (suc (suc zero))))))))) x below e = (ap (λ a. (action_row a).number) (some_is action.HypervisorHalt x e), tt)
action_there (suc (suc (suc (suc (suc (suc (suc (suc (suc (suc zero)))))))))) x below e = (ap (λ a. (action_row a).number) (some_is action.SwitchToMaintenance x e), tt)
action_there (suc (suc (suc (suc (suc (suc (suc (suc (suc (suc (suc byte))))))))))) x below e = absurd cc

-- an action's byte
action_back : (x : Action) → ⊤ → (slice_get actions (action_row x).number ≡ Some x) × IsByte (action_row x).number
action_back action.Ignore q = (refl, omega arith)
action_back action.Shutdown q = (refl, omega arith)
action_back action.PartitionColdReset q = (refl, omega arith)
action_back action.PartitionWarmReset q = (refl, omega arith)
action_back action.Suspend q = (refl, omega arith)
action_back action.Halt q = (refl, omega arith)
action_back action.Propagate q = (refl, omega arith)
action_back action.HypervisorColdReset q = (refl, omega arith)
action_back action.HypervisorWarmReset q = (refl, omega arith)
action_back action.HypervisorHalt q = (refl, omega arith)
action_back action.SwitchToMaintenance q = (refl, omega arith)

-- an action
pub action_spells : IsReaderOf reading.action_at xmc.action (λ x. ⊤)
unfolding reading.action_at xmc.action
action_spells = coded_spells reading.byte_field_at (λ n. n ∷ []) IsByte (slice_get actions) (λ x. (action_row x).number) (λ x. ⊤) byte_spells action_there action_back

-- flags that are read are those of events
flags_there : (flags x : ℕ) → IsHalfWord flags → reading.logged_flags flags ≡ Some x → (flags ≡ x) × (x < 4096)
flags_there flags x below e = at (nat_lt flags 4096) refl e
  where
    at : (b : Bool) → nat_lt flags 4096 ≡ b → cond b (Some flags) None ≡ Some x → (flags ≡ x) × (x < 4096)
    at true less found = let same : flags ≡ x = some_is flags x found in (same, grind (arith, nat_tests))
    at false less found = absurd cc

-- flags of events are read
flags_back : (x : ℕ) → x < 4096 → (reading.logged_flags x ≡ Some x) × IsHalfWord x
flags_back x below = let less : nat_lt x 4096 ≡ true = grind (arith, nat_tests) in (rw less refl, omega (arith, below))

-- the flags of the events that are logged
pub flags_spells : IsReaderOf reading.flags_at xmc.half_word (λ x. x < 4096)
unfolding reading.flags_at
flags_spells = coded_spells reading.half_word_at xmc.half_word IsHalfWord reading.logged_flags (λ x. x) (λ x. x < 4096) half_word_spells flags_there flags_back

-- bytes that are a name
name_there : (bytes x : List ℕ) → name_from_bytes bytes ≡ Some x → (bytes ≡ x) × IsName x
name_there bytes x e = at (is_name bytes) refl e
  where
    at : (b : Bool) → is_name bytes ≡ b → cond b (Some bytes) None ≡ Some x → (bytes ≡ x) × IsName x
    at true named found = let same : bytes ≡ x = some_is bytes x found in (same, subst IsName same ((is_name-Decides bytes).0 named))
    at false named found = absurd cc

-- a name is one
name_back : (x : List ℕ) → IsName x → name_from_bytes x ≡ Some x
name_back x named = rw ((is_name-Decides x).1 named) refl

-- a text that is read
text_takes : (place : Place) (x : List ℕ) (after : Place) → AreBytes (ahead place) → reading.text_field_at place ≡ Ok (x, after) → Takes place (xmc.text_field x) after × IsName x
unfolding reading.text_field_at xmc.text_field
text_takes place x after each e =
    let a = stepped (reading.byte_field_at place) (λ count. reading.text_after place.at count.0 count.1) (x, after) e in
    let size = byte_spells.takes place a.value.0 a.value.1 each a.is in
    let b = stepped (field_bytes (λ here. Short place.at) a.value.0 a.value.1) (λ bytes. reading.or_fault place.at bytes.1 (name_from_bytes bytes.0)) (x, after) a.led in
    let h = had place.at b.value.1 (name_from_bytes b.value.0) x after b.led in
    let named = name_there b.value.0 x h.0 in
    let t = bytes_take (λ here. Short place.at) a.value.0 a.value.1 b.value.0 b.value.1 size.0.rest b.is in
    let counted : a.value.0 ≡ length x = sym t.1 ∙ ap length named.0 in
    let bytes : Takes a.value.1 x after = subst (λ (following : Place). Takes a.value.1 x following) h.1 (subst (λ (y : List ℕ). Takes a.value.1 y b.value.1) named.0 t.0) in
    (subst (λ (n : ℕ). Takes place ((n ∷ []) ++ x) after) counted (takes_both place (a.value.0 ∷ []) a.value.1 x after size.0 bytes), named.1)

-- a text that stands there
text_again : (place : Place) (x rest : List ℕ) → IsName x → ahead place ≡ xmc.text_field x ++ rest → Reads (reading.text_field_at place) x rest
unfolding reading.text_field_at xmc.text_field
text_again place x rest named is =
    let size = byte_spells.again place (length x) (x ++ rest) (omega (arith, named.most)) is in
    let b = bytes_again (λ here. Short place.at) (length x) size.after x rest refl size.ahead in
    record { after = b.after; is = rw (size.is, b.is, name_back x named) refl; ahead = b.ahead }

-- a text
pub text_spells : IsReaderOf reading.text_field_at xmc.text_field IsName
text_spells = record { takes = text_takes; again = text_again }

-- a requirement's two numbers
need_there : (duration period : ℕ) (x : Option Need) → HasFourBytes duration → HasFourBytes period → reading.need_of_numbers duration period ≡ Some x → (xmc.word_field duration ++ xmc.word_field period ≡ xmc.need_field x) × IfSome x IsSpelledNeed
need_there duration period x long often e = at (duration == 0) refl (period == 0) refl e
  where
    P : Option Need → Type 0
    P y = (xmc.word_field duration ++ xmc.word_field period ≡ xmc.need_field y) × IfSome y IsSpelledNeed

    at : (a : Bool) → (duration == 0) ≡ a → (b : Bool) → (period == 0) ≡ b
        → cond (a && b) (Some None) (cond (a || b) None (Some (Some (record { duration = duration; period = period })))) ≡ Some x → P x
    at true d true p found =
        let no_duration : duration ≡ 0 = grind (arith, nat_tests) in
        let no_period : period ≡ 0 = grind (arith, nat_tests) in
        subst P (some_is None x found) (rw (no_duration, no_period) refl, tt)
    at true d false p found = absurd cc
    at false d true p found = absurd cc
    at false d false p found =
        let lasts : duration ≢ 0 = λ none. grind (arith, nat_tests) in
        let returns : period ≢ 0 = λ none. grind (arith, nat_tests) in
        subst P (some_is (Some (record { duration = duration; period = period })) x found) (refl, record { duration = long; period = often; lasts = lasts; returns = returns })

-- the duration of a requirement, or zero
abbrev duration_of : Option Need → ℕ
duration_of None = 0
duration_of (Some n) = n.duration

-- the period of a requirement, or zero
abbrev period_of : Option Need → ℕ
period_of None = 0
period_of (Some n) = n.period

-- a requirement of two numbers
need_some : (duration period : ℕ) → duration ≢ 0 → period ≢ 0 → reading.need_of_numbers duration period ≡ Some (Some (record { duration = duration; period = period }))
need_some duration period lasts returns =
    let d : (duration == 0) ≡ false = grind (arith, nat_tests) in
    let p : (period == 0) ≡ false = grind (arith, nat_tests) in
    rw (d, p) refl

-- what a requirement's numbers are
need_back : (x : Option Need) → IfSome x IsSpelledNeed → (reading.need_of_numbers (duration_of x) (period_of x) ≡ Some x) × HasFourBytes (duration_of x) × HasFourBytes (period_of x) × (xmc.need_field x ≡ xmc.word_field (duration_of x) ++ xmc.word_field (period_of x))
need_back None q = (refl, omega arith, omega arith, refl)
need_back (Some n) q = (need_some n.duration n.period q.lasts q.returns, q.duration, q.period, refl)

-- a requirement that is read
need_takes : (place : Place) (x : Option Need) (after : Place) → AreBytes (ahead place) → reading.need_at place ≡ Ok (x, after) → Takes place (xmc.need_field x) after × IfSome x IsSpelledNeed
unfolding reading.need_at
need_takes place x after each e =
    let a = stepped (reading.word_field_at place) (λ duration. reading.word_field_at duration.1 >>= λ period. reading.or_fault duration.1.at period.1 (reading.need_of_numbers duration.0 period.0)) (x, after) e in
    let b = stepped (reading.word_field_at a.value.1) (λ period. reading.or_fault a.value.1.at period.1 (reading.need_of_numbers a.value.0 period.0)) (x, after) a.led in
    let h = had a.value.1.at b.value.1 (reading.need_of_numbers a.value.0 b.value.0) x after b.led in
    let duration = word_spells.takes place a.value.0 a.value.1 each a.is in
    let period = word_spells.takes a.value.1 b.value.0 b.value.1 duration.0.rest b.is in
    let both = takes_both place (xmc.word_field a.value.0) a.value.1 (xmc.word_field b.value.0) b.value.1 duration.0 period.0 in
    let c = need_there a.value.0 b.value.0 x duration.1 period.1 h.0 in
    (subst (λ (text : List ℕ). Takes place text after) c.0 (subst (λ (following : Place). Takes place (xmc.word_field a.value.0 ++ xmc.word_field b.value.0) following) h.1 both), c.1)

-- a requirement that stands there
need_again : (place : Place) (x : Option Need) (rest : List ℕ) → IfSome x IsSpelledNeed → ahead place ≡ xmc.need_field x ++ rest → Reads (reading.need_at place) x rest
unfolding reading.need_at
need_again place x rest q is =
    let c = need_back x q in
    let a = word_spells.again place (duration_of x) (xmc.word_field (period_of x) ++ rest) c.1 (is ∙ ap (λ text. text ++ rest) c.3 ∙ append_assoc (xmc.word_field (duration_of x)) (xmc.word_field (period_of x)) rest) in
    let b = word_spells.again a.after (period_of x) rest c.2 a.ahead in
    record { after = b.after; is = rw (a.is, b.is) (ap (λ found. reading.or_fault a.after.at b.after found) c.0); ahead = b.ahead }

-- a requirement
pub need_spells : IsReaderOf reading.need_at xmc.need_field (λ x. IfSome x IsSpelledNeed)
need_spells = record { takes = need_takes; again = need_again }

-- an area
pub area_spells : IsReaderOf reading.area_at xmc.area_record IsSpelledArea
unfolding reading.area_at xmc.area_record
area_spells =
    made_of_fields (λ t. record { start = t.0.0; size = t.0.1; read_only = t.1 }) (λ a. ((a.start, a.size), a.read_only)) xmc.area_record IsSpelledArea
    (then (then (first word_spells) word_spells) flag_spells)
    (λ t p. (refl, record { start = p.0.0; size = p.0.1 })) (λ a q. (refl, ((q.start, q.size), tt))) (λ a q. refl)

-- a port
pub port_spells : IsReaderOf reading.port_record_at xmc.port_record (λ p. IsName p.name)
unfolding reading.port_record_at xmc.port_record
port_spells =
    made_of_fields (λ t. record { name = t.0.0; kind = t.0.1; way = t.1 }) (λ p. ((p.name, p.kind), p.way)) xmc.port_record (λ p. IsName p.name)
    (then (then (first text_spells) kind_spells) way_spells)
    (λ t p. (refl, p.0.0)) (λ x q. (refl, ((q, tt), tt))) (λ x q. refl)

-- an end of a channel
pub end_spells : IsReaderOf reading.end_at xmc.end IsSpelledEnd
unfolding reading.end_at xmc.end
end_spells =
    made_of_two (λ t. record { part = t.0; port = t.1 }) (λ e. (e.part, e.port)) xmc.end IsSpelledEnd byte_spells byte_spells
    (λ t p. (refl, record { part = p.0; port = p.1 })) (λ e q. (refl, (q.part, q.port))) (λ e q. refl)

-- the port's kind that a channel's kind has
abbrev pub port_kind : ChanKind → Kind
port_kind (chan_kind.Sampling refresh) = kind.Sampling
port_kind (chan_kind.Queuing most) = kind.Queuing

-- the number that a channel's kind has
abbrev kind_number : ChanKind → ℕ
kind_number (chan_kind.Sampling refresh) = refresh
kind_number (chan_kind.Queuing most) = most

-- a channel is of a kind, and its number can be spelled
abbrev pub IsKindOf : Kind → ChanKind → Type 0
IsKindOf k c = (port_kind c ≡ k) × IsSpelledKind c

-- a sampling channel is its number
sampling_back : (c : ChanKind) → IsKindOf kind.Sampling c → (chan_kind.Sampling (kind_number c) ≡ c) × HasFourBytes (kind_number c)
sampling_back (chan_kind.Sampling refresh) q = (refl, q.1)
sampling_back (chan_kind.Queuing most) q = absurd cc

-- a sampling channel's number is spelled
sampling_same : (c : ChanKind) → IsKindOf kind.Sampling c → xmc.word_field (kind_number c) ≡ xmc.keeps c
sampling_same (chan_kind.Sampling refresh) q = refl
sampling_same (chan_kind.Queuing most) q = absurd cc

-- a queuing channel is its number
queuing_back : (c : ChanKind) → IsKindOf kind.Queuing c → (chan_kind.Queuing (kind_number c) ≡ c) × IsByte (kind_number c)
queuing_back (chan_kind.Sampling refresh) q = absurd cc
queuing_back (chan_kind.Queuing most) q = (refl, q.1)

-- a queuing channel's number is spelled
queuing_same : (c : ChanKind) → IsKindOf kind.Queuing c → kind_number c ∷ [] ≡ xmc.keeps c
queuing_same (chan_kind.Sampling refresh) q = absurd cc
queuing_same (chan_kind.Queuing most) q = refl

-- what a channel's kind has beside it
pub keeps_spells : (k : Kind) → IsReaderOf (reading.keeps_at k) xmc.keeps (IsKindOf k)
unfolding reading.keeps_at
keeps_spells kind.Sampling =
    made_of_fields (λ n. chan_kind.Sampling n) kind_number xmc.keeps (IsKindOf kind.Sampling) (first word_spells) (λ n p. (refl, (refl, p))) sampling_back sampling_same
keeps_spells kind.Queuing =
    made_of_fields (λ n. chan_kind.Queuing n) kind_number xmc.keeps (IsKindOf kind.Queuing) (first byte_spells) (λ n p. (refl, (refl, p))) queuing_back queuing_same

-- the byte of a channel's kind
chan_byte-plain : (c : ChanKind) → xmc.kind_byte (port_kind c) ≡ xmc.chan_byte c
chan_byte-plain (chan_kind.Sampling refresh) = refl
chan_byte-plain (chan_kind.Queuing most) = refl

-- a channel
pub chan_spells : IsReaderOf reading.chan_record_at xmc.chan IsSpelledChan
unfolding reading.chan_record_at xmc.chan
chan_spells =
    made_of_fields (λ t. record { kind = t.0.0.1; length = t.0.0.0.1; source = t.0.1; dests = t.1 }) (λ c. ((((port_kind c.kind, c.length), c.kind), c.source), c.dests)) xmc.chan IsSpelledChan
    (then (then (followed (λ t. reading.keeps_at t.0) xmc.keeps (λ t. IsKindOf t.0) (then (first kind_spells) half_word_spells) (λ t. keeps_spells t.0)) end_spells)
    (counted_spells reading.end_at xmc.end IsSpelledEnd end_spells))
    (λ t p. (ap (λ k. ((((k, t.0.0.0.1), t.0.0.1), t.0.1), t.1)) p.0.0.1.0, record { kind = p.0.0.1.1; length = p.0.0.0.1; source = p.0.1; dests = p.1 }))
    (λ c q. (refl, ((((tt, q.length), (refl, q.kind)), q.source), q.dests)))
    (λ c q. ap (λ k. (k ∷ []) ++ xmc.half_word c.length ++ xmc.keeps c.kind ++ xmc.end c.source ++ xmc.list_field xmc.end c.dests) (chan_byte-plain c.kind))

-- there is nothing to say of actions
any_actions : (xs : List Action) → AllByRecursion (λ a. ⊤) xs
any_actions [] = tt
any_actions (x ∷ xs) = (tt, any_actions xs)

-- how many health events there are
event_count-is : reading.event_count ≡ 12
unfolding reading.event_count
event_count-is = refl

-- a partition's table of health events
pub monitor_spells : IsReaderOf reading.health_table_at xmc.monitor IsSpelledMonitor
unfolding reading.health_table_at xmc.monitor
monitor_spells =
    made_of_two (λ t. record { actions = t.0; logged = t.1 }) (λ hm. (hm.actions, hm.logged)) xmc.monitor IsSpelledMonitor
    (elements_spells reading.action_at xmc.action (λ a. ⊤) reading.event_count action_spells) flags_spells
    (λ t p. (refl, record { actions = p.0.0 ∙ event_count-is; logged = p.1 }))
    (λ hm q. (refl, ((q.actions ∙ sym event_count-is, any_actions hm.actions), q.logged))) (λ hm q. refl)

-- the byte of a console
console_there : (byte : ℕ) → IsByte byte → (xmc.console_field (reading.console_of byte) ≡ byte) × IfSome (reading.console_of byte) (λ uart. uart < 255)
console_there byte below = at (byte == 255) refl
  where
    at : (b : Bool) → (byte == 255) ≡ b → (xmc.console_field (cond b None (Some byte)) ≡ byte) × IfSome (cond b None (Some byte)) (λ uart. uart < 255)
    at true is = let same : 255 ≡ byte = grind (arith, nat_tests) in (same, tt)
    at false is = (refl, grind (arith, nat_tests))

-- a console's byte
console_back : (x : Option ℕ) → IfSome x (λ uart. uart < 255) → (reading.console_of (xmc.console_field x) ≡ x) × IsByte (xmc.console_field x)
console_back None q = (refl, omega arith)
console_back (Some uart) q = let other : (uart == 255) ≡ false = grind (arith, nat_tests) in (rw other refl, omega (arith, q))

-- who a partition is, as it is spelled
abbrev identity_text : Identity → List ℕ
identity_text i = xmc.text_field i.name ++ (xmc.flag_field i.system ∷ []) ++ (xmc.console_field i.console ∷ []) ++ xmc.need_field i.need ++ xmc.word_field i.trace_mask

-- who a partition is
record IsSpelledIdentity (i : Identity) : Type 0 where
  name : IsName i.name
  console : IfSome i.console (λ uart. uart < 255)
  need : IfSome i.need IsSpelledNeed
  trace_mask : HasFourBytes i.trace_mask

-- who a partition is
identity_spells : IsReaderOf reading.identity_at identity_text IsSpelledIdentity
unfolding reading.identity_at
identity_spells =
    made_of_fields (λ t. record { name = t.0.0.0.0; system = t.0.0.0.1; console = reading.console_of t.0.0.1; need = t.0.1; trace_mask = t.1 })
    (λ i. ((((i.name, i.system), xmc.console_field i.console), i.need), i.trace_mask)) identity_text IsSpelledIdentity
    (then (then (then (then (first text_spells) flag_spells) byte_spells) need_spells) word_spells)
    (λ t p. let c = console_there t.0.0.1 p.0.0.1 in (ap (λ b. ((((t.0.0.0.0, t.0.0.0.1), b), t.0.1), t.1)) c.0, record { name = p.0.0.0.0; console = c.1; need = p.0.1; trace_mask = p.1 }))
    (λ i q. let c = console_back i.console q.console in (ap (λ o. record { name = i.name; system = i.system; console = o; need = i.need; trace_mask = i.trace_mask }) c.0, ((((q.name, tt), c.1), q.need), q.trace_mask)))
    (λ i q. refl)

-- a partition
pub part_spells : IsReaderOf reading.part_record_at xmc.part_record IsSpelledPart
unfolding reading.part_record_at xmc.part_record xmc.identity xmc.belongings
part_spells =
    made_of_fields
    (λ t. record { name = t.0.0.0.name; system = t.0.0.0.system; console = t.0.0.0.console; need = t.0.0.0.need; trace_mask = t.0.0.0.trace_mask; hm = t.0.0.1; areas = t.0.1; ports = t.1 })
    (λ p. (((record { name = p.name; system = p.system; console = p.console; need = p.need; trace_mask = p.trace_mask }, p.hm), p.areas), p.ports)) xmc.part_record IsSpelledPart
    (then (then (then (first identity_spells) monitor_spells) (counted_spells reading.area_at xmc.area_record IsSpelledArea area_spells))
    (counted_spells reading.port_record_at xmc.port_record (λ p. IsName p.name) port_spells))
    (λ t p. (refl, record { name = p.0.0.0.name; console = p.0.0.0.console; need = p.0.0.0.need; trace_mask = p.0.0.0.trace_mask; hm = p.0.0.1; areas = p.0.1; ports = p.1 }))
    (λ p q. (refl, (((record { name = q.name; console = q.console; need = q.need; trace_mask = q.trace_mask }, q.hm), q.areas), q.ports)))
    (λ p q. append_assoc (xmc.identity p ++ xmc.monitor p.hm) (xmc.list_field xmc.area_record p.areas) (xmc.list_field xmc.port_record p.ports))

-- a link
link_spells : IsReaderOf reading.link_at xmc.link_text IsSpelledLink
unfolding reading.link_at xmc.link_text
link_spells =
    made_of_fields (λ t. record { number = t.0.0; source = t.0.1; dest = t.1 }) (λ l. ((l.number, l.source), l.dest)) xmc.link_text IsSpelledLink
    (then (then (first byte_spells) byte_spells) byte_spells)
    (λ t p. (refl, record { number = p.0.0; source = p.0.1; dest = p.1 })) (λ l q. (refl, ((q.number, q.source), q.dest))) (λ l q. refl)

-- the links of each version
links_spells : (v : Version) → IsReaderOf (reading.links_at v) (xmc.links v) (AreSpelledLinks v)
links_spells version.One = record {
  takes = λ place xs after each e.
      let R : List Link × Place → Type 0 = λ x. Takes place [] x.1 × (x.0 ≡ []) in
      subst R (ok_is ([], place) (xs, after) e) (record { parts = refl; rest = each }, refl);
  again = λ place xs rest none is. record { after = place; is = ap (λ (ys : List Link). Ok (ys, place)) (sym none); ahead = is };
}
links_spells version.Two = counted_spells reading.link_at xmc.link_text IsSpelledLink link_spells

-- what stands after the length of the whole
pub conf_spells : (v : Version) → IsReaderOf (reading.conf_body_at v) (xmc.body v) (IsSpelledConf v)
unfolding reading.conf_body_at xmc.body
conf_spells v =
    made_of_fields (λ t. record { name = t.0.0.0.0.0.0.0; regions = t.0.0.0.0.0.0.1; hv_size = t.0.0.0.0.0.1; uarts = t.0.0.0.0.1; plans = t.0.0.0.1; parts = t.0.0.1; chans = t.0.1; links = t.1 })
    (λ c. (((((((c.name, c.regions), c.hv_size), c.uarts), c.plans), c.parts), c.chans), c.links)) (xmc.body v) (IsSpelledConf v)
    (then (then (then (then (then (then (then (first text_spells) (counted_spells reading.region_at xmc.region_record IsSpelledRegion region_spells)) word_spells)
    (counted_spells reading.text_field_at xmc.text_field IsName text_spells)) (counted_spells reading.plan_record_at xmc.plan_record IsSpelledPlan plan_spells))
    (counted_spells reading.part_record_at xmc.part_record IsSpelledPart part_spells)) (counted_spells reading.chan_record_at xmc.chan IsSpelledChan chan_spells)) (links_spells v))
    (λ t p. (refl, record { name = p.0.0.0.0.0.0.0; regions = p.0.0.0.0.0.0.1; hv_size = p.0.0.0.0.0.1; uarts = p.0.0.0.0.1; plans = p.0.0.0.1; parts = p.0.0.1; chans = p.0.1; links = p.1 }))
    (λ c q. (refl, (((((((q.name, q.regions), q.hv_size), q.uarts), q.plans), q.parts), q.chans), q.links))) (λ c q. refl)
