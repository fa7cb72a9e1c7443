-- A script that stands there is read.
use Rattle.std.proofs.Common.{◌≡◌, ◌≢◌, ℕ, zero, suc, ◌-◌, ◌^◌, ◌<◌, ◌≤◌, Bool, true, false, List, [], ◌∷◌, ◌++◌, Option, Some, None, refl, ap, ◌∙◌, append_assoc, arith}
use Rattle.std.specs.Prelude.{nat_le, ◌&&◌, ◌==◌}
use Rattle.std.specs.Int.{w32, to_be_bytes}
use Rattle.std.specs.List.{flat_map}
use Rattle.std.proofs.lemmas.Bool.{eq-eqb}
use Rattle.std.proofs.lemmas.Bool.Decides.{Decides-and}
use Rattle.std.proofs.lemmas.List.Concat.{flat_map-cons}
use Rattle.xm_base.specs.Cursor.{Place, ahead}
use Rattle.xm_conf.specs.Configuration.{Conf}
use Rattle.file_headers.specs.lemmas.FieldLemmas.{wide32, Reads, listed_again}
use Rattle.xef_images.specs.lemmas.ImageLemmas.{Decides-nat_le}
use Rattle.machine_model.specs.Cue.{Away, Cue, Mine, CueSlot}
use Rattle.machine_model.specs.Emission.{AllHalted, OwnStill, OwnTraffic}
use Rattle.xm_base.specs.declared.partition.Order.{Order}
use Rattle.cue_scripts.specs.Entries.{Alike, Entry, Other, cue_count, plain_cue_of, plain_kind}
use Rattle.cue_scripts.specs.Script.{HearsNothing, IsCue, is_system_partition}
use Rattle.cue_scripts.specs.Spelling.{alike_byte, cue_text, entry_text, event_byte, order_text, sight_text, traffic_text}
use Rattle.cue_scripts.specs.Reading.{alike_at, cue_at, script_entries_at, script_entry_at, entry_of_kind, is_entry_kind, other_at, script_field, script_short}
use Rattle.cue_scripts.proofs.AgainLemmas.{event_again, leads, order_again, sight_again, slot_again, traffic_again}
use Rattle.cue_scripts.proofs.EntriesLemmas.{one_more, none_left}
use Rattle.cue_scripts.proofs.TakePartLemmas.{InOwn}
use Rattle.cue_scripts.proofs.WholeTakeLemmas.{AreEntries, IsEntry}

-- nothing of others in a slot of the partition's own
still : (mine : CueSlot) (traffic : OwnTraffic) (order : Option Order) → HearsNothing mine traffic order → InOwn mine (traffic ≡ OwnStill)
still Away traffic order alone = tt
still (Mine first) traffic order alone = alone.0

none : (mine : CueSlot) (traffic : OwnTraffic) (order : Option Order) → HearsNothing mine traffic order → InOwn mine (order ≡ None)
none Away traffic order alone = tt
none (Mine first) traffic order alone = alone.1

-- a cue
pub cue_again : (conf : Conf) (p : ℕ) (last : Bool) (place : Place) (cue : Cue) (rest : List ℕ) → IsCue conf p cue → (cue.whole ≡ AllHalted → last ≡ true) → ahead place ≡ cue_text cue ++ rest
    → Reads (cue_at conf p last place) cue rest
unfolding cue_at cue_text
cue_again conf p last place cue rest is halts stands =
    let tail = event_byte cue.whole ∷ sight_text cue.seen in
    let front = traffic_text cue.traffic ++ order_text cue.order in
    let m = slot_again place cue.mine ((front ++ tail) ++ rest) stands in
    let t = traffic_again conf p cue.mine m.after cue.traffic (order_text cue.order ++ (tail ++ rest)) is.traffic (still cue.mine cue.traffic cue.order is.alone)
    (m.ahead ∙ append_assoc front tail rest ∙ append_assoc (traffic_text cue.traffic) (order_text cue.order) (tail ++ rest)) in
    let o = order_again cue.mine t.after cue.order (tail ++ rest) is.order (none cue.mine cue.traffic cue.order is.alone) t.ahead in
    let w = event_again last o.after cue.whole (sight_text cue.seen ++ rest) halts o.ahead in
    let s = sight_again (is_system_partition conf p) cue.mine w.after cue.seen rest is.seen w.ahead in
    record { after = s.after; is = rw (m.is, t.is, o.is, w.is, s.is) refl; ahead = s.ahead }

-- a kind may stand after another one
kind_alike : (last : Option Bool) (own : Bool) → last ≢ Some own → is_entry_kind last (alike_byte own) ≡ true
kind_alike None true other = refl
kind_alike None false other = refl
kind_alike (Some true) true other = absurd (other refl)
kind_alike (Some true) false other = refl
kind_alike (Some false) true other = refl
kind_alike (Some false) false other = absurd (other refl)

kind_other : (last : Option Bool) → is_entry_kind last 2 ≡ true
kind_other None = refl
kind_other (Some true) = refl
kind_other (Some false) = refl

-- cues that are alike
alike_again : (own : Bool) (cues : ℕ) (place : Place) (count : ℕ) (rest : List ℕ) → cues < 2 ^ 32 → 1 ≤ count → count ≤ cues → ahead place ≡ to_be_bytes w32 count ++ rest → Reads (alike_at own cues place) (Alike own count) rest
unfolding alike_at
alike_again own cues place count rest small some few stands =
    let b = listed_again script_short script_field w32 (2 ^ 32) wide32 (λ count. nat_le 1 count && nat_le count cues) place count rest (omega (arith, small, few))
    ((Decides-and _ _ (Decides-nat_le 1 count) (Decides-nat_le count cues)).1 (some, few)) stands in
    record { after = b.after; is = rw b.is refl; ahead = b.ahead }

-- another cue
other_again : (conf : Conf) (p cues at : ℕ) (place : Place) (cue : Cue) (rest : List ℕ) → plain_kind cue ≡ None → IsCue conf p cue → (cue.whole ≡ AllHalted → cues ≡ 1) → ahead place ≡ cue_text cue ++ rest
    → Reads (other_at conf p (cues == 1) at place) (Other cue) rest
unfolding other_at
other_again conf p cues at place cue rest other is halts stands =
    let c = cue_again conf p (cues == 1) place cue rest is (λ e. eq-eqb cues 1 (halts e)) stands in
    record { after = c.after; is = rw (c.is, other) refl; ahead = c.ahead }

-- an entry
pub entry_again : (conf : Conf) (p cues : ℕ) (last : Option Bool) (place : Place) (entry : Entry) (rest : List ℕ) → cues < 2 ^ 32 → IsEntry conf p cues last entry → ahead place ≡ entry_text entry ++ rest
    → Reads (script_entry_at conf p cues last place) entry rest
unfolding script_entry_at entry_text
entry_again conf p cues last place (Alike false count) rest small is stands =
    let k = leads (is_entry_kind last) (entry_of_kind conf p cues place.at) place 0 (to_be_bytes w32 count ++ rest) (omega arith) (kind_alike last false is.0) stands in
    let a = alike_again false cues k.after count rest small is.1 is.2 k.ahead in
    record { after = a.after; is = k.is ∙ a.is; ahead = a.ahead }
entry_again conf p cues last place (Alike true count) rest small is stands =
    let k = leads (is_entry_kind last) (entry_of_kind conf p cues place.at) place 1 (to_be_bytes w32 count ++ rest) (omega arith) (kind_alike last true is.0) stands in
    let a = alike_again true cues k.after count rest small is.1 is.2 k.ahead in
    record { after = a.after; is = k.is ∙ a.is; ahead = a.ahead }
entry_again conf p cues last place (Other cue) rest small is stands =
    let k = leads (is_entry_kind last) (entry_of_kind conf p cues place.at) place 2 (cue_text cue ++ rest) (omega arith) (kind_other last) stands in
    let o = other_again conf p cues place.at k.after cue rest is.0 is.1 is.2 k.ahead in
    record { after = o.after; is = k.is ∙ o.is; ahead = o.ahead }

-- an entry has a cue
counts : (conf : Conf) (p cues : ℕ) (last : Option Bool) (entry : Entry) → IsEntry conf p cues last entry → 1 ≤ cue_count entry
counts conf p cues last (Alike own count) is = is.1
counts conf p cues last (Other cue) is = omega arith

-- entries
pub entries_again : (conf : Conf) (p most cues : ℕ) (last : Option Bool) (place : Place) (entries : List Entry) (rest : List ℕ) → cues ≤ most → cues < 2 ^ 32 → AreEntries conf p cues last entries
    → ahead place ≡ flat_map entry_text entries ++ rest → Reads (script_entries_at conf p most cues last place) entries rest
entries_again conf p most cues last place [] rest enough small are stands =
    record { after = place; is = ap (λ n. script_entries_at conf p most n last place) are ∙ none_left conf p most last place; ahead = stands }
entries_again conf p zero cues last place (entry ∷ later) rest enough small are stands = absurd (omega (arith, enough, are.1))
entries_again conf p (suc most) cues last place (entry ∷ later) rest enough small are stands =
    let regrouped : flat_map entry_text (entry ∷ later) ++ rest ≡ entry_text entry ++ (flat_map entry_text later ++ rest)
    = ap (λ x. x ++ rest) (flat_map-cons entry_text entry later) ∙ append_assoc (entry_text entry) (flat_map entry_text later) rest in
    let counted = counts conf p cues last entry are.0 in
    let a = entry_again conf p cues last place entry (flat_map entry_text later ++ rest) small are.0 (stands ∙ regrouped) in
    let b = entries_again conf p most (cues - cue_count entry) (plain_cue_of entry) a.after later rest (omega (arith, enough, counted, are.1)) (omega (arith, small)) are.2 a.ahead in
    record { after = b.after; is = one_more conf p most cues last place entry a.after are.1 a.is ∙ rw b.is refl; ahead = b.ahead }
