-- What is read of a script stands there, and its entries are as long as they can be.
use Rattle.std.proofs.Common.{◌≡◌, ◌≢◌, ℕ, zero, suc, ◌-◌, ◌^◌, ◌≤◌, Bool, true, false, List, [], ◌∷◌, ◌++◌, Option, Some, None, Ok, refl, sym, subst, arith}
use Rattle.std.specs.Prelude.{nat_le, ◌&&◌, ◌==◌, not, is_none, if◌then◌else◌}
use Rattle.std.specs.Int.{w32, to_be_bytes}
use Rattle.std.specs.List.{flat_map}
use Rattle.std.proofs.Math.Dec.{eqb-suc-zero}
use Rattle.std.proofs.lemmas.Bool.{eqb-true}
use Rattle.std.specs.Bool.{Decides}
use Rattle.std.proofs.lemmas.Bool.Decides.{Decides-and}
use Rattle.std.proofs.lemmas.List.Concat.{flat_map-cons}
use Rattle.xm_base.specs.Bytes.{AreBytes}
use Rattle.xm_base.specs.Cursor.{Place, ahead}
use Rattle.xm_conf.specs.Configuration.{Conf}
use Rattle.file_headers.specs.lemmas.FieldLemmas.{Takes, takes_both, wide32, listed_takes}
use Rattle.xef_images.specs.lemmas.ImageLemmas.{Decides-nat_le}
use Rattle.file_headers.specs.lemmas.StepLemmas.{stepped, ok_is, passed}
use Rattle.file_headers.specs.Steps.{◌>>=◌, unless}
use Rattle.machine_model.specs.Cue.{Away, Cue, Mine, CueSlot}
use Rattle.machine_model.specs.Emission.{AllHalted, OwnStill, OwnTraffic}
use Rattle.xm_base.specs.declared.partition.Order.{Order}
use Rattle.file_headers.specs.Fields.{listed_at}
use Rattle.cue_scripts.specs.Entries.{Alike, Entry, Other, cue_count, plain_cue_of, plain_kind}
use Rattle.cue_scripts.specs.Script.{HearsNothing, IsCue, is_system_partition}
use Rattle.cue_scripts.specs.Spelling.{alike_byte, cue_text, entry_text, event_byte, order_text, sight_text, slot_byte, traffic_text}
use Rattle.cue_scripts.specs.Reading.{alike_at, cue_at, script_entries_at, script_entry_at, entry_of_kind, event_at, is_entry_kind, order_at, other_at, cue_sight_at, cue_slot_at, traffic_at, script_field, script_short}
use Rattle.fault_messages.specs.declared.fault.ScriptFault.TheVariants.{Field}
use Rattle.cue_scripts.proofs.FieldLemmas.{begins}
use Rattle.cue_scripts.proofs.TakeLemmas.{is_this, slot_takes, two}
use Rattle.cue_scripts.proofs.TakePartLemmas.{InOwn, event_takes, order_takes, sight_takes, traffic_takes}

-- nothing of others in a slot of the partition's own
alone : (mine : CueSlot) (traffic : OwnTraffic) (order : Option Order) → InOwn mine (traffic ≡ OwnStill) → InOwn mine (order ≡ None) → HearsNothing mine traffic order
alone Away traffic order still none = tt
alone (Mine first) traffic order still none = (still, none)

-- a cue that is read stands there, and may be received
pub cue_takes : (conf : Conf) (p : ℕ) (last : Bool) (place : Place) (cue : Cue) (after : Place) → AreBytes (ahead place) → cue_at conf p last place ≡ Ok (cue, after)
    → Takes place (cue_text cue) after × IsCue conf p cue × (cue.whole ≡ AllHalted → last ≡ true)
unfolding cue_at cue_text
cue_takes conf p last place cue after each e =
    let m = stepped (cue_slot_at place) (λ mine. traffic_at conf p mine.0 mine.1 >>= λ traffic. order_at mine.0 traffic.1 >>= λ order. event_at last order.1 >>= λ whole. cue_sight_at (is_system_partition conf p) mine.0 whole.1 >>= λ seen. Ok (record { mine = mine.0; traffic = traffic.0; order = order.0; whole = whole.0; seen = seen.0 }, seen.1)) (cue, after) e in
    let mine = m.value.0 in
    let t = stepped (traffic_at conf p mine m.value.1) (λ traffic. order_at mine traffic.1 >>= λ order. event_at last order.1 >>= λ whole. cue_sight_at (is_system_partition conf p) mine whole.1 >>= λ seen. Ok (record { mine = mine; traffic = traffic.0; order = order.0; whole = whole.0; seen = seen.0 }, seen.1)) (cue, after) m.led in
    let traffic = t.value.0 in
    let o = stepped (order_at mine t.value.1) (λ order. event_at last order.1 >>= λ whole. cue_sight_at (is_system_partition conf p) mine whole.1 >>= λ seen. Ok (record { mine = mine; traffic = traffic; order = order.0; whole = whole.0; seen = seen.0 }, seen.1)) (cue, after) t.led in
    let order = o.value.0 in
    let w = stepped (event_at last o.value.1) (λ whole. cue_sight_at (is_system_partition conf p) mine whole.1 >>= λ seen. Ok (record { mine = mine; traffic = traffic; order = order; whole = whole.0; seen = seen.0 }, seen.1)) (cue, after) o.led in
    let whole = w.value.0 in
    let s = stepped (cue_sight_at (is_system_partition conf p) mine w.value.1) (λ seen. Ok (record { mine = mine; traffic = traffic; order = order; whole = whole; seen = seen.0 }, seen.1)) (cue, after) w.led in
    let first = slot_takes place mine m.value.1 each m.is in
    let second = traffic_takes conf p mine m.value.1 traffic t.value.1 first.rest t.is in
    let third = order_takes mine t.value.1 order o.value.1 second.0.rest o.is in
    let fourth = event_takes last o.value.1 whole w.value.1 third.0.rest w.is in
    let fifth = sight_takes (is_system_partition conf p) mine w.value.1 s.value.0 s.value.1 fourth.0.rest s.is in
    let made : Cue × Place = (record { mine = mine; traffic = traffic; order = order; whole = whole; seen = s.value.0 }, s.value.1) in
    let P : Cue × Place → Type 0 = λ x. Takes place (cue_text x.0) x.1 × IsCue conf p x.0 × (x.0.whole ≡ AllHalted → last ≡ true) in
    let tail = takes_both o.value.1 (event_byte whole ∷ []) w.value.1 (sight_text s.value.0) s.value.1 fourth.0 fifth.0 in
    let heard = takes_both m.value.1 (traffic_text traffic) t.value.1 (order_text order) o.value.1 second.0 third.0 in
    let both_taken = takes_both m.value.1 (traffic_text traffic ++ order_text order) o.value.1 (event_byte whole ∷ sight_text s.value.0) s.value.1 heard tail in
    subst P {x = made} (ok_is made (cue, after) s.led) (
      takes_both place (slot_byte mine ∷ []) m.value.1 ((traffic_text traffic ++ order_text order) ++ (event_byte whole ∷ sight_text s.value.0)) s.value.1 first both_taken,
      record {
        traffic = second.1;
        order = third.1;
        alone = alone mine traffic order second.2 third.2;
        seen = fifth.1;
      },
      fourth.1,
    )

-- what an entry that is read keeps to, where this many cues are left
abbrev pub IsEntry : Conf → ℕ → ℕ → Option Bool → Entry → Type 0
IsEntry conf p cues last (Alike own count) = (last ≢ Some own) × (1 ≤ count) × (count ≤ cues)
IsEntry conf p cues last (Other cue) = (plain_kind cue ≡ None) × IsCue conf p cue × (cue.whole ≡ AllHalted → cues ≡ 1)

-- a kind is one of three
few_kinds : (last : Option Bool) (n : ℕ) → is_entry_kind last n ≡ true → nat_le n 2 ≡ true
few_kinds None n passes = passes
few_kinds (Some own) n passes = ((Decides-and (nat_le n 2) (not (n == alike_byte own)) (decides (nat_le n 2)) (decides (not (n == alike_byte own)))).0 passes).0
  where
    decides : (b : Bool) → Decides b (b ≡ true)
    decides b = (λ e. e, λ e. e)

-- a kind that does not repeat the one before it
differs : (last : Option Bool) (own : Bool) → is_entry_kind last (alike_byte own) ≡ true → last ≢ Some own
differs None own passes same = absurd cc
differs (Some true) true passes same = absurd cc
differs (Some true) false passes same = absurd cc
differs (Some false) true passes same = absurd cc
differs (Some false) false passes same = absurd cc

-- cues that are alike, read after their kind, stand there
alike_takes : (conf : Conf) (p cues : ℕ) (last : Option Bool) (own : Bool) (place following : Place) (entry : Entry) (after : Place) → last ≢ Some own → Takes place (alike_byte own ∷ []) following
    → alike_at own cues following ≡ Ok (entry, after) → Takes place (entry_text entry) after × IsEntry conf p cues last entry
unfolding alike_at entry_text
alike_takes conf p cues last own place following entry after other kind e =
    let c = stepped (listed_at script_short script_field w32 (λ count. nat_le 1 count && nat_le count cues) following) (λ count. Ok (Alike own count.0, count.1)) (entry, after) e in
    let t = listed_takes script_short script_field w32 (2 ^ 32) wide32 (λ count. nat_le 1 count && nat_le count cues) following c.value.0 c.value.1 kind.rest c.is in
    let sizes = (Decides-and _ _ (Decides-nat_le 1 c.value.0) (Decides-nat_le c.value.0 cues)).0 t.2 in
    let P : Entry × Place → Type 0 = λ x. Takes place (entry_text x.0) x.1 × IsEntry conf p cues last x.0 in
    subst P {x = (Alike own c.value.0, c.value.1)} (ok_is (Alike own c.value.0, c.value.1) (entry, after) c.led) (
      takes_both place (alike_byte own ∷ []) following (to_be_bytes w32 c.value.0) c.value.1 kind t.0,
      (other, sizes.0, sizes.1),
    )

-- there is none
none_is : {X : Type 0} (option : Option X) → is_none option ≡ true → option ≡ None
none_is None e = refl
none_is (Some x) e = absurd cc

-- another cue, read after its kind, stands there
other_takes : (conf : Conf) (p cues : ℕ) (last : Option Bool) (at : ℕ) (place following : Place) (entry : Entry) (after : Place) → Takes place (2 ∷ []) following
    → other_at conf p (cues == 1) at following ≡ Ok (entry, after) → Takes place (entry_text entry) after × IsEntry conf p cues last entry
unfolding other_at entry_text
other_takes conf p cues last at place following entry after kind e =
    let c = stepped (cue_at conf p (cues == 1) following) (λ cue. unless (is_none (plain_kind cue.0)) (Field at) (Other cue.0, cue.1)) (entry, after) e in
    let t = cue_takes conf p (cues == 1) following c.value.0 c.value.1 kind.rest c.is in
    let q = passed (is_none (plain_kind c.value.0)) (Field at) (Other c.value.0, c.value.1) (entry, after) c.led in
    let P : Entry × Place → Type 0 = λ x. Takes place (entry_text x.0) x.1 × IsEntry conf p cues last x.0 in
    subst P {x = (Other c.value.0, c.value.1)} q.is (
      takes_both place (2 ∷ []) following (cue_text c.value.0) c.value.1 kind t.0,
      (none_is (plain_kind c.value.0) q.true, t.1, λ halts. eqb-true cues 1 (t.2 halts)),
    )

-- an entry that is read stands there
pub entry_takes : (conf : Conf) (p cues : ℕ) (last : Option Bool) (place : Place) (entry : Entry) (after : Place) → AreBytes (ahead place) → script_entry_at conf p cues last place ≡ Ok (entry, after)
    → Takes place (entry_text entry) after × IsEntry conf p cues last entry
unfolding script_entry_at
entry_takes conf p cues last place entry after each e =
    let k = begins (is_entry_kind last) (entry_of_kind conf p cues place.at) place (entry, after) each e in
    let n = k.kind in
    at n k.following k.passes k.first (n == 0) (n == 1) refl refl k.led
  where
    at : (n : ℕ) (following : Place) → is_entry_kind last n ≡ true → Takes place (n ∷ []) following → (b0 b1 : Bool) → (n == 0) ≡ b0 → (n == 1) ≡ b1
        → (if b0 then alike_at false cues following else if b1 then alike_at true cues following else other_at conf p (cues == 1) place.at following) ≡ Ok (entry, after)
        → Takes place (entry_text entry) after × IsEntry conf p cues last entry
    at n following passes first true b1 f0 f1 led =
        alike_takes conf p cues last false place following entry after (differs last false (rw (is_this n 0 f0) at passes)) (rw (is_this n 0 f0) at first) led
    at n following passes first false true f0 f1 led =
        alike_takes conf p cues last true place following entry after (differs last true (rw (is_this n 1 f1) at passes)) (rw (is_this n 1 f1) at first) led
    at n following passes first false false f0 f1 led =
        other_takes conf p cues last place.at place following entry after (rw (two n (few_kinds last n passes) f0 f1) at first) led

-- entries that stand one after the other, with this many cues
abbrev pub AreEntries : Conf → ℕ → ℕ → Option Bool → List Entry → Type 0
AreEntries conf p cues last [] = cues ≡ 0
AreEntries conf p cues last (entry ∷ later) = IsEntry conf p cues last entry × (1 ≤ cues) × AreEntries conf p (cues - cue_count entry) (plain_cue_of entry) later

-- an entry has a cue
counts : (conf : Conf) (p cues : ℕ) (last : Option Bool) (entry : Entry) → IsEntry conf p cues last entry → 1 ≤ cue_count entry
counts conf p cues last (Alike own count) is = is.1
counts conf p cues last (Other cue) is = omega arith

-- entries that are read stand there
pub entries_take : (conf : Conf) (p most cues : ℕ) (last : Option Bool) (place : Place) (entries : List Entry) (after : Place) → cues ≤ most → AreBytes (ahead place)
    → script_entries_at conf p most cues last place ≡ Ok (entries, after) → Takes place (flat_map entry_text entries) after × AreEntries conf p cues last entries
unfolding script_entries_at
entries_take conf p zero cues last place entries after enough each e =
    let none : 0 ≡ cues = omega (arith, enough) in
    let P : List Entry × Place → Type 0 = λ x. Takes place (flat_map entry_text x.0) x.1 × AreEntries conf p cues last x.0 in
    subst P {x = ([], place)} (ok_is ([], place) (entries, after) e) (record { parts = refl; rest = each }, sym none)
entries_take conf p (suc most) zero last place entries after enough each e =
    let P : List Entry × Place → Type 0 = λ x. Takes place (flat_map entry_text x.0) x.1 × AreEntries conf p 0 last x.0 in
    subst P {x = ([], place)} (ok_is ([], place) (entries, after) e) (record { parts = refl; rest = each }, refl)
entries_take conf p (suc most) (suc fewer) last place entries after enough each e =
    let a = stepped (script_entry_at conf p (suc fewer) last place) (λ entry. script_entries_at conf p most (suc fewer - cue_count entry.0) (plain_cue_of entry.0) entry.1 >>= λ later. Ok (entry.0 ∷ later.0, later.1)) (entries, after) (rw (eqb-suc-zero fewer) at e) in
    let b = stepped (script_entries_at conf p most (suc fewer - cue_count a.value.0) (plain_cue_of a.value.0) a.value.1) (λ later. Ok (a.value.0 ∷ later.0, later.1)) (entries, after) a.led in
    let first = entry_takes conf p (suc fewer) last place a.value.0 a.value.1 each a.is in
    let counted = counts conf p (suc fewer) last a.value.0 first.1 in
    let others = entries_take conf p most (suc fewer - cue_count a.value.0) (plain_cue_of a.value.0) a.value.1 b.value.0 b.value.1 (omega (arith, enough, counted)) first.0.rest b.is in
    let both = takes_both place (entry_text a.value.0) a.value.1 (flat_map entry_text b.value.0) b.value.1 first.0 others.0 in
    let P : List Entry × Place → Type 0 = λ x. Takes place (flat_map entry_text x.0) x.1 × AreEntries conf p (suc fewer) last x.0 in
    subst P {x = (a.value.0 ∷ b.value.0, b.value.1)} (ok_is (a.value.0 ∷ b.value.0, b.value.1) (entries, after) b.led)
    (rw flat_map-cons both, (first.1, omega arith, others.1))
