-- The code passes over the destinations of a channel, and makes the interrupt of a message pending at those partitions that hear it.
use Rattle.std.proofs.Common.{◌≡◌, ◌≢◌, ℕ, zero, suc, ◌+◌, ◌<◌, ◌≤◌, ◌^◌, Bool, true, false, List, [], ◌∷◌, length, take, get_or, set, max, Option, None, Some, refl, sym, ap, subst, ◌∙◌, arith, take_all}
use Rattle.std.specs.Prelude.{◌||◌, if◌then◌else◌, IsSomeAnd, bit_or, slice_get}
use Rattle.std.specs.Int.{bit_at}
use Rattle.std.specs.List.{list_any}
use Rattle.std.proofs.lemmas.Bool.Decides.{nat_tests}
use Rattle.std.proofs.lemmas.Nat.Bits.{bit_at_or, same_from_bits}
use Rattle.std.proofs.lemmas.Option.{same_Some}
use Rattle.virt_traps.specs.Virtual.{VirtualTraps, raised}
use Rattle.xm_conf.specs.Configuration.{Conf}
use Rattle.xm_conf.specs.Description.{described}
use Rattle.xm_conf.specs.Fits.{Fits}
use Rattle.xm_conf.specs.declared.channel.End.{End}
use Rattle.machine_model.specs.Lists.{each}
use Rattle.machine_model.specs.Machine.{Machine}
use Rattle.machine_model.specs.Partition.{PartitionState, is_halted}
use Rattle.machine_model.specs.Traffic.{interrupted}
use Rattle.machine_model.specs.View.{part_of}
use Rattle.system_state.specs.State.{SysState, part_at, with_machine, with_part}
use Rattle.port_calls.specs.lemmas.Traffic.{EndsIn, dests_of, heard_at, hears_from, hears_in, is_on, notified}
use Rattle.port_calls.proofs.EndLemmas.{is_in, unconcerned}
use Rattle.port_calls.proofs.TradeLemmas.{each_alike}

-- as many elements
each_length : {X : Type 0} (f : ℕ → X → X) (xs : List X) → length (each f xs) ≡ length xs
each_length f [] = refl
each_length f (x ∷ xs) = ap suc (each_length (λ k. f (suc k)) xs)

-- no element changes
each_kept : {X : Type 0} (f : ℕ → X → X) (xs : List X) → ((k : ℕ) (x : X) → f k x ≡ x) → xs ≡ each f xs
each_kept f [] same = refl
each_kept f (x ∷ xs) same = rw (same 0 x) (ap (λ rest. x ∷ rest) (each_kept (λ k. f (suc k)) xs (λ k. same (suc k))))

-- one element more changes
each_more : {X : Type 0} (f g : ℕ → X → X) (h : X → X) (n : ℕ) (xs : List X) (d : X) → n < length xs → ((x : X) → g n x ≡ h (f n x)) → ((k : ℕ) (x : X) → k ≢ n → g k x ≡ f k x)
    → set (each f xs) n (h (get_or (each f xs) n d)) ≡ each g xs
each_more f g h n [] d below here others = absurd (omega (arith, below))
each_more f g h zero (x ∷ xs) d below here others =
    rw (here x, each_alike (λ k. g (suc k)) (λ k. f (suc k)) xs (λ k x. others (suc k) x (omega arith))) refl
each_more f g h (suc n) (x ∷ xs) d below here others =
    rw (others 0 x (omega arith))
    (ap (λ rest. f 0 x ∷ rest) (each_more (λ k. f (suc k)) (λ k. g (suc k)) h n xs d (omega (arith, below)) here (λ k x apart. others (suc k) x (omega (arith, apart)))))

-- an interrupt that is made pending twice
raised_again : (n : ℕ) (v : VirtualTraps) → raised n (raised n v) ≡ raised n v
unfolding raised
raised_again n v = ap (λ pending. record v { pending = pending }) (twice v.pending (2 ^ n))
  where
    twice : (p a : ℕ) → bit_or (bit_or p a) a ≡ bit_or p a
    twice p a =
        same_from_bits (bit_or (bit_or p a) a) (bit_or p a)
        (λ i. bit_at_or (bit_or p a) a i ∙ ap (λ m. max m (bit_at a i)) (bit_at_or p a i) ∙ omega arith ∙ sym (bit_at_or p a i))

interrupted_again : (n : ℕ) (ps : PartitionState) → interrupted (Some n) (interrupted (Some n) ps) ≡ interrupted (Some n) ps
interrupted_again n ps = by (is_halted ps.state) refl
  where
    by : (b : Bool) → is_halted ps.state ≡ b → interrupted (Some n) (interrupted (Some n) ps) ≡ interrupted (Some n) ps
    by true halted = ap (interrupted (Some n)) (ap (λ b. if b then ps else record ps { traps = raised n ps.traps }) halted)
    by false runs =
        let one : PartitionState = record ps { traps = raised n ps.traps } in
        let first : interrupted (Some n) ps ≡ one = ap (λ b. if b then ps else one) runs in
        ap (interrupted (Some n)) first
        ∙ ap (λ b. if b then one else record one { traps = raised n one.traps }) runs
        ∙ ap (λ traps. record ps { traps = traps }) (raised_again n ps.traps)
        ∙ sym first

-- an interrupt that is pending
heard_still : (conf : Conf) (chan n q : ℕ) (ps : PartitionState) → raised n ps.traps ≡ ps.traps → heard_at conf chan n q ps ≡ ps
heard_still conf chan n q ps pending = by (hears_in conf q chan ps) (is_halted ps.state)
  where
    by : (b h : Bool) → (if b then (if h then ps else record ps { traps = raised n ps.traps }) else ps) ≡ ps
    by true true = refl
    by true false = ap (λ traps. record ps { traps = traps }) pending
    by false h = refl

-- an element that is set to itself
set_same : {X : Type 0} (xs : List X) (n : ℕ) (d : X) → set xs n (get_or xs n d) ≡ xs
set_same [] n d = refl
set_same (x ∷ xs) zero d = refl
set_same (x ∷ xs) (suc n) d = ap (λ rest. x ∷ rest) (set_same xs n d)

-- so nothing changes where the interrupt is pending
pub heard_kept : (s : SysState) (chan n q : ℕ) → raised n (part_at q s.machine).traps ≡ (part_at q s.machine).traps
    → s ≡ with_machine (with_part q (heard_at s.machine.system.conf chan n q (part_at q s.machine)) s.machine) s
heard_kept s chan n q pending =
    sym (ap (λ (ps : PartitionState). with_machine (with_part q ps s.machine) s) (heard_still s.machine.system.conf chan n q (part_at q s.machine) pending)
    ∙ ap (λ (parts : List PartitionState). with_machine (record s.machine { parts = parts }) s) (set_same s.machine.parts q _))

made_still : (n : ℕ) (ps : PartitionState) → (interrupted (Some n) ps).made ≡ ps.made
made_still n ps = by (is_halted ps.state)
  where
    by : (b : Bool) → (if b then ps else record ps { traps = raised n ps.traps }).made ≡ ps.made
    by true = refl
    by false = refl

hears_still : (conf : Conf) (chan n q : ℕ) (ps : PartitionState) → hears_in conf q chan (interrupted (Some n) ps) ≡ hears_in conf q chan ps
unfolding hears_in
hears_still conf chan n q ps = ap (λ made. hears_from (is_on conf q chan made) 0 (part_of conf q).ports) (made_still n ps)

-- a partition with two destinations
heard_again : (conf : Conf) (chan n q : ℕ) (ps : PartitionState) → heard_at conf chan n q (heard_at conf chan n q ps) ≡ heard_at conf chan n q ps
heard_again conf chan n q ps = by (hears_in conf q chan ps) refl
  where
    by : (b : Bool) → hears_in conf q chan ps ≡ b → heard_at conf chan n q (heard_at conf chan n q ps) ≡ heard_at conf chan n q ps
    by true hears =
        let one : PartitionState = interrupted (Some n) ps in
        let first : heard_at conf chan n q ps ≡ one = ap (λ b. if b then one else ps) hears in
        ap (heard_at conf chan n q) first
        ∙ ap (λ b. if b then interrupted (Some n) one else one) (hears_still conf chan n q ps ∙ hears)
        ∙ interrupted_again n ps
        ∙ sym first
    by false deaf = ap (heard_at conf chan n q) (ap (λ b. if b then interrupted (Some n) ps else ps) deaf)

-- a partition after those at these ends were looked at
abbrev pub heard_among : List End → Conf → ℕ → ℕ → ℕ → PartitionState → PartitionState
heard_among ends conf chan n q ps = if list_any (is_in q) ends then heard_at conf chan n q ps else ps

-- the machine after those at the first destinations were
abbrev pub notified_to : List End → ℕ → ℕ → ℕ → Machine → Machine
notified_to ends chan n k g = record g { parts = each (heard_among (take k ends) g.system.conf chan n) g.parts }

-- the destinations of a channel
abbrev pub ends_in : SysState → ℕ → List End
ends_in s chan = dests_of (slice_get s.machine.system.conf.chans chan)

-- whether an end is among one more
any_next : (test : End → Bool) (k : ℕ) (ends : List End) (end : End) → slice_get ends k ≡ Some end → list_any test (take (suc k) ends) ≡ (list_any test (take k ends) || test end)
any_next test k [] end is = absurd cc
any_next test zero (one ∷ ends) end is = ap (λ b. b || false) (ap test (same_Some one end is)) ∙ whole (test end)
  where
    whole : (b : Bool) → (b || false) ≡ b
    whole true = refl
    whole false = refl
any_next test (suc k) (one ∷ ends) end is = ap (λ b. test one || b) (any_next test k ends end is) ∙ turned (test one) (list_any test (take k ends)) (test end)
  where
    turned : (a b c : Bool) → (a || (b || c)) ≡ ((a || b) || c)
    turned true b c = refl
    turned false b c = refl

here_now : (ends : List End) (end : End) (conf : Conf) (chan n k q : ℕ) (ps : PartitionState) → slice_get ends k ≡ Some end → EndsIn q end
    → heard_among (take (suc k) ends) conf chan n q ps ≡ heard_at conf chan n q (heard_among (take k ends) conf chan n q ps)
here_now ends end conf chan n k q ps there its =
    ap (λ b. if b then heard_at conf chan n q ps else ps) (any_next (is_in q) k ends end there ∙ ap (λ b. list_any (is_in q) (take k ends) || b) at_it)
    ∙ by (list_any (is_in q) (take k ends))
  where
    at_it : is_in q end ≡ true
    at_it = grind (arith, nat_tests, its)

    by : (b : Bool) → (if b || true then heard_at conf chan n q ps else ps) ≡ heard_at conf chan n q (if b then heard_at conf chan n q ps else ps)
    by true = sym (heard_again conf chan n q ps)
    by false = refl

elsewhere : (ends : List End) (end : End) (conf : Conf) (chan n k q j : ℕ) (ps : PartitionState) → slice_get ends k ≡ Some end → EndsIn q end → j ≢ q
    → heard_among (take (suc k) ends) conf chan n j ps ≡ heard_among (take k ends) conf chan n j ps
elsewhere ends end conf chan n k q j ps there its apart =
    ap (λ b. if b then heard_at conf chan n j ps else ps) (any_next (is_in j) k ends end there ∙ ap (λ b. list_any (is_in j) (take k ends) || b) not_it ∙ kept (list_any (is_in j) (take k ends)))
  where
    not_it : is_in j end ≡ false
    not_it = grind (arith, nat_tests, its, apart)

    kept : (b : Bool) → (b || false) ≡ b
    kept true = refl
    kept false = refl

-- one destination more
notified_more : (old mid new : SysState) (chan n k q : ℕ) (ends : List End) (end : End) → slice_get ends k ≡ Some end → EndsIn q end → q < length old.machine.parts
    → mid ≡ with_machine (notified_to ends chan n k old.machine) old
    → new ≡ with_machine (with_part q (heard_at mid.machine.system.conf chan n q (part_at q mid.machine)) mid.machine) mid → new ≡ with_machine (notified_to ends chan n (k + 1) old.machine) old
notified_more old mid new chan n k q ends end there its below mid_is new_is =
    let conf = old.machine.system.conf in
    let next : suc k ≡ k + 1 = omega arith in
    new_is
    ∙ ap (λ (s : SysState). with_machine (with_part q (heard_at s.machine.system.conf chan n q (part_at q s.machine)) s.machine) s) mid_is
    ∙ ap (λ (parts : List PartitionState). with_machine (record old.machine { parts = parts }) old)
    (each_more (heard_among (take k ends) conf chan n) (heard_among (take (suc k) ends) conf chan n) (heard_at conf chan n q) q old.machine.parts _ below
    (λ ps. here_now ends end conf chan n k q ps there its) (λ j ps apart. elsewhere ends end conf chan n k q j ps there its apart))
    ∙ ap (λ (k : ℕ). with_machine (notified_to ends chan n k old.machine) old) next

-- none yet
pub notified_none : (old : SysState) (chan n : ℕ) (ends : List End) → old ≡ with_machine (notified_to ends chan n 0 old.machine) old
notified_none old chan n ends =
    ap (λ (parts : List PartitionState). with_machine (record old.machine { parts = parts }) old) (each_kept (heard_among [] old.machine.system.conf chan n) old.machine.parts (λ k ps. refl))

-- all of them
pub notified_end : (old new : SysState) (chan n k : ℕ) → Fits (described old.machine.system.conf) → length (ends_in old chan) ≤ k → new ≡ with_machine (notified_to (ends_in old chan) chan n k old.machine) old
    → new ≡ with_machine (notified chan n old.machine) old
notified_end old new chan n k fits end is =
    let conf = old.machine.system.conf in
    is
    ∙ ap (λ (ends : List End). with_machine (record old.machine { parts = each (heard_among ends conf chan n) old.machine.parts }) old) (take_all k (ends_in old chan) end)
    ∙ ap (λ (parts : List PartitionState). with_machine (record old.machine { parts = parts }) old)
    (each_alike (heard_among (ends_in old chan) conf chan n) (heard_at conf chan n) old.machine.parts (λ q ps. by q ps (list_any (is_in q) (ends_in old chan)) refl))
  where
    by : (q : ℕ) (ps : PartitionState) (b : Bool) → list_any (is_in q) (ends_in old chan) ≡ b → (if b then heard_at old.machine.system.conf chan n q ps else ps) ≡ heard_at old.machine.system.conf chan n q ps
    by q ps true is = refl
    by q ps false is = sym (ap (λ b. if b then interrupted (Some n) ps else ps) (unconcerned old.machine.system.conf q chan ps fits is))

-- there are as many partitions, of the same configuration
pub notified_there : (old mid : SysState) (chan n k : ℕ) (ends : List End) → mid ≡ with_machine (notified_to ends chan n k old.machine) old → length mid.machine.parts ≡ length old.machine.parts
notified_there old mid chan n k ends is =
    ap (λ (s : SysState). length s.machine.parts) is ∙ each_length (heard_among (take k ends) old.machine.system.conf chan n) old.machine.parts

pub notified_ends : (old mid : SysState) (chan n k : ℕ) (ends : List End) → mid ≡ with_machine (notified_to ends chan n k old.machine) old → ends_in mid chan ≡ ends_in old chan
notified_ends old mid chan n k ends is = ap (λ (s : SysState). ends_in s chan) is

pub notified_step : (old mid new : SysState) (chan n k q : ℕ) → IsSomeAnd (slice_get (ends_in mid chan) k) (EndsIn q) → q < length mid.machine.parts
    → mid ≡ with_machine (notified_to (ends_in old chan) chan n k old.machine) old
    → new ≡ with_machine (with_part q (heard_at mid.machine.system.conf chan n q (part_at q mid.machine)) mid.machine) mid → new ≡ with_machine (notified_to (ends_in old chan) chan n (k + 1) old.machine) old
notified_step old mid new chan n k q at below mid_is new_is =
    by (slice_get (ends_in old chan) k) refl (subst (λ (ends : List End). IsSomeAnd (slice_get ends k) (EndsIn q)) (notified_ends old mid chan n k (ends_in old chan) mid_is) at)
  where
    by : (o : Option End) → slice_get (ends_in old chan) k ≡ o → IsSomeAnd o (EndsIn q) → new ≡ with_machine (notified_to (ends_in old chan) chan n (k + 1) old.machine) old
    by None there its = absurd its
    by (Some end) there its =
        notified_more old mid new chan n k q (ends_in old chan) end there its (rw (sym (notified_there old mid chan n k (ends_in old chan) mid_is)) below) mid_is new_is
