-- A port is made: the name that is read, what is answered, and the partition that has the port.
use Rattle.std.proofs.Common.{◌≡◌, ℕ, zero, suc, ◌+◌, ◌<◌, ◌≤◌, ◌⊎◌, Bool, true, false, cond, not, ◌&&◌, ◌==◌, List, [], ◌∷◌, length, Option, None, Some, inl, inr, refl, sym, ap, ◌∙◌, arith}
use Rattle.std.specs.Prelude.{slice_get, slice_index_or, if◌then◌else◌, take}
use Rattle.std.specs.List.{position_from, prefix_len}
use Rattle.std.proofs.lemmas.Option.{same_Some}
use Rattle.guest_bus.specs.Memory.{Memory, all_from, byte_at, bytes_at, is_readable}
use Rattle.xm_base.specs.Options.{on}
use Rattle.xm_conf.specs.Configuration.{Chan, Conf, Part}
use Rattle.xm_conf.specs.View.{channel_of}
use Rattle.xm_conf.specs.declared.port.Kind.{Kind}
use Rattle.xm_conf.specs.declared.port.Port.{Port}
use Rattle.xm_ports.specs.Channels.{Shape, shape_of}
use Rattle.xm_ports.specs.Ports.{agrees_end, chan_at, created, created_over, granted, is_called, is_way_of, port_with, ports_of, shape_of_port, unless_differs, unless_missing}
use Rattle.machine_model.specs.Caller.{Caller, a_of, caller_bytes}
use Rattle.machine_model.specs.Partition.{areas_of}
use Rattle.machine_model.specs.PortEffects.{name_at, name_given, shape_at}
use Rattle.machine_model.specs.View.{System, name_of, no_part, part_of, view_of, with_its_name, with_name}
use Rattle.span_model.specs.Passes.{part_at}
use Rattle.port_calls.specs.lemmas.PortNamesTerms.{AreReadable, name_in}
use Rattle.system_state.specs.Serving.{caller_of}
use Rattle.system_state.specs.State.{SysState}
use Rattle.system_state.specs.declared.call_site.CallSite.{CallSite}
use Rattle.port_calls.proofs.MadePortLemmas.{name_there, view_channel}

-- bytes with a zero byte, and bytes without
pub name_whole : (bytes : List ℕ) → prefix_len (λ byte. not (byte == 0)) bytes < length bytes → Some (take (prefix_len (λ byte. not (byte == 0)) bytes) bytes) ≡ name_in bytes
name_whole [] below = absurd (omega (arith, below))
name_whole (byte ∷ bytes) below = by (byte == 0) below (name_whole bytes)
  where
    by : (b : Bool) → cond (not b) (1 + prefix_len (λ byte. not (byte == 0)) bytes) 0 < suc (length bytes)
        → (prefix_len (λ byte. not (byte == 0)) bytes < length bytes → Some (take (prefix_len (λ byte. not (byte == 0)) bytes) bytes) ≡ name_in bytes)
        → Some (take (cond (not b) (1 + prefix_len (λ byte. not (byte == 0)) bytes) 0) (byte ∷ bytes)) ≡ (if b then Some [] else on (λ rest. byte ∷ rest) (name_in bytes))
    by true below further = refl
    by false below further =
        let one : 1 + prefix_len (λ byte. not (byte == 0)) bytes ≡ suc (prefix_len (λ byte. not (byte == 0)) bytes) = omega arith in
        ap (λ (n : ℕ). Some (take n (byte ∷ bytes))) one ∙ ap (on (λ (rest : List ℕ). byte ∷ rest)) (further (omega (arith, below)))

pub name_none : (bytes : List ℕ) → length bytes ≤ prefix_len (λ byte. not (byte == 0)) bytes → None ≡ name_in bytes
name_none [] past = refl
name_none (byte ∷ bytes) past = by (byte == 0) past (name_none bytes)
  where
    by : (b : Bool) → suc (length bytes) ≤ cond (not b) (1 + prefix_len (λ byte. not (byte == 0)) bytes) 0
        → (length bytes ≤ prefix_len (λ byte. not (byte == 0)) bytes → None ≡ name_in bytes)
        → None ≡ (if b then Some [] else on (λ rest. byte ∷ rest) (name_in bytes))
    by true past further = absurd (omega (arith, past))
    by false past further = ap (on (λ (rest : List ℕ). byte ∷ rest)) (further (omega (arith, past)))

-- a name in the bytes that may be read
name_is : (allowed : ℕ → Bool) (memory : Memory) (most count address : ℕ) → count ≤ most → all_from allowed address count ≡ true
    → (count ≡ most) ⊎ (all_from allowed address (suc count) ≡ false) → name_in (bytes_at memory address count) ≡ name_at allowed memory address most
name_is allowed memory zero zero address few all end = refl
name_is allowed memory zero (suc count) address few all end = absurd (omega (arith, few))
name_is allowed memory (suc most) zero address few all (inl same) = absurd (omega (arith, same))
name_is allowed memory (suc most) zero address few all (inr past) = by (allowed address) past
  where
    by : (b : Bool) → (b && true) ≡ false
        → None ≡ (if not b then None else if byte_at memory address == 0 then Some [] else on (λ rest. byte_at memory address ∷ rest) (name_at allowed memory (suc address) most))
    by true past = absurd cc
    by false past = refl
name_is allowed memory (suc most) (suc count) address few all end =
    by (allowed address) all end (name_is allowed memory most count (suc address) (omega (arith, few)))
  where
    by : (b : Bool) → (b && all_from allowed (suc address) count) ≡ true → (suc count ≡ suc most) ⊎ ((b && all_from allowed (suc address) (suc count)) ≡ false)
        → (all_from allowed (suc address) count ≡ true → (count ≡ most) ⊎ (all_from allowed (suc address) (suc count) ≡ false)
        → name_in (bytes_at memory (suc address) count) ≡ name_at allowed memory (suc address) most)
        → (if byte_at memory address == 0 then Some [] else on (λ rest. byte_at memory address ∷ rest) (name_in (bytes_at memory (suc address) count)))
        ≡ (if not b then None else if byte_at memory address == 0 then Some [] else on (λ rest. byte_at memory address ∷ rest) (name_at allowed memory (suc address) most))
    by true all (inl same) further = ap (λ o. if byte_at memory address == 0 then Some [] else on (λ (rest : List ℕ). byte_at memory address ∷ rest) o) (further all (inl (omega (arith, same))))
    by true all (inr past) further = ap (λ o. if byte_at memory address == 0 then Some [] else on (λ (rest : List ℕ). byte_at memory address ∷ rest) o) (further all (inr past))
    by false all end further = absurd cc

-- as many bytes as are wanted may be read
pub all_readable : (allowed : ℕ → Bool) (address most count : ℕ) → count ≡ most → all_from allowed address count ≡ true → AreReadable allowed address most most
all_readable allowed address most count same all = record {
  few = omega arith;
  all = ap (all_from allowed address) (sym same) ∙ all;
  end = inl refl;
}

-- the name that the call gives
pub name_read : (caller : Caller) (count : ℕ) → AreReadable (is_readable (areas_of caller.view)) (a_of caller) 32 count → name_in (caller_bytes caller (a_of caller) count) ≡ name_given caller
name_read caller count readable = read 32 readable
  where
    read : (most : ℕ) → AreReadable (is_readable (areas_of caller.view)) (a_of caller) most count → name_in (caller_bytes caller (a_of caller) count) ≡ name_at (is_readable (areas_of caller.view)) caller.state.memory (a_of caller) most
    read most readable = name_is (is_readable (areas_of caller.view)) caller.state.memory most count (a_of caller) readable.few readable.all readable.end

-- the shape of a port's channel, in the configuration and in the view
shape_seen : (system : System) (p r : ℕ) → r < length (part_of system.conf p).ports → shape_of_port system.conf p r ≡ shape_at (view_of system p) r
unfolding shape_of_port
shape_seen system p r below = by (channel_of system.conf p r) refl ∙ sym (ap (on (λ channel. channel.shape)) (view_channel system p r below))
  where
    by_chan : (c : ℕ) → channel_of system.conf p r ≡ Some c → (o : Option Chan) → on shape_of o ≡ on (λ channel. channel.shape) (with_name o (name_of system.conf p c))
    by_chan c is None = refl
    by_chan c is (Some chan) = sym (ap (λ name. on (λ channel. channel.shape) (with_name (Some chan) name)) (name_there system.conf p c r is below).is)

    by : (o : Option ℕ) → channel_of system.conf p r ≡ o → on shape_of (chan_at system.conf.chans o) ≡ on (λ channel. channel.shape) (with_its_name system.conf p o)
    by None is = refl
    by (Some c) is = by_chan c is (slice_get system.conf.chans c)

-- what is found stands in the list
found_within : {X : Type 0} (test : X → Bool) (k : ℕ) (xs : List X) (e : ℕ) → position_from test k xs ≡ Some e → e < k + length xs
found_within test k [] e is = absurd cc
found_within test k (x ∷ xs) e is = by (test x) is (found_within test (k + 1) xs e)
  where
    by : (b : Bool) → cond b (Some k) (position_from test (k + 1) xs) ≡ Some e → (position_from test (k + 1) xs ≡ Some e → e < k + 1 + length xs) → e < k + suc (length xs)
    by true said further = let same : k ≡ e = same_Some k e said in omega (arith, same)
    by false said further = let bound = further said in omega (arith, bound)

-- only the shapes of ports that there are matter
same_created : (ports : List Port) (f g : ℕ → Option Shape) (name : List ℕ) (kind : Kind) (way size most : ℕ) (made : List Bool) → ((r : ℕ) → r < length ports → f r ≡ g r)
    → created_over ports f name kind way size most made ≡ created_over ports g name kind way size most made
unfolding created_over granted port_with
same_created ports f g name kind way size most made same = by (port_with name kind ports) refl
  where
    by : (o : Option ℕ) → port_with name kind ports ≡ o → unless_missing (granted ports f way size most made) o ≡ unless_missing (granted ports g way size most made) o
    by None is = refl
    by (Some r) is =
        let bound : r < 0 + length ports = found_within (is_called name kind) 0 ports r is in
        ap (λ shape. unless_differs (is_way_of way (slice_get ports r) && agrees_end size most shape) shape made r) (same r (omega (arith, bound)))

ports_seen : (conf : Conf) (p : ℕ) → ports_of (slice_get conf.parts p) ≡ (part_of conf p).ports
unfolding part_of
ports_seen conf p = by conf.parts p
  where
    by : (parts : List Part) (p : ℕ) → ports_of (slice_get parts p) ≡ (slice_index_or parts p no_part).ports
    by [] p = refl
    by (part ∷ parts) zero = refl
    by (part ∷ parts) (suc p) = by parts p

part_seen : (system : System) (p : ℕ) → (part_of system.conf p).ports ≡ (view_of system p).part.ports
unfolding view_of
part_seen system p = refl

-- what an order to make a port answers, as the caller is seen
pub created_seen : (sys : SysState) (site : CallSite) (name : List ℕ) (kind : Kind) (way size most : ℕ)
    → created sys.machine.system.conf site.part name kind way size most (part_at site.part sys.machine).made
    ≡ created_over (caller_of site sys).view.part.ports (shape_at (caller_of site sys).view) name kind way size most (caller_of site sys).state.made
unfolding created caller_of
created_seen sys site name kind way size most =
    let system = sys.machine.system in
    let made = (part_at site.part sys.machine).made in
    ap (λ ports. created_over ports (shape_of_port system.conf site.part) name kind way size most made) (ports_seen system.conf site.part)
    ∙ same_created (part_of system.conf site.part).ports (shape_of_port system.conf site.part) (shape_at (view_of system site.part)) name kind way size most made (shape_seen system site.part)
    ∙ ap (λ ports. created_over ports (shape_at (view_of system site.part)) name kind way size most made) (part_seen system site.part)
