-- The machine of a file that was read, and the digest of a container.
use Rattle.std.proofs.Common.{◌≡◌, ℕ, zero, suc, ◌-◌, ◌≤◌, Bool, true, false, nat_lt, if◌then◌else◌, List, [], ◌∷◌, length, codes, Result, Ok, Err, IfOk, refl, sym, ap, ◌∙◌, subst, arith}
use Rattle.std.proofs.lemmas.Bool.Decides.{nat_tests}
use Rattle.std.proofs.lemmas.List.{length-drop}
use Rattle.xm_base.specs.Cursor.{Place, cursor_start, past}
use Rattle.codecs.specs.Codec.{Codec, each_of, each_read, pair, value_as}
use Rattle.fault_messages.specs.declared.fault.BoxFault.{BoxFault}
use Rattle.file_headers.specs.Faults.{HeadFaults}
use Rattle.file_headers.specs.Heads.{before_digest, count_before, stated_length, unsealed}
use Rattle.file_headers.specs.Steps.{◌>>=◌, unless}
use Rattle.guest_bus.specs.Memory.{Memory}
use Rattle.loaded_system.specs.System.{System as Loaded}
use Rattle.machine_model.specs.Lists.{table}
use Rattle.machine_model.specs.View.{System, view_of}
use Rattle.machine_model.specs.lemmas.ListLemmas.{each_counted}
use Rattle.saved_machines.specs.Saved.{SavedHead, SavedMachine, SavedPartition}
use Rattle.saved_machines.specs.SavedFields.{content_field, saved_faults}
use Rattle.saved_machines.specs.SavedFormat.{head_format, machine_format, partition_format, saved_format}
use Rattle.saved_machines.specs.Saving.{loaded_of, machine_saved, restored_part, stored_digest}
use Rattle.xm_conf.specs.Configuration.{Conf}
use Rattle.xm_ports.specs.Channels.{Content}
use Rattle.xm_container.specs.Reading.{box_faults, system_in, unpacked}

-- Steps that were done.

-- what holds of all that comes of a step
pub last_has : {A B F : Type 0} (P : B → Type 0) (r : Result A F) (f : A → Result B F) → ((a : A) → IfOk (f a) P) → IfOk (r >>= f) P
last_has P (Ok a) f has = has a
last_has P (Err fault) f has = tt

pub then_has : {A B F : Type 0} (P : A → Type 0) (Q : B → Type 0) (r : Result A F) (f : A → Result B F) → IfOk r P → ((a : A) → P a → IfOk (f a) Q) → IfOk (r >>= f) Q
then_has P Q (Ok a) f holds has = has a holds
then_has P Q (Err fault) f holds has = tt

-- what was read, as another value
value_has : {A X F : Type 0} (P : A → Type 0) (Q : X → Type 0) (to : A → X) (r : Result (A × Place) F) → IfOk r (λ read. P read.0) → ((a : A) → P a → Q (to a)) → IfOk (value_as to r) (λ read. Q read.0)
value_has P Q to (Ok read) holds has = has read.0 holds
value_has P Q to (Err fault) holds has = tt

unless_has : {A F : Type 0} (P : A → Type 0) (test : Bool) (fault : F) (value : A) → P value → IfOk (unless test fault value) P
unless_has P true fault value holds = holds
unless_has P false fault value holds = tt

-- A machine of a file.

-- it has as many partitions as the configuration
each_read_counted : {F A X : Type 0} (part : A → Codec F X) (known : List A) (place : Place) → IfOk (each_read part known place) (λ read. length read.0 ≡ length known)
unfolding each_read
each_read_counted part [] place = refl
each_read_counted {F} {A} {X} part (a ∷ known) place =
    last_has (λ (read : List X × Place). length read.0 ≡ suc (length known)) ((part a).read place) _ (λ x.
    value_has (λ (xs : List X). length xs ≡ length known) (λ (xs : List X). length xs ≡ suc (length known)) (λ (xs : List X). x.0 ∷ xs) (each_read part known x.1) (each_read_counted part known x.1) (λ xs same. ap suc same))

table_counted : {X : Type 0} (f : ℕ → X) (n : ℕ) → length (table f n) ≡ n
table_counted f zero = refl
table_counted f (suc n) = ap suc (table_counted (λ k. f (suc k)) n)

-- what holds of the last of two values that were read
pair_has : {F A B : Type 0} (P : B → Type 0) (first : Codec F A) (second : A → Codec F B) (place : Place) → ((a : A) (after : Place) → IfOk ((second a).read after) (λ read. P read.0)) → IfOk ((pair first second).read place) (λ read. P read.0.1)
pair_has {F} {A} {B} P first second place has =
    last_has (λ (read : (A × B) × Place). P read.0.1) (first.read place) _ (λ a. value_has P (λ (both : A × B). P both.1) (λ b. (a.0, b)) ((second a.0).read a.1) (has a.0 a.1) (λ b holds. holds))

parts_counted : (conf : Conf) (loaded : ℕ → Memory) (head : SavedHead) (place : Place)
    → IfOk (each_read (λ p. partition_format conf (loaded p) head p) (table (λ p. p) (length conf.parts)) place) (λ read. length read.0 ≡ length conf.parts)
parts_counted conf loaded head place =
    subst (λ (n : ℕ). IfOk (each_read (λ p. partition_format conf (loaded p) head p) (table (λ p. p) (length conf.parts)) place) (λ read. length read.0 ≡ n))
    (table_counted (λ p. p) (length conf.parts)) (each_read_counted (λ p. partition_format conf (loaded p) head p) (table (λ p. p) (length conf.parts)) place)

machine_counted : (conf : Conf) (loaded : ℕ → Memory) (container : List ℕ) (place : Place) → IfOk ((machine_format conf loaded container).read place) (λ read. length (read.0).parts ≡ length conf.parts)
machine_counted conf loaded container place =
    value_has (λ (t : SavedHead × (List Content × List SavedPartition)). length t.1.1 ≡ length conf.parts) (λ (saved : SavedMachine). length saved.parts ≡ length conf.parts)
    (λ (t : SavedHead × (List Content × List SavedPartition)). record { head = t.0; channels = t.1.0; parts = t.1.1 }) _
    (pair_has (λ (t : List Content × List SavedPartition). length t.1 ≡ length conf.parts) (head_format conf container)
    (λ head. pair (each_of (λ chan. content_field chan.kind chan.length) conf.chans) (λ channels. each_of (λ p. partition_format conf (loaded p) head p) (table (λ p. p) (length conf.parts)))) place (λ head after.
    pair_has (λ (ps : List SavedPartition). length ps ≡ length conf.parts) (each_of (λ chan. content_field chan.kind chan.length) conf.chans)
    (λ channels. each_of (λ p. partition_format conf (loaded p) head p) (table (λ p. p) (length conf.parts))) after (λ channels later. parts_counted conf loaded head later)))
    (λ t same. same)

saved_parts : (conf : Conf) (loaded : ℕ → Memory) (container bytes : List ℕ) → IfOk ((saved_format conf loaded container).read bytes) (λ saved. length saved.parts ≡ length conf.parts)
saved_parts conf loaded container bytes =
    last_has (λ (saved : SavedMachine). length saved.parts ≡ length conf.parts) (unsealed saved_faults (codes "XMSM") 1 bytes) _ (λ front.
    then_has (λ (read : SavedMachine × Place). length (read.0).parts ≡ length conf.parts) (λ (saved : SavedMachine). length saved.parts ≡ length conf.parts)
    ((machine_format conf loaded container).read (past 10 (cursor_start front))) _ (machine_counted conf loaded container (past 10 (cursor_start front)))
    (λ read holds. unless_has (λ (saved : SavedMachine). length saved.parts ≡ length conf.parts) _ _ read.0 holds))

pub saved_conf : (system : System) (saved : SavedMachine) → (machine_saved system saved).system.conf ≡ system.conf
unfolding machine_saved
saved_conf system saved = refl

restored_counted : (system : System) (saved : SavedMachine) → length (machine_saved system saved).parts ≡ length saved.parts
unfolding machine_saved
restored_counted system saved = each_counted (λ p. restored_part (view_of system p)) saved.parts

pub saved_counted : (system : System) (container bytes : List ℕ) (saved : SavedMachine) → (saved_format system.conf (loaded_of system) container).read bytes ≡ Ok saved
    → length (machine_saved system saved).parts ≡ length (machine_saved system saved).system.conf.parts
saved_counted system container bytes saved read =
    restored_counted system saved
    ∙ subst (λ r. IfOk r (λ (one : SavedMachine). length one.parts ≡ length system.conf.parts)) read (saved_parts system.conf (loaded_of system) container bytes)
    ∙ ap (λ (conf : Conf). length conf.parts) (sym (saved_conf system saved))

-- The digest of a container.

counted_enough : {F : Type 0} (faults : HeadFaults F) (size stated count : ℕ) → count_before faults size stated ≡ Ok count → 16 ≤ size
unfolding count_before
counted_enough faults size stated count is = at (nat_lt size stated) (nat_lt stated size) (nat_lt size 16) refl is
  where
    at : (a b c : Bool) → nat_lt size 16 ≡ c → (if a then Err (faults.short size) else if b then Err (faults.trailing stated) else if c then Err (faults.short size) else Ok (size - 16)) ≡ Ok count → 16 ≤ size
    at true b c short e = absurd (cc)
    at false true c short e = absurd (cc)
    at false false true short e = absurd (cc)
    at false false false short e = grind (arith, nat_tests)

enough : {F : Type 0} (faults : HeadFaults F) (size stated : ℕ) → IfOk (count_before faults size stated) (λ count. 16 ≤ size)
enough faults size stated = at (count_before faults size stated) refl
  where
    at : (r : Result ℕ _) → count_before faults size stated ≡ r → IfOk r (λ count. 16 ≤ size)
    at (Ok count) is = counted_enough faults size stated count is
    at (Err fault) is = tt

sealed_enough : {F : Type 0} (faults : HeadFaults F) (name : List ℕ) (latest : ℕ) (bytes : List ℕ) → IfOk (before_digest faults name latest bytes) (λ count. 16 ≤ length bytes)
unfolding before_digest
sealed_enough faults name latest bytes = last_has (λ (count : ℕ). 16 ≤ length bytes) (stated_length faults name latest bytes) _ (λ stated. enough faults (length bytes) stated)

unsealed_enough : {F : Type 0} (faults : HeadFaults F) (name : List ℕ) (latest : ℕ) (bytes : List ℕ) → IfOk (unsealed faults name latest bytes) (λ front. 16 ≤ length bytes)
unfolding unsealed
unsealed_enough faults name latest bytes =
    then_has (λ (count : ℕ). 16 ≤ length bytes) (λ (front : List ℕ). 16 ≤ length bytes) (before_digest faults name latest bytes) _ (sealed_enough faults name latest bytes) (λ count long. unless_has (λ (front : List ℕ). 16 ≤ length bytes) _ _ _ long)

box_enough : (box : List ℕ) → IfOk (unpacked box) (λ system. 16 ≤ length box)
unfolding unpacked
box_enough box =
    then_has (λ (front : List ℕ). 16 ≤ length box) (λ (system : Loaded). 16 ≤ length box) (unsealed box_faults (codes "XMPK") 2 box) system_in (unsealed_enough box_faults (codes "XMPK") 2 box) (λ front long. any_ok (system_in front) long)
  where
    any_ok : (r : Result Loaded BoxFault) → 16 ≤ length box → IfOk r (λ system. 16 ≤ length box)
    any_ok (Ok system) long = long
    any_ok (Err fault) long = tt

pub digest_long : (box : List ℕ) (system : Loaded) → unpacked box ≡ Ok system → length (stored_digest box) ≡ 16
digest_long box system unpacks =
    let long : 16 ≤ length box = subst (λ (r : Result Loaded BoxFault). IfOk r (λ system. 16 ≤ length box)) unpacks (box_enough box) in
    let is : length (stored_digest box) ≡ length box - (length box - 16) = length-drop (length box - 16) box in
    omega (arith, long, is)
