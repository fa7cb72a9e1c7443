-- What a run begins with.
use Rattle.std.proofs.Common.{◌≡◌, ℕ, zero, suc, ◌<◌, ◌≤◌, ◌⊎◌, inl, inr, Bool, true, false, nat_eq, List, [], ◌∷◌, length, None, Result, Ok, Err, refl, sym, ap, subst, ◌∙◌, arith}
use Rattle.std.specs.Prelude.{◌&&◌, ◌||◌, ◌++◌, codes, IsSome}
use Rattle.std.proofs.lemmas.Bool.{and_parts, eqb-true}
use Rattle.std.specs.String.{string_bytes}
use Rattle.xm_base.specs.Cursor.{Place}
use Rattle.xm_base.specs.declared.limits.TheConstants.{TICKS}
use Rattle.builders.specs.Makes.{IsRefusalText}
use Rattle.builders.specs.declared.unmade.Unmade.{Unmade}
use Rattle.builders.specs.declared.unmade.Unmade.TheVariants as unmade
use Rattle.codecs.specs.Codec.{Codec, each_fits, each_of, each_read, each_spelled, pair, through, value_as}
use Rattle.codecs.specs.Files.{FileCodec, sealed_file}
use Rattle.command_line.specs.Words.{PartFile, RunOption, begins_once, first_file, inputs_in, run_files_in, scripts_in}
use Rattle.command_line.specs.declared.run_options.RunKind.TheVariants as whole
use Rattle.file_commands.specs.Denial.{Denial}
use Rattle.file_commands.specs.Ending.{Ending, Done, Usage, ReadFault, Refused, WriteFaultReport, WriteFaultFile, UartFault, NoMemory}
use Rattle.file_commands.specs.Makes.{IsUnmadeOf}
use Rattle.file_commands.specs.Outcome.{machine_or}
use Rattle.file_commands.specs.Packing.{denial}
use Rattle.file_commands.specs.lemmas.EndingValuesTerms.{IsDenied}
use Rattle.file_headers.specs.Heads.{unsealed}
use Rattle.file_headers.specs.Steps.{◌>>=◌}
use Rattle.file_headers.specs.lemmas.HeadLemmas.{unsealed_takes}
use Rattle.file_headers.specs.lemmas.StepLemmas.{stepped}
use Rattle.guest_bus.specs.Memory.{Memory}
use Rattle.loaded_system.specs.System.{System}
use Rattle.machine_model.specs.Lists.{table}
use Rattle.machine_model.specs.Machine.{start}
use Rattle.machine_model.specs.View.{System as Booted}
use Rattle.run_commands.specs.declared.beginning.Beginning.{Beginning}
use Rattle.run_commands.specs.declared.beginning.Beginning.TheVariants.{Boot, Saved}
use Rattle.run_commands.specs.lemmas.Beginnings.{IsBeginning, IsNamed, MayHaveScripts, machine_of, machine_with}
use Rattle.saved_machines.specs.Reading.{Fails}
use Rattle.saved_machines.specs.Saved.{SavedMachine}
use Rattle.saved_machines.specs.SavedFields.{content_field, saved_faults}
use Rattle.saved_machines.specs.SavedFormat.{head_format, partition_format, saved_format}
use Rattle.saved_machines.specs.Saving.{loaded_of, machine_saved, saved_inputs}
use Rattle.saved_machines.specs.Reading.{saved_value}
use Rattle.saved_machines.specs.Texts.{saved_fault_text}
use Rattle.saved_machines.specs.declared.fault.SavedFault.{SavedFault}
use Rattle.saved_machines.specs.declared.fault.SavedFault.TheVariants as fault
use Rattle.system_state.specs.State.{with_inputs}
use Rattle.xm_conf.specs.Configuration.{Conf}
use Rattle.xm_container.specs.Reading.{box_faults, system_in, unpacked}

-- The machine.

-- it has the configuration of its system, with input words of its own
pub machine_conf : (system : System) (b : Beginning) → (machine_of system b).system.conf ≡ system.conf
unfolding start machine_saved
machine_conf system (Boot inputs) = refl
machine_conf system (Saved saved) = refl

pub machine_system : (system : System) (b : Beginning) → (inputs : List (List ℕ)) × ((machine_of system b).system ≡ with_inputs system inputs)
unfolding start machine_saved
machine_system system (Boot inputs) = (inputs, refl)
machine_system system (Saved saved) = (saved_inputs (saved_value saved), refl)

-- one that boots has done no tick
pub boot_ticks : (system : Booted) → (start system).ticks ≡ 0
unfolding start
boot_ticks system = refl

-- it has done as many ticks as a run may have at most
pub machine_most : (system : System) (b : Beginning) → IsBeginning system b → (machine_of system b).ticks ≤ TICKS
unfolding start machine_saved
machine_most system (Boot inputs) is = omega arith
machine_most system (Saved saved) is = omega (arith, is.begun)

-- it boots, or no scripts are made
pub machine_boots : (system : System) (b : Beginning) (scripts : List PartFile) → MayHaveScripts b scripts → (scripts ≡ []) ⊎ (machine_of system b ≡ start (machine_of system b).system)
unfolding start
machine_boots system (Boot inputs) scripts may = inr refl
machine_boots system (Saved saved) scripts may = inl may

-- A container.

-- its file has a digest
pub container_long : (bytes : List ℕ) (system : System) → unpacked bytes ≡ Ok system → 16 ≤ length bytes
unfolding unpacked
container_long bytes system is =
    let step = stepped (unsealed box_faults (codes "XMPK") 2 bytes) system_in system is in
    let sealed = unsealed_takes box_faults (codes "XMPK") 2 bytes step.value step.is in
    omega (arith, sealed.count)

-- A saved machine.

-- parts of equal formats
fits_same : {F X : Type 0} (one other : ℕ → Codec F X) (number : ℕ → ℕ) (n : ℕ) → ((k : ℕ) → k < n → one (number k) ≡ other (number k)) → (xs : List X)
    → each_fits one (table number n) xs ≡ each_fits other (table number n) xs
fits_same one other number zero same [] = refl
fits_same one other number zero same (x ∷ xs) = refl
fits_same one other number (suc n) same [] = refl
fits_same {F} {X} one other number (suc n) same (x ∷ xs) =
    ap (λ (c : Codec F X). c.fits x && each_fits one (table (λ k. number (suc k)) n) xs) (same 0 (omega arith))
    ∙ ap (λ b. (other (number 0)).fits x && b) (fits_same one other (λ k. number (suc k)) n (λ k below. same (suc k) (omega (arith, below))) xs)

spells_same : {F X : Type 0} (one other : ℕ → Codec F X) (number : ℕ → ℕ) (n : ℕ) → ((k : ℕ) → k < n → one (number k) ≡ other (number k)) → (xs : List X)
    → each_spelled one (table number n) xs ≡ each_spelled other (table number n) xs
spells_same one other number zero same xs = refl
spells_same one other number (suc n) same [] = refl
spells_same {F} {X} one other number (suc n) same (x ∷ xs) =
    ap (λ (c : Codec F X). c.spell x ++ each_spelled one (table (λ k. number (suc k)) n) xs) (same 0 (omega arith))
    ∙ ap (λ bytes. (other (number 0)).spell x ++ bytes) (spells_same one other (λ k. number (suc k)) n (λ k below. same (suc k) (omega (arith, below))) xs)

reads_same : {F X : Type 0} (one other : ℕ → Codec F X) (number : ℕ → ℕ) (n : ℕ) → ((k : ℕ) → k < n → one (number k) ≡ other (number k)) → (place : Place)
    → each_read one (table number n) place ≡ each_read other (table number n) place
unfolding each_read
reads_same one other number zero same place = refl
reads_same {F} {X} one other number (suc n) same place =
    ap (λ (c : Codec F X). c.read place >>= λ x. value_as (λ xs. x.0 ∷ xs) (each_read one (table (λ k. number (suc k)) n) x.1)) (same 0 (omega arith))
    ∙ λ i. (other (number 0)).read place >>= λ x. value_as (λ xs. x.0 ∷ xs) (reads_same one other (λ k. number (suc k)) n (λ k below. same (suc k) (omega (arith, below))) x.1 i)

each_same : {F X : Type 0} (one other : ℕ → Codec F X) (n : ℕ) → ((k : ℕ) → k < n → one k ≡ other k) → each_of one (table (λ p. p) n) ≡ each_of other (table (λ p. p) n)
each_same one other n same = λ i. record {
  fits = λ xs. fits_same one other (λ p. p) n same xs i;
  spell = λ xs. spells_same one other (λ p. p) n same xs i;
  read = λ place. reads_same one other (λ p. p) n same place i;
}

-- the format is about the memories of the partitions that there are
pub format_same : (conf : Conf) (one other : ℕ → Memory) (container : List ℕ) → ((p : ℕ) → p < length conf.parts → one p ≡ other p) → saved_format conf one container ≡ saved_format conf other container
format_same conf one other container same = λ i. sealed_file saved_faults (codes "XMSM")
    (through (λ t. record { head = t.0; channels = t.1.0; parts = t.1.1 }) (λ saved. (saved.head, (saved.channels, saved.parts)))
    (pair (head_format conf container) λ head.
    pair (each_of (λ chan. content_field chan.kind chan.length) conf.chans) λ channels.
    each_same (λ p. partition_format conf (one p) head p) (λ p. partition_format conf (other p) head p) (length conf.parts) (λ p below. ap (λ memory. partition_format conf memory head p) (same p below)) i))

-- with the configuration of a system, and the digest of its container, it is that of these
pub read_here : (conf : Conf) (system : System) (one : ℕ → Memory) (digest container bytes : List ℕ) → conf ≡ system.conf → digest ≡ container
    → (saved_format conf one digest).read bytes ≡ (saved_format system.conf one container).read bytes
read_here conf system one digest container bytes same stored =
    ap (λ (c : Conf). (saved_format c one digest).read bytes) same ∙ ap (λ (d : List ℕ). (saved_format system.conf one d).read bytes) stored

-- what is read of it is the machine,
pub saved_read : (file container bytes : List ℕ) (system : System) (one : ℕ → Memory) (saved : SavedMachine) → ((p : ℕ) → p < length system.conf.parts → one p ≡ loaded_of (with_inputs system []) p)
    → (saved_format system.conf one container).read bytes ≡ Ok saved
    → machine_or file system ((saved_format system.conf (loaded_of (with_inputs system [])) container).read bytes) ≡ Ok (machine_saved (with_inputs system []) saved)
saved_read file container bytes system one saved same read =
    ap (machine_or file system) (ap (λ (format : FileCodec SavedFault SavedMachine). format.read bytes) (sym (format_same system.conf one (loaded_of (with_inputs system [])) container same)) ∙ read)

-- or its refusal has the text of its fault
pub saved_unmade : (file container bytes : List ℕ) (system : System) (one : ℕ → Memory) (why : SavedFault) (said : Unmade) (e : Ending) → ((p : ℕ) → p < length system.conf.parts → one p ≡ loaded_of (with_inputs system []) p)
    → Fails why ((saved_format system.conf one container).read bytes) → IsRefusalText said (saved_fault_text why) → (why ≡ fault.Memory → said ≡ unmade.Memory) → IsUnmadeOf e file said
    → IsDenied e (machine_or file system ((saved_format system.conf (loaded_of (with_inputs system [])) container).read bytes))
saved_unmade file container bytes system one why said e same (inl memory) stated starved ends =
    let ended : e ≡ NoMemory = subst (IsUnmadeOf e file) (starved memory) ends in
    rw ended tt
saved_unmade file container bytes system one why (unmade.Refused words) e same (inr fails) stated starved ends =
    let text_is : string_bytes words ≡ saved_fault_text why = stated in
    rw ends (ap (machine_or file system) (ap (λ (format : FileCodec SavedFault SavedMachine). format.read bytes) (sym (format_same system.conf one (loaded_of (with_inputs system [])) container same)) ∙ fails)
    ∙ ap (λ text. Err (denial file text)) (sym text_is))
saved_unmade file container bytes system one why unmade.Memory e same (inr fails) stated starved ends = rw ends tt

-- The files that a run reads.

-- the refusal of an input's file
pub inputs_denied : (e : Ending) (options : List RunOption) (contents : List (List ℕ)) (system : System) (read : Result (List (List ℕ)) Denial) → IsDenied e read → IsDenied e (machine_with options contents system read)
inputs_denied Done options contents system read denied = absurd denied
inputs_denied Usage options contents system read denied = absurd denied
inputs_denied (ReadFault file) options contents system read denied = absurd denied
inputs_denied (Refused file text) options contents system read denied = ap (machine_with options contents system) denied
inputs_denied WriteFaultReport options contents system read denied = absurd denied
inputs_denied (WriteFaultFile file) options contents system read denied = absurd denied
inputs_denied (UartFault place) options contents system read denied = absurd denied
inputs_denied NoMemory options contents system read denied = tt

-- A run that begins in one way.

-- a list without an element is empty
none_in : {X : Type 0} (xs : List X) → nat_eq (length xs) 0 ≡ true → xs ≡ []
none_in [] none = refl
none_in (x ∷ xs) none = (let zero = eqb-true (length (x ∷ xs)) 0 none in absurd (omega (arith, zero)))

-- with a saved machine it has no scripts
saved_once : {X Y : Type 0} (from : List (List ℕ)) (inputs : List X) (scripts : List Y) → (nat_eq (length from) 0 || (nat_eq (length inputs) 0 && nat_eq (length scripts) 0)) ≡ true → IsSome (first_file from) → scripts ≡ []
saved_once [] inputs scripts test some = absurd (let none : IsSome {T = List ℕ} None = some in cc)
saved_once {X} {Y} (file ∷ from) inputs scripts test some = at (nat_eq (length (file ∷ from)) 0) refl test
  where
    at : (t : Bool) → nat_eq (length (file ∷ from)) 0 ≡ t → (t || (nat_eq (length inputs) 0 && nat_eq (length scripts) 0)) ≡ true → scripts ≡ []
    at true none test = (let zero = eqb-true (length (file ∷ from)) 0 none in absurd (omega (arith, zero)))
    at false some test = none_in scripts (and_parts (nat_eq (length inputs) 0) (nat_eq (length scripts) 0) test).1

-- so it has them only where it boots
pub named_may : (options : List RunOption) (contents : List (List ℕ)) (system : System) (b : Beginning) → begins_once options ≡ true → IsNamed options contents system b → MayHaveScripts b (scripts_in options)
named_may options contents system (Boot inputs) once named = tt
named_may options contents system (Saved saved) once named = saved_once (run_files_in whole.From options) (inputs_in options) (scripts_in options) once named
