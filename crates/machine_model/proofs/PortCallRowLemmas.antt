-- The rows on calls 16 to 23: each is computed, and a name is read from the bytes that were put into memory.
use Rattle.std.proofs.Common.{◌≡◌, ℕ, zero, suc, Bool, List, [], ◌∷◌, ◌++◌, length, Option, None, Some, refl, ap, ◌∙◌}
use Rattle.std.specs.Prelude.{if◌then◌else◌, not, ◌==◌, replicate}
use Rattle.guest_bus.specs.Memory.{Memory, byte_at, bytes_at, is_readable, with_bytes}
use Rattle.guest_bus.specs.lemmas.MemoryLemmas.{bytes_at-with_bytes}
use Rattle.xm_base.specs.Options.{on}
use Rattle.xm_conf.specs.declared.port.Kind.{Kind}
use Rattle.xm_conf.specs.declared.port.Kind.TheVariants as kind
use Rattle.machine_model.specs.Caller.{Caller, Served, a_of}
use Rattle.machine_model.specs.Hypercalls.{served}
use Rattle.machine_model.specs.Partition.{areas_of}
use Rattle.machine_model.specs.rows.PortCallRows.{NamedComesTo, PortCallRows}
use Rattle.machine_model.specs.PortEffects.{creating, name_at}
use Rattle.machine_model.proofs.Computing.{computing}

-- a name by the bytes that are known from an address on
abbrev name_known : (ℕ → Bool) → Memory → ℕ → List ℕ → ℕ → Option (List ℕ)
name_known allowed memory address [] count = name_at allowed memory address count
name_known allowed memory address (byte ∷ bytes) zero = None
name_known allowed memory address (byte ∷ bytes) (suc count) =
    if not (allowed address) then None
    else if byte == 0 then Some []
    else on (λ rest. byte ∷ rest) (name_known allowed memory (suc address) bytes count)

name_is_known : (allowed : ℕ → Bool) (memory : Memory) (address : ℕ) (bytes : List ℕ) (count : ℕ) → bytes_at memory address (length bytes) ≡ bytes
    → name_at allowed memory address count ≡ name_known allowed memory address bytes count
name_is_known allowed memory address [] count is = refl
name_is_known allowed memory address (byte ∷ bytes) zero is = refl
name_is_known allowed memory address (byte ∷ bytes) (suc count) is =
    let first : byte_at memory address ≡ byte = cc in
    let rest : bytes_at memory (suc address) (length bytes) ≡ bytes = cc in
    ap (λ b. if not (allowed address) then None else if b == 0 then Some [] else on (λ name. b ∷ name) (name_at allowed memory (suc address) count)) first
    ∙ ap (λ name. if not (allowed address) then None else if byte == 0 then Some [] else on (λ further. byte ∷ further) name) (name_is_known allowed memory (suc address) bytes count rest)

-- a name of at most 32 bytes with its end that stands where a call says, by the bytes at that place
abbrev name_in : Caller → Option (List ℕ)
name_in caller = name_at (is_readable (areas_of caller.view)) caller.state.memory (a_of caller) 32

abbrev name_by : Caller → List ℕ → Option (List ℕ)
name_by caller bytes = name_known (is_readable (areas_of caller.view)) caller.state.memory (a_of caller) bytes 32

name_is : (caller : Caller) (memory : Memory) (bytes : List ℕ) → caller.state.memory ≡ with_bytes memory (a_of caller) bytes
    → name_in caller ≡ name_by caller bytes
name_is caller memory bytes is =
    name_is_known (is_readable (areas_of caller.view)) caller.state.memory (a_of caller) bytes 32
    (ap (λ m. bytes_at m (a_of caller) (length bytes)) is ∙ bytes_at-with_bytes memory (a_of caller) bytes)

-- a call that makes a port of this kind, way, length and number of messages, by the name that was put into memory
makes : (the_kind : Kind) (the_way the_length the_most : ℕ) (caller : Caller) (comes : Served) (memory : Memory) (bytes : List ℕ)
    → served caller ≡ creating the_kind the_way the_length the_most (name_in caller) caller → caller.state.memory ≡ with_bytes memory (a_of caller) bytes
    → creating the_kind the_way the_length the_most (name_by caller bytes) caller ≡ comes → NamedComesTo caller comes
makes the_kind the_way the_length the_most caller comes memory bytes calls is known = record {
  made = calls ∙ ap (λ name. creating the_kind the_way the_length the_most name caller) (name_is caller memory bytes is) ∙ known;
}

pub port_call_rows : PortCallRows
unfolding computing
port_call_rows = record {
  create_sampling_port = λ memory. (
    makes kind.Sampling 1 8 0 _ _ memory (0x64 ∷ 0 ∷ []) refl refl refl,
    makes kind.Sampling 0 8 0 _ _ memory (0x73 ∷ 0 ∷ []) refl refl refl,
    makes kind.Sampling 1 8 0 _ _ memory (0x64 ∷ 0 ∷ []) refl refl refl,
    makes kind.Sampling 1 8 0 _ _ memory (0x64 ∷ 0 ∷ []) refl refl refl,
    makes kind.Sampling 1 8 0 _ _ memory (0 ∷ []) refl refl refl,
    makes kind.Sampling 1 8 0 _ _ memory (replicate 31 0x64 ++ 0 ∷ []) refl refl refl,
    makes kind.Sampling 1 8 0 _ _ memory (replicate 32 0x64 ++ 0 ∷ []) refl refl refl,
    makes kind.Sampling 1 8 0 _ _ memory (0x72 ∷ 0 ∷ []) refl refl refl,
    makes kind.Sampling 0 8 0 _ _ memory (0x64 ∷ 0 ∷ []) refl refl refl,
    makes kind.Sampling 1 7 0 _ _ memory (0x64 ∷ 0 ∷ []) refl refl refl,
    makes kind.Sampling 0 8 0 _ _ memory (0x78 ∷ 0 ∷ []) refl refl refl,
    makes kind.Sampling 1 8 0 _ _ memory (0x64 ∷ 0 ∷ []) refl refl refl,
    makes kind.Sampling 1 7 0 _ _ memory (0x64 ∷ 0 ∷ []) refl refl refl,
  );
  write_sampling_message = λ memory. (refl, refl, (refl, refl, refl, refl, (refl, refl, refl, refl)));
  read_sampling_message = λ memory. (refl, refl, refl, refl, refl, refl, refl, refl, refl, refl, refl, refl, refl, (refl, refl, refl, refl));
  get_sampling_port_status = λ memory. (refl, refl, refl, refl, refl, (refl, refl, refl, refl));
  create_queuing_port = λ memory. (
    makes kind.Queuing 1 8 2 _ _ memory (0x72 ∷ 0 ∷ []) refl refl refl,
    makes kind.Queuing 0 8 2 _ _ memory (0x71 ∷ 0 ∷ []) refl refl refl,
    makes kind.Queuing 1 8 2 _ _ memory (0x72 ∷ 0 ∷ []) refl refl refl,
    makes kind.Queuing 1 8 2 _ _ memory (0x64 ∷ 0 ∷ []) refl refl refl,
    makes kind.Queuing 1 8 3 _ _ memory (0x72 ∷ 0 ∷ []) refl refl refl,
    makes kind.Queuing 1 7 2 _ _ memory (0x72 ∷ 0 ∷ []) refl refl refl,
    makes kind.Queuing 0 8 2 _ _ memory (0x72 ∷ 0 ∷ []) refl refl refl,
    makes kind.Queuing 1 8 2 _ _ memory (0x72 ∷ 0 ∷ []) refl refl refl,
  );
  send_queuing_message = λ memory. (refl, refl, refl, (refl, refl, refl, refl, (refl, refl, refl, refl)));
  receive_queuing_message = λ memory. (refl, refl, refl, refl, refl, refl, (refl, refl, refl, refl));
  get_queuing_port_status = λ memory. (refl, refl, refl, refl, (refl, refl, refl, refl));
}
