-- Numbers of eight bytes, and a byte that says what is read after it.
use Rattle.std.proofs.Common.{◌≡◌, ℕ, ◌^◌, ◌%◌, ◌<◌, Bool, true, List, [], ◌∷◌, ◌++◌, length, Result, Ok, refl, ap, arith}
use Rattle.std.specs.Int.{w8, w64, to_be_bytes}
use Rattle.std.proofs.lemmas.List.{take_at}
use Rattle.std.proofs.lemmas.Nat.{from_be_bytes-to_be_bytes_8}
use Rattle.xm_base.specs.Bytes.{AreBytes}
use Rattle.xm_base.specs.lemmas.BytesLemmas.{spelled_8}
use Rattle.xm_base.specs.Cursor.{Place, ahead}
use Rattle.file_headers.specs.lemmas.FieldLemmas.{AreBytes-take, IsWide, Takes, wide8, listed_takes}
use Rattle.file_headers.specs.Steps.{◌>>=◌}
use Rattle.file_headers.specs.lemmas.StepLemmas.{stepped}
use Rattle.file_headers.specs.Fields.{listed_at}
use Rattle.cue_scripts.specs.Reading.{script_field, script_short}
use Rattle.fault_messages.specs.declared.fault.ScriptFault.{ScriptFault}

-- the bytes at the beginning are bytes
pub AreBytes-front : (xs ys : List ℕ) → AreBytes (xs ++ ys) → AreBytes xs
AreBytes-front xs ys all = rw (take_at xs ys (length xs) refl) at (AreBytes-take (length xs) (xs ++ ys) all)

-- numbers of eight bytes
pub wide64 : IsWide w64 (2 ^ 64)
wide64 = record {
  size = λ n. refl;
  back = λ bytes eight each. spelled_8 bytes eight each;
  again = λ n below. from_be_bytes-to_be_bytes_8 n below;
  below = λ bytes each. omega (arith, each 0, each 1, each 2, each 3, each 4, each 5, each 6, each 7);
}

-- a number of one byte is this byte
pub one_byte : (n : ℕ) → n < 256 → to_be_bytes w8 n ≡ n ∷ []
one_byte n below =
    let same : n % 256 ≡ n = omega (arith, below) in
    ap (λ b. b ∷ []) same

-- a byte that was read and tested, and what was read after it
pub record Begins {A : Type 0} (test : ℕ → Bool) (more : ℕ → Place → Result A ScriptFault) (place : Place) (end : A) : Type 0 where
  pub kind : ℕ
  pub following : Place
  pub small : kind < 256
  pub passes : test kind ≡ true
  pub first : Takes place (kind ∷ []) following
  pub led : more kind following ≡ Ok end

-- what was read after a byte
pub begins : {A : Type 0} (test : ℕ → Bool) (more : ℕ → Place → Result A ScriptFault) (place : Place) (end : A) → AreBytes (ahead place)
    → (listed_at script_short script_field w8 test place >>= λ kind. more kind.0 kind.1) ≡ Ok end → Begins test more place end
begins test more place end each e =
    let s = stepped (listed_at script_short script_field w8 test place) (λ kind. more kind.0 kind.1) end e in
    let t = listed_takes script_short script_field w8 256 wide8 test place s.value.0 s.value.1 each s.is in
    record {
      kind = s.value.0;
      following = s.value.1;
      small = t.1;
      passes = t.2;
      first = rw (one_byte s.value.0 t.1) at t.0;
      led = s.led;
    }
