-- Steps that did not fail.
use Rattle.std.proofs.Common.{◌≡◌, Bool, true, false, cond, Result, Ok, Err, refl}
use Rattle.file_headers.specs.Steps.{◌>>=◌, unless}

-- a step that did not fail: its value, and what followed
pub record Stepped {A B F : Type 0} (read : Result A F) (next : A → Result B F) (end : B) : Type 0 where
  pub value : A
  pub is : read ≡ Ok value
  pub led : next value ≡ Ok end

-- what did not fail has no step that failed
pub stepped : {A B F : Type 0} (read : Result A F) (next : A → Result B F) (end : B) → (read >>= next) ≡ Ok end → Stepped read next end
stepped (Ok x) next end e = record { value = x; is = refl; led = e }
stepped (Err fault) next end e = absurd cc

-- what was read is the value
pub ok_is : {A F : Type 0} (x y : A) → (let done : Result A F = Ok x in done ≡ Ok y) → x ≡ y
ok_is x y e = cc

-- a test that did not stop
pub went_on : {A F : Type 0} (test : Bool) (fault : F) (value end : A) → cond test (Err fault) (Ok value) ≡ Ok end → (test ≡ false) × (value ≡ end)
went_on true fault value end e = absurd cc
went_on false fault value end e = (refl, cc)

-- a test that did not stop: what follows
pub led_on : {A F : Type 0} (test : Bool) (fault : F) (more : Result A F) (end : A) → cond test (Err fault) more ≡ Ok end → (test ≡ false) × (more ≡ Ok end)
led_on true fault more end e = absurd cc
led_on false fault more end e = (refl, e)

-- a test that did not fail
pub record Passed {A : Type 0} (test : Bool) (value end : A) : Type 0 where
  pub true : test ≡ true
  pub is : value ≡ end

-- what did not fail has passed its test
pub passed : {A F : Type 0} (test : Bool) (fault : F) (value end : A) → unless test fault value ≡ Ok end → Passed test value end
passed true fault value end e = record { true = refl; is = cc }
passed false fault value end e = absurd cc
