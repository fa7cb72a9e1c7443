-- What a reader of a file answers, against what reading gives.
use Rattle.std.specs.Prelude.{◌≡◌, Result, Ok, Err}

-- what was answered is what reading gives
abbrev pub IsRead : {X Y F : Type 0} → (X → Y) → Result X F → Result Y F → Type 0
IsRead view (Ok value) read = read ≡ Ok (view value)
IsRead view (Err fault) read = read ≡ Err fault

-- the same, where a fault may be another than what reading gives, as being out of memory is: which it may be stands first
abbrev pub Gives : {X Y F : Type 0} → (F → Result Y F → Type 0) → (X → Y) → Result X F → Result Y F → Type 0
Gives Fails view (Ok value) read = read ≡ Ok (view value)
Gives Fails view (Err fault) read = Fails fault read
