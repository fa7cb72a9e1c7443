-- Words on lists and options in which the machine is defined.
use Rattle.std.specs.Prelude.{ℕ, zero, suc, Bool, true, false, List, [], ◌∷◌, ◌++◌, Option, Some, None, ◌==◌}

-- each element by f of its number and itself
abbrev pub each : {X Y : Type 0} → (ℕ → X → Y) → List X → List Y
each f [] = []
each f (x ∷ xs) = f 0 x ∷ each (λ k. f (suc k)) xs

-- what each element adds, by its number and itself, one after the other
abbrev pub all_of : {X Y : Type 0} → (ℕ → X → List Y) → List X → List Y
all_of f [] = []
all_of f (x ∷ xs) = f 0 x ++ all_of (λ k. f (suc k)) xs

-- f of each number below one
abbrev pub table : {Y : Type 0} → (ℕ → Y) → ℕ → List Y
table f zero = []
table f (suc n) = f 0 ∷ table (λ k. f (suc k)) n

-- whether there is a number, and it is this one
abbrev pub is_number : Option ℕ → ℕ → Bool
is_number None n = false
is_number (Some m) n = m == n

-- a value where a test holds
abbrev pub then_some : {X : Type 0} → Bool → X → Option X
then_some true x = Some x
then_some false x = None

-- what follows a value that is there
abbrev pub and_then : {X Y : Type 0} → Option X → (X → Option Y) → Option Y
and_then None f = None
and_then (Some x) f = f x

-- what follows a value that is there, or else another thing
abbrev pub by_option : {X Y : Type 0} → Option X → Y → (X → Y) → Y
by_option None other f = other
by_option (Some x) other f = f x
