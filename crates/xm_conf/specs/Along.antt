-- Words on lists in which the rules are written: what the elements of a list add, one after another.
use Rattle.std.specs.Prelude.{ℕ, ◌+◌, Bool, true, false, List, [], ◌∷◌, ◌++◌, Option, Some, None}

-- the first element, where there is one
abbrev pub head_of : {X : Type 0} → List X → Option X
head_of [] = None
head_of (x ∷ xs) = Some x

-- what the elements add, each by its number and itself; the first has the number `n`
abbrev pub each_from : {X Y : Type 0} → (ℕ → X → List Y) → ℕ → List X → List Y
each_from f n [] = []
each_from f n (x ∷ rest) = f n x ++ each_from f (n + 1) rest

-- what the elements add, each by its number and itself
abbrev pub added_by_each : {X Y : Type 0} → (ℕ → X → List Y) → List X → List Y
added_by_each f xs = each_from f 0 xs

-- what the elements add, each by those before it and itself; before the first stand these
abbrev pub along_from : {X Y : Type 0} → (List X → X → List Y) → List X → List X → List Y
along_from f before [] = []
along_from f before (x ∷ rest) = f before x ++ along_from f (before ++ x ∷ []) rest

-- what the elements add, each by those before it and itself
abbrev pub along : {X Y : Type 0} → (List X → X → List Y) → List X → List Y
along f xs = along_from f [] xs

-- one more, where a test fails
abbrev pub unless : {Y : Type 0} → Bool → Y → List Y
unless true y = []
unless false y = y ∷ []
