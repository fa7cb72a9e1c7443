-- A word on options in which definitions are written.
use Rattle.std.specs.Prelude.{Option, Some, None}

-- a function of what is there
abbrev pub on : {X Y : Type 0} → (X → Y) → Option X → Option Y
on f None = None
on f (Some x) = Some (f x)
