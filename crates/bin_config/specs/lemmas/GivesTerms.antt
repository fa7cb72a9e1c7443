-- For proofs and private clauses: what a reader of fields answers.
use Rattle.std.specs.Prelude.{List, ◌++◌, Ok, Err}
use Rattle.bin_config.specs.Reading.{Read}
use Rattle.fault_messages.specs.declared.fault.XmcFault.TheVariants as fault

-- elements that stand before those that are read
abbrev pub with_front : {X : Type 0} → List X → Read (List X) → Read (List X)
with_front front (Ok (xs, place)) = Ok (front ++ xs, place)
with_front front (Err fault) = Err fault
