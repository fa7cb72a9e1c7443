-- How long the program's command may run, and how its run begins.
use Rattle.std.proofs.Common.{◌≡◌, ℕ, ◌⊎◌, inl, inr, Bool, true, false, nat_eq, List, [], length, Some, refl, sym}
use Rattle.std.specs.Prelude.{◌&&◌, ◌||◌}
use Rattle.command_line.specs.Words.{Bare, Run, begins_once, command_of, inputs_in, run_files_in, scripts_in}
use Rattle.command_line.specs.lemmas.RunLemmas.{span_within}
use Rattle.command_line.specs.Grammar.{CommandsAreSpelled}
use Rattle.command_line.specs.Seen.{command_seen, seen_options}
use Rattle.command_line.specs.declared.commands.Command as code
use Rattle.command_line.specs.declared.commands.Command.TheVariants as variant
use Rattle.command_line.specs.declared.run_options.RunKind.TheVariants as whole
use Rattle.xm_commands.specs.lemmas.Ticks.{BeginsOnce, HasTicks}

-- the ticks of the program's command are at most the limit
pub has_ticks : (command : code.Command) (words : List (List ℕ)) → CommandsAreSpelled → command_seen (Some command) ≡ command_of words → HasTicks command
has_ticks (variant.Bare image ticks) words law e = ((law words (Bare image.now ticks)).0 (sym e)).1.1
has_ticks (variant.Parse description output) words law e = tt
has_ticks (variant.Upgrade configuration output) words law e = tt
has_ticks (variant.BuildImage program output) words law e = tt
has_ticks (variant.ReadImage image) words law e = tt
has_ticks (variant.Pack configuration output images) words law e = tt
has_ticks (variant.ListContainer container) words law e = tt
has_ticks (variant.CheckContainer container) words law e = tt
has_ticks (variant.MakePlan description) words law e = tt
has_ticks (variant.CheckPlan description) words law e = tt
has_ticks (variant.ListGroups description) words law e = tt
has_ticks (variant.ListSteerers description) words law e = tt
has_ticks (variant.Generate number) words law e = tt
has_ticks (variant.Replay container part script options) words law e = tt
has_ticks (variant.Run container options) words law e = span_within (seen_options options) ((law words (Run container.now (seen_options options))).0 (sym e)).1.1.each

-- a run that begins in one way passes the test of it
once : {X Y Z : Type 0} (from : List X) (inputs : List Y) (scripts : List Z) → (from ≡ []) ⊎ ((inputs ≡ []) × (scripts ≡ []))
    → (nat_eq (length from) 0 || (nat_eq (length inputs) 0 && nat_eq (length scripts) 0)) ≡ true
once from inputs scripts (inl none) = rw none refl
once from inputs scripts (inr both) = rw (both.0, both.1) (either (nat_eq (length from) 0))
  where
    either : (t : Bool) → (t || true) ≡ true
    either true = refl
    either false = refl

-- the run of the program's command begins in one way
pub begins_so : (command : code.Command) (words : List (List ℕ)) → CommandsAreSpelled → command_seen (Some command) ≡ command_of words → BeginsOnce command
begins_so (variant.Bare image ticks) words law e = tt
begins_so (variant.Parse description output) words law e = tt
begins_so (variant.Upgrade configuration output) words law e = tt
begins_so (variant.BuildImage program output) words law e = tt
begins_so (variant.ReadImage image) words law e = tt
begins_so (variant.Pack configuration output images) words law e = tt
begins_so (variant.ListContainer container) words law e = tt
begins_so (variant.CheckContainer container) words law e = tt
begins_so (variant.MakePlan description) words law e = tt
begins_so (variant.CheckPlan description) words law e = tt
begins_so (variant.ListGroups description) words law e = tt
begins_so (variant.ListSteerers description) words law e = tt
begins_so (variant.Generate number) words law e = tt
begins_so (variant.Replay container part script options) words law e = tt
begins_so (variant.Run container options) words law e =
    once (run_files_in whole.From (seen_options options)) (inputs_in (seen_options options)) (scripts_in (seen_options options))
    ((law words (Run container.now (seen_options options))).0 (sym e)).1.1.begun
