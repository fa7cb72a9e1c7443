-- What is reported of a file.
use Rattle.std.specs.Prelude.{ℕ, List, Result}
use Rattle.builders.specs.Grouping.{groups_of}
use Rattle.builders.specs.Imaging.{container_lines_of, container_verdict_of, image_lines_of}
use Rattle.builders.specs.Planning.{plan_lines_of, verdicts_of}
use Rattle.builders.specs.Steering.{steering_of}
use Rattle.builders.specs.declared.printout.Printout.{Printout}
use Rattle.builders.specs.declared.printout.Printout.TheVariants.{Image, Container, Verdict, Plan, Verdicts, Groups, Steering}

-- the text that is printed of a file with these bytes, or why there is none
abbrev pub printout_text : Printout → List ℕ → Result (List ℕ) (List ℕ)
printout_text Image bytes = image_lines_of bytes
printout_text Container bytes = container_lines_of bytes
printout_text Verdict bytes = container_verdict_of bytes
printout_text Plan bytes = plan_lines_of bytes
printout_text Verdicts bytes = verdicts_of bytes
printout_text Groups bytes = groups_of bytes
printout_text Steering bytes = steering_of bytes
