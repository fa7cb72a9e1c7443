use Rattle.std.proofs.Common.{◌≡◌, ◌+◌, take, ◌∙◌, arith}
use Rattle.std.proofs.lemmas.Option.{slice_get-get_or}
use Rattle.guest_memory.specs.Flat.{listed}
use Rattle.guest_memory.specs.Memories.{areas_size}
use Rattle.guest_memory.proofs.AccessLemmas.{follow_at}
use Rattle.guest_memory.proofs.find.place_in.Goals as goal

pub returns : goal.returns
returns c =
    let none : 0 + areas_size (take c.args.area (listed c.args.entries.now)) ≡ areas_size (take c.args.area (listed c.args.entries.now)) = omega arith in
    c.place.ensures ∙ follow_at 0 c.args.entries.now c.args.area _ c.requires.follow (slice_get-get_or c.args.entries.now c.args.area _ c.requires.area) ∙ none
