use Rattle.upset_files.proofs.PlaceLemmas.{places_spelled}
use Rattle.upset_files.proofs.StrikeLemmas.{may_strike, places_those}
use Rattle.upset_files.proofs.law.places_are_spelled.Goals as goal

pub returns-clause-spelled : goal.returns-clause-spelled
returns-clause-spelled c = places_spelled

pub returns-clause-those : goal.returns-clause-those
returns-clause-those c = places_those

pub returns-clause-strike : goal.returns-clause-strike
returns-clause-strike c = may_strike
