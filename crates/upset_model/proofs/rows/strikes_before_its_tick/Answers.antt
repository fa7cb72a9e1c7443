use Rattle.std.proofs.Common.{refl}
use Rattle.upset_model.specs.Upsets.{ready, upset}
use Rattle.upset_model.proofs.rows.strikes_before_its_tick.Goals as goal

pub returns-clause-ready : goal.returns-clause-ready
unfolding ready upset
returns-clause-ready c = record { own = λ g first second third goes parts. rw (goes, parts) refl; halted = λ g halts. rw halts refl }
