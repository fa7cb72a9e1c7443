use Rattle.std.proofs.Common.{sym, ◌∙◌}
use Rattle.std.proofs.lemmas.List.{take_rest}
use Rattle.xmcf_reader.specs.lemmas.Seen.{flags_of}
use Rattle.xmcf_reader.proofs.Words.{last_flag, no_flag, one_flag}
use Rattle.xmcf_reader.proofs.values.«+more_flags».Goals as goal

pub returns-in-None : goal.returns-in-None
returns-in-None t c = c.with_flag.ensures ∙ last_flag c.args.text.now (flags_of c.args.found) (sym c.in-None.ensures.first)

pub returns-in_err-found-in-Some : goal.returns-in_err-found-in-Some
returns-in_err-found-in-Some t c = rw c.from_residual.ensures (no_flag c.args.text.now c.in-Some.at (flags_of c.args.found) c.in-Some.ensures.first c.in_err-found-in-Some.ensures)

pub returns-in_ok-found-in-Some : goal.returns-in_ok-found-in-Some
returns-in_ok-found-in-Some t c = one_flag c.args.text.now c.in-Some.at (flags_of c.args.found) (flags_of c.in_ok-found-in-Some.found) _ c.in-Some.ensures.first c.in_ok-found-in-Some.ensures (rw take_rest at c.more_flags.ensures)
