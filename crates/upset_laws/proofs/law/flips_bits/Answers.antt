use Rattle.upset_laws.proofs.FlipLemmas.{flips_its_place, flips_keep_facts, flips_keep_ranges, flips_keep_registers, flips_keep_timers, flips_keep_traps, flips_nothing_else, flips_stay_in, strikes_by_own_lines, two_struck_runs}
use Rattle.upset_laws.proofs.law.flips_bits.Goals as goal

pub returns : goal.returns
returns c = record {
  own = strikes_by_own_lines;
  runs = two_struck_runs c.two_upset_runs.ensures.law;
  bit = flips_its_place;
  only = flips_nothing_else;
  facts = flips_keep_facts;
  registers = flips_keep_registers;
  traps = flips_keep_traps;
  timers = flips_keep_timers;
  ranges = flips_keep_ranges;
  width = flips_stay_in;
}
