-- For proofs and private clauses: what it means that a description meets the rules of a configuration: a fact a rule.
use Rattle.std.specs.Prelude.{◌≤◌, length, All}
use Rattle.xm_conf.specs.Configuration.{Conf}
use Rattle.xm_conf.specs.Limits.{most_parts, most_dests}
use Rattle.xm_conf.specs.Fits.{HasCountsWithin}

-- the same, of any configuration
abbrev pub HasCounts : Conf → Type 0
HasCounts conf = HasCountsWithin most_parts conf

-- there are few channels, and few destinations of each, so that a byte has the number of an end
pub record HasFewEnds (conf : Conf) : Type 0 where
  pub chans : length conf.chans ≤ 64
  pub dests : All (λ chan. length chan.dests ≤ most_dests) conf.chans
