-- What the counts of a configuration give to the rules after them.
use Rattle.std.proofs.Common.{◌≡◌, ℕ, ◌≤◌, List, length, get_or, Option, Some, None, sym, arith}
use Rattle.std.specs.Prelude.{All, IfNone}
use Rattle.xm_conf.specs.Along.{head_of}
use Rattle.xm_conf.specs.Configuration.{Conf}
use Rattle.xm_conf.specs.Rules as rules
use Rattle.xm_conf.specs.lemmas.FitsTerms.{HasCounts, HasFewEnds}
use Rattle.xm_conf.specs.Fits.{HasFewDests, IsKind, IsChan}
use Rattle.xm_conf.specs.Limits.{most_parts, most_dests}
use Rattle.xm_conf.specs.declared.item.Broken.{Broken}
use Rattle.xm_conf.specs.declared.channel.ChanKind.{ChanKind}
use Rattle.xm_conf.specs.declared.channel.ChanKind.TheVariants as chan_kind
use Rattle.xm_conf.specs.declared.channel.End.{End}
use Rattle.xm_conf.specs.lemmas.FitLemmas.{counts_within}
use Rattle.xm_conf.proofs.RuleLaws.{none-first, says-rule_1, says-rule_15}

-- where the rule on counts is not broken, the counts hold
pub counted : (most : ℕ) (conf : Conf) (found : Option Broken) → most ≤ most_parts → found ≡ head_of (rules.rule_1 most conf) → IfNone found (HasCounts conf)
counted most conf None few is = counts_within most conf few ((none-first (rules.rule_1 most conf) (says-rule_1 most conf)).0 (sym is))
counted most conf (Some broken) few is = tt

-- plans have few slots
pub few_slots : (conf : Conf) → HasCounts conf → All (λ plan. length plan.slots ≤ 64) conf.plans
few_slots conf h n d below = (h.slots n d below).few

-- partitions have few areas
pub few_areas : (conf : Conf) → HasCounts conf → All (λ part. length part.areas ≤ 8) conf.parts
few_areas conf h n d below = (h.areas n d below).few

-- a channel of its kind has few destinations
pub few_of_kind : (of : ChanKind) (dests : List End) → HasFewDests of dests → IsKind of dests → length dests ≤ most_dests
few_of_kind (chan_kind.Sampling refresh) dests few is = few
few_of_kind (chan_kind.Queuing most) dests few is = let one : length dests ≡ 1 = is.0 in omega arith

-- channels that have their messages have few destinations
few_ends : (conf : Conf) → HasCounts conf → All IsChan conf.chans → HasFewEnds conf
few_ends conf h chans = record {
  chans = h.chans;
  dests = λ n d below. few_of_kind (get_or conf.chans n d).kind (get_or conf.chans n d).dests (h.dests n d below) (chans n d below).kind;
}

-- where the rule on messages is not broken, there are few ends
pub messaged : (conf : Conf) (found : Option Broken) → HasCounts conf → found ≡ head_of (rules.rule_15 conf) → IfNone found (HasFewEnds conf)
messaged conf None counts is = few_ends conf counts ((none-first (rules.rule_15 conf) (says-rule_15 conf)).0 (sym is))
messaged conf (Some broken) counts is = tt
