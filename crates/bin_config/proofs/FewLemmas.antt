-- What a configuration that meets the rules gives to its writer.
use Rattle.std.proofs.Common.{◌≡◌, ◌≤◌, List, length, get_or, arith}
use Rattle.std.specs.Prelude.{All}
use Rattle.xm_conf.specs.Configuration.{Conf}
use Rattle.xm_conf.specs.Description.{described}
use Rattle.xm_conf.specs.Fits.{Fits, HasFewDests, IsKind}
use Rattle.xm_conf.specs.lemmas.FitsTerms.{HasCounts}
use Rattle.xm_conf.specs.Limits.{most_dests}
use Rattle.bin_config.specs.Version.{FitsVersion}
use Rattle.bin_config.specs.declared.version.Version.TheVariants.{Two}
use Rattle.xm_conf.specs.declared.channel.ChanKind.{ChanKind}
use Rattle.xm_conf.specs.declared.channel.ChanKind.TheVariants as chan_kind
use Rattle.xm_conf.specs.declared.channel.End.{End}

-- plans have few slots
pub few_slots : (conf : Conf) → HasCounts conf → All (λ plan. length plan.slots ≤ 64) conf.plans
few_slots conf h n d below = (h.slots n d below).few

-- partitions have few areas
pub few_areas : (conf : Conf) → HasCounts conf → All (λ part. length part.areas ≤ 8) conf.parts
few_areas conf h n d below = (h.areas n d below).few

-- what the counts say
pub ruleset few = (few_slots, few_areas)

-- a channel of its kind has few destinations
pub few_of_kind : (of : ChanKind) (dests : List End) → HasFewDests of dests → IsKind of dests → length dests ≤ most_dests
few_of_kind (chan_kind.Sampling refresh) dests few is = few
few_of_kind (chan_kind.Queuing most) dests few is = let one : length dests ≡ 1 = is.0 in omega arith

-- channels have few destinations
pub fitting_dests : (conf : Conf) → Fits (described conf) → All (λ chan. length chan.dests ≤ most_dests) conf.chans
unfolding described
fitting_dests conf fits n d below =
    few_of_kind (get_or conf.chans n d).kind (get_or conf.chans n d).dests (fits.counts.dests n d below) (fits.messages n d below).kind

-- the counts hold
pub fitting_counts : (conf : Conf) → Fits (described conf) → HasCounts conf
unfolding described
fitting_counts conf fits = fits.counts

-- the rules of version 2 are met
pub fitting_two : (conf : Conf) → Fits (described conf) → FitsVersion Two conf
fitting_two conf fits = record { fits = fits; links = tt }

-- what the rules say
pub ruleset fitting = (fitting_counts, fitting_dests, fitting_two)
