-- What has its fields' ranges and meets the rules can be spelled, and what can be spelled has its fields' ranges.
use Rattle.std.proofs.Common.{ℕ, ◌<◌, ◌≤◌, List, length, get_or, Option, Some, None, sym, subst, arith}
use Rattle.std.specs.Prelude.{All, IfSome}
use Rattle.std.proofs.lemmas.List.{length-map, get_or-map}
use Rattle.xm_conf.specs.Configuration.{Plan, Part, Chan, Conf}
use Rattle.xm_conf.specs.Description.{described, monitor_of}
use Rattle.xm_conf.specs.lemmas.FitLemmas.{fits_within}
use Rattle.xm_conf.specs.Fits.{HasSome, HasFewDests, HasAnswers, IsKind, IsNeed}
use Rattle.xm_conf.specs.declared.part.Need.{Need}
use Rattle.xm_conf.specs.declared.channel.ChanKind.{ChanKind}
use Rattle.xm_conf.specs.declared.channel.ChanKind.TheVariants as chan_kind
use Rattle.xm_conf.specs.Limits.{most_parts, most_links}
use Rattle.xm_conf.specs.declared.channel.End.{End}
use Rattle.xm_conf.specs.declared.link.Link.{Link}
use Rattle.bin_config.specs.lemmas.SpelledTerms.{IsSpelledPlan, IsSpelledChan, HasPlanRanges, HasChanRanges}
use Rattle.bin_config.specs.Spelled.{IsSpelledNeed, IsSpelledPart, IsSpelledLink, AreSpelledLinks, IsSpelledConf, HasNeedRanges, HasPartRanges, HasConfRanges}
use Rattle.bin_config.specs.Version.{parts_in_version, MayHaveLinks, FitsVersion}
use Rattle.bin_config.specs.declared.version.Version.{Version}
use Rattle.bin_config.specs.declared.version.Version.TheVariants as version

-- a plan with few slots
plan_spelled : (plan : Plan) → HasPlanRanges plan → HasSome plan.slots 64 → IsSpelledPlan plan
plan_spelled plan h slots = record { frame = h.frame; slots = record { few = omega (arith, slots.few); each = h.slots } }

-- the UART of a console is one of few
console_spelled : (console : Option ℕ) (uarts : ℕ) → uarts ≤ 8 → IfSome console (λ uart. uart < uarts) → IfSome console (λ uart. uart < 255)
console_spelled None uarts few below = tt
console_spelled (Some uart) uarts few below = omega (arith, few, below)

-- a requirement that meets its rule has no zero
need_spelled : (need : Option Need) → IfSome need HasNeedRanges → IfSome need IsNeed → IfSome need IsSpelledNeed
need_spelled None h is = tt
need_spelled (Some need) h is = record {
  duration = h.duration;
  period = h.period;
  lasts = λ none. absurd (omega (arith, none, is.some));
  returns = λ none. absurd (omega (arith, none, is.some, is.inside));
}

-- the log flags of a partition
logged_spelled : (part : Part) (plans : ℕ) → HasAnswers plans (monitor_of part) → part.hm.logged < 4096
unfolding monitor_of
logged_spelled part plans is = is.logged

-- a channel of its kind has few destinations
few_dests : (of : ChanKind) (dests : List End) → HasFewDests of dests → IsKind of dests → length dests < 256
few_dests (chan_kind.Sampling refresh) dests few is = omega (arith, few)
few_dests (chan_kind.Queuing most) dests few is = omega (arith, is.0)

-- the partitions of each version are few
pub parts_few : (v : Version) → parts_in_version v ≤ most_parts
parts_few version.One = omega arith
parts_few version.Two = omega arith

-- what meets the rules of a version meets those of version 2
pub fits_two : (v : Version) (conf : Conf) → FitsVersion v conf → FitsVersion version.Two conf
fits_two v conf of = record { fits = fits_within (parts_in_version v) (described conf) (parts_few v) of.fits; links = tt }

-- the links of each version
links_spelled : (v : Version) (links : List Link) → MayHaveLinks v links → length links ≤ most_links → All IsSpelledLink links → AreSpelledLinks v links
links_spelled version.One links none few each = none
links_spelled version.Two links none few each = record { few = omega (arith, few); each = each }

-- what has its fields' ranges and meets the rules of a version can be spelled in it
pub spelled_if_fits : (v : Version) (conf : Conf) → HasConfRanges conf → FitsVersion v conf → IsSpelledConf v conf
unfolding described
spelled_if_fits v conf h of = let fits = of.fits in record {
  name = h.name;
  regions = record { few = omega (arith, fits.counts.regions.few); each = h.regions };
  hv_size = h.hv_size;
  uarts = record { few = omega (arith, fits.counts.uarts); each = h.uarts };
  plans = record {
    few = omega (arith, fits.counts.plans.few);
    each = λ n d below. plan_spelled (get_or conf.plans n d) (h.plans n d below) (fits.counts.slots n d below);
  };
  parts = record { few = omega (arith, fits.counts.parts.few, parts_few v); each = λ n d below. part n d below };
  chans = record {
    few = omega (arith, fits.counts.chans);
    each = λ n d below.
        let is = h.chans n d below in
        let c = get_or conf.chans n d in
        record {
          kind = is.kind;
          length = is.length;
          source = is.source;
          dests = record { few = few_dests c.kind c.dests (fits.counts.dests n d below) (fits.messages n d below).kind; each = is.dests };
        };
  };
  links = links_spelled v conf.links of.links fits.counts.links h.links;
}
  where
    answers : (n : ℕ) (d : Part) → n < length conf.parts → HasAnswers (length conf.plans) (monitor_of (get_or conf.parts n d))
    answers n d below =
        subst (HasAnswers (length conf.plans)) (get_or-map monitor_of conf.parts n d (monitor_of d) below)
        (of.fits.answers n (monitor_of d) (omega (arith, below, length-map conf.parts monitor_of)))

    part : (n : ℕ) (d : Part) → n < length conf.parts → IsSpelledPart (get_or conf.parts n d)
    part n d below =
        let p = get_or conf.parts n d in
        let is = h.parts n d below in
        record {
          name = is.name;
          console = console_spelled p.console (length conf.uarts) of.fits.counts.uarts (of.fits.consoles n d below);
          need = need_spelled p.need is.need (of.fits.needs n d below);
          trace_mask = is.trace_mask;
          hm = record { actions = is.actions; logged = logged_spelled p (length conf.plans) (answers n d below) };
          areas = record { few = omega (arith, (of.fits.counts.areas n d below).few); each = is.areas };
          ports = record { few = omega (arith, of.fits.counts.ports n d below); each = is.ports };
        }

-- a requirement that can be spelled
need_ranges : (need : Option Need) → IfSome need IsSpelledNeed → IfSome need HasNeedRanges
need_ranges None is = tt
need_ranges (Some need) is = record { duration = is.duration; period = is.period }

-- a partition that can be spelled
part_ranges : (part : Part) → IsSpelledPart part → HasPartRanges part
part_ranges part is = record {
  name = is.name;
  need = need_ranges part.need is.need;
  trace_mask = is.trace_mask;
  actions = is.hm.actions;
  areas = is.areas.each;
  ports = is.ports.each;
}

-- a channel that can be spelled
chan_ranges : (chan : Chan) → IsSpelledChan chan → HasChanRanges chan
chan_ranges chan is = record { kind = is.kind; length = is.length; source = is.source; dests = is.dests.each }

-- links that can be spelled
link_ranges : (v : Version) (links : List Link) → AreSpelledLinks v links → All IsSpelledLink links
link_ranges version.One links none = subst (λ (all : List Link). All IsSpelledLink all) (sym none) (λ n d below. absurd (omega arith))
link_ranges version.Two links is = is.each

-- what can be spelled has its fields' ranges
pub ranges_if_spelled : (v : Version) (conf : Conf) → IsSpelledConf v conf → HasConfRanges conf
ranges_if_spelled v conf is = record {
  name = is.name;
  regions = is.regions.each;
  hv_size = is.hv_size;
  uarts = is.uarts.each;
  plans = λ n d below. let plan = is.plans.each n d below in record { frame = plan.frame; slots = plan.slots.each };
  parts = λ n d below. part_ranges (get_or conf.parts n d) (is.parts.each n d below);
  chans = λ n d below. chan_ranges (get_or conf.chans n d) (is.chans.each n d below);
  links = link_ranges v conf.links is.links;
}
