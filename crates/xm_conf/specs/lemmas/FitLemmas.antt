-- What meets the rules within a lesser limit of partitions meets the rules.
use Rattle.std.proofs.Common.{ℕ, ◌≤◌, length, arith}
use Rattle.xm_conf.specs.Configuration.{Conf}
use Rattle.xm_conf.specs.Description.{Description}
use Rattle.xm_conf.specs.lemmas.FitsTerms.{HasCounts}
use Rattle.xm_conf.specs.Fits.{HasCountsWithin, Fits, FitsWithin}
use Rattle.xm_conf.specs.Limits.{most_parts}

-- counts within a lesser limit of partitions are within the limit
pub counts_within : (most : ℕ) (conf : Conf) → most ≤ most_parts → HasCountsWithin most conf → HasCounts conf
counts_within most conf few h =
    let parts : length conf.parts ≤ most = h.parts.few in
    record {
      regions = h.regions;
      uarts = h.uarts;
      plans = h.plans;
      slots = h.slots;
      parts = record { some = h.parts.some; few = omega (arith, few, parts) };
      areas = h.areas;
      ports = h.ports;
      chans = h.chans;
      dests = h.dests;
      links = h.links;
    }

-- what meets the rules within a lesser limit of partitions meets the rules
pub fits_within : (most : ℕ) (d : Description) → most ≤ most_parts → FitsWithin most d → Fits d
fits_within most d few f =
    record {
      counts = counts_within most d.conf few f.counts;
      ids = f.ids;
      names = f.names;
      regions_sized = f.regions_sized;
      regions_apart = f.regions_apart;
      hypervisor = f.hypervisor;
      areas_sized = f.areas_sized;
      areas_inside = f.areas_inside;
      areas_apart = f.areas_apart;
      memory = f.memory;
      frames = f.frames;
      slots_inside = f.slots_inside;
      slots_in_turn = f.slots_in_turn;
      slots_owned = f.slots_owned;
      consoles = f.consoles;
      messages = f.messages;
      ends_exist = f.ends_exist;
      ends_suit = f.ends_suit;
      ends_differ = f.ends_differ;
      answers = f.answers;
      needs = f.needs;
      links_suit = f.links_suit;
      links_differ = f.links_differ;
    }
