-- A configuration that meets the rules has what is needed of it to save its machines.
use Rattle.std.proofs.Common.{◌≡◌, ℕ, zero, suc, ◌+◌, ◌<◌, ◌≤◌, ◌^◌, List, [], ◌∷◌, length, map, get_or, refl, sym, ap, arith}
use Rattle.std.specs.Prelude.{All, Any}
use Rattle.std.proofs.lemmas.List.Elements.{All-cons, All-nil}
use Rattle.guest_memory.specs.Loading.{area_of, memory_areas}
use Rattle.guest_memory.specs.Memories.{IsPlaced}
use Rattle.machine_model.specs.View.{no_part, part_of}
use Rattle.saved_machines.specs.Laws.{ConfigurationsAreSaved}
use Rattle.xm_conf.specs.Configuration.{Chan, Conf, Part}
use Rattle.xm_conf.specs.Description.{described}
use Rattle.xm_conf.specs.Fits.{Fits, IsChan, IsKind, IsRegion, IsSized, LiesIn}
use Rattle.xm_conf.specs.Rules.{addresses, page}
use Rattle.xm_conf.specs.declared.channel.ChanKind.{ChanKind}
use Rattle.xm_conf.specs.declared.channel.ChanKind.TheVariants as chan_kind
use Rattle.xm_conf.specs.declared.channel.End.{End}
use Rattle.xm_conf.specs.declared.part.Area as configured
use Rattle.xm_conf.specs.declared.raw.Region.{Region}
use Rattle.xm_ports.specs.Channels.{HasMost, IsShape, shape_of}

-- an area that is whole pages in a region is placed
area_placed : (regions : List Region) (area : configured.Area) → All IsRegion regions → IsSized area.start area.size → Any (LiesIn area) regions → IsPlaced (area_of area)
unfolding page addresses
area_placed regions area each sized some =
    let region : IsRegion (get_or regions some.0 some.1) = each some.0 some.1 some.2 in
    let inside : LiesIn area some.1 = some.4 in
    let same : some.1 ≡ get_or regions some.0 some.1 = sym some.3 in
    let below : some.1.start + some.1.size ≤ 2 ^ 32 = rw same region.below in
    record { start = sized.start_paged; size = sized.size_paged; ends = omega (arith, inside.end, below) }

-- so are all areas of a partition
areas_placed : (regions : List Region) (areas : List configured.Area) → All IsRegion regions → All (λ area. IsSized area.start area.size) areas → All (λ area. Any (LiesIn area) regions) areas → All IsPlaced (map area_of areas)
areas_placed regions [] each sized inside = All-nil IsPlaced
areas_placed regions (area ∷ areas) each sized inside =
    All-cons IsPlaced (area_of area) (map area_of areas) (area_placed regions area each (sized 0 area (omega arith)) (inside 0 area (omega arith)))
    (areas_placed regions areas each (λ k d below. sized (suc k) d (omega (arith, below))) (λ k d below. inside (suc k) d (omega (arith, below))))

-- and those of each partition; one that is not there has none
parts_placed : (regions : List Region) (parts : List Part) → All IsRegion regions → All (λ part. All (λ area. IsSized area.start area.size) part.areas) parts
    → All (λ part. All (λ area. Any (LiesIn area) regions) part.areas) parts → (p : ℕ) → All IsPlaced (memory_areas (get_or parts p no_part))
unfolding memory_areas
parts_placed regions [] each sized inside p = All-nil IsPlaced
parts_placed regions (part ∷ parts) each sized inside zero = areas_placed regions part.areas each (sized 0 part (omega arith)) (inside 0 part (omega arith))
parts_placed regions (part ∷ parts) each sized inside (suc p) =
    parts_placed regions parts each (λ k d below. sized (suc k) d (omega (arith, below))) (λ k d below. inside (suc k) d (omega (arith, below))) p

pub conf_placed : (conf : Conf) (p : ℕ) → Fits (described conf) → All IsPlaced (memory_areas (part_of conf p))
unfolding described part_of
conf_placed conf p fits = parts_placed conf.regions conf.parts fits.regions_sized fits.areas_sized fits.areas_inside p

-- a kind of channel
most_of_kind : (kind : ChanKind) (dests : List End) → IsKind kind dests → HasMost kind
most_of_kind (chan_kind.Sampling refresh) dests is = tt
most_of_kind (chan_kind.Queuing most) dests is = (is.1, is.2)

-- channels have shapes
shapes : (chans : List Chan) → All IsChan chans → All (λ chan. IsShape (shape_of chan)) chans
shapes [] each = All-nil (λ (chan : Chan). IsShape (shape_of chan))
shapes (chan ∷ chans) each =
    let is = each 0 chan (omega arith) in
    All-cons (λ (one : Chan). IsShape (shape_of one)) chan chans (record { some = is.some; few = is.most; most = most_of_kind chan.kind chan.dests is.kind })
    (shapes chans (λ k d below. each (suc k) d (omega (arith, below))))

pub conf_saved : ConfigurationsAreSaved
unfolding described
conf_saved conf fits = record {
  plans = omega (arith, fits.counts.plans.few);
  chans = shapes conf.chans fits.messages;
  placed = λ p. conf_placed conf p fits;
}
