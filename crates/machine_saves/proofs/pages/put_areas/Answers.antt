use Rattle.std.proofs.Common.{◌≡◌, ◌<◌, ◌++◌, ◌∙◌, List, ℕ, ap, arith, false, get_or, length}
use Rattle.std.specs.List.{flat_map}
use Rattle.std.proofs.lemmas.List.{length-map, take_all}
use Rattle.std.proofs.lemmas.Option.{slice_get-get_or}
use Rattle.guest_bus.specs.Memory.{Area, Memory, bytes_at}
use Rattle.guest_memory.specs.Loading.{area_of}
use Rattle.machine_model.specs.Partition.{areas_of}
use Rattle.machine_model.specs.View.{part_of, view_of}
use Rattle.saved_machines.specs.Saving.{loaded_of}
use Rattle.system_state.specs.State.{memory_of}
use Rattle.xm_conf.specs.Configuration.{Conf}
use Rattle.xm_conf.specs.declared.part.Area as configured
use Rattle.machine_saves.specs.lemmas.SaveTerms.{area_text}
use Rattle.machine_saves.proofs.PageLemmas.{area_found, area_texts, area_there, areas_are, map_there}
use Rattle.machine_saves.proofs.PutLemmas.{found_written}
use Rattle.machine_saves.proofs.pages.put_areas.Goals as goal

-- an area that stands for none
abbrev no_area : configured.Area
no_area = record { start = 0; size = 0; read_only = false }

pub area_bytes-before-requires : goal.area_bytes-before-requires
area_bytes-before-requires c =
    let conf = c.args.sys.now.machine.system.conf in
    let areas = c.configured_areas-areas.result.now in
    let are = c.configured_areas-areas.ensures.value ∙ ap (λ (conf : Conf). (part_of conf c.args.p).areas) c.conf.ensures.value in
    let below : c.args.p < length conf.parts = omega (arith, c.requires.partition, c.count-count.ensures.parts) in
    area_there conf c.args.loaded.now c.args.p c.loop-number.number areas (get_or areas c.loop-number.number no_area) c.requires.loaded.areas below are
    (slice_get-get_or areas c.loop-number.number no_area c.loop-number-test.true)

pub area_bytes-requires : goal.area_bytes-requires
area_bytes-requires c =
    let conf = c.args.sys.now.machine.system.conf in
    let areas = c.configured_areas-areas.result.now in
    let are = c.configured_areas-areas.ensures.value ∙ ap (λ (conf : Conf). (part_of conf c.args.p).areas) c.conf.ensures.value in
    let below : c.args.p < length conf.parts = omega (arith, c.requires.partition, c.count-count.ensures.parts) in
    area_there conf c.ram-now.result.now c.args.p c.loop-number.number areas (get_or areas c.loop-number.number no_area) c.ram-now.ensures.areas below are
    (slice_get-get_or areas c.loop-number.number no_area c.loop-number-test.true)

pub loop-number-preserved : goal.loop-number-preserved
loop-number-preserved c =
    let g = c.args.sys.now.machine in
    let areas = c.configured_areas-areas.result.now in
    let area = get_or areas c.loop-number.number no_area in
    let loaded = loaded_of g.system c.args.p in
    let memory = memory_of c.args.p g in
    let are = c.configured_areas-areas.ensures.value ∙ ap (λ (conf : Conf). (part_of conf c.args.p).areas) c.conf.ensures.value in
    let below : c.args.p < length g.system.conf.parts = omega (arith, c.requires.partition, c.count-count.ensures.parts) in
    let there = area_found g.system c.args.p c.loop-number.number areas area are (slice_get-get_or areas c.loop-number.number no_area c.loop-number-test.true) in
    let now = c.area_bytes.ensures.value ∙ ap (λ (m : Memory). bytes_at m area.start area.size) (map_there g c.ram-now.result.now c.args.p c.requires.partition c.ram-now.ensures.maps) in
    let before = c.area_bytes-before.ensures.value ∙ ap (λ (m : Memory). bytes_at m area.start area.size) (c.requires.loaded.maps c.args.p below) in
    found_written (area_text loaded memory) _ _ _ (areas_of (view_of g.system c.args.p)) c.loop-number.number (area_of area) there c.loop-number.invariant
    (c.in_ok-put_area.ensures
    ∙ ap (λ (text : List ℕ). c.loop-number.out.items ++ text) (area_texts memory loaded (area_of area) c.area_bytes.result.now c.area_bytes-before.result.now now before))

pub returns : goal.returns
returns c =
    let g = c.args.sys.now.machine in
    let areas = c.configured_areas-areas.result.now in
    let are = c.configured_areas-areas.ensures.value ∙ ap (λ (conf : Conf). (part_of conf c.args.p).areas) c.conf.ensures.value in
    let all = areas_of (view_of g.system c.args.p) in
    let same : length all ≡ length areas = ap length (areas_are g.system c.args.p areas are) ∙ length-map areas area_of in
    c.loop-number.invariant
    ∙ ap (λ (those : List Area). c.args.out.now.items ++ flat_map (area_text (loaded_of g.system c.args.p) (memory_of c.args.p g)) those) (take_all c.loop-number.number all (omega (arith, c.loop-number-test.false, same)))
