use Rattle.std.proofs.Common.{◌≡◌, ◌≤◌, [], ◌∷◌, ◌++◌, List, ℕ, ap, arith, length, map, sym, take, ◌∙◌}
use Rattle.std.specs.List.{flat_map, sum_by}
use Rattle.std.proofs.lemmas.List.{length-map, take_all}
use Rattle.guest_bus.specs.Memory.{Area}
use Rattle.guest_memory.specs.Loading.{area_of}
use Rattle.machine_model.specs.CoreFile.{area_bytes, core_file}
use Rattle.machine_model.specs.Partition.{areas_of}
use Rattle.machine_model.specs.View.{part_of, view_of}
use Rattle.system_state.specs.State.{memory_of}
use Rattle.xm_conf.specs.Configuration.{Conf}
use Rattle.core_files.specs.Head.{core_head}
use Rattle.core_files.specs.Length.{area_length, core_length_of}
use Rattle.core_files.proofs.AreaLemmas.{areas_are, areas_in_are}
use Rattle.core_files.proofs.whole.core_into.Goals as goal

pub put_head-at-requires-clause-room : goal.put_head-at-requires-clause-room
unfolding core_length_of
put_head-at-requires-clause-room c = omega (arith, c.requires.size)

pub put_areas-requires-clause-areas : goal.put_areas-requires-clause-areas
put_areas-requires-clause-areas c =
    let is = c.configured_areas-areas.ensures.value ∙ ap (λ (conf : Conf). (part_of conf c.args.p).areas) c.conf.ensures.value in
    areas_in_are c.args.sys.now.machine c.args.p c.configured_areas-areas.result.now is

pub put_areas-requires-clause-room : goal.put_areas-requires-clause-room
unfolding core_length_of
put_areas-requires-clause-room c =
    let is = c.configured_areas-areas.ensures.value ∙ ap (λ (conf : Conf). (part_of conf c.args.p).areas) c.conf.ensures.value in
    let same = areas_are c.args.sys.now.machine.system c.args.p c.configured_areas-areas.result.now is in
    omega (arith, c.requires.size, ap (sum_by area_length) same, c.put_head-at.ensures.place, c.put_head-at.ensures.room)

pub returns : goal.returns
unfolding core_file core_head core_length_of
returns c =
    let g = c.args.sys.now.machine in
    let areas = c.configured_areas-areas.result.now in
    let is = c.configured_areas-areas.ensures.value ∙ ap (λ (conf : Conf). (part_of conf c.args.p).areas) c.conf.ensures.value in
    let same = areas_are g.system c.args.p areas is in
    let sum : sum_by area_length (areas_of (view_of g.system c.args.p)) ≡ sum_by area_length (map area_of areas) = ap (sum_by area_length) same in
    let all : length c.put_areas.new.into ≤ c.put_areas.result =
    omega (arith, c.requires.size, sum, c.put_head-at.ensures.place, c.put_head-at.ensures.room, c.put_areas.ensures.place, c.put_areas.ensures.room) in
    let head = take c.put_head-at.result c.put_head-at.new.into in
    let bytes = area_bytes (memory_of c.args.p g) in
    record {
      file = sym (take_all c.put_areas.result c.put_areas.new.into all) ∙ c.put_areas.ensures.text
          ∙ ap (λ (n : ℕ). head ++ n ∷ [] ++ flat_map bytes (map area_of areas)) (sym (length-map areas area_of))
          ∙ ap (λ (xs : List Area). head ++ length xs ∷ [] ++ flat_map bytes xs) (sym same)
          ∙ ap (λ (front : List ℕ). front ++ length (areas_of (view_of g.system c.args.p)) ∷ [] ++ flat_map bytes (areas_of (view_of g.system c.args.p))) c.put_head-at.ensures.text;
    }
