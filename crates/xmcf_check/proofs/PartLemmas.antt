-- The partitions that are gathered are those that are described.
use Rattle.std.proofs.Common.{◌≡◌, ◌∙◌, refl, ap, ℕ, List, [], ◌∷◌, map, Option, Some}
use Rattle.std.specs.Prelude.{unwrap_or}
use Rattle.xm_base.specs.Options.{on}
use Rattle.xm_conf.specs.declared.part.Area.{Area}
use Rattle.xm_conf.specs.declared.part.HmTable.{HmTable}
use Rattle.xm_conf.specs.declared.part.Need.{Need}
use Rattle.xm_conf.specs.declared.port.Port.{Port}
use Rattle.xmcf_reader.specs.Drafts.{IsDraft}
use Rattle.xmcf_reader.specs.declared.draft.Entry.{Entry}
use Rattle.xmcf_check.specs.lemmas.Capped.{capped, capped_part}
use Rattle.xmcf_check.specs.Described.{among, children, first_among, grandchildren, hm_of, number_named, described_part, part_with, with_grandparent, with_parent}
use Rattle.xmcf_check.specs.Elements.{element_area, element_answer, mask_of, element_need, element_own, element_port}
use Rattle.xmcf_check.specs.lemmas.Families.{within}
use Rattle.xmcf_check.specs.declared.elements.Own.{Own}
use Rattle.xmcf_check.proofs.FamilyLemmas.{children_within, grandchildren_within}
use Rattle.xmcf_check.proofs.PassLemmas.{Makes}

-- a partition of what stands within it
pub part_gathered : (uarts : List (List ℕ)) (number : ℕ) (entries inside : List Entry) (own : Own) (console : Option ℕ) (need : Option Need) (mask : Option ℕ) (trace_mask : ℕ) (hm : HmTable) (areas : List Area) (ports : List Port)
    → IsDraft entries → inside ≡ within number entries → console ≡ on (capped 255) (on (number_named uarts) own.console)
    → need ≡ first_among element_need (with_parent number inside) → mask ≡ first_among mask_of (with_parent number inside) → trace_mask ≡ unwrap_or mask 0
    → hm ≡ hm_of (among element_answer (with_grandparent entries number inside)) → areas ≡ among element_area (with_grandparent entries number inside) → ports ≡ among element_port (with_grandparent entries number inside)
    → record { name = own.name; system = own.system; console = console; need = need; trace_mask = trace_mask; hm = hm; areas = areas; ports = ports } ∷ []
    ≡ map capped_part (part_with uarts (children number entries) (grandchildren number entries) (Some own))
unfolding capped_part
part_gathered uarts number entries inside own console need mask trace_mask hm areas ports draft is by_console by_need by_mask by_trace by_hm by_areas by_ports =
    let kids : with_parent number inside ≡ children number entries = ap (λ (xs : List Entry). with_parent number xs) is ∙ children_within number entries draft in
    let below : with_grandparent entries number inside ≡ grandchildren number entries = ap (λ (xs : List Entry). with_grandparent entries number xs) is ∙ grandchildren_within number entries draft in
    let needs = by_need ∙ ap (λ (xs : List Entry). first_among element_need xs) kids in
    let masks = by_trace ∙ ap (λ (m : Option ℕ). unwrap_or m 0) (by_mask ∙ ap (λ (xs : List Entry). first_among mask_of xs) kids) in
    let tables = by_hm ∙ ap (λ (xs : List Entry). hm_of (among element_answer xs)) below in
    let have_areas = by_areas ∙ ap (λ (xs : List Entry). among element_area xs) below in
    let have_ports = by_ports ∙ ap (λ (xs : List Entry). among element_port xs) below in
    λ i. record { name = own.name; system = own.system; console = by_console i; need = needs i; trace_mask = masks i; hm = tables i; areas = have_areas i; ports = have_ports i } ∷ []

-- an entry's partition is what it calls itself
pub part_makes : (uarts : List (List ℕ)) (entries : List Entry) → Makes (described_part uarts entries) (λ number. part_with uarts (children number entries) (grandchildren number entries)) element_own
unfolding described_part
part_makes uarts entries = (λ n entry. refl, λ n. refl)
