-- The plans that are gathered are those that are described.
use Rattle.std.proofs.Common.{◌≡◌, ◌∙◌, refl, ap, ℕ, List, [], ◌∷◌, map, Some}
use Rattle.xm_base.specs.Options.{on}
use Rattle.xm_conf.specs.declared.plan.Slot.{Slot}
use Rattle.xmcf_reader.specs.Drafts.{IsDraft}
use Rattle.xmcf_reader.specs.declared.draft.Entry.{Entry}
use Rattle.xmcf_check.specs.lemmas.Capped.{capped_plan, capped_slot}
use Rattle.xmcf_check.specs.Described.{among, children, described_plan, plan_ids_at, plan_ids_with, plan_of_children, with_parent}
use Rattle.xmcf_check.specs.Elements.{element_frame, plan_id_of, slot_id_of, element_slot}
use Rattle.xmcf_check.specs.lemmas.Families.{within}
use Rattle.xmcf_check.proofs.FamilyLemmas.{children_within}
use Rattle.xmcf_check.proofs.PassLemmas.{Makes, among-on}

-- a plan of the slots that stand within it
pub plan_gathered : (number frame : ℕ) (entries : List Entry) (slots : List Slot) → IsDraft entries → slots ≡ among (λ element. on capped_slot (element_slot element)) (with_parent number (within number entries))
    → record { frame = frame; slots = slots } ∷ [] ≡ map capped_plan (plan_of_children (children number entries) (Some frame))
unfolding capped_plan
plan_gathered number frame entries slots draft found =
    ap (λ (s : List Slot). record { frame = frame; slots = s } ∷ [])
    (found ∙ among-on capped_slot element_slot (with_parent number (within number entries)) ∙ ap (λ (own : List Entry). map capped_slot (among element_slot own)) (children_within number entries draft))

-- an entry's plan is that of its frame
pub plan_makes : (entries : List Entry) → Makes (described_plan entries) (λ number. plan_of_children (children number entries)) element_frame
unfolding described_plan
plan_makes entries = (λ n entry. refl, λ n. refl)

-- the ids of a plan of the slots that stand within it
pub plan_ids_gathered : (number id : ℕ) (entries : List Entry) (ids : List ℕ) → IsDraft entries → ids ≡ among slot_id_of (with_parent number (within number entries))
    → record { plan = id; slots = ids } ∷ [] ≡ plan_ids_with (children number entries) (Some id)
plan_ids_gathered number id entries ids draft found =
    ap (λ (s : List ℕ). record { plan = id; slots = s } ∷ []) (found ∙ ap (λ (own : List Entry). among slot_id_of own) (children_within number entries draft))

-- an entry's ids are those of its id
pub plan_ids_makes : (entries : List Entry) → Makes (plan_ids_at entries) (λ number. plan_ids_with (children number entries)) plan_id_of
unfolding plan_ids_at
plan_ids_makes entries = (λ n entry. refl, λ n. refl)
