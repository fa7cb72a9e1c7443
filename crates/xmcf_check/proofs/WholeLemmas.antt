-- What is gathered is what is described.
use Rattle.std.proofs.Common.{◌≡◌, ◌∙◌, refl, ap, ℕ, List, [], ◌∷◌, map, Some}
use Rattle.xm_conf.specs.Configuration.{Chan, Part, Plan}
use Rattle.xm_conf.specs.Description.{HealthAnswer, Monitor}
use Rattle.xm_base.specs.Options.{on}
use Rattle.xm_conf.specs.declared.link.Link.{Link}
use Rattle.xm_conf.specs.declared.raw.Region.{Region}
use Rattle.xmcf_reader.specs.Drafts.{IsDraft}
use Rattle.xmcf_reader.specs.declared.draft.Entry.{Entry}
use Rattle.xmcf_check.specs.lemmas.Capped.{capped_chan, capped_link, capped_conf, capped_part, capped_plan}
use Rattle.xmcf_check.specs.Described.{among, answers_of, chans_by, chans_of, described_conf, grandchildren, hv_size_of, described_links, described_monitor, monitor_with, parts_by, parts_of, plans_of, port_names, regions_of, system_name, uarts_of, with_grandparent}
use Rattle.xmcf_check.specs.Elements.{element_answer, link_element, part_id_of}
use Rattle.xmcf_check.specs.lemmas.Families.{within}
use Rattle.xmcf_check.specs.declared.elements.Given.{Given}
use Rattle.xmcf_check.proofs.ChanLemmas.{names-capped}
use Rattle.xmcf_check.proofs.FamilyLemmas.{grandchildren_within}
use Rattle.xmcf_check.proofs.PassLemmas.{Makes, among-on}

-- the answers of what stands within a partition
pub monitor_gathered : (number id : ℕ) (entries inside : List Entry) (given heard : List Given) (answers : List HealthAnswer) → IsDraft entries → inside ≡ within number entries
    → given ≡ among element_answer (with_grandparent entries number inside) → heard ≡ given → answers ≡ answers_of heard
    → answers ∷ [] ≡ map (λ (monitor : Monitor). monitor.answers) (monitor_with (grandchildren number entries) (Some id))
monitor_gathered number id entries inside given heard answers draft is by_given by_heard by_answers =
    let below : with_grandparent entries number inside ≡ grandchildren number entries = ap (λ (xs : List Entry). with_grandparent entries number xs) is ∙ grandchildren_within number entries draft in
    ap (λ (xs : List HealthAnswer). xs ∷ []) (by_answers ∙ ap (λ (xs : List Given). answers_of xs) (by_heard ∙ by_given ∙ ap (λ (xs : List Entry). among element_answer xs) below))

-- an entry's answers are those of its id
pub monitor_makes : (entries : List Entry) → Makes (described_monitor entries) (λ number. monitor_with (grandchildren number entries)) part_id_of
unfolding described_monitor
monitor_makes entries = (λ n entry. refl, λ n. refl)

-- a configuration of the parts that are gathered
pub conf_gathered : (entries : List Entry) (name : List ℕ) (regions : List Region) (hv_size : ℕ) (uarts consoles : List (List ℕ)) (plans : List Plan) (parts ported : List Part) (chans : List Chan) (links : List Link)
    → name ≡ system_name entries → regions ≡ regions_of entries → hv_size ≡ hv_size_of entries → uarts ≡ uarts_of entries → consoles ≡ uarts → plans ≡ map capped_plan (plans_of entries)
    → parts ≡ map capped_part (parts_by consoles entries) → ported ≡ parts → chans ≡ map capped_chan (chans_by (port_names ported) entries) → links ≡ among (λ element. on capped_link (link_element element)) entries
    → record { name = name; regions = regions; hv_size = hv_size; uarts = uarts; plans = plans; parts = parts; chans = chans; links = links } ≡ capped_conf (described_conf entries)
unfolding capped_conf described_conf parts_of chans_of described_links
conf_gathered entries name regions hv_size uarts consoles plans parts ported chans links by_name by_regions by_size by_uarts by_consoles by_plans by_parts by_ported by_chans by_links =
    let has_parts : parts ≡ map capped_part (parts_of entries) = by_parts ∙ ap (λ (names : List (List ℕ)). map capped_part (parts_by names entries)) (by_consoles ∙ by_uarts) in
    let ports : port_names ported ≡ port_names (parts_of entries) = ap (λ (ps : List Part). port_names ps) (by_ported ∙ has_parts) ∙ names-capped (parts_of entries) in
    let has_chans = by_chans ∙ ap (λ (names : List (List (List ℕ))). map capped_chan (chans_by names entries)) ports in
    let has_links = by_links ∙ among-on capped_link link_element entries in
    λ i. record { name = by_name i; regions = by_regions i; hv_size = by_size i; uarts = by_uarts i; plans = by_plans i; parts = has_parts i; chans = has_chans i; links = has_links i }
