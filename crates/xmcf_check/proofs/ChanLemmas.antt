-- The channels that are gathered are those that are described.
use Rattle.std.proofs.Common.{◌≡◌, ◌∙◌, refl, sym, ap, ℕ, List, [], ◌∷◌, map, Option, Some, None}
use Rattle.std.specs.Prelude.{unwrap_or}
use Rattle.std.proofs.lemmas.Option.{same_Some}
use Rattle.xm_base.specs.Options.{on}
use Rattle.xm_conf.specs.Configuration.{Part}
use Rattle.xm_conf.specs.declared.channel.End.{End}
use Rattle.xm_conf.specs.declared.port.Way.TheVariants as way
use Rattle.xmcf_reader.specs.Drafts.{IsDraft}
use Rattle.xmcf_reader.specs.declared.draft.Entry.{Entry}
use Rattle.xmcf_check.specs.lemmas.Capped.{capped, capped_chan, capped_end, capped_part}
use Rattle.xmcf_check.specs.Described.{among, described_chan, chan_with, children, end_of_way, first_among, names_of_ports, no_end, port_names, with_parent}
use Rattle.xmcf_check.specs.lemmas.ElementsTerms.{capped_carried}
use Rattle.xmcf_check.specs.Elements.{carried_of}
use Rattle.xmcf_check.specs.lemmas.Families.{within}
use Rattle.xmcf_check.specs.declared.elements.Carried.{Carried}
use Rattle.xmcf_check.proofs.FamilyLemmas.{children_within}
use Rattle.xmcf_check.proofs.PassLemmas.{Makes, among-on, first_among-on}

-- the end of a channel without a source is as it is when it is capped
end_or_none : (found : Option End) → unwrap_or (on capped_end found) record { part = 0; port = 0 } ≡ capped_end (unwrap_or found no_end)
unfolding capped_end no_end capped
end_or_none None = refl
end_or_none (Some end) = refl

-- a channel of what stands within it
pub chan_gathered : (ports : List (List (List ℕ))) (number : ℕ) (entries inside : List Entry) (found : Option Carried) (carried : Carried) (source : Option End) (end : End) (dests : List End)
    → IsDraft entries → inside ≡ within number entries → on capped_carried found ≡ Some carried
    → source ≡ first_among (λ element. on capped_end (end_of_way way.Source ports element)) (with_parent number inside) → end ≡ unwrap_or source record { part = 0; port = 0 }
    → dests ≡ among (λ element. on capped_end (end_of_way way.Destination ports element)) (with_parent number inside)
    → record { kind = carried.kind; length = carried.size; source = end; dests = dests } ∷ [] ≡ map capped_chan (chan_with ports (children number entries) found)
unfolding capped_chan capped_carried
chan_gathered ports number entries inside None carried source end dests draft is by_carried by_source by_end by_dests = cc
chan_gathered ports number entries inside (Some x) carried source end dests draft is by_carried by_source by_end by_dests =
    let kids : with_parent number inside ≡ children number entries = ap (λ (xs : List Entry). with_parent number xs) is ∙ children_within number entries draft in
    let same : carried ≡ capped_carried x = sym (same_Some (capped_carried x) carried by_carried) in
    let sources = by_source ∙ first_among-on capped_end (end_of_way way.Source ports) (with_parent number inside) ∙ ap (λ (xs : List Entry). on capped_end (first_among (end_of_way way.Source ports) xs)) kids in
    let ends = by_end ∙ ap (λ (o : Option End). unwrap_or o record { part = 0; port = 0 }) sources ∙ end_or_none (first_among (end_of_way way.Source ports) (children number entries)) in
    let all = by_dests ∙ among-on capped_end (end_of_way way.Destination ports) (with_parent number inside) ∙ ap (λ (xs : List Entry). map capped_end (among (end_of_way way.Destination ports) xs)) kids in
    λ i. record { kind = (same i).kind; length = (same i).size; source = ends i; dests = all i } ∷ []

-- an entry's channel is what it carries
pub chan_makes : (ports : List (List (List ℕ))) (entries : List Entry) → Makes (described_chan ports entries) (λ number. chan_with ports (children number entries)) carried_of
unfolding described_chan
chan_makes ports entries = (λ n entry. refl, λ n. refl)

-- partitions with capped consoles have the same ports
pub names-capped : (parts : List Part) → port_names (map capped_part parts) ≡ port_names parts
unfolding capped_part
names-capped [] = refl
names-capped (part ∷ parts) = ap (λ names. names_of_ports part.ports ∷ names) (names-capped parts)
