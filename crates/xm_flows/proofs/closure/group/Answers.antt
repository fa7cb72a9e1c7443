use Rattle.std.proofs.Common.{◌≡◌, ℕ, Bool, sym, ap, ◌∙◌, subst, List}
use Rattle.xm_conf.specs.Configuration.{Chan}
use Rattle.xm_conf.specs.declared.link.Link.{Link}
use Rattle.xm_flows.specs.lemmas.MasksTerms.{IsClosureOf}
use Rattle.xm_flows.specs.Masks.{group_of, has_no_system, members_of}
use Rattle.xm_flows.proofs.ClosureLemmas.{closed_is, group_within, is_group, low_part, plain_is}
use Rattle.xm_flows.proofs.RoundLemmas.{group_mask_is, group_with}
use Rattle.xm_flows.proofs.closure.group.Goals as goal

pub with_member-requires : goal.with_member-requires
with_member-requires c = low_part c.args.conf.now c.args.p c.chans_of-chans.ensures.fits c.requires

pub returns-clause-members : goal.returns-clause-members
returns-clause-members c =
    is_group c.args.conf.now c.args.p c.closed-members.result (low_part c.args.conf.now c.args.p c.chans_of-chans.ensures.fits c.requires)
    (subst (λ (mask : ℕ). IsClosureOf c.args.conf.now.chans c.args.conf.now.links mask c.closed-members.result) c.with_member.ensures
    (subst (λ (joins : List Link). IsClosureOf c.args.conf.now.chans joins c.with_member.result c.closed-members.result) c.links_of-links.ensures.value
    (subst (λ (chans : List Chan). IsClosureOf chans c.links_of-links.result.now c.with_member.result c.closed-members.result) c.chans_of-chans.ensures.value c.closed-members.ensures)))

pub returns-clause-within : goal.returns-clause-within
returns-clause-within c =
    group_within c.args.conf.now c.args.p (members_of c.closed-members.result) c.chans_of-chans.ensures.fits c.requires (returns-clause-members c)

pub returns-clause-covered : goal.returns-clause-covered
returns-clause-covered c =
    let is : c.has_no_system-covered.result ≡ has_no_system c.closed-members.result 0 c.args.conf.now.parts =
    c.has_no_system-covered.ensures ∙ ap (has_no_system c.closed-members.result 0) c.parts_of.ensures.value
    in
    let plain = plain_is c.args.conf.now c.closed-members.result in
    (λ covered. plain.0 (sym is ∙ covered), λ none. is ∙ plain.1 none)

pub returns-clause-closed : goal.returns-clause-closed
returns-clause-closed c =
    let covered = returns-clause-covered c in
    let closed = closed_is c.args.conf.now c.args.p (members_of c.closed-members.result) (returns-clause-members c) in
    (λ is. closed.0 (covered.0 is), λ is. covered.1 (closed.1 is))

pub returns-clause-value : goal.returns-clause-value
unfolding group_of
returns-clause-value c =
    let closure =
    subst (λ (mask : ℕ). IsClosureOf c.args.conf.now.chans c.args.conf.now.links mask c.closed-members.result) c.with_member.ensures
    (subst (λ (joins : List Link). IsClosureOf c.args.conf.now.chans joins c.with_member.result c.closed-members.result) c.links_of-links.ensures.value
    (subst (λ (chans : List Chan). IsClosureOf chans c.links_of-links.result.now c.with_member.result c.closed-members.result) c.chans_of-chans.ensures.value c.closed-members.ensures))
    in
    let mask = group_mask_is c.args.conf.now c.args.p c.closed-members.result c.chans_of-chans.ensures.fits c.requires (low_part c.args.conf.now c.args.p c.chans_of-chans.ensures.fits c.requires) closure in
    let covered = c.has_no_system-covered.ensures ∙ ap (has_no_system c.closed-members.result 0) c.parts_of.ensures.value in
    ap (λ (is : Bool). group_with c.closed-members.result is) covered ∙ ap (λ (members : ℕ). group_with members (has_no_system members 0 c.args.conf.now.parts)) mask
