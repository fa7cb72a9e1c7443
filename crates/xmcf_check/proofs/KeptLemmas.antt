-- A configuration that breaks no rule on numbers is not changed where its numbers are capped.
use Rattle.std.proofs.Common.{◌≡◌, ℕ, ◌+◌, ◌<◌, ◌≤◌, ◌&&◌, nat_lt, nat_le, true, List, [], ◌∷◌, ◌++◌, length, map, Option, Some, None, refl, ap, ◌∙◌, arith}
use Rattle.std.specs.Prelude.{◌==◌}
use Rattle.std.proofs.lemmas.Bool.Decides.{nat_tests}
use Rattle.xm_base.specs.Options.{on}
use Rattle.xm_conf.specs.Along.{each_from}
use Rattle.xm_conf.specs.Configuration.{Plan, Part, Chan, Conf}
use Rattle.xm_conf.specs.Rules as rules
use Rattle.xm_conf.specs.declared.plan.Slot.{Slot}
use Rattle.xm_conf.specs.declared.channel.ChanKind.{ChanKind}
use Rattle.xm_conf.specs.declared.channel.ChanKind.TheVariants as chan_kind
use Rattle.xm_conf.specs.declared.channel.End.{End}
use Rattle.xm_conf.specs.declared.item.Item.TheVariants as item
use Rattle.xm_conf.specs.declared.link.Link.{Link}
use Rattle.xmcf_check.specs.lemmas.Capped.{capped, capped_slot, capped_plan, capped_end, capped_kind, capped_chan, capped_link, capped_part, capped_conf}
use Rattle.xmcf_check.proofs.LinkLemmas.{links_kept}
use Rattle.xmcf_check.proofs.ListLemmas.{front_none, back_none, made_kept}
use Rattle.xmcf_check.proofs.CappedLemmas.{capped-kept}
use Rattle.xmcf_check.proofs.CappedChanLemmas.{AreFew, unless_none, and_first, and_second, ends_kept}

-- a slot whose partition exists
slot_kept : (parts p n : ℕ) (slot : Slot) → parts ≤ 255 → rules.stray_slot parts p n slot ≡ [] → capped_slot slot ≡ slot
unfolding rules.stray_slot capped_slot
slot_kept parts p n slot few none =
    let passes : nat_lt slot.part parts ≡ true = unless_none _ (rules.alone 13 (item.Slot p n)) none in
    let below : slot.part < parts = grind (arith, nat_tests) in
    ap (λ part. record { start = slot.start; duration = slot.duration; part = part }) (capped-kept 255 slot.part (omega arith))

-- a plan whose slots' partitions exist
plan_kept : (parts p : ℕ) (plan : Plan) → parts ≤ 255 → rules.stray_slots parts p plan ≡ [] → capped_plan plan ≡ plan
unfolding rules.stray_slots capped_plan
plan_kept parts p plan few none =
    ap (λ slots. record { frame = plan.frame; slots = slots })
    (made_kept (rules.stray_slot parts p) capped_slot (λ n slot. slot_kept parts p n slot few) 0 plan.slots none)

-- a console that is a UART
console_kept : (uarts : ℕ) (console : Option ℕ) → uarts ≤ 255 → rules.is_console uarts console ≡ true → on (capped 255) console ≡ console
console_kept uarts None few passes = refl
console_kept uarts (Some uart) few passes = let below : uart < uarts = grind (arith, nat_tests) in ap Some (capped-kept 255 uart (omega arith))

-- a partition whose console is a UART
part_kept : (uarts n : ℕ) (part : Part) → uarts ≤ 255 → rules.no_console uarts n part ≡ [] → capped_part part ≡ part
unfolding rules.no_console capped_part
part_kept uarts n part few none =
    ap (λ console. record {
      name = part.name;
      system = part.system;
      console = console;
      need = part.need;
      trace_mask = part.trace_mask;
      hm = part.hm;
      areas = part.areas;
      ports = part.ports;
    })
    (console_kept uarts part.console few (unless_none _ (rules.alone 14 (item.Part n)) none))

-- a channel that keeps this many messages
kind_kept : (kind : ChanKind) (dests : List End) → rules.is_kind kind dests ≡ true → capped_kind kind ≡ kind
unfolding rules.is_kind capped_kind
kind_kept (chan_kind.Sampling refresh) dests passes = refl
kind_kept (chan_kind.Queuing most) dests passes =
    let few : nat_le most 64 ≡ true = and_second (length dests == 1 && nat_lt 0 most) (nat_le most 64) passes in
    let small : most ≤ 64 = grind (arith, nat_tests) in
    ap (λ n. chan_kind.Queuing n) (capped-kept 255 most (omega arith))

-- a channel whose messages and ends exist
chan_kept : (parts : List Part) (c : ℕ) (chan : Chan) → AreFew parts → rules.unfit_chan c chan ≡ [] → rules.stray_ends parts c chan ≡ [] → capped_chan chan ≡ chan
unfolding rules.unfit_chan capped_chan
chan_kept parts c chan few fit none =
    let passes = unless_none _ (rules.alone 15 (item.Chan c)) fit in
    let kind = kind_kept chan.kind chan.dests (and_second (nat_lt 0 chan.length && nat_le chan.length 4096) _ passes) in
    let most = and_second (nat_lt 0 chan.length) (nat_le chan.length 4096) (and_first (nat_lt 0 chan.length && nat_le chan.length 4096) _ passes) in
    let small : chan.length ≤ 4096 = grind (arith, nat_tests) in
    let ends = ends_kept parts c chan few none in
    ap (λ of. record { kind = of; length = capped 65535 chan.length; source = capped_end chan.source; dests = map capped_end chan.dests }) kind
    ∙ ap (λ n. record { kind = chan.kind; length = n; source = capped_end chan.source; dests = map capped_end chan.dests })
    (capped-kept 65535 chan.length (omega arith))
    ∙ ap (λ source. record { kind = chan.kind; length = chan.length; source = source; dests = map capped_end chan.dests }) ends.0
    ∙ ap (λ dests. record { kind = chan.kind; length = chan.length; source = chan.source; dests = dests }) ends.1

-- channels whose messages and ends exist
chans_kept : (parts : List Part) (c : ℕ) (chans : List Chan) → AreFew parts → each_from rules.unfit_chan c chans ≡ []
    → each_from (rules.stray_ends parts) c chans ≡ [] → map capped_chan chans ≡ chans
chans_kept parts c [] few fit none = refl
chans_kept parts c (chan ∷ chans) few fit none =
    ap (λ y. y ∷ map capped_chan chans) (chan_kept parts c chan few (front_none _ _ fit) (front_none _ _ none))
    ∙ ap (λ ys. chan ∷ ys) (chans_kept parts (c + 1) chans few (back_none _ _ fit) (back_none _ _ none))

-- a configuration with other plans, partitions, channels and links
abbrev conf_with : Conf → List Plan → List Part → List Chan → List Link → Conf
conf_with conf plans parts chans links =
    record {
      name = conf.name;
      regions = conf.regions;
      hv_size = conf.hv_size;
      uarts = conf.uarts;
      plans = plans;
      parts = parts;
      chans = chans;
      links = links;
    }

-- a configuration whose numbers break no rule
pub conf_kept : (conf : Conf) → length conf.uarts ≤ 255 → AreFew conf.parts → rules.plan_rules conf ≡ [] → rules.chan_rules conf ≡ [] → rules.link_rules conf ≡ []
    → capped_conf conf ≡ conf
unfolding rules.plan_rules rules.chan_rules rules.link_rules rules.rule_13 rules.rule_14 rules.rule_15 rules.rule_16 capped_conf
conf_kept conf uarts few plan chan link =
    ap (λ plans. conf_with conf plans (map capped_part conf.parts) (map capped_chan conf.chans) (map capped_link conf.links))
    (made_kept (rules.stray_slots (length conf.parts)) capped_plan (λ p plan. plan_kept (length conf.parts) p plan few.parts_few) 0 conf.plans
    (back_none (rules.rule_11 conf ++ rules.rule_12 conf) _ (front_none _ _ plan)))
    ∙ ap (λ parts. conf_with conf conf.plans parts (map capped_chan conf.chans) (map capped_link conf.links))
    (made_kept (rules.no_console (length conf.uarts)) capped_part (λ n part. part_kept (length conf.uarts) n part uarts) 0 conf.parts (back_none _ _ plan))
    ∙ ap (λ chans. conf_with conf conf.plans conf.parts chans (map capped_link conf.links))
    (chans_kept conf.parts 0 conf.chans few (front_none _ _ (front_none _ _ (front_none _ _ chan))) (back_none _ _ (front_none _ _ (front_none _ _ chan))))
    ∙ ap (λ links. conf_with conf conf.plans conf.parts conf.chans links) (links_kept conf few.parts_few (front_none (rules.rule_21 conf) (rules.rule_22 conf) link))
