use Rattle.std.proofs.Common.{◌∙◌, sym, ap, ◌++◌, List}
use Rattle.std.specs.Prelude.{slice_get}
use Rattle.xm_conf.specs.Configuration.{Chan}
use Rattle.xmcf_check.specs.Described.{port_names}
use Rattle.xmcf_check.specs.Elements.{carried_of}
use Rattle.xmcf_check.specs.lemmas.Families.{picked}
use Rattle.xmcf_check.proofs.ChanLemmas.{chan_gathered}
use Rattle.xmcf_check.proofs.gathering.channels.push_chan.Goals as goal

pub returns-in_ok-push-in-Some : goal.returns-in_ok-push-in-Some
returns-in_ok-push-in-Some c =
    c.in_ok-push-in-Some.ensures.items
    ∙ ap (λ (more : List Chan). c.args.chans.now.items ++ more)
    (chan_gathered (port_names c.args.parts.now) c.args.number c.args.entries.now c.within-inside.result.now (picked carried_of (slice_get c.args.entries.now c.args.number)) c.in-Some.carried c.source-source.result _ _ c.requires.draft c.within-inside.ensures
    (sym c.carried_at.ensures ∙ c.in-Some.is) c.source-source.ensures c.unwrap_or.ensures c.in_ok-dests-in-Some.ensures)
