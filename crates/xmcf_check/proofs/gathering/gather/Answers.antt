use Rattle.std.proofs.Common.{◌∙◌, ap, map, List}
use Rattle.xm_conf.specs.Description.{Monitor}
use Rattle.xmcf_reader.specs.declared.draft.Entry.{Entry}
use Rattle.xmcf_check.specs.lemmas.Capped.{capped_conf}
use Rattle.xmcf_check.specs.Described.{described_conf, described_ids, description_of, monitors_of}
use Rattle.xmcf_check.proofs.gathering.gather.Goals as goal

pub returns-clause-conf : goal.returns-clause-conf
unfolding description_of
returns-clause-conf c = c.in_ok-raw.ensures ∙ ap (λ (entries : List Entry). capped_conf (described_conf entries)) c.entries-entries.ensures.entries

pub returns-clause-ids : goal.returns-clause-ids
unfolding description_of
returns-clause-ids c = c.in_ok-ids.ensures ∙ ap (λ (entries : List Entry). described_ids entries) c.entries-entries.ensures.entries

pub returns-clause-answers : goal.returns-clause-answers
unfolding description_of
returns-clause-answers c =
    c.in_ok-monitors.ensures ∙ ap (λ (entries : List Entry). map (λ (monitor : Monitor). monitor.answers) (monitors_of entries)) c.entries-entries.ensures.entries
