use Rattle.std.proofs.Common.{◌≡◌, length, sym, ap, ◌∙◌}
use Rattle.cue_scripts.specs.Entries.{expanded}
use Rattle.cue_scripts.specs.Spelling.{script_text}
use Rattle.cue_scripts.specs.Values.{entry_values}
use Rattle.cue_scripts.proofs.CountLemmas.{kept_ranges, kept_text}
use Rattle.cue_scripts.proofs.writing.build_script.Goals as goal

pub put_entries-requires : goal.put_entries-requires
put_entries-requires c = kept_ranges c.entries.result.now c.entries.ensures.kept.ranges

pub returns : goal.returns
returns c =
    let counted : c.count.result ≡ length (expanded (entry_values c.entries.result.now)) = c.count.ensures ∙ ap length (sym c.entries.ensures.value) in
    rw (c.in_ok-put_entries.ensures, c.in_ok-put_head.ensures, c.new-file.ensures.items)
    (kept_text c.args.p c.count.result c.entries.result.now c.entries.ensures.kept counted ∙ ap (script_text c.args.p) c.entries.ensures.value)
