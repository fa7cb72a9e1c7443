use Rattle.std.proofs.Common.{ℕ, ◌+◌, ◌∙◌, ap, sym}
use Rattle.xm_traces.specs.Ring.{entry_at}
use Rattle.core_files.proofs.LogLemmas.{entry_there}
use Rattle.core_files.proofs.logs.entry_at.Goals as goal

pub returns : goal.returns
returns g c =
    let there = entry_there c.args.log.now c.args.place c.counts.ensures.kept c.requires in
    record { value = sym there ∙ ap (λ (first : ℕ). entry_at (first + c.args.place) c.args.log.now) (sym c.counts.ensures.first) ∙ sym c.in-Some.ensures.value }
