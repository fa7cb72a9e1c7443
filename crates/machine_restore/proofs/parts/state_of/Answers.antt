use Rattle.std.proofs.Common.{List, ap, ◌∙◌}
use Rattle.health_monitor.specs.declared.entry.HealthEntry.{HealthEntry}
use Rattle.xm_traces.specs.Ring.{kept_of}
use Rattle.xm_traces.specs.declared.entry.TraceEntry.{TraceEntry}
use Rattle.saved_machines.specs.contracts.values.PartValues.{the_view}
use Rattle.machine_restore.specs.lemmas.RestoreTerms.{own_of}
use Rattle.machine_restore.proofs.GivenLemmas.{state_given}
use Rattle.machine_restore.proofs.parts.state_of.Goals as goal

pub returns : goal.returns
returns c =
    let traces = c.in_ok-traces.ensures.value ∙ ap (λ (entries : List TraceEntry). kept_of c.part.inside.next_trace entries) c.deref.ensures.value in
    let health = c.in_ok-health.ensures.value ∙ ap (λ (entries : List HealthEntry). kept_of c.part.inside.next_health entries) c.deref-2.ensures.value in
    state_given (the_view c.part.inside) c.of.result c.traps_of.result c.resumed-3.result c.resumed-4.result c.in_ok-traces.traces c.in_ok-health.health
    c.of.ensures c.traps_of.ensures c.resumed-3.ensures.value c.resumed-4.ensures.value traces health
    ∙ ap own_of c.part.view_is
