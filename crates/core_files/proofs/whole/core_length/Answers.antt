use Rattle.std.proofs.Common.{◌≡◌, ap, sym, ◌+◌, ◌∙◌}
use Rattle.std.specs.List.{sum_by}
use Rattle.machine_model.specs.View.{part_of, view_of}
use Rattle.system_state.specs.State.{part_at}
use Rattle.xm_conf.specs.Configuration.{Conf}
use Rattle.core_files.specs.Length.{area_length, core_length_of, head_length}
use Rattle.core_files.proofs.AreaLemmas.{areas_are}
use Rattle.core_files.proofs.LengthLemmas.{file_long}
use Rattle.core_files.proofs.whole.core_length.Goals as goal

pub returns-clause-value : goal.returns-clause-value
unfolding core_length_of
returns-clause-value c =
    let is = c.configured_areas.ensures.value ∙ ap (λ (conf : Conf). (part_of conf c.args.p).areas) c.conf.ensures.value in
    c.length_of.ensures ∙ sym (ap (λ areas. head_length + sum_by area_length areas) (areas_are c.args.sys.now.machine.system c.args.p c.configured_areas.result.now is))

pub returns-clause-length : goal.returns-clause-length
unfolding core_length_of
returns-clause-length c =
    let is = c.configured_areas.ensures.value ∙ ap (λ (conf : Conf). (part_of conf c.args.p).areas) c.conf.ensures.value in
    let value : c.length_of.result ≡ core_length_of (view_of c.args.sys.now.machine.system c.args.p) =
    c.length_of.ensures ∙ sym (ap (λ areas. head_length + sum_by area_length areas) (areas_are c.args.sys.now.machine.system c.args.p c.configured_areas.result.now is)) in
    value
    ∙ sym (file_long (view_of c.args.sys.now.machine.system c.args.p) (part_at c.args.p c.args.sys.now.machine) (record {
      globals = c.look_at_registers.ensures.globals;
      windows = c.look_at_registers.ensures.windows;
      traces = c.look_at_logs.ensures.traces;
      loads = c.look_at_logs.ensures.loads;
      health = c.look_at_logs.ensures.health;
    }))
