use Rattle.std.proofs.Common.{◌≤◌, arith, drop, map, refl}
use Rattle.xm_base.specs.declared.limits.TheConstants.{TICKS}
use Rattle.command_line.specs.Seen.{seen_options}
use Rattle.file_commands.specs.EndingValues.{ending_of, vector_bytes}
use Rattle.file_commands.specs.Outcome.{content}
use Rattle.run_commands.specs.lemmas.Beginnings.{machine_of}
use Rattle.run_commands.proofs.BeginLemmas.{machine_conf, machine_most}
use Rattle.run_commands.proofs.ReadyLemmas.{beyond_is, upsets_refuse, within_is}
use Rattle.run_commands.proofs.readiness.ready_from.Goals as goal

pub returns-then-end-gt-TICKS-clause-value : goal.returns-then-end-gt-TICKS-clause-value
returns-then-end-gt-TICKS-clause-value c =
    let asked = rw (c.span.ensures.value, c.conf.ensures.value) at c.ticks_asked-asked.ensures.value in
    beyond_is c.args.container.now (seen_options c.args.options) (content 0 (map vector_bytes c.args.contents.now)) (drop 1 (map vector_bytes c.args.contents.now)) (machine_of c.args.system.now c.args.beginning) c.args.system.now.conf
    c.ticks-begun.result c.ticks_asked-asked.result (machine_conf c.args.system.now c.args.beginning) (c.ticks-begun.ensures c.args.system.now) asked c.if-end-gt-TICKS.true

pub returns-in-Ok-clause-value : goal.returns-in-Ok-clause-value
returns-in-Ok-clause-value c =
    let asked = rw (c.span.ensures.value, c.conf.ensures.value) at c.ticks_asked-asked.ensures.value in
    let found = rw (c.conf-2.ensures.value, c.split_contents.ensures.others) at c.in-Ok.ensures.value in
    rw (within_is c.args.container.now (seen_options c.args.options) (content 0 (map vector_bytes c.args.contents.now)) (drop 1 (map vector_bytes c.args.contents.now)) (machine_of c.args.system.now c.args.beginning) c.args.system.now.conf
    c.ticks-begun.result c.ticks_asked-asked.result _ (machine_conf c.args.system.now c.args.beginning) (c.ticks-begun.ensures c.args.system.now) asked (omega (arith, c.if-end-gt-TICKS.false)) found)
    c.ready_struck.ensures.value

pub returns-clause-value : goal.returns-clause-value
returns-clause-value c =
    let asked = rw (c.span.ensures.value, c.conf.ensures.value) at c.ticks_asked-asked.ensures.value in
    let denied = rw (c.conf-2.ensures.value, c.split_contents.ensures.others) at c.in-Err.ensures.value in
    rw (within_is c.args.container.now (seen_options c.args.options) (content 0 (map vector_bytes c.args.contents.now)) (drop 1 (map vector_bytes c.args.contents.now)) (machine_of c.args.system.now c.args.beginning) c.args.system.now.conf
    c.ticks-begun.result c.ticks_asked-asked.result _ (machine_conf c.args.system.now c.args.beginning) (c.ticks-begun.ensures c.args.system.now) asked (omega (arith, c.if-end-gt-TICKS.false)) refl)
    (upsets_refuse (ending_of c.in-Err.ending) c.ticks_asked-asked.result (seen_options c.args.options) (content 0 (map vector_bytes c.args.contents.now)) (machine_of c.args.system.now c.args.beginning) _ denied)

pub overflow_add-end : goal.overflow_add-end
overflow_add-end c =
    let few : c.ticks-begun.result ≤ TICKS = rw (c.ticks-begun.ensures c.args.system.now) (machine_most c.args.system.now c.args.beginning c.requires.begins) in
    omega (arith, few, c.ticks_asked-asked.ensures.few)
