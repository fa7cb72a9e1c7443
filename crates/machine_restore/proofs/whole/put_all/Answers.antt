use Rattle.std.proofs.Common.{List, length, map, sym, ap, ◌∙◌}
use Rattle.xm_ports.specs.Channels.{shapes_of}
use Rattle.xm_ports.specs.Contents.{content_of}
use Rattle.xm_ports.specs.declared.content.ContentValue.{ContentValue}
use Rattle.saved_machines.specs.Values.{MachineValues}
use Rattle.machine_restore.proofs.GivenLemmas.{all_put, channels_counted, channels_suit, given_conf, given_shapes}
use Rattle.machine_restore.proofs.whole.put_all.Goals as goal

pub put_channels-requires-clause-counted : goal.put_channels-requires-clause-counted
put_channels-requires-clause-counted c =
    let held = ap (λ (given : List ContentValue). map content_of given) c.deref-2.ensures.value ∙ ap (λ (values : MachineValues). values.channels) c.values.view_is in
    let conf = given_conf c.args.sys.now c.put_parts.new.sys (length c.args.sys.now.machine.parts) c.deref.result.now c.in_ok-put_parts.ensures in
    channels_counted c.deref-2.result.now c.args.values.now.channels c.args.sys.now.machine.system.conf c.put_parts.new.sys.machine.system.conf held c.requires.values.channels conf

pub put_channels-requires-clause-suits : goal.put_channels-requires-clause-suits
put_channels-requires-clause-suits c =
    let held = ap (λ (given : List ContentValue). map content_of given) c.deref-2.ensures.value ∙ ap (λ (values : MachineValues). values.channels) c.values.view_is in
    let conf = given_conf c.args.sys.now c.put_parts.new.sys (length c.args.sys.now.machine.parts) c.deref.result.now c.in_ok-put_parts.ensures in
    channels_suit c.deref-2.result.now c.args.values.now.channels c.args.sys.now.machine.system.conf c.put_parts.new.sys.machine.system.conf held c.requires.values.contents conf

pub put_channels-requires-clause-shapes : goal.put_channels-requires-clause-shapes
put_channels-requires-clause-shapes c =
    given_shapes c.args.sys.now c.put_parts.new.sys (length c.args.sys.now.machine.parts) c.deref.result.now c.in_ok-put_parts.ensures ∙ c.requires.shapes
    ∙ ap shapes_of (sym (given_conf c.args.sys.now c.put_parts.new.sys (length c.args.sys.now.machine.parts) c.deref.result.now c.in_ok-put_parts.ensures))

pub returns : goal.returns
returns c =
    let held = ap (λ (given : List ContentValue). map content_of given) c.deref-2.ensures.value ∙ ap (λ (values : MachineValues). values.channels) c.values.view_is in
    let parts = c.deref.ensures.value ∙ ap (λ (values : MachineValues). values.parts) c.values.view_is in
    all_put c.args.values.now c.deref.result.now (map content_of c.deref-2.result.now) c.args.sys.now c.put_parts.new.sys c.put_channels.new.sys c.put_clocks.new.sys parts held
    c.in_ok-put_parts.ensures c.in_ok-put_channels.ensures c.put_clocks.ensures
