use Rattle.std.proofs.Common.{sym, ap, ◌∙◌}
use Rattle.xm_ports.specs.Channels.{HeldSample}
use Rattle.xm_ports.specs.Stored.{channel_content, channel_shape}
use Rattle.xm_ports.proofs.FilledLemmas.{sample_put}
use Rattle.xm_ports.proofs.channel.Channel.fill_sample.Goals as goal

pub returns-in-Some-clause-content : goal.returns-in-Some-clause-content
returns-in-Some-clause-content c =
    let suits = rw c.in-Some.is at c.requires.suits.held in
    let timed = sym (ap (λ (s : HeldSample). s.time) c.sample.view_is) in
    let same = sym (c.deref.ensures.value ∙ ap (λ (s : HeldSample). s.bytes) c.sample.view_is) in
    rw c.in-Some.is
    (sample_put (channel_shape c.args.self.now).kind (channel_shape c.args.self.now).length c.sample.inside.time c.deref.result.now c.in-Some.sample (channel_content c.args.self.now) (channel_content c.put_sampling.new.self)
    suits c.requires.empty timed same c.put_sampling.ensures.content)
