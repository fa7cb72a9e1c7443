use Rattle.std.proofs.Common.{◌∙◌}
use Rattle.xm_container.proofs.PackLemmas.{fields_so}
use Rattle.xm_container.proofs.writing.fields.Goals as goal

pub returns-clause-value : goal.returns-clause-value
returns-clause-value c =
    fields_so c.args.conf.now c.args.images.now c.args.parts c.deref.result.now c.new-fields.result.items c.put_sized.new.out.items c.push.new.self.items _ c.requires.parts c.requires.complete
    (c.deref.ensures.value ∙ c.in_ok-xmc.ensures.exact) c.new-fields.ensures.items c.in_ok-put_sized.ensures c.in_ok-push.ensures.items c.in_ok-put_entries.ensures
