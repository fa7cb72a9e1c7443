use Rattle.std.proofs.Common.{sym, ◌∙◌, ap}
use Rattle.std.specs.FinMap as map
use Rattle.std.specs.Option.{option_map}
use Rattle.xm_outside.proofs.FileLemmas.{get_file}
use Rattle.xm_outside.proofs.mem_store.MemStore.get.Goals as goal

pub returns-in_err-file : goal.returns-in_err-file
returns-in_err-file c =
    rw c.from_residual.ensures
    (ap (option_map (λ file. file.items)) c.in_err-file.ensures.value ∙ sym (get_file c.self.inside.files c.args.name.now)
    ∙ ap (λ store. map.get store.files c.args.name.now) c.self.view_is)

pub returns : goal.returns
returns c =
    rw c.deref.ensures.value
    (ap (option_map (λ file. file.items)) c.in_ok-file.ensures.value ∙ sym (get_file c.self.inside.files c.args.name.now)
    ∙ ap (λ store. map.get store.files c.args.name.now) c.self.view_is)
