use Rattle.std.proofs.Common.{ap}
use Rattle.xm_outside.proofs.FileLemmas.{file_stored}
use Rattle.xm_outside.proofs.mem_store.MemStore.put.Goals as goal

pub returns-clause-stored : goal.returns-clause-stored
returns-clause-stored c =
    rw (← c.self.view_is, ← c.in_ok-bytes.ensures.items, ← c.in_ok-name.ensures.ok)
    (ap (λ files. record { files = files; fails = c.self.inside.fails.items; calls = c.self.inside.calls; read_faults = c.self.inside.read_faults; write_faults = c.self.inside.write_faults; starved = c.self.inside.starved })
    (file_stored c.self.inside.files c.insert.new.self c.in_ok-name.name c.in_ok-bytes.bytes c.in_ok-insert.ensures.updates))
