use Rattle.std.proofs.Common.{ap, ◌∙◌}
use Rattle.sparc_step.specs.Cached.{register_of}
use Rattle.sparc_step.specs.Registers.{with_register}
use Rattle.fast_loop.specs.lemmas.Effects.{extended_by, load_by_size}
use Rattle.fast_loop.proofs.TransferLemmas.{load-IsTransferred, load_row}
use Rattle.fast_loop.proofs.moving.load.Goals as goal

pub returns-in-Ok-clause-moved : goal.returns-in-Ok-clause-moved
returns-in-Ok-clause-moved g c =
    load-IsTransferred (load_by_size c.args.signed c.args.size) c.args.size (extended_by c.args.signed c.args.size) (register_of c.args.row.now.rd) c.args.address c.in-Ok.value (g.B.Bus.areas c.args.bus.now) c.args.own.now c.put.new.self (g.B.Bus.memory c.args.bus.now) (g.B.Bus.memory c.load.new.self)
    (λ core. load_row c.args.signed c.args.size (register_of c.args.row.now.rd) c.args.address (g.B.Bus.areas c.args.bus.now) core (g.B.Bus.memory c.args.bus.now) c.requires.size) c.in-Ok.ensures.value (c.put.ensures ∙ ap (with_register c.args.own.now (register_of c.args.row.now.rd)) c.extended.ensures) c.in-Ok.ensures.memory
