-- What is lent of a system, to be changed.
use Rattle.std.specs.Prelude.{ℕ}
use Rattle.std.specs.Borrow.{Fml, Lends, MutBor}
use Rattle.cyclic_plans.specs.PlanClock.{CyclicClock}
use Rattle.xm_ports.specs.Channels.{ChannelTable}
use Rattle.system_state.specs.State.{OwnState, SysState, with_machine, with_own}
use Rattle.system_state.specs.contracts.own_state.PartState as own
use Rattle.system_state.specs.contracts.sys.Sys as sys
use Rattle.cyclic_plans.specs.contracts.clock.PlanClock as clock
use Rattle.xm_ports.specs.contracts.channels.Channels as channels

-- the state of a partition is lent
abbrev pub LendsPart : MutBor SysState → ℕ → MutBor OwnState → Fml
LendsPart all p one = Lends sys.the_row own.the_row all one (λ own. with_machine (with_own p own all.now.machine) all.now)

-- the plan clock is lent
abbrev pub LendsPlanClock : MutBor SysState → MutBor CyclicClock → Fml
LendsPlanClock all one = Lends sys.the_row clock.the_row all one (λ clock. with_machine (record all.now.machine { clock = clock }) all.now)

-- the channels are lent
abbrev pub LendsChannels : MutBor SysState → MutBor ChannelTable → Fml
LendsChannels all one = Lends sys.the_row channels.the_row all one (λ table. record { machine = record all.now.machine { channels = table.contents }; shapes = table.shapes })
