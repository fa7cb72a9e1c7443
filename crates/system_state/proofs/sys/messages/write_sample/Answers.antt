use Rattle.std.proofs.Common.{◌≡◌, ℕ, List, Option, length, true, sym, subst}
use Rattle.std.specs.Prelude.{IsSomeAnd}
use Rattle.guest_bus.specs.Memory.{all_from, is_writable, with_bytes}
use Rattle.guest_memory.specs.Memories.{areas_at, map_at, with_map}
use Rattle.xm_ports.specs.Channels.{HeldSample, content_at, sample_of}
use Rattle.system_state.specs.State.{SysState, sample_bytes, table_in}
use Rattle.system_state.proofs.ExchangeLemmas.{if_sample, is_written_there, kept_with, room_kept}
use Rattle.system_state.proofs.InsideLemmas.{is_in_memories}
use Rattle.system_state.proofs.sys.messages.write_sample.Goals as goal

pub get_sampling-requires : goal.get_sampling-requires
get_sampling-requires c = record { channel = rw (← c.sys.view_is) at c.requires.channel }

pub write_held-requires-clause-partition : goal.write_held-requires-clause-partition
write_held-requires-clause-partition c = is_in_memories c.sys.inside c.args.sys.now c.args.p c.sys.invariant c.sys.view_is c.requires.partition

pub write_held-requires-clause-room : goal.write_held-requires-clause-room
write_held-requires-clause-room c =
    let room =
    room_kept c.sys.inside c.args.sys.now c.args.p c.args.address (λ (x : HeldSample). x.bytes) (λ (s : SysState). sample_of (content_at c.args.chan (table_in s))) c.sys.invariant c.sys.view_is c.requires.partition c.requires.room in
    subst (λ (o : Option HeldSample). IsSomeAnd o (λ x. all_from (is_writable (areas_at c.args.p c.sys.inside.ram)) c.args.address (length x.bytes) ≡ true)) (sym c.get_sampling.ensures.value) room

pub invariant_of-sys : goal.invariant_of-sys
invariant_of-sys c =
    let written =
    if_sample c.get_sampling.result _ (λ (m : List ℕ). c.write_held.new.ram ≡ with_map c.args.p (with_bytes (map_at c.args.p c.sys.inside.ram) c.args.address m) c.sys.inside.ram) c.get_sampling.ensures.value c.write_held.ensures in
    kept_with c.sys.inside c.args.p _ c.write_held.new.ram c.sys.invariant written

pub returns : goal.returns
returns c =
    let written =
    if_sample c.get_sampling.result _ (λ (m : List ℕ). c.write_held.new.ram ≡ with_map c.args.p (with_bytes (map_at c.args.p c.sys.inside.ram) c.args.address m) c.sys.inside.ram) c.get_sampling.ensures.value c.write_held.ensures in
    is_written_there c.sys.inside c.args.sys.now c.args.p c.args.address (λ (s : SysState). sample_bytes (sample_of (content_at c.args.chan (table_in s)))) c.write_held.new.ram c.sys.invariant c.sys.view_is c.requires.partition written
