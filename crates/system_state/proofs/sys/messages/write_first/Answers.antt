use Rattle.std.proofs.Common.{◌≡◌, ℕ, [], List, length, true}
use Rattle.std.specs.Prelude.{unwrap_or}
use Rattle.guest_bus.specs.Memory.{all_from, is_writable, with_bytes}
use Rattle.guest_memory.specs.Memories.{areas_at, map_at, with_map}
use Rattle.xm_ports.specs.Channels.{content_at, first_message}
use Rattle.system_state.specs.State.{SysState, table_in}
use Rattle.system_state.proofs.ExchangeLemmas.{if_held, if_shown, is_written_there, kept_with, room_kept}
use Rattle.system_state.proofs.InsideLemmas.{is_in_memories}
use Rattle.system_state.proofs.sys.messages.write_first.Goals as goal

pub first-requires : goal.first-requires
first-requires c = record { channel = rw (← c.sys.view_is) at c.requires.channel }

pub write_message-requires-clause-partition : goal.write_message-requires-clause-partition
write_message-requires-clause-partition c = is_in_memories c.sys.inside c.args.sys.now c.args.p c.sys.invariant c.sys.view_is c.requires.partition

pub write_message-requires-clause-room : goal.write_message-requires-clause-room
write_message-requires-clause-room c =
    let room =
    room_kept c.sys.inside c.args.sys.now c.args.p c.args.address (λ (m : List ℕ). m) (λ (s : SysState). first_message (content_at c.args.chan (table_in s))) c.sys.invariant c.sys.view_is c.requires.partition c.requires.room in
    if_shown (λ bytes. bytes.now) c.first.result _ (λ (m : List ℕ). all_from (is_writable (areas_at c.args.p c.sys.inside.ram)) c.args.address (length m) ≡ true) c.first.ensures.value room

pub invariant_of-sys : goal.invariant_of-sys
invariant_of-sys c =
    let written =
    if_held (λ bytes. bytes.now) c.first.result _ (λ (m : List ℕ). c.write_message.new.ram ≡ with_map c.args.p (with_bytes (map_at c.args.p c.sys.inside.ram) c.args.address m) c.sys.inside.ram) c.first.ensures.value
    c.write_message.ensures in
    kept_with c.sys.inside c.args.p _ c.write_message.new.ram c.sys.invariant written

pub returns : goal.returns
returns c =
    let written =
    if_held (λ bytes. bytes.now) c.first.result _ (λ (m : List ℕ). c.write_message.new.ram ≡ with_map c.args.p (with_bytes (map_at c.args.p c.sys.inside.ram) c.args.address m) c.sys.inside.ram) c.first.ensures.value
    c.write_message.ensures in
    is_written_there c.sys.inside c.args.sys.now c.args.p c.args.address (λ (s : SysState). unwrap_or (first_message (content_at c.args.chan (table_in s))) []) c.write_message.new.ram c.sys.invariant c.sys.view_is c.requires.partition written
