-- What the calls on messages test, and what they may rely on.
use Rattle.std.specs.Prelude.{◌≡◌, ℕ, ◌<◌, ⊤, List, [], ◌∷◌, length, nat_lt, Option, Some, None}
use Rattle.xm_conf.specs.declared.channel.ChanKind.{ChanKind}
use Rattle.xm_conf.specs.declared.channel.ChanKind.TheVariants as chan_kind
use Rattle.xm_ports.specs.Channels.{HeldSample, content_at, messages_of}
use Rattle.machine_model.specs.Caller.{Caller, Test, b_of, c_of, d_of, invalid_parameter, refused_if, room, text}
use Rattle.machine_model.specs.PortEffects.{MadePort, size_fits, source_only}
use Rattle.port_calls.specs.MadePorts.{table_in}
use Rattle.system_state.specs.State.{SysState}

-- the result of the first test that refuses, where one does
abbrev pub first_refusal : List Test → Option ℕ
first_refusal [] = None
first_refusal (Some code ∷ tests) = Some code
first_refusal (None ∷ tests) = first_refusal tests

-- the tests on a message of c bytes at b that is to be put into a port's channel
abbrev pub put_tests : Caller → MadePort → List Test
put_tests caller port = source_only port ∷ size_fits port (c_of caller) ∷ text caller (b_of caller) (c_of caller) ∷ []

-- the tests on a sample of this many bytes that is to be read to b, and its validity to d
abbrev pub sample_tests : Caller → ℕ → List Test
sample_tests caller size = refused_if (nat_lt (c_of caller) size) invalid_parameter ∷ room caller (b_of caller) size ∷ room caller (d_of caller) 4 ∷ []

-- the tests on a message of this many bytes that is to be taken to b
abbrev pub message_tests : Caller → ℕ → List Test
message_tests caller size = refused_if (nat_lt (c_of caller) size) invalid_parameter ∷ room caller (b_of caller) size ∷ []

-- there is room for a message in a channel of a kind
abbrev pub HasRoomFor : ChanKind → ℕ → SysState → Type 0
HasRoomFor (chan_kind.Sampling refresh) chan sys = ⊤
HasRoomFor (chan_kind.Queuing most) chan sys = length (messages_of (content_at chan (table_in sys))) < most

-- a time and a size are those of the message that a sampling channel holds, where it holds one
abbrev pub IsHeadOf : Option (ℕ × ℕ) → Option HeldSample → Type 0
IsHeadOf None None = ⊤
IsHeadOf None (Some sample) = ⊥
IsHeadOf (Some head) None = ⊥
IsHeadOf (Some head) (Some sample) = (head.0 ≡ sample.time) × (head.1 ≡ length sample.bytes)
