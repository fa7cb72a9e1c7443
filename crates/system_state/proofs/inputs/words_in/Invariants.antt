use Rattle.std.proofs.Common.{◌≡◌, ◌≤◌, ◌++◌, ◌*◌, ◌/◌, drop, length, vec_capacity}
use Rattle.system_state.specs.Inputs.{words_in}
use Rattle.system_state.proofs.inputs.words_in.Given as goal

abbrev pub invariant-loop-place : goal.invariant-loop-place
invariant-loop-place l = record {
  reserved : length l.bytes / 4 ≤ vec_capacity l.words;
  counted : length l.words.items ≡ l.place;
  spelled : l.words.items ++ words_in (drop (4 * l.place) l.bytes) ≡ words_in l.bytes;
}
