use Rattle.std.proofs.Common.{◌≡◌, ◌≤◌, [], length, map, replicate, vec_capacity}
use Rattle.system_state.proofs.inputs.Inputs.new.Given as goal

abbrev pub invariant-loop : goal.invariant-loop
invariant-loop l = record {
  reserved : l.parts ≤ vec_capacity l.words;
  counted : length l.words.items ≡ l.counter;
  empty : map (λ words. words.items) l.words.items ≡ replicate l.counter [];
}
