use Rattle.std.proofs.Common.{◌≡◌, drop, length}
use Rattle.codecs.specs.Codec.{each_read}
use Rattle.codecs.specs.lemmas.LoopLemmas.{with_front}
use Rattle.guest_memory.specs.Memories.{map_at}
use Rattle.machine_model.specs.Lists.{table}
use Rattle.saved_machines.specs.Reading.{head_value}
use Rattle.saved_machines.specs.SavedFormat.{partition_format}
use Rattle.saved_machines.specs.lemmas.ReadTerms.{parts_value}
use Rattle.saved_machines.proofs.part.parts.Given as goal

abbrev pub invariant-loop-p : goal.invariant-loop-p
invariant-loop-p l =
    (length l.parts.values.items ≡ l.p) × (length l.parts.inputs.items ≡ l.p)
    × (with_front (parts_value l.parts) (each_read (λ p. partition_format l.conf (map_at p l.loaded) (head_value l.head) p) (drop l.p (table (λ p. p) (length l.conf.parts))) l.cursor)
    ≡ each_read (λ p. partition_format l.conf (map_at p l.loaded) (head_value l.head) p) (table (λ p. p) (length l.conf.parts)) l.fn.cursor)
