use Rattle.std.proofs.Common.{◌≡◌, drop, map}
use Rattle.codecs.specs.Codec.{each_read}
use Rattle.codecs.specs.lemmas.LoopLemmas.{with_front}
use Rattle.saved_machines.specs.SavedFields.{content_field}
use Rattle.xm_ports.specs.Contents.{content_of}
use Rattle.saved_machines.proofs.content.contents.Given as goal

abbrev pub invariant-loop-chan : goal.invariant-loop-chan
invariant-loop-chan l =
    with_front (map content_of l.contents.items) (each_read (λ chan. content_field chan.kind chan.length) (drop l.chan-index l.chans) l.cursor)
    ≡ each_read (λ chan. content_field chan.kind chan.length) l.chans l.fn.cursor
