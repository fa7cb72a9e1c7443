-- For proofs and private clauses: what each element of a draft adds to a configuration, by its values alone.
use Rattle.xm_conf.specs.declared.channel.ChanKind.TheVariants as kind
use Rattle.xmcf_check.specs.lemmas.Capped.{capped, capped_kind}
use Rattle.xmcf_check.specs.declared.elements.Carried.{Carried}

-- what a channel carries, with its numbers capped
unfoldable pub capped_carried : Carried → Carried
capped_carried carried = record { kind = capped_kind carried.kind; size = capped 65535 carried.size }
