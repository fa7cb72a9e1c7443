-- What is reported of a draft is what its description breaks.
use Rattle.std.proofs.Common.{◌≡◌, List, Some, None, ap}
use Rattle.xm_base.specs.Options.{on}
use Rattle.xm_conf.specs.Limits.{most_parts}
use Rattle.xm_conf.specs.Rules.{first_broken}
use Rattle.xm_conf.specs.declared.item.Broken.{Broken}
use Rattle.xmcf_reader.specs.declared.draft.Entry.{Entry}
use Rattle.xmcf_check.specs.Described.{description_of}
use Rattle.xmcf_check.specs.Verdict.{broken_with_places, verdict_of}

-- nothing is reported where no rule is broken
pub verdict-none : (entries : List Entry) → first_broken most_parts (description_of entries) ≡ None → verdict_of entries ≡ None
unfolding verdict_of
verdict-none entries none = ap (on (broken_with_places entries)) none

-- the first broken rule is reported with its places
pub verdict-some : (entries : List Entry) (broken : Broken) → first_broken most_parts (description_of entries) ≡ Some broken → verdict_of entries ≡ Some (broken_with_places entries broken)
unfolding verdict_of
verdict-some entries broken some = ap (on (broken_with_places entries)) some
