-- What holds of every text.
use Rattle.std.specs.Prelude.{◌≡◌, ℕ, List, None}
use Rattle.xmcf_reader.specs.Drafts.{IsDraft}
use Rattle.xmcf_reader.specs.Faults.{xmcf_fault, draft_of, cut}
use Rattle.xmcf_reader.specs.Tags.{AreOfTags, tokens_of}

-- what a text without a fault gives is a draft
abbrev pub FaultlessIsDraft : Type 0
FaultlessIsDraft = (text : List ℕ) → xmcf_fault text ≡ None → IsDraft (draft_of text)

-- what a text without a fault gives is the entries of its start tags
abbrev pub FaultlessIsOfTags : Type 0
FaultlessIsOfTags = (text : List ℕ) → xmcf_fault text ≡ None → AreOfTags (tokens_of (cut 0 0 text)) (draft_of text)
