-- The cut of a text, as the program meets it.
use Rattle.std.specs.Prelude.{◌≡◌, ℕ, ◌+◌, ◌<◌, ◌≤◌, length}
use Rattle.xmcf_reader.specs.Faults as faults
use Rattle.xmcf_reader.specs.Faults.{Cut, cut}
use Rattle.xmcf_reader.specs.lemmas.Seen.{token_of}
use Rattle.xmcf_reader.specs.Tokens.{Front, Found, Broken}
use Rattle.xmcf_reader.specs.declared.token.Stop.{Stop}
use Rattle.xmcf_reader.specs.declared.token.Stop.TheVariants.{Break, Reference, Ended}
use Rattle.xmcf_reader.specs.declared.tokens.Tokens.{Tokens}
use Rattle.xmcf_reader.specs.declared.tokens.Next.{Next}
use Rattle.xmcf_reader.specs.declared.tokens.Next.TheVariants.{Item, Rest, End}

-- a spelling stops within this many bytes
abbrev pub StopsWithin : Stop → ℕ → Type 0
StopsWithin (Break at) size = at ≤ size
StopsWithin (Reference at) size = at ≤ size
StopsWithin Ended size = Unit {0}

-- what is found at the beginning of this many bytes has one at least, and not more
abbrev pub FrontWithin : Front → ℕ → Type 0
FrontWithin (Found token size) most = (1 ≤ size) × (size ≤ most)
FrontWithin (Broken stop) most = StopsWithin stop most

-- the cut of what is left
abbrev pub cut_left : Tokens → Cut
cut_left tokens = cut tokens.place 0 tokens.rest.now

-- the length of the whole text
abbrev pub text_length : Tokens → ℕ
text_length tokens = tokens.place + length tokens.rest.now

-- what came next, of the cut before and the cut after it
abbrev pub IsNext : Next → Cut → Cut → Type 0
IsNext (Item token at) before following = before ≡ faults.Item (token_of token) at following
IsNext (Rest at byte broken) before following = before ≡ faults.Rest at byte broken
IsNext (End at) before following = before ≡ faults.End at

-- a token stands at its place, and the next one after it
abbrev pub MovesOn : Next → Tokens → Tokens → Type 0
MovesOn (Item token at) before following = (at ≡ before.place) × (before.place < following.place)
MovesOn (Rest at byte broken) before following = at ≡ before.place
MovesOn (End at) before following = at ≡ before.place
