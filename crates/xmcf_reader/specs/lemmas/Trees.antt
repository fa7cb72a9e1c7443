-- The tree of the program, as the definitions have it.
use Rattle.std.specs.Prelude.{List, [], ◌∷◌, Option, Some, None}
use mathlib.Core.List.{reverse}
use Rattle.xmcf_reader.specs.Draft as draft
use Rattle.xmcf_reader.specs.lemmas.Seen.{pairs_of}
use Rattle.xmcf_reader.specs.declared.tree.Tree.{Tree}
use Rattle.xmcf_reader.specs.declared.tree.Tag.{Tag}

-- the open elements, the innermost first
abbrev pub stack_of : Option draft.Open → List draft.Open → List draft.Open
stack_of None outer = []
stack_of (Some inner) outer = inner ∷ reverse outer

-- the start tag
abbrev pub start_tag : Tag → draft.Tag
start_tag tag = record { at = tag.at; word = tag.word; given = pairs_of tag.given.items }

-- what the tokens so far give
abbrev pub context_of : Tree → draft.Context
context_of tree =
    record { entries = tree.entries.items; open_elements = stack_of tree.current tree.outer.items; stage = tree.stage; tag = start_tag tree.tag }
