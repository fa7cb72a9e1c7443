-- How far a reading has come.
use Rattle.std.proofs.Common.{◌≡◌, ℕ, ◌+◌, ◌<◌, ◌≤◌, List, [], ◌∷◌, ◌++◌, length, Option, Some, None, sym, ap, ◌∙◌, arith, length-append, subst, inr}
use Rattle.xmcf_reader.specs.Draft.{Context, parent_number, empty_draft, after_token, tag_begun, named_as, valued, entry_added, tag_ended}
use Rattle.xmcf_reader.specs.Tokens.{Token, Blanks, Comment, Declaration, Opening, Name, Equals, Value, TagEnd, EmptyEnd, EndTag}
use Rattle.xmcf_reader.specs.Faults.{Cut, cut, faults_of, faults_from, draft_from}
use Rattle.xmcf_reader.specs.lemmas.FaultsTerms.{IsFirst}
use Rattle.xmcf_reader.specs.Faults as faults
use Rattle.xmcf_reader.specs.lemmas.FaultsTerms as faults_lemmas
use Rattle.xmcf_reader.specs.lemmas.FaultsLemmas.{first_more}
use Rattle.xmcf_reader.specs.Words.{element_named}
use Rattle.xmcf_reader.specs.Draft.{attribute_named}
use Rattle.xmcf_reader.specs.Elements.{built}
use Rattle.xmcf_reader.specs.declared.draft.Element.{Element}
use Rattle.xmcf_reader.specs.declared.draft.Entry.{Entry}
use Rattle.xmcf_reader.specs.declared.fault.ReadFault.{ReadFault}
use Rattle.xmcf_reader.specs.declared.table.Attribute.{Attribute}
use Rattle.xmcf_reader.specs.declared.word.Word.{Word}
use Rattle.xmcf_reader.specs.declared.stage.Stage.{Stage}
use Rattle.xmcf_reader.specs.declared.stage.Stage.TheVariants.{Between, Bare, Spaced, Named, Equaled}

-- what is read of a text: its faults and its draft are those of what is left, and each entry was after a token
pub record Progress (text : List ℕ) (context : Context) (place : ℕ) (rest : List ℕ) : Type 0 where
  pub broken : faults_from empty_draft (cut 0 0 text) ≡ faults_from context (cut place 0 rest)
  pub draft : draft_from empty_draft (cut 0 0 text) ≡ draft_from context (cut place 0 rest)
  pub few : length context.entries ≤ place
  pub all : place + length rest ≡ length text

-- a start tag gives an entry or none
one_more : (what : Option Element) (context : Context) → length (entry_added what context) ≤ length context.entries + 1
one_more None context = omega arith
one_more (Some what) context =
    let entry : Entry = record { at = context.tag.at; parent = parent_number context.open_elements; what = what } in
    omega (arith, length-append context.entries (entry ∷ []))

-- the end of a start tag gives an entry or none
one_ended : (context : Context) → length (tag_ended context).entries ≤ length context.entries + 1
unfolding tag_ended
one_ended context = one_more (built context.tag.word context.tag.given) context

-- a token gives an entry or none
pub entries_after : (context : Context) (token : Token) (at : ℕ) → length (after_token context token at).entries ≤ length context.entries + 1
entries_after context Blanks at = omega arith
entries_after context Comment at = omega arith
entries_after context Declaration at = omega arith
entries_after context (Opening name) at = by (element_named name)
  where
    by : (word : Option Word) → length (tag_begun word at context).entries ≤ length context.entries + 1
    by None = omega arith
    by (Some word) = omega arith
entries_after context (Name name) at = by (attribute_named name context.tag.word)
  where
    by : (attribute : Option Attribute) → length (named_as attribute context).entries ≤ length context.entries + 1
    by None = omega arith
    by (Some attribute) = omega arith
entries_after context Equals at = omega arith
entries_after context (Value text) at = by context.stage
  where
    by : (stage : Stage) → length (valued stage text context).entries ≤ length context.entries + 1
    by Between = omega arith
    by Bare = omega arith
    by Spaced = omega arith
    by (Named attribute) = omega arith
    by (Equaled attribute) = omega arith
entries_after context TagEnd at = one_ended context
entries_after context EmptyEnd at = one_ended context
entries_after context (EndTag name) at = omega arith

-- one more token is read
pub progress : (text : List ℕ) (context next : Context) (token : Token) (at place : ℕ) (rest : List ℕ) (later : ℕ) (following : List ℕ)
    → Progress text context place rest → cut place 0 rest ≡ faults.Item token at (cut later 0 following) → place < later → later + length following ≡ place + length rest
    → faults_of context token at ≡ [] → next ≡ after_token context token at → Progress text next later following
progress text context next token at place rest later following so_far item moves room none is =
    subst (λ (now : Context). Progress text now later following) (sym is) (record {
      broken = so_far.broken ∙ ap (faults_from context) item ∙ ap (λ faults. faults ++ faults_from (after_token context token at) (cut later 0 following)) none;
      draft = so_far.draft ∙ ap (draft_from context) item;
      few = (let grown : length (after_token context token at).entries ≤ length context.entries + 1 = entries_after context token at in let few : length context.entries ≤ place = so_far.few in omega arith);
      all = room ∙ so_far.all;
    })

-- a token that breaks something gives the first fault
pub first_broken : (text : List ℕ) (context : Context) (token : Token) (at place : ℕ) (rest : List ℕ) (more : Cut) (one : ReadFault)
    → Progress text context place rest → cut place 0 rest ≡ faults.Item token at more → IsFirst one (faults_of context token at) → IsFirst one (faults_from empty_draft (cut 0 0 text))
first_broken text context token at place rest more one so_far item first =
    subst (λ (all : List ReadFault). IsFirst one all) (sym (so_far.broken ∙ ap (faults_from context) item)) (first_more one (faults_of context token at) (faults_from (after_token context token at) more) first)

-- a rest that begins no token gives the first fault
pub rest_broken : (text : List ℕ) (context : Context) (at byte place : ℕ) (rest : List ℕ) (broken one : ReadFault)
    → Progress text context place rest → cut place 0 rest ≡ faults.Rest at byte broken → Some one ≡ faults_lemmas.first_of (faults_from context (faults.Rest at byte broken)) → IsFirst one (faults_from empty_draft (cut 0 0 text))
rest_broken text context at byte place rest broken one so_far item first =
    subst (λ (all : List ReadFault). IsFirst one all) (sym (so_far.broken ∙ ap (faults_from context) item)) (head_first (faults_from context (faults.Rest at byte broken)) first)
  where
    head_first : (all : List ReadFault) → Some one ≡ faults_lemmas.first_of all → IsFirst one all
    head_first [] e = cc
    head_first (other ∷ others) e = let same : one ≡ other = cc in inr same

-- the end of the text gives the first fault
pub end_broken : (text : List ℕ) (context : Context) (at place : ℕ) (rest : List ℕ) (one : ReadFault)
    → Progress text context place rest → cut place 0 rest ≡ faults.End at → IsFirst one (faults_from context (faults.End at)) → IsFirst one (faults_from empty_draft (cut 0 0 text))
end_broken text context at place rest one so_far item first =
    subst (λ (all : List ReadFault). IsFirst one all) (sym (so_far.broken ∙ ap (faults_from context) item)) first

-- at the end the draft is whole, and nothing is broken
pub end_whole : (text : List ℕ) (context : Context) (at place : ℕ) (rest : List ℕ)
    → Progress text context place rest → cut place 0 rest ≡ faults.End at → faults_from context (faults.End at) ≡ [] → (faults_from empty_draft (cut 0 0 text) ≡ []) × (context.entries ≡ draft_from empty_draft (cut 0 0 text))
end_whole text context at place rest so_far item none =
    (so_far.broken ∙ ap (faults_from context) item ∙ none, sym (so_far.draft ∙ ap (draft_from context) item))
