-- The laws of formats, for all values: each way to make a format keeps both round trips and where its first fault lies, files too, and no file is a
-- prefix of another.
use Rattle.std.specs.Prelude.{◌≡◌, ◌≢◌, ℕ, ◌≤◌, ◌⊎◌, Bool, true, List, [], ◌++◌, length, Option, Some, is_some, Err}
use Rattle.std.specs.Int.{Width, w8, w16, w32, w64}
use Rattle.xm_base.specs.Cursor.{cursor_start}
use Rattle.file_headers.specs.Faults.{HeadFaults}
use Rattle.codecs.specs.Codec.{Codec, any_number, coded, counted, counted_items, each_of, fixed_text, items, keyed, no_bytes, number, optional, pair, raw_bytes, tested, through, through_where}
use Rattle.codecs.specs.Files.{FileCodec, file_through, judged_file, sealed_file, sealed_length, sized_file, versioned_file, whole_file}
use Rattle.codecs.specs.Lawful.{IsLawful, IsLawfulFile, IsPrefixFree}
use Rattle.codecs.specs.Steady.{IsSteady}

-- the widths of numbers in files: 1, 2, 4 or 8 bytes
abbrev pub IsNumberWidth : Width → Type 0
IsNumberWidth width = (width ≡ w8) ⊎ (width ≡ w16) ⊎ (width ≡ w32) ⊎ (width ≡ w64)

-- numbers
abbrev pub NumbersAreLawful : Type 0 → Type 0
NumbersAreLawful F = (short : ℕ → F) (refused : ℕ → ℕ → F) (width : Width) (test : ℕ → Bool) → IsNumberWidth width →
    IsLawful (any_number short width) × IsLawful (number short refused width test)

-- bytes, a fixed text, and no bytes
abbrev pub BytesAreLawful : Type 0 → Type 0
BytesAreLawful F = (short : ℕ → F) (count : ℕ) → IsLawful (raw_bytes short count)

abbrev pub FixedTextsAreLawful : Type 0 → Type 0
FixedTextsAreLawful F = (short wrong : ℕ → F) (text : List ℕ) → IsLawful (fixed_text short wrong text)

abbrev pub NoBytesAreLawful : Type 0 → Type 0
NoBytesAreLawful F = IsLawful (no_bytes {F = F})

-- one after the other
abbrev pub PairsAreLawful : Type 0 → Type 0 → Type 0 → Type 0
PairsAreLawful F A B = (first : Codec F A) (second : A → Codec F B) → IsLawful first → ((a : A) → IsLawful (second a)) → IsLawful (pair first second)

-- a key, and the value that has it
abbrev pub KeyedAreLawful : Type 0 → Type 0 → Type 0 → Type 0
KeyedAreLawful F A X =
    (keys : Codec F A) (of : A → Codec F X) (key : X → A) → IsLawful keys → ((a : A) → IsLawful (of a))
    → ((a : A) (x : X) → (of a).fits x ≡ true → key x ≡ a) → IsLawful (keyed keys of key)

-- other values for the same bytes, where each is the other's value
abbrev pub OthersAreLawful : Type 0 → Type 0 → Type 0 → Type 0
OthersAreLawful F A X =
    (to : A → X) (from : X → A) (c : Codec F A) → ((a : A) → c.fits a ≡ true → from (to a) ≡ a) → ((x : X) → c.fits (from x) ≡ true → to (from x) ≡ x)
    → IsLawful c → IsLawful (through to from c)

-- the same, where only some have bytes
abbrev pub SomeOthersAreLawful : Type 0 → Type 0 → Type 0 → Type 0
SomeOthersAreLawful F A X =
    (good : X → Bool) (to : A → X) (from : X → A) (c : Codec F A) → ((a : A) → c.fits a ≡ true → (from (to a) ≡ a) × (good (to a) ≡ true))
    → ((x : X) → c.fits (from x) ≡ true → good x ≡ true → to (from x) ≡ x) → IsLawful c → IsLawful (through_where good to from c)

-- values by their codes, where a code means the value whose code it is
abbrev pub CodedAreLawful : Type 0 → Type 0 → Type 0 → Type 0
CodedAreLawful F A X =
    (refused : ℕ → F) (meaning : A → Option X) (code : X → A) (c : Codec F A) → ((a : A) (x : X) → meaning a ≡ Some x → code x ≡ a)
    → ((x : X) → is_some (meaning (code x)) ≡ true → meaning (code x) ≡ Some x) → IsLawful c → IsLawful (coded refused meaning code c)

-- whether a value is there, and then it
abbrev pub OptionalAreLawful : Type 0 → Type 0 → Type 0
OptionalAreLawful F X =
    (there : Codec F Bool) (some : Codec F X) (none : Codec F (Unit {0})) → IsLawful there → IsLawful some → IsLawful none → IsLawful (optional there some none)

-- values that have to pass a test
abbrev pub TestedAreLawful : Type 0 → Type 0 → Type 0
TestedAreLawful F X = (refused : ℕ → X → F) (test : X → Bool) (c : Codec F X) → IsLawful c → IsLawful (tested refused test c)

-- items one after the other
abbrev pub ItemsAreLawful : Type 0 → Type 0 → Type 0 → Type 0
ItemsAreLawful F S X =
    (done : S → Bool) (item : S → Codec F X) (next : S → X → S) (most : ℕ) (state : S) → ((s : S) → IsLawful (item s)) → IsLawful (items done item next most state)

-- lists after their number
abbrev pub ListsAreLawful : Type 0 → Type 0 → Type 0
ListsAreLawful F X = (count : Codec F ℕ) (c : Codec F X) → IsLawful count → IsLawful c → IsLawful (counted count c)

-- items after their number
abbrev pub CountedItemsAreLawful : Type 0 → Type 0 → Type 0 → Type 0
CountedItemsAreLawful F S X =
    (count : Codec F ℕ) (item : S → Codec F X) (next : S → X → S) (first : S) → IsLawful count → ((s : S) → IsLawful (item s))
    → IsLawful (counted_items count item next first)

-- an item for each of a list
abbrev pub EachAreLawful : Type 0 → Type 0 → Type 0 → Type 0
EachAreLawful F A X = (part : A → Codec F X) (known : List A) → ((a : A) → IsLawful (part a)) → IsLawful (each_of part known)

-- no spelling is a proper prefix of another, so that what follows a value is known from the bytes
abbrev pub NoneIsPrefix : Type 0 → Type 0 → Type 0
NoneIsPrefix F X =
    (c : Codec F X) → IsLawful c → (one other : X) (rest later : List ℕ) → c.fits one ≡ true → c.fits other ≡ true → c.spell one ++ rest ≡ c.spell other ++ later
    → (one ≡ other) × (rest ≡ later)

-- a spelling that is cut is short, at a place in what is left of it
abbrev pub CutIsShort : Type 0 → Type 0 → Type 0
CutIsShort F X =
    (short : ℕ → F) (c : Codec F X) → IsLawful c → IsSteady short c.read → (x : X) (left rest : List ℕ) → c.fits x ≡ true → c.spell x ≡ left ++ rest → rest ≢ []
    → (at : ℕ) × (c.read (cursor_start left) ≡ Err (short at)) × (at ≤ length left)

-- so is a file of one value that is cut
abbrev pub CutFileIsShort : Type 0 → Type 0 → Type 0
CutFileIsShort F X =
    (short trailing : ℕ → F) (c : Codec F X) → IsLawful c → IsSteady short c.read → (x : X) (left rest : List ℕ) → c.fits x ≡ true → c.spell x ≡ left ++ rest → rest ≢ []
    → (at : ℕ) × ((whole_file trailing c).read left ≡ Err (short at)) × (at ≤ length left)

-- fields are steady
abbrev pub FieldsAreSteady : Type 0 → Type 0
FieldsAreSteady F = (short wrong : ℕ → F) (refused : ℕ → ℕ → F) (width : Width) (test : ℕ → Bool) (count : ℕ) (text : List ℕ) →
    IsSteady short (any_number short width).read × IsSteady short (number short refused width test).read × IsSteady short (raw_bytes short count).read
    × IsSteady short (fixed_text short wrong text).read × IsSteady short (no_bytes {F = F}).read

-- so is one after the other, and a key with its value
abbrev pub PairsAreSteady : Type 0 → Type 0 → Type 0 → Type 0
PairsAreSteady F A B =
    (short : ℕ → F) (first : Codec F A) (second : A → Codec F B) (key : B → A) → IsSteady short first.read → ((a : A) → IsSteady short (second a).read)
    → IsSteady short (pair first second).read × IsSteady short (keyed first second key).read

-- so are other values for the same bytes
abbrev pub OthersAreSteady : Type 0 → Type 0 → Type 0 → Type 0
OthersAreSteady F A X =
    (short : ℕ → F) (refused : ℕ → F) (meaning : A → Option X) (good : X → Bool) (to : A → X) (from : X → A) (c : Codec F A) → IsSteady short c.read
    → IsSteady short (through to from c).read × IsSteady short (through_where good to from c).read × IsSteady short (coded refused meaning from c).read

-- so is a value that may be there
abbrev pub OptionalAreSteady : Type 0 → Type 0 → Type 0
OptionalAreSteady F X =
    (short : ℕ → F) (there : Codec F Bool) (some : Codec F X) (none : Codec F (Unit {0})) → IsSteady short there.read → IsSteady short some.read → IsSteady short none.read
    → IsSteady short (optional there some none).read

-- so are values that have to pass a test
abbrev pub TestedAreSteady : Type 0 → Type 0 → Type 0
TestedAreSteady F X = (short : ℕ → F) (refused : ℕ → X → F) (test : X → Bool) (c : Codec F X) → IsSteady short c.read → IsSteady short (tested refused test c).read

-- so are lists
abbrev pub ItemsAreSteady : Type 0 → Type 0 → Type 0 → Type 0
ItemsAreSteady F S X =
    (short : ℕ → F) (done : S → Bool) (item : S → Codec F X) (next : S → X → S) (most : ℕ) (state : S) → ((s : S) → IsSteady short (item s).read)
    → IsSteady short (items done item next most state).read

abbrev pub EachAreSteady : Type 0 → Type 0 → Type 0 → Type 0
EachAreSteady F A X =
    (short : ℕ → F) (part : A → Codec F X) (known : List A) → ((a : A) → IsSteady short (part a).read) → IsSteady short (each_of part known).read

abbrev pub ListsAreSteady : Type 0 → Type 0 → Type 0
ListsAreSteady F X = (short : ℕ → F) (count : Codec F ℕ) (c : Codec F X) → IsSteady short count.read → IsSteady short c.read → IsSteady short (counted count c).read

abbrev pub CountedItemsAreSteady : Type 0 → Type 0 → Type 0 → Type 0
CountedItemsAreSteady F S X =
    (short : ℕ → F) (count : Codec F ℕ) (item : S → Codec F X) (next : S → X → S) (first : S) → IsSteady short count.read → ((s : S) → IsSteady short (item s).read)
    → IsSteady short (counted_items count item next first).read

-- files of one value
abbrev pub WholeFilesAreLawful : Type 0 → Type 0 → Type 0
WholeFilesAreLawful F X = (trailing : ℕ → F) (c : Codec F X) → IsLawful c → IsLawfulFile (whole_file trailing c)

abbrev pub WholeFilesArePrefixFree : Type 0 → Type 0 → Type 0
WholeFilesArePrefixFree F X = (trailing : ℕ → F) (c : Codec F X) → IsLawful c → IsPrefixFree (whole_file trailing c)

-- each value that a format spells has a byte at least
abbrev pub HasBytes : {F X : Type 0} → Codec F X → Type 0
HasBytes {F} {X} c = (x : X) → c.fits x ≡ true → 1 ≤ length (c.spell x)

-- sealed files
abbrev pub SealedFilesAreLawful : Type 0 → Type 0 → Type 0
SealedFilesAreLawful F X =
    (faults : HeadFaults F) (name : List ℕ) (c : Codec F X) → length name ≡ 4 → IsLawful c → HasBytes c → IsLawfulFile (sealed_file faults name c)

abbrev pub SealedFilesArePrefixFree : Type 0 → Type 0 → Type 0
SealedFilesArePrefixFree F X = (faults : HeadFaults F) (name : List ℕ) (c : Codec F X) → length name ≡ 4 → IsPrefixFree (sealed_file faults name c)

-- the length in the head of a sealed file is the file's
abbrev pub SealedLengthIsStated : Type 0 → Type 0 → Type 0
SealedLengthIsStated F X =
    (faults : HeadFaults F) (name : List ℕ) (c : Codec F X) → length name ≡ 4 → (x : X) → length ((sealed_file faults name c).spell x) ≡ sealed_length (length (c.spell x))

-- a sealed file that is cut is short, at a place in what is left of it
abbrev pub CutSealedFileIsShort : Type 0 → Type 0 → Type 0
CutSealedFileIsShort F X =
    (faults : HeadFaults F) (name : List ℕ) (c : Codec F X) → length name ≡ 4 → (x : X) (left rest : List ℕ) → (sealed_file faults name c).fits x ≡ true
    → (sealed_file faults name c).spell x ≡ left ++ rest → rest ≢ [] → (at : ℕ) × ((sealed_file faults name c).read left ≡ Err (faults.short at)) × (at ≤ length left)

-- files whose format depends on how many bytes they have
abbrev pub SizedFilesAreLawful : Type 0 → Type 0 → Type 0
SizedFilesAreLawful F X =
    (trailing : ℕ → F) (of : ℕ → Codec F X) (size : X → ℕ) → ((n : ℕ) → IsLawful (of n)) → ((n : ℕ) (x : X) → (of n).fits x ≡ true → size x ≡ n)
    → IsLawfulFile (sized_file trailing of size)

-- files for other values
abbrev pub OtherFilesAreLawful : Type 0 → Type 0 → Type 0 → Type 0
OtherFilesAreLawful F A X =
    (to : A → X) (from : X → A) (c : FileCodec F A) → ((a : A) → c.fits a ≡ true → from (to a) ≡ a) → ((x : X) → c.fits (from x) ≡ true → to (from x) ≡ x)
    → IsLawfulFile c → IsLawfulFile (file_through to from c)

-- files that are judged
abbrev pub JudgedFilesAreLawful : Type 0 → Type 0 → Type 0
JudgedFilesAreLawful F X = (refused : X → F) (test : X → Bool) (c : FileCodec F X) → IsLawfulFile c → IsLawfulFile (judged_file refused test c)

-- files whose head says the version and the length
abbrev pub VersionedFilesAreLawful : Type 0 → Type 0 → Type 0
VersionedFilesAreLawful F X =
    (faults : HeadFaults F) (name : List ℕ) (latest : ℕ) (of : ℕ → Codec F X) → length name ≡ 4 → ((version : ℕ) → IsLawful (of version))
    → IsLawfulFile (versioned_file faults name latest of)
