-- Files are read one after another, and what is packed of them.
use Rattle.std.proofs.Common.{◌≡◌, ℕ, suc, ◌<◌, arith, false, List, [], ◌∷◌, ◌++◌, length, get_or, ◌+◌, map, drop, Option, Some, None, Result, Ok, Err, is_ok, is_err, if◌then◌else◌, refl, sym, ap, ◌∙◌, subst}
use Rattle.std.proofs.Math.Seq.{drop-cons}
use Rattle.std.proofs.lemmas.List.{append_assoc, append-nil, length-append, map-append}
use Rattle.xm_base.specs.declared.limits.TheConstants.{FILE_BYTES}
use Rattle.xm_outside.specs.Files.{Files, ReadsFile}
use Rattle.xef_images.specs.Image.{Image}
use Rattle.xef_images.specs.Reading.{xef}
use Rattle.xef_images.specs.Spelling.{xef_text}
use Rattle.xm_container.specs.Pack.{AreFilesOf}
use Rattle.xm_container.specs.declared.image.Image.{Image as Given}
use Rattle.command_line.specs.Words.{PartFile, Pack}
use Rattle.file_commands.specs.Denial.{Denial}
use Rattle.file_commands.specs.Ending.{Ending, Done, Usage, ReadFault, Refused, WriteFaultReport, WriteFaultFile, UartFault, NoMemory}
use Rattle.file_commands.specs.Outcome.{Outcome, content, first_long, outcome_of, packed_to, unless_long, outcome_of_contents}
use Rattle.file_commands.specs.Packing.{container_of, image_before, image_by, images_of, file_names}
use Rattle.file_commands.specs.lemmas.PackingTerms.{limited}
use Rattle.file_commands.specs.lemmas.Read.{HasRead}
use Rattle.file_commands.specs.Work.{Outside, AreNotRead, IsNotRead, IsOutOfMemory, ReadsFiles, after_store_call, called_for}
use Rattle.file_commands.specs.lemmas.WorkTerms.{HasOutcome}
use Rattle.file_commands.specs.lemmas.OutputLemmas.{called_for-is}

-- Files are read.

-- before the first of them nothing was read
pub has_none : (all : List (List ℕ)) (before : Outside) → HasRead all all [] before before
has_none all before = record { first = []; named = refl; read = tt; outside = refl }

pub read_begun : (all contents : List (List ℕ)) (before : Outside) → contents ≡ [] → HasRead all all contents before before
read_begun all contents before none = subst (λ (got : List (List ℕ)). HasRead all all got before before) (sym none) (has_none all before)

-- one file more was read
reads_more : (known : Option Files) (first contents : List (List ℕ)) (file bytes : List ℕ) → ReadsFiles known first contents → ReadsFile known file FILE_BYTES bytes → ReadsFiles known (first ++ file ∷ []) (contents ++ bytes ∷ [])
reads_more known [] [] file bytes read more = (more, tt)
reads_more known [] (other ∷ contents) file bytes read more = absurd read
reads_more known (name ∷ first) [] file bytes read more = absurd read
reads_more known (name ∷ first) (other ∷ contents) file bytes read more = (read.0, reads_more known first contents file bytes read.1 more)

-- a call for one file more
called_for-more : (first : List (List ℕ)) (file : List ℕ) (before : Outside) → called_for (first ++ file ∷ []) before ≡ after_store_call (called_for first before)
called_for-more [] file before = refl
called_for-more (name ∷ first) file before = called_for-more first file (after_store_call before)

-- the files after the one that is read next
following : (all first rest : List (List ℕ)) (file : List ℕ) → all ≡ first ++ file ∷ rest → all ≡ (first ++ file ∷ []) ++ rest
following all first rest file named = named ∙ sym (append_assoc first (file ∷ []) rest)

-- the next file was read
pub has_more : (all rest contents : List (List ℕ)) (file bytes : List ℕ) (before now next : Outside) → HasRead all (file ∷ rest) contents before now → ReadsFile now.files file FILE_BYTES bytes → next ≡ after_store_call now
    → HasRead all rest (contents ++ bytes ∷ []) before next
has_more all rest contents file bytes before now next had read is =
    let files : now.files ≡ before.files = ap (λ (x : Outside). x.files) (had.outside ∙ called_for-is had.first before) in
    record {
      first = had.first ++ file ∷ [];
      named = following all had.first rest file had.named;
      read = reads_more before.files had.first contents file bytes had.read (subst (λ (known : Option Files). ReadsFile known file FILE_BYTES bytes) files read);
      outside = is ∙ ap after_store_call had.outside ∙ sym (called_for-more had.first file before);
    }

-- the next file was read, where what is still to be read and what was read are known by other words
pub has_next : (all rest names contents read : List (List ℕ)) (file bytes : List ℕ) (before now next : Outside) → HasRead all (file ∷ rest) contents before now → ReadsFile now.files file FILE_BYTES bytes → next ≡ after_store_call now
    → rest ≡ names → contents ++ bytes ∷ [] ≡ read → HasRead all names read before next
has_next all rest names contents read file bytes before now next had reads is same pushed =
    subst (λ (files : List (List ℕ)). HasRead all files read before next) same
    (subst (λ (got : List (List ℕ)). HasRead all rest got before next) pushed (has_more all rest contents file bytes before now next had reads is))

-- the next of files for partitions is to be read
pub more_to_read : (all later contents : List (List ℕ)) (parts others : List PartFile) (named : PartFile) (before now : Outside) → parts ≡ named ∷ others → HasRead all (file_names parts ++ later) contents before now
    → HasRead all (named.file ∷ file_names others ++ later) contents before now
more_to_read all later contents parts others named before now is had = subst (λ (files : List PartFile). HasRead all (file_names files ++ later) contents before now) is had

-- none of them is
pub none_to_read : (all later contents : List (List ℕ)) (parts : List PartFile) (before now : Outside) → parts ≡ [] → HasRead all (file_names parts ++ later) contents before now → HasRead all later contents before now
none_to_read all later contents parts before now none had = subst (λ (files : List PartFile). HasRead all (file_names files ++ later) contents before now) none had

-- what is still to be read is the first of it, and then the others together
pub rest_grouped : (all first middle last contents : List (List ℕ)) (before now : Outside) → HasRead all (first ++ middle ++ last) contents before now → HasRead all (first ++ (middle ++ last)) contents before now
rest_grouped all first middle last contents before now had = subst (λ (files : List (List ℕ)). HasRead all files contents before now) (append_assoc first middle last) had

-- what is still to be read is that, with nothing after it
pub rest_named : (all rest contents : List (List ℕ)) (before now : Outside) → HasRead all rest contents before now → HasRead all (rest ++ []) contents before now
rest_named all rest contents before now had = subst (λ (files : List (List ℕ)). HasRead all files contents before now) (sym (append-nil rest)) had

-- the next file was not read
pub not_more : (e : Ending) (all rest contents : List (List ℕ)) (file : List ℕ) (before now after : Outside) → HasRead all (file ∷ rest) contents before now → IsNotRead e file now after → AreNotRead e all before after
not_more Done all rest contents file before now after had not_read = absurd not_read
not_more Usage all rest contents file before now after had not_read = absurd not_read
not_more (ReadFault other) all rest contents file before now after had not_read =
    let here = subst (λ (n : Outside). IsNotRead (ReadFault other) file n after) had.outside not_read in
    let cause = subst (λ (n : Outside). IsNotRead (ReadFault other) file n after) (had.outside ∙ called_for-is had.first before) not_read in
    record { first = had.first; rest = rest; named = rw here.0 had.named; contents = contents; read = had.read; cause = rw here.0 cause.1; outside = here.2 }
not_more (Refused other text) all rest contents file before now after had not_read = absurd not_read
not_more WriteFaultReport all rest contents file before now after had not_read = absurd not_read
not_more (WriteFaultFile other) all rest contents file before now after had not_read = absurd not_read
not_more (UartFault place) all rest contents file before now after had not_read = absurd not_read
not_more NoMemory all rest contents file before now after had not_read = record {
  first = had.first ++ file ∷ [];
  rest = rest;
  named = following all had.first rest file had.named;
  outside = not_read ∙ ap after_store_call had.outside ∙ sym (called_for-more had.first file before);
}

-- memory ran out for what was read
pub memory_there : (all rest contents : List (List ℕ)) (before now : Outside) → HasRead all rest contents before now → IsOutOfMemory all before now
memory_there all rest contents before now had = record { first = had.first; rest = rest; named = had.named; outside = had.outside }

-- all were read
pub has_all : (all contents : List (List ℕ)) (before now : Outside) → HasRead all [] contents before now → ReadsFiles before.files all contents × (now ≡ called_for all before)
has_all all contents before now had =
    let same : had.first ≡ all = sym (had.named ∙ append-nil had.first) in
    (subst (λ (files : List (List ℕ)). ReadsFiles before.files files contents) same had.read, had.outside ∙ ap (λ (files : List (List ℕ)). called_for files before) same)

-- a choice by a result that is no error
pub chose_ok : {T E X : Type 0} (r : Result T E) (new more old : List X) → is_err r ≡ false → new ≡ (if is_ok r then more else old) → new ≡ more
chose_ok (Ok value) new more old ok is = is
chose_ok (Err e) new more old ok is = absurd (let no : ⊥ = cc in no)

-- a list's images are those of its parts
pub map_push : {X Y : Type 0} (f : X → Y) (xs ys : List X) (x : X) → ys ≡ xs ++ x ∷ [] → map f xs ++ f x ∷ [] ≡ map f ys
map_push f xs ys x is = sym (ap (map f) is ∙ map-append f xs (x ∷ []))

-- Images are read.

-- images that were read before those that are still to be read
abbrev pub after_images : List Given → Result (List Given) Denial → Result (List Given) Denial
after_images read (Ok images) = Ok (read ++ images)
after_images read (Err refusal) = Err refusal

-- without contents nothing more is read
no_images : (files : List PartFile) → images_of files [] ≡ Ok []
no_images [] = refl
no_images (named ∷ files) = refl

-- without contents nothing more is read
pub no_more_contents : (read : List Given) (files : List PartFile) (contents : List (List ℕ)) → contents ≡ [] → after_images read (images_of files contents) ≡ Ok read
no_more_contents read files contents none = ap (λ (c : List (List ℕ)). after_images read (images_of files c)) none ∙ ap (after_images read) (no_images files) ∙ ap Ok (append-nil read)

-- an image more is at the end of those that were read
regroup : (read pushed : List Given) (part : ℕ) (image : Image) (rest : Result (List Given) Denial) → pushed ≡ read ++ record { id = part; xef = image } ∷ [] → after_images read (image_before part (Ok image) rest) ≡ after_images pushed rest
regroup read pushed part image (Ok images) is = ap (λ (list : List Given). Ok list) (sym (append_assoc read (record { id = part; xef = image } ∷ []) images) ∙ ap (λ (list : List Given). list ++ images) (sym is))
regroup read pushed part image (Err refusal) is = refl

-- an image more was read
pub images_more : {X : Type 0} (f : X → List ℕ) (contents : List X) (read pushed : List Given) (image : Image) (named : PartFile) (files later : List PartFile) (x : X) (count : ℕ) (total : Result (List Given) Denial)
    → pushed ≡ read ++ record { id = named.part; xef = image } ∷ [] → files ≡ named ∷ later → count < length contents → x ≡ get_or contents count x → image_by named.file (xef (f x)) ≡ Ok image
    → total ≡ after_images read (images_of files (map f (drop count contents))) → total ≡ after_images pushed (images_of later (map f (drop (count + 1) contents)))
images_more f contents read pushed image named files later x count total is_pushed is_files below here made so_far =
    let next : drop count contents ≡ x ∷ drop (count + 1) contents
    = drop-cons contents count x below ∙ ap (λ y. y ∷ drop (suc count) contents) (sym here) ∙ ap (λ n. x ∷ drop n contents) (let after : suc count ≡ count + 1 = omega arith in after) in
    let one : images_of files (map f (drop count contents)) ≡ image_before named.part (Ok image) (images_of later (map f (drop (count + 1) contents)))
    = ap (λ (list : List PartFile). images_of list (map f (drop count contents))) is_files
    ∙ ap (λ list. images_of (named ∷ later) (map f list)) next
    ∙ ap (λ (found : Result Image Denial). image_before named.part found (images_of later (map f (drop (count + 1) contents)))) made in
    so_far ∙ ap (after_images read) one ∙ regroup read pushed named.part image (images_of later (map f (drop (count + 1) contents))) is_pushed

-- without images there is none of another file
files_none : (files : List (List ℕ)) → AreFilesOf files []
files_none [] = tt
files_none (file ∷ files) = tt

-- without images there is no image of another file
pub files_begun : (files : List (List ℕ)) (images : List Given) → images ≡ [] → AreFilesOf files images
files_begun files images none = subst (λ (list : List Given). AreFilesOf files list) (sym none) (files_none files)

-- the next file is that of one image more
files_more : {X : Type 0} (f : X → List ℕ) (contents : List X) (images : List Given) (image : Given) (x : X) (count : ℕ) → length images ≡ count → AreFilesOf (map f contents) images → x ≡ get_or contents count x
    → f x ≡ xef_text image.xef → AreFilesOf (map f contents) (images ++ image ∷ [])
files_more f [] images image x count counted are here is = tt
files_more f (first ∷ contents) [] image x count counted are here is =
    let same : x ≡ first = subst (λ (n : ℕ). x ≡ get_or (first ∷ contents) n x) (sym counted) here in
    (ap f (sym same) ∙ is, files_none (map f contents))
files_more f (first ∷ contents) (other ∷ images) image x count counted are here is =
    let next : x ≡ get_or contents (length images) x = subst (λ (n : ℕ). x ≡ get_or (first ∷ contents) n x) (sym counted) here in
    (are.0, files_more f contents images image x (length images) refl are.1 next is)

-- the file of an image that is read belongs to it, where what was read is known by other words
pub files_pushed : {X : Type 0} (f : X → List ℕ) (contents : List X) (images pushed : List Given) (image : Given) (x : X) (count : ℕ) → pushed ≡ images ++ image ∷ [] → length images ≡ count
    → AreFilesOf (map f contents) images → x ≡ get_or contents count x → f x ≡ xef_text image.xef → AreFilesOf (map f contents) pushed × (length pushed ≡ count + 1)
files_pushed f contents images pushed image x count is counted are here text = (
  subst (λ (list : List Given). AreFilesOf (map f contents) list) (sym is) (files_more f contents images image x count counted are here text),
  ap length is ∙ length-append images (image ∷ []) ∙ ap (λ n. n + 1) counted,
)

-- What is packed.

-- the outcome of a command that packs
outcome-pack : (configuration output : List ℕ) (images : List PartFile) (contents : List (List ℕ)) → outcome_of (Pack configuration output images) contents
    ≡ packed_to output (limited (first_long (configuration ∷ file_names images) contents) (container_of configuration (content 0 contents) images (drop 1 contents)))
unfolding outcome_of
outcome-pack configuration output images contents = at (first_long (configuration ∷ file_names images) contents)
  where
    at : (long : Option (List ℕ)) → unless_long long (outcome_of_contents (Pack configuration output images) contents) ≡ packed_to output (limited long (container_of configuration (content 0 contents) images (drop 1 contents)))
    at None = refl
    at (Some file) = refl

-- what is done with the outcome of packing is what the command does, seen from another state that is the same
pub packed_outcome : (e : Ending) (configuration output : List ℕ) (images : List PartFile) (contents : List (List ℕ)) (mid other after : Outside) → mid ≡ other
    → HasOutcome e (packed_to output (limited (first_long (configuration ∷ file_names images) contents) (container_of configuration (content 0 contents) images (drop 1 contents)))) mid after
    → HasOutcome e (outcome_of (Pack configuration output images) contents) other after
packed_outcome e configuration output images contents mid other after same comes =
    subst (λ (outcome : Outcome). HasOutcome e outcome other after) (sym (outcome-pack configuration output images contents))
    (subst (λ (m : Outside). HasOutcome e (packed_to output (limited (first_long (configuration ∷ file_names images) contents) (container_of configuration (content 0 contents) images (drop 1 contents)))) m after) same comes)
