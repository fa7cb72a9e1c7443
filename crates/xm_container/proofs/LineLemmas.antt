-- What the lines of a container are made of.
use Rattle.std.proofs.Common.{◌≡◌, ℕ, suc, ◌+◌, ◌-◌, ◌≤◌, List, ◌∷◌, ◌++◌, length, drop, Some, Ok, sym, ap, subst, ◌∙◌, append_assoc, arith, codes}
use Rattle.std.specs.Prelude.{All, slice_get}
use Rattle.std.proofs.Math.Seq.{drop-cons}
use Rattle.std.proofs.lemmas.List.{append-nil, drop_all}
use Rattle.std.proofs.lemmas.List.Elements.{All-get_or}
use Rattle.std.proofs.lemmas.Option.{get_or_from_slice_get, slice_get_within}
use Rattle.xef_images.specs.Image.{Image, IsImage}
use Rattle.md5.specs.Md5.{md5}
use Rattle.xef_images.specs.Spelling.{before_text, xef_text}
use Rattle.xef_images.specs.lemmas.XefLemmas.{digest_at_end}
use Rattle.file_headers.specs.lemmas.StepLemmas.{stepped}
use Rattle.loaded_system.specs.System.{System}
use Rattle.file_headers.specs.lemmas.HeadLemmas.{unsealed_takes}
use Rattle.file_headers.specs.Heads.{unsealed}
use Rattle.xm_container.specs.Reading.{system_in, unpacked, box_faults}
use Rattle.xm_container.specs.Texts.{file_line, image_line, image_lines}

-- a container has the bytes of its digest
pub unpacked_long : (bytes : List ℕ) (system : System) → unpacked bytes ≡ Ok system → 16 ≤ length bytes
unfolding unpacked
unpacked_long bytes system e =
    let s = stepped (unsealed box_faults (codes "XMPK") 2 bytes) system_in system e in
    omega (arith, (unsealed_takes box_faults (codes "XMPK") 2 bytes s.value s.is).count)

-- an image, and those after it
pub image_first : (images : List Image) (id : ℕ) (image : Image) → slice_get images id ≡ Some image → drop id images ≡ image ∷ drop (id + 1) images
image_first images id image some =
    let below = slice_get_within images id image some in
    drop-cons images id image below
    ∙ ap (λ x. x ∷ drop (suc id) images) (get_or_from_slice_get images id image image some)
    ∙ ap (λ n. image ∷ drop n images) (let next : suc id ≡ id + 1 = omega arith in next)

-- an image that is there may be loaded
pub image_loads : (images : List Image) (id : ℕ) (image : Image) → All IsImage images → slice_get images id ≡ Some image → IsImage image
image_loads images id image each some =
    subst IsImage (get_or_from_slice_get images id image image some) (All-get_or IsImage images id image (slice_get_within images id image some) each)

-- a line more
pub lines_on : (images : List Image) (id : ℕ) (image : Image) (front whole : List ℕ) → slice_get images id ≡ Some image
    → front ++ image_lines id (drop id images) ≡ whole → (front ++ image_line id image) ++ image_lines (id + 1) (drop (id + 1) images) ≡ whole
lines_on images id image front whole some so_far =
    append_assoc front (image_line id image) (image_lines (id + 1) (drop (id + 1) images))
    ∙ ap (λ list. front ++ image_lines id list) (sym (image_first images id image some))
    ∙ so_far

-- all lines
pub lines_done : (images : List Image) (id : ℕ) (front whole : List ℕ) → length images ≤ id → front ++ image_lines id (drop id images) ≡ whole → front ≡ whole
lines_done images id front whole past so_far =
    sym (append-nil front) ∙ ap (λ list. front ++ image_lines id list) (sym (drop_all id images past)) ∙ so_far

-- the line of a container, put piece by piece
pub container_pieces : (l a d m h n : List ℕ) → ((l ++ (a ++ d)) ++ (m ++ h)) ++ n ≡ l ++ ((((a ++ d) ++ m) ++ h) ++ n)
container_pieces l a d m h n = simp append_assoc

-- the line of a configuration, put piece by piece
pub system_pieces : (l s name a p b q c r n : List ℕ) → (((((l ++ s) ++ name) ++ (a ++ p)) ++ (b ++ q)) ++ (c ++ r)) ++ n ≡ l ++ ((((((((s ++ name) ++ a) ++ p) ++ b) ++ q) ++ c) ++ r) ++ n)
system_pieces l s name a p b q c r n = simp append_assoc

-- the line of an image's file is that of the image
pub spelled_line : (id entry : ℕ) (image : Image) (bytes : List ℕ) → bytes ≡ xef_text image → entry ≡ image.entry
    → file_line id (length bytes) entry (drop (length bytes - 16) bytes) ≡ image_line id image
spelled_line id entry image bytes is is_entry =
    ap (λ e. file_line id (length bytes) e (drop (length bytes - 16) bytes)) is_entry
    ∙ ap (λ digest. file_line id (length bytes) image.entry digest) (digest_at_end bytes image is).1
    ∙ ap (λ b. file_line id (length b) image.entry (md5 (before_text image))) is
