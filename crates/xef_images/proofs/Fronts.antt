-- Reading one item after the other, as a loop does.
use Rattle.std.proofs.Common.{◌≡◌, ℕ, suc, ◌-◌, ◌+◌, ◌≤◌, ◌<◌, List, [], ◌∷◌, ◌++◌, length, get_or, drop, Result, Ok, Err, refl, sym, ap, ◌∙◌, append_assoc, add-one, arith}
use Rattle.std.proofs.Math.Seq.{drop-cons}
use Rattle.std.proofs.lemmas.List.{append-nil, drop_all}
use Rattle.xm_base.specs.Cursor.{Place}
use Rattle.xef_images.specs.Image.{Segment}
use Rattle.file_headers.specs.Steps.{◌>>=◌}
use Rattle.xef_images.specs.Reading.{row_at, rows_at, segment_at, segments_at}
use Rattle.xef_images.specs.Gives.{Fails}
use Rattle.xef_images.specs.declared.row.Row.{Row}
use Rattle.fault_messages.specs.declared.fault.XefFault.{XefFault}
use Rattle.fault_messages.specs.declared.fault.XefFault.TheVariants as fault

-- what was read before, and what is still read
abbrev pub with_front : {X : Type 0} → List X → Result (List X × Place) XefFault → Result (List X × Place) XefFault
with_front front read = read >>= λ x. Ok (front ++ x.0, x.1)

-- the fault that reading gives is the fault that was met
pub fails_so : {Y : Type 0} (fault : XefFault) (read : Result Y XefFault) → read ≡ Err fault → Fails fault read
fails_so fault.Memory read e = tt
fails_so other read e = e

-- a fault that is met in a part is that of the whole
pub fails_on : {Y Z : Type 0} (fault : XefFault) (part : Result Y XefFault) (whole : Result Z XefFault) → ((f : XefFault) → part ≡ Err f → whole ≡ Err f) → Fails fault part → Fails fault whole
fails_on fault.Memory part whole so e = tt
fails_on other part whole so e = so _ e

-- an item more is at the end of the prefix
regroup : {X : Type 0} (front : List X) (x : X) (read : Result (List X × Place) XefFault) → with_front front (read >>= λ xs. Ok (x ∷ xs.0, xs.1)) ≡ with_front (front ++ x ∷ []) read
regroup front x (Ok xs) = ap (λ all. Ok (all, xs.1)) (sym (append_assoc front (x ∷ []) xs.0))
regroup front x (Err fault) = refl

-- nothing more is read
nothing_more : {X : Type 0} (front : List X) (place : Place) → with_front front (Ok ([], place)) ≡ Ok (front, place)
nothing_more front place = ap (λ all. Ok (all, place)) (append-nil front)

-- a row more
pub rows_on : (front : List Row) (count i floor : ℕ) (place : Place) (row : Row) (after : Place) (total : Result (List Row × Place) XefFault) → i < count → row_at floor place ≡ Ok (row, after)
    → with_front front (rows_at (count - i) floor place) ≡ total → with_front (front ++ row ∷ []) (rows_at (count - (i + 1)) (row.address + row.memory) after) ≡ total
unfolding rows_at
rows_on front count i floor place row after total below read so_far =
    let more : count - i ≡ suc (count - (i + 1)) = omega arith in
    let one : with_front front (rows_at (count - i) floor place) ≡ with_front (front ++ row ∷ []) (rows_at (count - (i + 1)) (row.address + row.memory) after)
    = rw (more, read) (regroup front row (rows_at (count - (i + 1)) (row.address + row.memory) after)) in
    sym one ∙ so_far

-- a row that fails
pub rows_fail : (fault : XefFault) (front : List Row) (count i floor : ℕ) (place : Place) (total : Result (List Row × Place) XefFault) → i < count → row_at floor place ≡ Err fault
    → with_front front (rows_at (count - i) floor place) ≡ total → Fails fault total
unfolding rows_at
rows_fail fault front count i floor place total below read so_far =
    let more : count - i ≡ suc (count - (i + 1)) = omega arith in
    let one : with_front front (rows_at (count - i) floor place) ≡ Err fault = rw (more, read) refl in
    fails_so fault total (sym so_far ∙ one)

-- all rows
pub rows_done : (front : List Row) (count i floor : ℕ) (place : Place) (total : Result (List Row × Place) XefFault) → count ≤ i → with_front front (rows_at (count - i) floor place) ≡ total → total ≡ Ok (front, place)
unfolding rows_at
rows_done front count i floor place total all so_far =
    let none : count - i ≡ 0 = omega arith in
    let one : with_front front (rows_at (count - i) floor place) ≡ Ok (front, place) = rw none (nothing_more front place) in
    sym so_far ∙ one

-- a segment more
pub segments_on : (front : List Segment) (rows : List Row) (i : ℕ) (d : Row) (place : Place) (segment : Segment) (after : Place) (total : Result (List Segment × Place) XefFault) → i < length rows
    → segment_at (get_or rows i d) place ≡ Ok (segment, after)
    → with_front front (segments_at (drop i rows) place) ≡ total → with_front (front ++ segment ∷ []) (segments_at (drop (i + 1) rows) after) ≡ total
unfolding segments_at
segments_on front rows i d place segment after total below read so_far =
    let one : with_front front (segments_at (drop i rows) place) ≡ with_front (front ++ segment ∷ []) (segments_at (drop (i + 1) rows) after)
    = rw (drop-cons rows i d below, add-one, read) (regroup front segment (segments_at (drop (suc i) rows) after)) in
    sym one ∙ so_far

-- a segment that fails
pub segments_fail : (fault : XefFault) (front : List Segment) (rows : List Row) (i : ℕ) (d : Row) (place : Place) (total : Result (List Segment × Place) XefFault) → i < length rows
    → Fails fault (segment_at (get_or rows i d) place)
    → with_front front (segments_at (drop i rows) place) ≡ total → Fails fault total
unfolding segments_at
segments_fail fault front rows i d place total below read so_far =
    fails_on fault (segment_at (get_or rows i d) place) total
    (λ f met.
    let one : with_front front (segments_at (drop i rows) place) ≡ Err f = rw (drop-cons rows i d below, met) refl in
    sym so_far ∙ one)
    read

-- all segments
pub segments_done : (front : List Segment) (rows : List Row) (i : ℕ) (place : Place) (total : Result (List Segment × Place) XefFault) → length rows ≤ i → with_front front (segments_at (drop i rows) place) ≡ total → total ≡ Ok (front, place)
unfolding segments_at
segments_done front rows i place total all so_far =
    let one : with_front front (segments_at (drop i rows) place) ≡ Ok (front, place) = rw (drop_all i rows all) (nothing_more front place) in
    sym so_far ∙ one
