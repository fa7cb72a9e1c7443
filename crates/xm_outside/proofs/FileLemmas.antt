-- A table of files by name, as the finite map that it means.
use Rattle.std.proofs.Common.{◌≡◌, ℕ, List, [], ◌∷◌, Bool, true, false, cond, map, Option, Some, Vec, String, refl, sym, ◌∙◌, ap}
use Rattle.std.specs.BTreeMap.{BTreeMap, is_at, UpdatesBy, get_by_text}
use Rattle.std.specs.Cmp.Lexicographic.{slice_cmp, nat_list_cmp_total, nat_list_eq_equiv}
use Rattle.std.specs.FinMap.{find, get, insert, get-from_entries, get-insert, same_map, slice_cmp-IsAntisymmetric, nat_cmp-IsAntisymmetric}
use Rattle.std.specs.Map.{lookup}
use Rattle.std.specs.Option.{option_map}
use Rattle.std.specs.Ordering.{nat_cmp, eq_by_cmp}
use Rattle.std.specs.Str.{bytes_eq}
use Rattle.std.specs.String.{string_bytes, string_cmp}
use Rattle.std.proofs.lemmas.Map.Text.{btree_map_updates_text, is_eq-slice_cmp}
use Rattle.xm_outside.specs.MemStore.{file_of, files_of}

-- the bytes of a choice of files
items_cond : {B : Type 0} (b : Bool) (v : Vec ℕ B) (rest : Option (Vec ℕ B)) → cond b (Some v.items) (option_map (λ w. w.items) rest) ≡ option_map (λ w. w.items) (cond b (Some v) rest)
items_cond true v rest = refl
items_cond false v rest = refl

-- a search by name finds the bytes of the file
find_file : {A B : Type 0} (entries : List (String A × Vec ℕ B)) (name : List ℕ) → find (slice_cmp nat_cmp) name (map file_of entries) ≡ option_map (λ w. w.items) (lookup (is_at (λ key. slice_cmp nat_cmp name (string_bytes key))) entries)
find_file [] name = refl
find_file (entry ∷ entries) name =
    ap (cond (eq_by_cmp (slice_cmp nat_cmp) name (string_bytes entry.0)) (Some entry.1.items)) (find_file entries name)
    ∙ items_cond (eq_by_cmp (slice_cmp nat_cmp) name (string_bytes entry.0)) entry.1 _

-- what the files have under a name
pub get_file : {A B : Type 0} (files : BTreeMap (String A) (Vec ℕ B)) (name : List ℕ) → get (files_of files.entries) name ≡ option_map (λ w. w.items) (get_by_text files name)
get_file files name = get-from_entries nat_list_cmp_total (map file_of files.entries) name ∙ find_file files.entries name

-- names that are the same bytes tie
same_name : (name key : List ℕ) → bytes_eq key name ≡ eq_by_cmp (slice_cmp nat_cmp) name key
same_name name key = nat_list_eq_equiv.symm key name ∙ sym (is_eq-slice_cmp name key)

-- the files after an entry was set
pub file_stored : {A B : Type 0} (old new : BTreeMap (String A) (Vec ℕ B)) (key : String A) (file : Vec ℕ B) → UpdatesBy string_cmp (string_cmp key) old new (Some file) → files_of new.entries ≡ insert (files_of old.entries) (string_bytes key) file.items
file_stored old new key file updates = same_map nat_list_cmp_total (slice_cmp-IsAntisymmetric nat_cmp-IsAntisymmetric) _ _ (λ name.
    get_file new name
    ∙ ap (option_map (λ w. w.items)) (btree_map_updates_text (string_bytes key) old new (Some file) updates name)
    ∙ sym (items_cond (bytes_eq (string_bytes key) name) file (get_by_text old name))
    ∙ ap (λ b. cond b (Some file.items) (option_map (λ w. w.items) (get_by_text old name))) (same_name name (string_bytes key))
    ∙ ap (cond (eq_by_cmp (slice_cmp nat_cmp) name (string_bytes key)) (Some file.items)) (sym (get_file old name))
    ∙ sym (get-insert nat_list_cmp_total (files_of old.entries) (string_bytes key) file.items name))
