-- Whether bytes are a name is decided.
use Rattle.std.specs.Prelude.{◌≡◌, ◌≢◌, ℕ, ◌≤◌, ◌==◌, not, nat_le, List, All, length, ◌++◌, take, drop, replicate}
use Rattle.std.specs.Bool.{Decides}
use Rattle.std.specs.List.{list_all}
use Rattle.std.proofs.Common.{refl, ap, arith}
use Rattle.std.proofs.Math.Seq.{take-append_seam}
use Rattle.std.proofs.lemmas.List.{drop-replicate}
use Rattle.std.proofs.lemmas.Bool.Decides.{Decides-and, Decides-by_and, Decides-eqb, Decides-like, Decides-not, nat_tests}
use Rattle.xm_conf.specs.Name.{IsNameBuffer, IsName, IsNameByte, is_name, is_name_byte}

-- the order of numbers is decided
pub Decides-nat_le : (a b : ℕ) → Decides (nat_le a b) (a ≤ b)
Decides-nat_le a b = grind (arith, nat_tests)

-- that a byte differs from another is decided
pub Decides-differs : (a b : ℕ) → Decides (not (a == b)) (a ≢ b)
Decides-differs a b = Decides-not (a == b) (Decides-eqb a b)

-- whether a byte may stand in a name is decided
pub is_name_byte-Decides : (byte : ℕ) → Decides (is_name_byte byte) (IsNameByte byte)
is_name_byte-Decides byte =
    Decides-like (is_name_byte byte) (λ t. (t.0.0.0.0.0, t.0.0.0.0.1, t.0.0.0.1, t.0.0.1, t.0.1, t.1))
    (λ n. (((((n.0, n.1), n.2), n.3), n.4), n.5))
    (Decides-and _ _ (Decides-and _ _ (Decides-and _ _ (Decides-and _ _ (Decides-and _ _
    (Decides-nat_le 32 byte) (Decides-nat_le byte 126)) (Decides-differs byte 34)) (Decides-differs byte 38))
    (Decides-differs byte 39)) (Decides-differs byte 60))

-- whether bytes are a name is decided
pub is_name-Decides : (bytes : List ℕ) → Decides (is_name bytes) (IsName bytes)
is_name-Decides bytes =
    Decides-like {P = ((1 ≤ length bytes) × (length bytes ≤ 31)) × All IsNameByte bytes} {Q = IsName bytes} (is_name bytes)
    (λ t. record { some = t.0.0; most = t.0.1; each = t.1 }) (λ n. ((n.some, n.most), n.each))
    (Decides-and _ _ (Decides-and _ _ (Decides-nat_le 1 (length bytes)) (Decides-nat_le (length bytes) 31))
    (Decides-by_and is_name_byte IsNameByte (list_all is_name_byte) is_name_byte-Decides refl (λ _ _. refl) bytes))

-- a name that is written over 31 zeros is kept there
pub kept_over_zeros : (bytes front : List ℕ) → IsName bytes → front ≡ bytes → IsNameBuffer (front ++ drop (length bytes) (replicate 31 0)) (length bytes)
kept_over_zeros bytes front named same =
    let first : take (length bytes) (front ++ drop (length bytes) (replicate 31 0)) ≡ bytes = rw same (take-append_seam bytes _) in
    record {
      name = rw first named;
      counted = rw first refl;
      rest = rw first (rw same (ap (λ zeros. bytes ++ zeros) (drop-replicate (length bytes) 31 0)));
    }
