-- The images of a generated system may be loaded.
use Rattle.std.proofs.Common.{ℕ, ◌<◌, ◌≤◌, Bool, true, false, ◌∷◌, length, inl, arith}
use Rattle.std.specs.Prelude.{cond, ◌==◌, ◌%◌}
use Rattle.std.specs.Int.{to_be_bytes, w32}
use Rattle.std.specs.List.{flat_map}
use Rattle.xef_images.specs.Image.{IsImage}
use Rattle.generated_system.specs.Generated.{area_start, image_bytes, first_word, generated_image, program_of, receiving_code, sending_code}

-- how many bytes the two programs have
length-program : (word : ℕ) (even : Bool) → (length (flat_map (to_be_bytes w32) (word ∷ (cond even sending_code receiving_code))) ≤ 88) × (0 < length (flat_map (to_be_bytes w32) (word ∷ (cond even sending_code receiving_code))))
unfolding sending_code receiving_code
length-program word true = (omega arith, omega arith)
length-program word false = (omega arith, omega arith)

pub length-bytes_of : (p : ℕ) → (length (image_bytes p) ≤ 88) × (0 < length (image_bytes p))
unfolding image_bytes program_of
length-bytes_of p = length-program (first_word p) (p % 2 == 0)

-- an image may be loaded
pub loads : (p : ℕ) → p < 16 → IsImage (generated_image p)
unfolding generated_image area_start
loads p below =
    let long = length-bytes_of p in
    record {
      some = omega arith;
      most = omega arith;
      each = (record { some = long.1; said = omega (arith, long.0); ends = omega (arith, long.0, below); fits = omega arith }, tt);
      apart = (tt, tt);
      aligned = omega arith;
      inside = inl (omega arith, omega (arith, long.1));
      short = omega (arith, long.0);
    }
