-- What a sink has got in the middle of a text.
use Rattle.std.proofs.Common.{◌≡◌, ℕ, ◌+◌, ◌-◌, List, Option, length, take, drop, sym, ◌∙◌, ap}
use Rattle.std.proofs.Math.Seq.{take-add}
use Rattle.std.proofs.lemmas.List.{take_rest}
use Rattle.xm_outside.specs.Growth.{grown}
use Rattle.xm_outside.specs.lemmas.GrowthLemmas.{grown_grown}

-- this many bytes were got, and then more of those that follow them
pub taken_more : (old mid new : Option (List ℕ)) (bytes : List ℕ) (done more : ℕ) → mid ≡ grown old (take done bytes) → new ≡ grown mid (take more (take (length bytes - done) (drop done bytes))) → new ≡ grown old (take (done + more) bytes)
taken_more old mid new bytes done more first next =
    next ∙ ap (λ m. grown m (take more (take (length bytes - done) (drop done bytes)))) first
    ∙ ap (λ rest. grown (grown old (take done bytes)) (take more rest)) (take_rest bytes done)
    ∙ grown_grown old (take done bytes) (take more (drop done bytes)) ∙ ap (grown old) (sym (take-add done more bytes))
