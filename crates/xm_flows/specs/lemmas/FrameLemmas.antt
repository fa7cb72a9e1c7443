-- Plans with equal frames.
use Rattle.std.proofs.Common.{◌≡◌, ℕ, zero, suc, List, [], ◌∷◌, map, Option, None, Some, refl, sym, ap, ◌∙◌}
use Rattle.std.specs.Prelude.{slice_get}
use Rattle.cyclic_plans.specs.Slots.{frame_in, frame_of}
use Rattle.xm_base.specs.Options.{on}
use Rattle.xm_conf.specs.Configuration.{Conf, Plan}

-- the frame of a plan, in the list of frames
frame_at : (plans : List Plan) (n : ℕ) → slice_get (map (λ plan. plan.frame) plans) n ≡ on (λ plan. plan.frame) (slice_get plans n)
frame_at [] n = refl
frame_at (plan ∷ plans) zero = refl
frame_at (plan ∷ plans) (suc n) = frame_at plans n

abbrev frame_or_0 : Option ℕ → ℕ
frame_or_0 None = 0
frame_or_0 (Some frame) = frame

frame_read : (o : Option Plan) → frame_in o ≡ frame_or_0 (on (λ plan. plan.frame) o)
frame_read None = refl
frame_read (Some plan) = refl

-- so where the frames are equal, so is the frame of each number
pub same_frame : (one other : Conf) → map (λ plan. plan.frame) one.plans ≡ map (λ plan. plan.frame) other.plans → (n : ℕ) → frame_of one n ≡ frame_of other n
unfolding frame_of
same_frame one other same n =
    frame_read (slice_get one.plans n) ∙ ap frame_or_0 (sym (frame_at one.plans n) ∙ ap (λ frames. slice_get frames n) same ∙ frame_at other.plans n)
    ∙ sym (frame_read (slice_get other.plans n))
