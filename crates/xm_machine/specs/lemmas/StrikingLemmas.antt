-- For proofs: upsets that fit a run may strike the machine of its system, those of each tick, too.
use Rattle.std.proofs.Common.{◌≡◌, ℕ, zero, suc, ◌<◌, Bool, true, false, List, [], ◌∷◌, length, sym, ap, ◌∙◌, subst, arith}
use Rattle.std.specs.Prelude.{All, ◌==◌, if◌then◌else◌}
use Rattle.xm_conf.specs.Configuration.{Conf}
use Rattle.machine_model.specs.Facts.{IsComplete}
use Rattle.machine_model.specs.Machine.{Machine}
use Rattle.machine_model.specs.View.{System, view_of}
use Rattle.upset_files.specs.Fits.{AllFit}
use Rattle.upset_files.specs.Laws.{UpsetsMayStrike}
use Rattle.upset_model.specs.Coming.{AreOrdered}
use Rattle.upset_model.specs.Places.{due, is_place}
use Rattle.upset_model.specs.declared.upset_line.UpsetLine.{UpsetLine}
use Rattle.xm_machine.specs.Striking.{MayStrike}

-- what may strike a machine may strike another of the same system, with as many partitions
pub may_strike : (g m : Machine) (line : UpsetLine) → m.system ≡ g.system → length m.parts ≡ length g.parts → MayStrike g line → MayStrike m line
may_strike g m line system parts may = record {
  partition = subst (λ (n : ℕ). line.part < n) (sym parts) may.partition;
  place = ap (λ (s : System). is_place (view_of s line.part) line.place line.bit) system ∙ may.place;
}

-- where upsets fit a run, those of each tick may strike the machine of the system
all_first : (g : Machine) (line : UpsetLine) (lines : List UpsetLine) → MayStrike g line → All (MayStrike g) lines → All (MayStrike g) (line ∷ lines)
all_first g line lines its all zero d below = its
all_first g line lines its all (suc k) d below = all k d (omega (arith, below))

pub fits_strike : UpsetsMayStrike → (g : Machine) (ticks before : ℕ) (lines : List UpsetLine) → IsComplete g → AllFit g.system.conf ticks before lines → All (MayStrike g) lines
fits_strike law g ticks before [] complete fit = λ k d below. absurd (omega (arith, below))
fits_strike law g ticks before (line ∷ lines) complete fit =
    all_first g line lines
    (record { partition = omega (arith, fit.0.partition, complete.parts); place = law g.system ticks before line fit.0 })
    (fits_strike law g ticks line.tick lines complete fit.1)

pub fits_ordered : (conf : Conf) (ticks before : ℕ) (lines : List UpsetLine) → AllFit conf ticks before lines → AreOrdered before lines
fits_ordered conf ticks before [] fit = tt
fits_ordered conf ticks before (line ∷ lines) fit = (fit.0.order, fits_ordered conf ticks line.tick lines fit.1)

-- those of one tick
pub due_strike : (g : Machine) (k : ℕ) (lines : List UpsetLine) → All (MayStrike g) lines → All (MayStrike g) (due lines k)
due_strike g k [] all = all
due_strike g k (line ∷ lines) all = at (line.tick == k) (due_strike g k lines (λ j d below. all (suc j) d (omega (arith, below))))
  where
    at : (b : Bool) → All (MayStrike g) (due lines k) → All (MayStrike g) (if b then line ∷ due lines k else due lines k)
    at true rest = all_first g line (due lines k) (all 0 line (omega arith)) rest
    at false rest = rest

pub due_fits_strike : UpsetsMayStrike → (g : Machine) (ticks k : ℕ) (lines : List UpsetLine) → IsComplete g → AllFit g.system.conf ticks 0 lines → All (MayStrike g) (due lines k)
due_fits_strike law g ticks k lines complete fit = due_strike g k lines (fits_strike law g ticks 0 lines complete fit)
