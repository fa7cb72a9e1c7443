-- A partition of a machine that was only booted, by itself.
use Rattle.std.proofs.Common.{◌≡◌, ℕ, ◌<◌, false, length, Some, refl, sym, ap, ◌∙◌, arith}
use Rattle.std.proofs.lemmas.Option.{slice_get-get_or}
use Rattle.xm_base.specs.Options.{on}
use Rattle.machine_model.specs.Alone.{Alone, alone_start}
use Rattle.machine_model.specs.CoreFile.{core_file}
use Rattle.machine_model.specs.Facts.{BootsComplete}
use Rattle.machine_model.specs.Laws.{BootsAlone, part, alone_part_at}
use Rattle.machine_model.specs.Lines.{end_line}
use Rattle.machine_model.specs.Machine.{Machine, booted_part, start}
use Rattle.machine_model.specs.View.{System, view_of}
use Rattle.span_model.specs.Passes as passes
use Rattle.replay_model.specs.Passes.{part_in}
use Rattle.xm_alone.specs.Replay.{lone_in}
use Rattle.recording_model.specs.Lone.{Lone, booted_alone, own_view}

-- what is there is one thing
some_is : (a b : Alone) → Some a ≡ Some b → a ≡ b
some_is a b same = cc

-- a partition's part, where there is the partition
part_there : (g : Machine) (p : ℕ) (a : Alone) → p < length g.parts → alone_part_at g p ≡ Some a → part_in g p ≡ a
unfolding alone_part_at
part_there g p a there is = some_is (part_in g p) a (sym (ap (on (part g p)) (slice_get-get_or g.parts p (booted_part g.system p) there)) ∙ is)

-- a partition by itself, field by field
lone_is : (g : Machine) (system : System) (p : ℕ) (a : Alone) → g.system ≡ system → part_in g p ≡ a → g.halted ≡ false → lone_in g p ≡ record { system = system; p = p; part = a; halted = false }
lone_is g system p a same is runs = λ i. record { system = same i; p = p; part = is i; halted = runs i }

-- a machine that boots runs its system, and has not halted
pub booted-system : (system : System) → (start system).system ≡ system
unfolding start
booted-system system = refl

booted-runs : (system : System) → (start system).halted ≡ false
unfolding start
booted-runs system = refl

-- it has the partitions of its configuration
pub booted-there : BootsComplete → (system : System) (g : Machine) (p : ℕ) → p < length system.conf.parts → g ≡ start system → p < length g.parts
booted-there complete system g p there is = omega (arith, there, (complete system).parts, ap (λ (m : Machine). length m.parts) is, ap (λ (s : System). length s.conf.parts) (booted-system system))

-- each of them is as it boots
pub booted-lone : BootsAlone → BootsComplete → (system : System) (g : Machine) (p : ℕ) → p < length system.conf.parts → g ≡ start system → lone_in g p ≡ booted_alone system p
booted-lone boots complete system g p there is =
    ap (λ (m : Machine). lone_in m p) is
    ∙ lone_is (start system) system p (alone_start (view_of system p)) (booted-system system)
    (part_there (start system) p (alone_start (view_of system p)) (booted-there complete system (start system) p there refl) (boots system p there)) (booted-runs system)

-- so it is by what the machine runs
pub booted-fresh : BootsAlone → BootsComplete → (system : System) (g : Machine) (p : ℕ) → p < length system.conf.parts → g ≡ start system → lone_in g p ≡ booted_alone g.system p
booted-fresh boots complete system g p there is =
    booted-lone boots complete system g p there is ∙ ap (λ (s : System). booted_alone s p) (sym (ap (λ (m : Machine). m.system) is ∙ booted-system system))

-- what is said of a system holds of what the machine runs
pub booted-same : (system : System) (g : Machine) → g ≡ start system → g.system ≡ system
booted-same system g is = ap (λ (m : Machine). m.system) is ∙ booted-system system

-- the core file of a partition of a machine is that of the partition by itself
pub core-same : (lone : Lone) (g : Machine) (p : ℕ) → lone_in g p ≡ lone → core_file (view_of g.system p) (passes.part_at p g) ≡ core_file (own_view lone) lone.part.state
unfolding part
core-same lone g p is = ap (λ (l : Lone). core_file (own_view l) l.part.state) is

-- and so is the line of its end
pub end-same : (lone : Lone) (g : Machine) (p : ℕ) → lone_in g p ≡ lone → end_line p (passes.part_at p g) ≡ end_line lone.p lone.part.state
unfolding part
end-same lone g p is = ap (λ (l : Lone). end_line l.p l.part.state) is
