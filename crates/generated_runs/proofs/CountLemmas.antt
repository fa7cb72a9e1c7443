-- What is counted at the end of a run is few, and each channel is a queue.
use Rattle.std.proofs.Common.{◌≡◌, ℕ, zero, suc, ◌<◌, ◌≤◌, Bool, true, false, List, [], get_or, ap, ◌∙◌, refl, sym, subst, arith}
use Rattle.std.proofs.lemmas.Option.{slice_get-get_or}
use Rattle.xm_conf.specs.Configuration.{Conf}
use Rattle.xm_ports.specs.Channels.{ChannelTable, HasQueue, Shape, shapes_of}
use Rattle.machine_model.specs.Machine.{Machine}
use Rattle.machine_model.specs.Structures.{flag}
use Rattle.tick_steps.specs.Machine.{IsCounted}
use Rattle.generated_system.specs.Generated.{all_chans, chan_of, generated_conf, conf_with}
use Rattle.generated_runs.specs.lemmas.Short.{AreShort}

-- each partition's clock counted at most the ticks that were begun
pub are_short : (g : Machine) → IsCounted g → AreShort g
are_short g counted k d below = omega (arith, (counted.facts k (get_or g.parts k d) (slice_get-get_or g.parts k d below)).execution, counted.ticks, one_at_most g.halted)
  where
    one_at_most : (b : Bool) → flag b ≤ 1
    one_at_most true = omega arith
    one_at_most false = omega arith

-- all channels of a generated system are queues
has_queue : (c : ℕ) → c < 8 → HasQueue c (record { shapes = shapes_of (generated_conf 0); contents = [] })
unfolding shapes_of generated_conf conf_with all_chans chan_of
has_queue zero below = tt
has_queue (suc zero) below = tt
has_queue (suc (suc zero)) below = tt
has_queue (suc (suc (suc zero))) below = tt
has_queue (suc (suc (suc (suc zero)))) below = tt
has_queue (suc (suc (suc (suc (suc zero))))) below = tt
has_queue (suc (suc (suc (suc (suc (suc zero)))))) below = tt
has_queue (suc (suc (suc (suc (suc (suc (suc zero))))))) below = tt
has_queue (suc (suc (suc (suc (suc (suc (suc (suc c)))))))) below = absurd (omega (arith, below))

shapes_same : (number : ℕ) → shapes_of (generated_conf number) ≡ shapes_of (generated_conf 0)
unfolding shapes_of generated_conf conf_with
shapes_same number = refl

pub has_queues : (number : ℕ) (table : ChannelTable) (conf : Conf) → table.shapes ≡ shapes_of conf → conf ≡ generated_conf number → (c : ℕ) → c < 8 → HasQueue c table
has_queues number table conf shapes is c below =
    subst (λ (all : List Shape). HasQueue c (record { shapes = all; contents = [] })) (sym (shapes ∙ ap shapes_of is ∙ shapes_same number)) (has_queue c below)
