-- What a partition receives in a tick fits into the fields of a script.
use Rattle.std.proofs.Common.{ℕ, zero, suc, Bool, true, false, None, Option, Some, sym, subst, arith}
use Rattle.xm_conf.specs.Configuration.{Conf}
use Rattle.xm_conf.specs.Description.{described}
use Rattle.xm_conf.specs.Fits.{Fits}
use Rattle.machine_model.specs.Cue.{cue, cue_in, unless_own}
use Rattle.machine_model.specs.Emission.{NotKept, OwnTraffic, Sight, Unseen, Words}
use Rattle.machine_model.specs.Facts.{HasFacts, KeepsFacts, RunsKeepNumbers}
use Rattle.machine_model.specs.Lengths.{PutsAtMost, PutsFewBytes, ShowsAtMost, ShowsFewBytes}
use Rattle.machine_model.specs.Lists.{is_number}
use Rattle.machine_model.specs.Machine.{Machine, happened, run, sight, step}
use Rattle.machine_model.specs.Traffic.{Puts, Signals, Still, Takes, Traffic, heard_as, own_puts_at, own_signals_at, own_takes_at}
use Rattle.machine_model.specs.View.{System, linked, name_of}
use Rattle.cue_scripts.specs.Kept.{HasCueRanges, HasSightRange, HasTrafficRange}

-- a message of at most 4096 bytes has a length of two bytes, under whichever name
few_heard : (conf : Conf) (p : ℕ) (traffic : Traffic) → PutsAtMost 4096 traffic → HasTrafficRange (heard_as conf p traffic)
few_heard conf p Still few = tt
few_heard conf p (Puts channel bytes) few = put (name_of conf p channel)
  where
    put : (name : Option ℕ) → HasTrafficRange (own_puts_at name bytes)
    put None = tt
    put (Some name) = omega (arith, few)
few_heard conf p (Takes channel) few = taken (name_of conf p channel)
  where
    taken : (name : Option ℕ) → HasTrafficRange (own_takes_at name)
    taken None = tt
    taken (Some name) = tt
few_heard conf p (Signals source number) few = signalled (is_number (linked conf source number) p)
  where
    signalled : (reaches : Bool) → HasTrafficRange (own_signals_at reaches number)
    signalled true = tt
    signalled false = tt

few_received : (own : Bool) (traffic : OwnTraffic) → HasTrafficRange traffic → HasTrafficRange (unless_own own traffic)
few_received true traffic few = tt
few_received false traffic few = few

few_seen : (seen : Sight) → ShowsAtMost 24 seen → HasSightRange seen
few_seen Unseen few = tt
few_seen NotKept few = tt
few_seen (Words bytes) few = omega (arith, few)

-- so what a partition receives in a tick is in the ranges of its fields
few_cued : (g : Machine) (p : ℕ) → PutsAtMost 4096 (happened g).traffic → ShowsAtMost 24 (sight g p) → HasCueRanges (cue g p)
unfolding cue cue_in
few_cued g p puts shows = record { traffic = few_received _ _ (few_heard _ _ (happened g).traffic puts); seen = few_seen (sight g p) shows }

-- what holds of each partition at all times holds of it after a run, too
runs_facts : KeepsFacts → (count : ℕ) (g : Machine) → HasFacts g → HasFacts (run g count)
runs_facts keeps zero g facts = facts
runs_facts keeps (suc count) g facts = runs_facts keeps count (step g) (keeps g facts)

pub later_ranges : PutsFewBytes → ShowsFewBytes → KeepsFacts → RunsKeepNumbers → (count : ℕ) (g : Machine) (p : ℕ) → Fits (described g.system.conf) → HasFacts g → HasCueRanges (cue (run g count) p)
later_ranges puts shows facts keeps count g p fits has =
    few_cued (run g count) p (puts (run g count) (subst (λ (s : System). Fits (described s.conf)) (sym ((keeps g count).system)) fits))
    (shows (run g count) p (runs_facts facts count g has))
