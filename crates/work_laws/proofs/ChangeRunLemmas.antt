-- Each tick of a run changes few bytes.
use Rattle.std.proofs.Common.{◌≡◌, ℕ, zero, suc, ◌≤◌, Bool, true, false, List, [], ◌∷◌, length, Option, None, Some, refl, sym, ap, ◌∙◌, arith, subst, inl}
use Rattle.std.specs.Prelude.{◌-◌, if◌then◌else◌, slice_get, slice_index_or, All, IfSome, nat_lt}
use Rattle.std.proofs.lemmas.List.Elements.{All-head, All-tail}
use Rattle.xm_conf.specs.Configuration.{Chan}
use Rattle.xm_conf.specs.Description.{described}
use Rattle.xm_conf.specs.Fits.{Fits, IsChan}
use Rattle.xm_conf.specs.declared.channel.ChanKind.{ChanKind}
use Rattle.xm_conf.specs.declared.channel.ChanKind.TheVariants as chan_kind
use Rattle.xm_ports.specs.Channels.{Content, IsMessage, Queuing, Sampling, SuitsKind}
use Rattle.xm_traces.specs.Ring.{Kept, entry_at, first_kept}
use Rattle.xm_traces.specs.declared.entry.TraceEntry.{TraceEntry}
use Rattle.machine_model.specs.Alone.{alone_step}
use Rattle.machine_model.specs.Cue.{cue, cue_in}
use Rattle.machine_model.specs.Facts.{HasFacts, HasShapes, HaveEight, RunsKeepNumbers, RunsWithFacts, RunsWithShapes}
use Rattle.machine_model.specs.Laws.{OneTick, part}
use Rattle.machine_model.specs.Lengths.{ShowsFewBytes}
use Rattle.machine_model.specs.Machine.{Machine, copies, run, start, step, step_unless}
use Rattle.machine_model.specs.Partition.{PartitionState}
use Rattle.machine_model.specs.Traffic.{content_if, copies_of}
use Rattle.machine_model.specs.View.{System, named, part_of, view_of}
use Rattle.machine_model.specs.lemmas.EndLemmas.{all_at, table_some}
use Rattle.work_laws.specs.Changes.{ChangesFewIn, HoldsShort, IsShort, RunsChangeFew, TickChangesFew}
use Rattle.work_laws.proofs.ChangeLemmas.{stays_as}
use Rattle.work_laws.proofs.LabelLemmas.{state_there}

-- what a channel holds is no longer than its messages may be
all_short : (most : ℕ) (messages : List (List ℕ)) → most ≤ 4096 → All (IsMessage most) messages → All (λ message. length message ≤ 4096) messages
all_short most messages below each = λ k d inside. (let e = (each k d inside).fit in omega (arith, below, e))

kind_short : (the_kind : ChanKind) (most : ℕ) (content : Content) → most ≤ 4096 → SuitsKind the_kind most content → HoldsShort 4096 content
kind_short (chan_kind.Sampling refresh) most (Sampling None) below suits = tt
kind_short (chan_kind.Sampling refresh) most (Sampling (Some sample)) below suits = omega (arith, below, suits.fit)
kind_short (chan_kind.Sampling refresh) most (Queuing messages) below suits = absurd suits
kind_short (chan_kind.Queuing room) most (Sampling sample) below suits = absurd suits
kind_short (chan_kind.Queuing room) most (Queuing messages) below suits = all_short most messages below suits.each

pub no_pair : {X Y : Type 0} (xs : List X) (ys : List Y) (c : ℕ) (x : X) → length xs ≡ length ys → slice_get xs c ≡ Some x → slice_get ys c ≡ None → ⊥
no_pair [] ys c x same at none = absurd cc
no_pair (first ∷ xs) [] c x same at none = omega (arith, same)
no_pair (first ∷ xs) (y ∷ ys) zero x same at none = absurd cc
no_pair (first ∷ xs) (y ∷ ys) (suc c) x same at none = no_pair xs ys c x (omega (arith, same)) at none

channel_short : (g : Machine) (c : ℕ) (content : Content) → Fits (described g.system.conf) → HasShapes g → slice_get g.channels c ≡ Some content → HoldsShort 4096 content
unfolding described
channel_short g c content fits shapes held = by (slice_get g.system.conf.chans c) refl
  where
    by : (o : Option Chan) → slice_get g.system.conf.chans c ≡ o → HoldsShort 4096 content
    by None there = absurd (no_pair g.channels g.system.conf.chans c content shapes.counted held there)
    by (Some chan) there = kind_short chan.kind chan.length content (all_at IsChan g.system.conf.chans c chan there fits.messages).most (shapes.suited c chan content there held).held

copy_short : (g : Machine) (p q : ℕ) (content : Content) → Fits (described g.system.conf) → HasShapes g → slice_index_or (copies g p) q None ≡ Some content → HoldsShort 4096 content
unfolding copies copies_of
copy_short g p q content fits shapes held =
    by (named g.system.conf p q) (table_some (λ k. content_if g.channels (named g.system.conf p k)) (length (part_of g.system.conf p).ports) q content held)
  where
    by : (o : Option ℕ) → content_if g.channels o ≡ Some content → HoldsShort 4096 content
    by None there = absurd cc
    by (Some c) there = channel_short g c content fits shapes there

-- an entry that is kept has eight bytes
entry_eight : (kept : Kept TraceEntry) (n : ℕ) → HaveEight kept.entries → IfSome (entry_at n kept) (λ entry. length entry.load ≡ 8)
unfolding entry_at
entry_eight kept n each = by (nat_lt n (first_kept kept)) (nat_lt n kept.next)
  where
    found : (entries : List TraceEntry) (k : ℕ) → HaveEight entries → IfSome (slice_get entries k) (λ entry. length entry.load ≡ 8)
    found [] k all = tt
    found (entry ∷ entries) zero all = All-head (λ (e : TraceEntry). length e.load ≡ 8) entry entries all
    found (entry ∷ entries) (suc k) all = found entries k (All-tail (λ (e : TraceEntry). length e.load ≡ 8) entry entries all)

    by : (below inside : Bool) → IfSome (if below then None else if inside then slice_get kept.entries (n - first_kept kept) else None) (λ entry. length entry.load ≡ 8)
    by true inside = tt
    by false true = found kept.entries (n - first_kept kept) each
    by false false = tt

part_short : ShowsFewBytes → (g : Machine) (p : ℕ) (ps : PartitionState) → Fits (described g.system.conf) → HasFacts g → HasShapes g → slice_get g.parts p ≡ Some ps → IsShort (part g p ps) (cue g p).seen
unfolding part cue cue_in
part_short shows g p ps fits facts shapes there = record {
  messages = λ q content held. copy_short g p q content fits shapes held;
  shown = shows g p facts;
  loads = λ number. entry_eight ps.traces number (facts p ps there).loads;
}

step_changes : OneTick → ShowsFewBytes → TickChangesFew → (g : Machine) (p : ℕ) (ps : PartitionState) → Fits (described g.system.conf) → HasFacts g → HasShapes g → slice_get g.parts p ≡ Some ps → ChangesFewIn g p ps
unfolding step part
step_changes tick shows law g p ps fits facts shapes there = by g.halted refl
  where
    by : (b : Bool) → g.halted ≡ b → ChangesFewIn g p ps
    by true halted = record { after = ps; there = ap (λ h. slice_get (step_unless h g).parts p) halted ∙ there; changes = inl (stays_as 4172 ps.memory ps.memory refl) }
    by false runs = record {
      after = (alone_step (view_of g.system p) (part g p ps) (cue g p)).state;
      there = state_there (step g) p (alone_step (view_of g.system p) (part g p ps) (cue g p)) (tick g p ps runs there).state;
      changes = law (view_of g.system p) (part g p ps) (cue g p) (part_short shows g p ps fits facts shapes there);
    }

booted_system : (system : System) → (start system).system ≡ system
unfolding start
booted_system system = refl

pub runs_change_few : OneTick → ShowsFewBytes → RunsWithFacts → RunsWithShapes → RunsKeepNumbers → TickChangesFew → RunsChangeFew
runs_change_few tick shows facts shapes numbers law system count p ps fits there =
    let same : (run (start system) count).system ≡ system = (numbers (start system) count).system ∙ booted_system system in
    step_changes tick shows law (run (start system) count) p ps (subst (λ (s : System). Fits (described s.conf)) (sym same) fits) (facts system count) (shapes system count fits) there
