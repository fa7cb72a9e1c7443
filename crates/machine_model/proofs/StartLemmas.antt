-- Each partition boots as it boots alone; so two runs in which it receives the same are the same for it.
use Rattle.std.proofs.Common.{◌≡◌, ℕ, ◌<◌, Bool, true, false, List, length, map, Option, None, Some, refl, sym, ap, ◌∙◌}
use Rattle.std.specs.Prelude.{slice_get, ◌==◌, if◌then◌else◌}
use Rattle.xm_base.specs.Options.{on}
use Rattle.xm_conf.specs.Configuration.{Chan, Conf}
use Rattle.xm_conf.specs.View.{channel_of}
use Rattle.xm_ports.specs.Channels.{Content, empty, shape_of, shapes_of}
use Rattle.machine_model.specs.Alone.{Alone, alone_from, alone_lines, alone_said, alone_start, empty_copy}
use Rattle.machine_model.specs.Cue.{script}
use Rattle.machine_model.specs.Laws.{BootsAlone, TwoRuns, part, alone_part_at}
use Rattle.machine_model.specs.Lines.{lines, own, said}
use Rattle.machine_model.specs.Lists.{each, is_number, then_some}
use Rattle.machine_model.specs.Machine.{booted_part, copies, run, start}
use Rattle.machine_model.specs.Partition.{PartitionState, booted}
use Rattle.machine_model.specs.Traffic.{content_if, copies_of}
use Rattle.machine_model.specs.View.{System, if_named, name_of, named, part_of, port_channel, view_of, with_its_name, with_name}
use Rattle.machine_model.specs.lemmas.ListLemmas.{each_table, get_map, get_table, same_tables}
use Rattle.machine_model.proofs.RunLemmas.{all_ticks, part_there}

-- an empty channel, with its shape
empty_at : (chans : List Chan) (c : ℕ) (o : Option Chan) → slice_get chans c ≡ o → slice_get (map empty (map shape_of chans)) c ≡ on (λ chan. empty (shape_of chan)) o
empty_at chans c None is = get_map empty (map shape_of chans) c ∙ ap (on empty) (get_map shape_of chans c ∙ ap (on shape_of) is)
empty_at chans c (Some chan) is = get_map empty (map shape_of chans) c ∙ ap (on empty) (get_map shape_of chans c ∙ ap (on shape_of) is)

-- a copy that is made where a test holds
copy_where : Bool → Option Chan → Option Content
copy_where b None = None
copy_where b (Some chan) = if b then Some (empty (shape_of chan)) else None

-- the copy of an empty channel that has a name, or has none
named_copy : (chans : List Chan) (c : ℕ) (b : Bool) (o : Option Chan) → slice_get chans c ≡ o
    → content_if (map empty (map shape_of chans)) (then_some b c) ≡ copy_where b o
unfolding copy_where
named_copy chans c true None is = empty_at chans c None is
named_copy chans c true (Some chan) is = empty_at chans c (Some chan) is
named_copy chans c false None is = refl
named_copy chans c false (Some chan) is = refl

shown_copy : (q m : ℕ) (o : Option Chan) → copy_where (m == q) o ≡ empty_copy q (with_name o (Some m))
unfolding copy_where
shown_copy q m None = refl
shown_copy q m (Some chan) = refl

empty_named : (chans : List Chan) (q c : ℕ) (name : Option ℕ) (chan : Option Chan) → slice_get chans c ≡ chan
    → content_if (map empty (map shape_of chans)) (then_some (is_number name q) c) ≡ empty_copy q (with_name chan name)
empty_named chans q c None None is = refl
empty_named chans q c None (Some chan) is = refl
empty_named chans q c (Some m) chan is = named_copy chans c (m == q) chan is ∙ shown_copy q m chan

empty_by : (conf : Conf) (p q : ℕ) (o : Option ℕ)
    → content_if (map empty (map shape_of conf.chans)) (if_named conf p q o) ≡ empty_copy q (with_its_name conf p o)
empty_by conf p q None = refl
empty_by conf p q (Some c) = empty_named conf.chans q c (name_of conf p c) (slice_get conf.chans c) refl

empty_same : (conf : Conf) (p q : ℕ) → content_if (map empty (shapes_of conf)) (named conf p q) ≡ empty_copy q (port_channel conf p q)
unfolding named port_channel shapes_of
empty_same conf p q = empty_by conf p q (channel_of conf p q)

-- the copies of a partition that boots
empty_copies : (system : System) (p : ℕ) → copies (start system) p ≡ each empty_copy (view_of system p).channels
unfolding copies start copies_of view_of
empty_copies system p =
    same_tables (λ q. content_if (map empty (shapes_of system.conf)) (named system.conf p q)) (λ q. empty_copy q (port_channel system.conf p q)) (length (part_of system.conf p).ports) (empty_same system.conf p)
    ∙ sym (each_table empty_copy (port_channel system.conf p) (length (part_of system.conf p).ports))

-- one partition alone, of its state and its copies, at the start
abbrev started_of : PartitionState → List (Option Content) → Alone
started_of state contents = record { state = state; copies = contents; ticks = 0; time = 0 }

start_same : (system : System) (p : ℕ) → part (start system) p (booted_part system p) ≡ alone_start (view_of system p)
unfolding part start alone_start
start_same system p = ap (started_of (booted (view_of system p))) (empty_copies system p)

pub start_there : (system : System) (p : ℕ) → p < length system.conf.parts → slice_get (start system).parts p ≡ Some (booted_part system p)
unfolding start
start_there system p below = get_table (booted_part system) (length system.conf.parts) p below

pub boots_alone : BootsAlone
boots_alone system p below = part_there (start system) p (booted_part system p) (start_there system p below) ∙ ap Some (start_same system p)

pub start_system : (system : System) → (start system).system ≡ system
unfolding start
start_system system = refl

-- a run from the start is, for a partition, its run alone from its start
pub record StartsAlone (system : System) (p count : ℕ) : Type 0 where
  pub state : alone_part_at (run (start system) count) p ≡ Some (alone_from (view_of system p) (alone_start (view_of system p)) (script (start system) p count))
  pub lines : own p (lines (start system) count) ≡ alone_lines (view_of system p) (alone_start (view_of system p)) (script (start system) p count)
  pub said : said (start system) count p ≡ alone_said (view_of system p) (alone_start (view_of system p)) (script (start system) p count)

pub starts_alone : (system : System) (p count : ℕ) → p < length system.conf.parts → StartsAlone system p count
starts_alone system p count below =
    let runs = all_ticks count (start system) p (booted_part system p) (start_there system p below) in
    let views : view_of (start system).system p ≡ view_of system p = ap (λ s. view_of s p) (start_system system) in
    record {
      state = runs.state ∙ ap (λ v. Some (alone_from v (part (start system) p (booted_part system p)) (script (start system) p count))) views
          ∙ ap (λ a. Some (alone_from (view_of system p) a (script (start system) p count))) (start_same system p);
      lines = runs.lines ∙ ap (λ v. alone_lines v (part (start system) p (booted_part system p)) (script (start system) p count)) views
          ∙ ap (λ a. alone_lines (view_of system p) a (script (start system) p count)) (start_same system p);
      said = runs.said ∙ ap (λ v. alone_said v (part (start system) p (booted_part system p)) (script (start system) p count)) views
          ∙ ap (λ a. alone_said (view_of system p) a (script (start system) p count)) (start_same system p);
    }

pub two_runs : TwoRuns
two_runs one other p count alike =
    let first = starts_alone one p count alike.in_one in
    let second = starts_alone other p count alike.in_other in
    record {
      state = first.state ∙ ap (λ v. Some (alone_from v (alone_start v) (script (start one) p count))) alike.view
          ∙ ap (λ cues. Some (alone_from (view_of other p) (alone_start (view_of other p)) cues)) alike.script ∙ sym second.state;
      lines = first.lines ∙ ap (λ v. alone_lines v (alone_start v) (script (start one) p count)) alike.view
          ∙ ap (alone_lines (view_of other p) (alone_start (view_of other p))) alike.script ∙ sym second.lines;
      said = first.said ∙ ap (λ v. alone_said v (alone_start v) (script (start one) p count)) alike.view
          ∙ ap (alone_said (view_of other p) (alone_start (view_of other p))) alike.script ∙ sym second.said;
    }
