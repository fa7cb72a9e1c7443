-- What is gathered out of a draft is gathered of its description.
use Rattle.std.proofs.Common.{◌≡◌, ℕ, ◌+◌, ◌<◌, List, [], ◌∷◌, length, map, Option, Some, None, is_some, refl, sym, ap, ◌∙◌, subst, length-append, arith}
use Rattle.std.specs.Prelude.{All, filter_map}
use Rattle.std.specs.List.{find, cons_option}
use Rattle.std.proofs.lemmas.List.Elements.{All-append, All-cons, All-nil}
use Rattle.xm_base.specs.Options.{on}
use Rattle.xm_conf.specs.Along.{each_from}
use Rattle.xm_conf.specs.Configuration.{Part, Plan}
use Rattle.xm_conf.specs.Description.{Monitor, PlanIds}
use Rattle.xm_conf.specs.Health.{events}
use Rattle.xm_conf.specs.declared.health.Action.{Action}
use Rattle.xm_conf.specs.declared.health.Event.{Event}
use Rattle.xm_conf.specs.declared.part.HmTable.{HmTable}
use Rattle.xmcf_reader.specs.declared.draft.Element.{Element}
use Rattle.xmcf_reader.specs.declared.draft.Element.TheVariants as element
use Rattle.xmcf_reader.specs.declared.draft.Entry.{Entry}
use Rattle.xmcf_check.specs.lemmas.Capped.{capped_conf, capped_part, capped_plan, capped_slot}
use Rattle.xmcf_check.specs.Described as described
use Rattle.xmcf_check.specs.Elements.{element_frame, element_answer, element_own, part_id_of, plan_id_of, slot_id_of, element_slot, uart_id_of, uart_of}
use Rattle.xmcf_check.specs.lemmas.Gathered.{Gathered}
use Rattle.xmcf_check.specs.lemmas.Judged as judged
use Rattle.xmcf_check.specs.declared.elements.Given.{Given}
use Rattle.xmcf_check.specs.declared.elements.Own.{Own}
use Rattle.xmcf_check.proofs.GivenLemmas.{action_for-given, flags-below, length-filter_map, map-each}

-- Elements that have a value have an id, too.

-- an element has one of two values exactly where it has the other
pub record Paired (element : Element) : Type 0 where
  pub uart : is_some (uart_id_of element) ≡ is_some (uart_of element)
  pub plan : is_some (plan_id_of element) ≡ is_some (element_frame element)
  pub slot : is_some (slot_id_of element) ≡ is_some (element_slot element)
  pub part : is_some (part_id_of element) ≡ is_some (element_own element)

-- so it is with each element
paired : (e : Element) → Paired e
paired (element.System name) = record { uart = refl; plan = refl; slot = refl; part = refl }
paired element.Hw = record { uart = refl; plan = refl; slot = refl; part = refl }
paired element.MemoryLayout = record { uart = refl; plan = refl; slot = refl; part = refl }
paired (element.Region start size) = record { uart = refl; plan = refl; slot = refl; part = refl }
paired element.ProcessorTable = record { uart = refl; plan = refl; slot = refl; part = refl }
paired (element.Processor id) = record { uart = refl; plan = refl; slot = refl; part = refl }
paired element.CyclicPlanTable = record { uart = refl; plan = refl; slot = refl; part = refl }
paired (element.Plan id frame) = record { uart = refl; plan = refl; slot = refl; part = refl }
paired (element.Slot id start duration part) = record { uart = refl; plan = refl; slot = refl; part = refl }
paired element.Devices = record { uart = refl; plan = refl; slot = refl; part = refl }
paired (element.Uart id name) = record { uart = refl; plan = refl; slot = refl; part = refl }
paired element.Hypervisor = record { uart = refl; plan = refl; slot = refl; part = refl }
paired (element.HvArea size) = record { uart = refl; plan = refl; slot = refl; part = refl }
paired element.PartitionTable = record { uart = refl; plan = refl; slot = refl; part = refl }
paired (element.Partition id name system console) = record { uart = refl; plan = refl; slot = refl; part = refl }
paired element.Areas = record { uart = refl; plan = refl; slot = refl; part = refl }
paired (element.Area start size read_only) = record { uart = refl; plan = refl; slot = refl; part = refl }
paired (element.Need duration period) = record { uart = refl; plan = refl; slot = refl; part = refl }
paired element.HealthMonitor = record { uart = refl; plan = refl; slot = refl; part = refl }
paired (element.Event event action log) = record { uart = refl; plan = refl; slot = refl; part = refl }
paired (element.Trace mask) = record { uart = refl; plan = refl; slot = refl; part = refl }
paired element.PortTable = record { uart = refl; plan = refl; slot = refl; part = refl }
paired (element.Port name kind way) = record { uart = refl; plan = refl; slot = refl; part = refl }
paired element.Channels = record { uart = refl; plan = refl; slot = refl; part = refl }
paired (element.Sampling size refresh) = record { uart = refl; plan = refl; slot = refl; part = refl }
paired (element.Queuing size most) = record { uart = refl; plan = refl; slot = refl; part = refl }
paired (element.Source part name) = record { uart = refl; plan = refl; slot = refl; part = refl }
paired (element.Destination part name) = record { uart = refl; plan = refl; slot = refl; part = refl }
paired (element.Ipvi id source dest) = record { uart = refl; plan = refl; slot = refl; part = refl }

-- Lists.

-- functions that agree make the same list
map-same : {X Y : Type 0} (f g : X → Y) → ((x : X) → f x ≡ g x) → (xs : List X) → map f xs ≡ map g xs
map-same f g same [] = refl
map-same f g same (x ∷ xs) = ap (λ y. y ∷ map f xs) (same x) ∙ ap (λ ys. g x ∷ ys) (map-same f g same xs)

-- a map of a map
map-made : {X Y Z : Type 0} (f : Y → Z) (g : X → Y) (xs : List X) → map f (map g xs) ≡ map (λ x. f (g x)) xs
map-made f g [] = refl
map-made f g (x ∷ xs) = ap (λ ys. f (g x) ∷ ys) (map-made f g xs)

-- a map is as long
map-length : {X Y : Type 0} (f : X → Y) (xs : List X) → length (map f xs) ≡ length xs
map-length f [] = refl
map-length f (x ∷ xs) = omega (arith, map-length f xs)

-- a fact on all that elements add
all-each : {X Y : Type 0} (P : Y → Type 0) (f : ℕ → X → List Y) → ((n : ℕ) (x : X) → All P (f n x)) → (n : ℕ) (xs : List X) → All P (each_from f n xs)
all-each P f all n [] = All-nil P
all-each P f all n (x ∷ xs) = All-append P (f n x) (each_from f (n + 1) xs) (all n x) (all-each P f all (n + 1) xs)

-- elements that add one where another function picks one add as many
length-each : {X Y A : Type 0} (f : ℕ → X → List Y) (h : X → Option A) → ((n : ℕ) (x : X) → length (f n x) ≡ length (cons_option (h x) [])) → (n : ℕ) (xs : List X) → length (each_from f n xs) ≡ length (filter_map h xs)
length-each f h same n [] = refl
length-each f h same n (x ∷ xs) = length-append (f n x) (each_from f (n + 1) xs) ∙ at (h x) (same n x) (length-each f h same (n + 1) xs)
  where
    at : (o : Option _) → length (f n x) ≡ length (cons_option o []) → length (each_from f (n + 1) xs) ≡ length (filter_map h xs) → length (f n x) + length (each_from f (n + 1) xs) ≡ length (cons_option o (filter_map h xs))
    at None one rest = omega (arith, one, rest)
    at (Some y) one rest = omega (arith, one, rest)

-- What partitions say of health events.

-- the action that is given, by its answer
action-answer : (e : Event) (o : Option Given) → described.given_or_default e o ≡ judged.action_or_default e (on described.given_answer o)
action-answer e None = refl
action-answer e (Some given) = refl

-- the action for an event, in the order of the text and in that of the events
action-same : (given : List Given) (e : Event) → described.given_action_for given e ≡ judged.action_for (described.answers_of given) e
unfolding described.given_action_for described.given_to described.answers_of described.answers_to
action-same given e = action-answer e (find (described.is_to e) given) ∙ sym (action_for-given described.given_answer given e)

-- a table, in the order of the text and in that of the events
table-same : (given : List Given) → described.hm_of given ≡ judged.health_table_of (record { logged = described.logged_of given; answers = described.answers_of given })
unfolding described.hm_of judged.health_table_of
table-same given = ap (λ (actions : List Action). record { actions = actions; logged = described.logged_of given }) (map-same (described.given_action_for given) (judged.action_for (described.answers_of given)) (action-same given) events)

-- the tables of the partitions
part-table : (uarts : List (List ℕ)) (entries : List Entry) (n : ℕ) (x : Entry) → map (λ part. part.hm) (described.described_part uarts entries n x) ≡ map judged.health_table_of (described.described_monitor entries n x)
unfolding described.described_part described.described_monitor
part-table uarts entries n x = at (element_own x.what) (part_id_of x.what) (paired x.what).part
  where
    at : (own : Option Own) (id : Option ℕ) → is_some id ≡ is_some own → map (λ part. part.hm) (described.part_with uarts (described.children n entries) (described.grandchildren n entries) own) ≡ map judged.health_table_of (described.monitor_with (described.grandchildren n entries) id)
    at None None is = refl
    at None (Some id) is = absurd (let no : ⊥ = cc in no)
    at (Some own) None is = absurd (let no : ⊥ = cc in no)
    at (Some own) (Some id) is = ap (λ (table : HmTable). table ∷ []) (table-same (described.among element_answer (described.grandchildren n entries)))

-- all tables
tables-same : (entries : List Entry) → map (λ part. part.hm) (described.parts_of entries) ≡ map judged.health_table_of (described.monitors_of entries)
unfolding described.parts_of described.parts_by described.monitors_of
tables-same entries = map-each (λ (part : Part). part.hm) judged.health_table_of (described.described_part (described.uarts_of entries) entries) (described.described_monitor entries) (part-table (described.uarts_of entries) entries) 0 entries

-- the flags of a partition's events are bits 0 to 11
logged-below : (given : List Given) → described.logged_of given < 4096
unfolding described.logged_of described.flag_for
logged-below given = flags-below (λ e. described.log_given (described.given_to given e))

-- so it is with each partition
monitor-below : (entries : List Entry) (n : ℕ) (x : Entry) → All (λ (monitor : Monitor). monitor.logged < 4096) (described.described_monitor entries n x)
unfolding described.described_monitor
monitor-below entries n x = at (part_id_of x.what)
  where
    at : (id : Option ℕ) → All (λ (monitor : Monitor). monitor.logged < 4096) (described.monitor_with (described.grandchildren n entries) id)
    at None = All-nil (λ (monitor : Monitor). monitor.logged < 4096)
    at (Some id) = All-cons (λ (monitor : Monitor). monitor.logged < 4096) _ [] (logged-below _) (All-nil (λ (monitor : Monitor). monitor.logged < 4096))

-- the flags of all
all-below : (entries : List Entry) → All (λ (monitor : Monitor). monitor.logged < 4096) (described.monitors_of entries)
unfolding described.monitors_of
all-below entries = all-each (λ (monitor : Monitor). monitor.logged < 4096) (described.described_monitor entries) (monitor-below entries) 0 entries

-- Sizes.

-- a plan has as many ids of slots as slots
plan-slots : (entries : List Entry) (n : ℕ) (x : Entry) → map (λ (plan : PlanIds). length plan.slots) (described.plan_ids_at entries n x) ≡ map (λ (plan : Plan). length (capped_plan plan).slots) (described.described_plan entries n x)
unfolding described.plan_ids_at described.described_plan capped_plan
plan-slots entries n x = at (plan_id_of x.what) (element_frame x.what) (paired x.what).plan
  where
    at : (id frame : Option ℕ) → is_some id ≡ is_some frame → map (λ (plan : PlanIds). length plan.slots) (described.plan_ids_with (described.children n entries) id) ≡ map (λ (plan : Plan). length (map capped_slot plan.slots)) (described.plan_of_children (described.children n entries) frame)
    at None None is = refl
    at None (Some frame) is = absurd (let no : ⊥ = cc in no)
    at (Some id) None is = absurd (let no : ⊥ = cc in no)
    at (Some id) (Some frame) is =
        ap (λ (count : ℕ). count ∷ [])
        (length-filter_map (λ (entry : Entry). slot_id_of entry.what) (λ (entry : Entry). element_slot entry.what) (λ entry. (paired entry.what).slot) (described.children n entries)
        ∙ sym (map-length capped_slot (described.among element_slot (described.children n entries))))

-- the partition that an entry is, or none
part-one : (uarts : List (List ℕ)) (entries : List Entry) (n : ℕ) (x : Entry) → length (described.described_part uarts entries n x) ≡ length (cons_option (part_id_of x.what) [])
unfolding described.described_part
part-one uarts entries n x = at (element_own x.what) (part_id_of x.what) (paired x.what).part
  where
    at : (own : Option Own) (id : Option ℕ) → is_some id ≡ is_some own → length (described.part_with uarts (described.children n entries) (described.grandchildren n entries) own) ≡ length (cons_option id [])
    at None None is = refl
    at None (Some id) is = absurd (let no : ⊥ = cc in no)
    at (Some own) None is = absurd (let no : ⊥ = cc in no)
    at (Some own) (Some id) is = refl

-- there are as many ids as items that have them, and answers for each partition
sizes : (entries : List Entry) → judged.HasSizes (judged.gathered_of (capped_conf (described.described_conf entries)) (described.described_ids entries) (map (λ (monitor : Monitor). monitor.answers) (described.monitors_of entries)))
unfolding capped_conf described.described_conf described.described_ids described.uarts_of described.plans_of described.plans_ids_of described.parts_of described.parts_by
sizes entries =
    let parts = described.parts_of entries in
    record {
      uarts = length-filter_map (λ (entry : Entry). uart_id_of entry.what) (λ (entry : Entry). uart_of entry.what) (λ entry. (paired entry.what).uart) entries;
      slots = map-each (λ (plan : PlanIds). length plan.slots) (λ (plan : Plan). length (capped_plan plan).slots) (described.plan_ids_at entries) (described.described_plan entries) (plan-slots entries) 0 entries
          ∙ sym (map-made (λ (plan : Plan). length plan.slots) capped_plan (described.plans_of entries));
      parts = sym (length-each (described.described_part (described.uarts_of entries) entries) (λ (entry : Entry). part_id_of entry.what) (part-one (described.uarts_of entries) entries) 0 entries)
          ∙ sym (map-length capped_part parts);
      answers = map-length (λ (monitor : Monitor). monitor.answers) (described.monitors_of entries)
          ∙ sym (map-length judged.health_table_of (described.monitors_of entries))
          ∙ ap length (sym (tables-same entries))
          ∙ map-length (λ (part : Part). part.hm) parts
          ∙ sym (map-length capped_part parts);
    }

-- the tables of the configuration
tables-conf : (entries : List Entry) → map (λ (part : Part). part.hm) (described.described_conf entries).parts ≡ map judged.health_table_of (described.monitors_of entries)
unfolding described.described_conf
tables-conf entries = tables-same entries

-- what is gathered of a draft is gathered of its description
pub gathers : (g : Gathered) (entries : List Entry) → g.raw ≡ capped_conf (described.description_of entries).conf → g.ids ≡ (described.description_of entries).ids → g.answers ≡ map (λ (monitor : Monitor). monitor.answers) (described.description_of entries).monitors → judged.Gathers g (described.description_of entries)
unfolding described.description_of
gathers g entries conf ids answers =
    let same : g ≡ judged.gathered_of (capped_conf (described.described_conf entries)) (described.described_ids entries) (map (λ (monitor : Monitor). monitor.answers) (described.monitors_of entries)) =
    λ i. judged.gathered_of (conf i) (ids i) (answers i) in
    record {
      conf = conf;
      ids = ids;
      answers = answers;
      logged = all-below entries;
      tables = tables-conf entries;
      sizes = subst judged.HasSizes (sym same) (sizes entries);
    }
