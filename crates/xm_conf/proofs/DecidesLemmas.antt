-- What the tests of the rules decide.
use Rattle.std.proofs.Common.{◌≡◌, ◌≢◌, ℕ, zero, suc, get_or, ◌||◌, ◌+◌, ◌<◌, ◌≤◌, Bool, true, false, not, ◌&&◌, nat_lt, nat_le, List, [], ◌∷◌, length, Option, Some, None, refl, sym, ◌∙◌, ap, subst, arith, inl, inr}
use Rattle.std.specs.Prelude.{◌==◌, Decides, Any, IfSome, IsSomeAnd}
use Rattle.std.specs.List.{list_any}
use Rattle.std.specs.Str.{bytes_eq}
use Rattle.std.proofs.lemmas.Bool.Decides.{Decides-and, Decides-eqb, Decides-like, Decides-not, nat_tests}
use Rattle.std.proofs.lemmas.Slice.Eq.{bytes_eq-Decides}
use Rattle.xm_conf.specs.Health.{event_row}
use Rattle.xm_conf.specs.Description.{HealthAnswer, event_numbered}
use Rattle.xm_conf.specs.Rules.{is_sized, is_region, is_paged, addresses, longest, overlaps, has_area, is_time, in_frame, is_kind, is_of_kind, is_way, may_be_end, same_end, has_plan, same_event, is_need, is_console, fits_into, follows, is_link, same_link}
use Rattle.xm_conf.specs.Limits.{link_numbers}
use Rattle.xm_conf.specs.Fits.{IsSized, IsRegion, Apart, LiesIn, IsTime, InFrame, IsKind, IsOfKind, IsEnd, IsNeed, IsLink, DifferLinks}
use Rattle.xm_conf.specs.declared.health.Event.{Event}
use Rattle.xm_conf.specs.declared.health.Event.TheVariants as event
use Rattle.xm_conf.specs.declared.health.Action.{Action}
use Rattle.xm_conf.specs.declared.health.Action.TheVariants as action
use Rattle.xm_conf.specs.declared.plan.Slot.{Slot}
use Rattle.xm_conf.specs.declared.part.Area.{Area}
use Rattle.xm_conf.specs.declared.part.Need.{Need}
use Rattle.xm_conf.specs.declared.port.Port.{Port}
use Rattle.xm_conf.specs.declared.port.Kind.{Kind}
use Rattle.xm_conf.specs.declared.port.Kind.TheVariants as kind
use Rattle.xm_conf.specs.declared.port.Way.{Way}
use Rattle.xm_conf.specs.declared.port.Way.TheVariants as way
use Rattle.xm_conf.specs.declared.channel.ChanKind.{ChanKind}
use Rattle.xm_conf.specs.declared.channel.ChanKind.TheVariants as chan_kind
use Rattle.xm_conf.specs.declared.channel.End.{End}
use Rattle.xm_conf.specs.declared.link.Link.{Link}
use Rattle.xm_conf.specs.declared.raw.Region.{Region}

-- the order of numbers is decided
pub decides-le : (a b : ℕ) → Decides (nat_le a b) (a ≤ b)
decides-le a b = grind (arith, nat_tests)

-- the strict order of numbers is decided
pub decides-lt : (a b : ℕ) → Decides (nat_lt a b) (a < b)
decides-lt a b = grind (arith, nat_tests)

-- a test that always holds decides a fact that does
pub decides-yes : {P : Type 0} → P → Decides true P
decides-yes p = (λ t. p, λ q. refl)

-- a test that never holds decides what is no fact
pub decides-no : {P : Type 0} → (P → ⊥) → Decides false P
decides-no never = (λ t. absurd (let wrong : ⊥ = cc in wrong), λ p. absurd (never p))

-- a stretch of whole pages
pub decides-sized : (start size : ℕ) → Decides (is_sized start size) (IsSized start size)
unfolding is_paged
decides-sized start size =
    Decides-like (is_sized start size) (λ t. record { start_paged = t.0.0; size_paged = t.0.1; some = t.1 }) (λ s. ((s.start_paged, s.size_paged), s.some))
    (Decides-and _ _ (Decides-and _ _ (Decides-eqb _ 0) (Decides-eqb _ 0)) (decides-lt 0 size))

-- a region
pub decides-region : (region : Region) → Decides (is_region region) (IsRegion region)
unfolding is_region
decides-region region =
    Decides-like (is_sized region.start region.size && nat_le (region.start + region.size) addresses) (λ t. record { sized = t.0; below = t.1 }) (λ r. (r.sized, r.below))
    (Decides-and _ _ (decides-sized region.start region.size) (decides-le (region.start + region.size) addresses))

-- stretches of memory that do not overlap are apart
pub decides-apart : (a b : Region) → Decides (not (overlaps a b)) (Apart a b)
unfolding overlaps
decides-apart a b = grind (arith, nat_tests)

-- an area inside a region
pub decides-lies_in : (area : Area) (region : Region) → Decides (has_area area region) (LiesIn area region)
unfolding has_area
decides-lies_in area region =
    Decides-like (nat_le region.start area.start && nat_le (area.start + area.size) (region.start + region.size)) (λ t. record { start = t.0; end = t.1 }) (λ l. (l.start, l.end))
    (Decides-and _ _ (decides-le region.start area.start) (decides-le (area.start + area.size) (region.start + region.size)))

-- a time
pub decides-time : (time : ℕ) → Decides (is_time time) (IsTime time)
unfolding is_time
decides-time time =
    Decides-like (nat_lt 0 time && nat_le time longest) (λ t. record { some = t.0; most = t.1 }) (λ f. (f.some, f.most)) (Decides-and _ _ (decides-lt 0 time) (decides-le time longest))

-- a slot in its frame
pub decides-in_frame : (frame : ℕ) (slot : Slot) → Decides (in_frame frame slot) (InFrame frame slot)
unfolding in_frame
decides-in_frame frame slot =
    Decides-like (nat_lt 0 slot.duration && nat_le (slot.start + slot.duration) frame) (λ t. record { lasts = t.0; inside = t.1 }) (λ f. (f.lasts, f.inside))
    (Decides-and _ _ (decides-lt 0 slot.duration) (decides-le (slot.start + slot.duration) frame))

-- a size that fits into a region
pub decides-fits_into : (size : ℕ) (region : Option Region) → Decides (fits_into size region) (IsSomeAnd region (λ r. size ≤ r.size))
decides-fits_into size None = decides-no (λ no. no)
decides-fits_into size (Some region) = decides-le size region.size

-- a console that is a UART
pub decides-console : (uarts : ℕ) (console : Option ℕ) → Decides (is_console uarts console) (IfSome console (λ uart. uart < uarts))
decides-console uarts None = decides-yes tt
decides-console uarts (Some uart) = decides-lt uart uarts

-- destinations and messages of a channel's kind
pub decides-kind : (of : ChanKind) (dests : List End) → Decides (is_kind of dests) (IsKind of dests)
unfolding is_kind
decides-kind (chan_kind.Sampling refresh) dests = decides-lt 0 (length dests)
decides-kind (chan_kind.Queuing most) dests =
    Decides-like (length dests == 1 && nat_lt 0 most && nat_le most 64) (λ t. (t.0.0, t.0.1, t.1)) (λ f. ((f.0, f.1), f.2))
    (Decides-and _ _ (Decides-and _ _ (Decides-eqb (length dests) 1) (decides-lt 0 most)) (decides-le most 64))

-- a port of a channel's kind
pub decides-of_kind : (of : ChanKind) (k : Kind) → Decides (is_of_kind of k) (IsOfKind of k)
decides-of_kind (chan_kind.Sampling refresh) kind.Sampling = decides-yes refl
decides-of_kind (chan_kind.Sampling refresh) kind.Queuing = decides-no (λ e. cc)
decides-of_kind (chan_kind.Queuing most) kind.Sampling = decides-no (λ e. cc)
decides-of_kind (chan_kind.Queuing most) kind.Queuing = decides-yes refl

-- a way
pub decides-way : (a b : Way) → Decides (is_way a b) (b ≡ a)
decides-way way.Source way.Source = decides-yes refl
decides-way way.Source way.Destination = decides-no (λ e. cc)
decides-way way.Destination way.Source = decides-no (λ e. cc)
decides-way way.Destination way.Destination = decides-yes refl

-- a port, where there is one, that may be an end
pub decides-end : (of : ChanKind) (w : Way) (port : Option Port) → Decides (may_be_end of w port) (IfSome port (IsEnd of w))
decides-end of w None = decides-yes tt
decides-end of w (Some port) =
    Decides-like (is_of_kind of port.kind && is_way w port.way) (λ t. record { kind_is = t.0; way_is = t.1 }) (λ e. (e.kind_is, e.way_is))
    (Decides-and _ _ (decides-of_kind of port.kind) (decides-way w port.way))

-- two ends that are one port
pub decides-same_end : (a b : End) → Decides (not (same_end a b)) (a ≢ b)
unfolding same_end
decides-same_end a b =
    Decides-not (a.part == b.part && a.port == b.port)
    (Decides-like (a.part == b.part && a.port == b.port) (λ t. λ i. record { part = t.0 i; port = t.1 i }) (λ e. (ap (λ end. end.part) e, ap (λ end. end.port) e))
    (Decides-and _ _ (Decides-eqb a.part b.part) (Decides-eqb a.port b.port)))

-- two names that differ
pub decides-differ : (a b : List ℕ) → Decides (not (bytes_eq a b)) (a ≢ b)
decides-differ a b = Decides-not (bytes_eq a b) (bytes_eq-Decides a b)

-- the event of an event's number is that event
pub event_numbered-number : (e : Event) → event_numbered (event_row e).number ≡ e
unfolding event_numbered
event_numbered-number event.PartitionError = refl
event_numbered-number event.MemProtection = refl
event_numbered-number event.UnexpectedTrap = refl
event_numbered-number event.SparcIllegalInstruction = refl
event_numbered-number event.SparcPrivilegedInstruction = refl
event_numbered-number event.SparcFpDisabled = refl
event_numbered-number event.SparcCpDisabled = refl
event_numbered-number event.SparcAddressNotAligned = refl
event_numbered-number event.SparcTagOverflow = refl
event_numbered-number event.SparcDivideException = refl
event_numbered-number event.SparcInstrAccess = refl
event_numbered-number event.SparcDataAccess = refl

-- two answers to different events
pub decides-same_event : (a b : HealthAnswer) → Decides (not (same_event a b)) (a.event ≢ b.event)
unfolding same_event
decides-same_event a b =
    Decides-not ((event_row a.event).number == (event_row b.event).number)
    (Decides-like ((event_row a.event).number == (event_row b.event).number)
    (λ same. sym (event_numbered-number a.event) ∙ ap event_numbered same ∙ event_numbered-number b.event) (λ e. ap (λ of. (event_row of).number) e)
    (Decides-eqb (event_row a.event).number (event_row b.event).number))

-- an action whose plan exists
pub decides-plan : (plans : ℕ) (a : Action) → Decides (has_plan plans a) (a ≡ action.SwitchToMaintenance → 1 < plans)
decides-plan plans action.Ignore = decides-yes (λ e. cc)
decides-plan plans action.Shutdown = decides-yes (λ e. cc)
decides-plan plans action.PartitionColdReset = decides-yes (λ e. cc)
decides-plan plans action.PartitionWarmReset = decides-yes (λ e. cc)
decides-plan plans action.Suspend = decides-yes (λ e. cc)
decides-plan plans action.Halt = decides-yes (λ e. cc)
decides-plan plans action.Propagate = decides-yes (λ e. cc)
decides-plan plans action.HypervisorColdReset = decides-yes (λ e. cc)
decides-plan plans action.HypervisorWarmReset = decides-yes (λ e. cc)
decides-plan plans action.HypervisorHalt = decides-yes (λ e. cc)
decides-plan plans action.SwitchToMaintenance =
    Decides-like (nat_lt 1 plans) (λ some. λ e. some) (λ f. f refl) (decides-lt 1 plans)

-- a requirement
pub decides-need : (need : Option Need) → Decides (is_need need) (IfSome need IsNeed)
decides-need None = decides-yes tt
decides-need (Some need) =
    Decides-like (nat_lt 0 need.duration && nat_le need.duration need.period && nat_le need.period longest)
    (λ t. record { some = t.0.0; inside = t.0.1; most = t.1 }) (λ n. ((n.some, n.inside), n.most))
    (Decides-and _ _ (Decides-and _ _ (decides-lt 0 need.duration) (decides-le need.duration need.period)) (decides-le need.period longest))

-- a link
pub decides-link : (parts : ℕ) (link : Link) → Decides (is_link parts link) (IsLink parts link)
unfolding is_link
decides-link parts link =
    Decides-like (nat_lt link.number link_numbers && nat_lt link.source parts && nat_lt link.dest parts && not (link.source == link.dest))
    (λ t. record { number = t.0.0.0; source = t.0.0.1; dest = t.0.1; differ = t.1 }) (λ l. (((l.number, l.source), l.dest), l.differ))
    (Decides-and _ _ (Decides-and _ _ (Decides-and _ _ (decides-lt link.number link_numbers) (decides-lt link.source parts)) (decides-lt link.dest parts))
    (Decides-not (link.source == link.dest) (Decides-eqb link.source link.dest)))

-- two links that differ
pub decides-same_link : (a b : Link) → Decides (not (same_link a b)) (DifferLinks a b)
unfolding same_link
decides-same_link a b = at (a.source == b.source) (Decides-eqb a.source b.source) (a.number == b.number) (Decides-eqb a.number b.number)
  where
    never : false ≡ true → ⊥
    never e = cc

    at : (s : Bool) → Decides s (a.source ≡ b.source) → (n : Bool) → Decides n (a.number ≡ b.number) → Decides (not (s && n)) (DifferLinks a b)
    at true source true number = (
      λ t. absurd (never t),
      λ other. elim other [
        | inl differ ↦ absurd (differ (source.0 refl))
        | inr differ ↦ absurd (differ (number.0 refl))
      ],
    )
    at true source false number = (λ t. inr (λ e. never (number.1 e)), λ other. refl)
    at false source n number = (λ t. inl (λ e. never (source.1 e)), λ other. refl)

-- an element of a list that passes a test
pub decides-any : {X : Type 0} {P : X → Type 0} (test : X → Bool) → ((x : X) → Decides (test x) (P x)) → (xs : List X) → Decides (list_any test xs) (Any P xs)
decides-any test d [] = decides-no (λ any. let below : any.0 < 0 = any.2 in let never : ⊥ = omega arith in never)
decides-any {X} {P} test d (x ∷ xs) = at (test x) (d x) (decides-any test d xs)
  where
    first : (b : Bool) → Decides b (P x) → b ≡ false → (k : ℕ) (y : X) → k < suc (length xs) → get_or (x ∷ xs) k y ≡ y → P y → Any P xs
    first b here fails zero y below is p = absurd (let e : b ≡ true = here.1 (subst P (sym is) p) in let never : ⊥ = cc in never)
    first b here fails (suc k) y below is p = (k, y, omega arith, is, p)

    at : (b : Bool) → Decides b (P x) → Decides (list_any test xs) (Any P xs) → Decides (b || list_any test xs) (Any P (x ∷ xs))
    at true here more = (λ t. (0, x, omega arith, refl, here.0 refl), λ any. refl)
    at false here more = (
      λ t. let a = more.0 t in (suc a.0, a.1, omega (arith, a.2), a.3, a.4),
      λ any. more.1 (first false here refl any.0 any.1 any.2 any.3 any.4),
    )

-- a slot after the one before it, where there is one
pub decides-follows : (earlier : Option Slot) (slot : Slot) → Decides (follows earlier slot) (IfSome earlier (λ e. e.start + e.duration ≤ slot.start))
decides-follows None slot = decides-yes tt
decides-follows (Some earlier) slot = decides-le (earlier.start + earlier.duration) slot.start
