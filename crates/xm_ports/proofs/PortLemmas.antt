-- The first port with a name and a kind has them.
use Rattle.std.proofs.Common.{◌≡◌, ℕ, suc, ◌+◌, ◌-◌, ◌≤◌, Bool, true, false, cond, ◌&&◌, List, [], ◌∷◌, Option, Some, None, refl, subst, arith}
use Rattle.std.specs.Prelude.{Decides, IfSome, IsSomeAnd, slice_get}
use Rattle.std.specs.List.{position_from}
use Rattle.std.specs.Str.{bytes_eq}
use Rattle.std.proofs.lemmas.Bool.Decides.{Decides-and, Decides-like}
use Rattle.std.proofs.lemmas.Slice.Eq.{bytes_eq-Decides}
use Rattle.xm_conf.specs.declared.port.Port.{Port}
use Rattle.xm_conf.specs.declared.port.Kind.{Kind}
use Rattle.xm_conf.specs.declared.port.Kind.TheVariants as kind
use Rattle.xm_ports.specs.Ports.{are_same_kind, is_called, port_with, IsCalled}

-- two kinds are one
decides-kind : (a b : Kind) → Decides (are_same_kind a b) (a ≡ b)
decides-kind kind.Sampling kind.Sampling = (λ e. refl, λ e. refl)
decides-kind kind.Sampling kind.Queuing = (λ e. absurd cc, λ e. absurd cc)
decides-kind kind.Queuing kind.Sampling = (λ e. absurd cc, λ e. absurd cc)
decides-kind kind.Queuing kind.Queuing = (λ e. refl, λ e. refl)

-- a port has a name and a kind
decides-called : (name : List ℕ) (of : Kind) (port : Port) → Decides (is_called name of port) (IsCalled name of port)
unfolding is_called
decides-called name of port =
    Decides-like (bytes_eq port.name name && are_same_kind port.kind of) (λ t. record { name_is = t.0; kind_is = t.1 }) (λ h. (h.name_is, h.kind_is))
    (Decides-and _ _ (bytes_eq-Decides port.name name) (decides-kind port.kind of))

-- the first place that passes a test has an element with the fact
position-found : {X : Type 0} {P : X → Type 0} (test : X → Bool) → ((x : X) → Decides (test x) (P x)) → (k : ℕ) (xs : List X)
    → IfSome (position_from test k xs) (λ n. (k ≤ n) × IsSomeAnd (slice_get xs (n - k)) P)
position-found test d k [] = tt
position-found {X} {P} test d k (x ∷ xs) = at (test x) (d x) (position_from test (k + 1) xs) (position-found test d (k + 1) xs)
  where
    at : (b : Bool) → Decides b (P x) → (found : Option ℕ) → IfSome found (λ n. (k + 1 ≤ n) × IsSomeAnd (slice_get xs (n - (k + 1))) P)
        → IfSome (cond b (Some k) found) (λ n. (k ≤ n) × IsSomeAnd (slice_get (x ∷ xs) (n - k)) P)
    at true here found later = let e : 0 ≡ k - k = omega arith in (omega arith, subst (λ (m : ℕ). IsSomeAnd (slice_get (x ∷ xs) m) P) e (here.0 refl))
    at false here None later = tt
    at false here (Some n) later =
        let past : k + 1 ≤ n = later.0 in
        let e : suc (n - (k + 1)) ≡ n - k = omega arith in
        (omega arith, subst (λ (m : ℕ). IsSomeAnd (slice_get (x ∷ xs) m) P) e later.1)

-- the port that is found has the name and the kind
pub port_with_found : (name : List ℕ) (of : Kind) (ports : List Port) (port : ℕ) → port_with name of ports ≡ Some port
    → IsSomeAnd (slice_get ports port) (IsCalled name of)
unfolding port_with
port_with_found name of ports port found =
    let h = position-found {P = IsCalled name of} (is_called name of) (decides-called name of) 0 ports in
    let at : (0 ≤ port) × IsSomeAnd (slice_get ports (port - 0)) (IsCalled name of) =
    subst (λ (o : Option ℕ). IfSome o (λ n. (0 ≤ n) × IsSomeAnd (slice_get ports (n - 0)) (IsCalled name of))) found h in
    let e : port - 0 ≡ port = omega arith in
    subst (λ (m : ℕ). IsSomeAnd (slice_get ports m) (IsCalled name of)) e at.1
