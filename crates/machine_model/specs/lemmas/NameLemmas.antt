-- A partition's names of channels: each name is that of one channel, and each channel has one.
use Rattle.std.proofs.Common.{◌≡◌, ℕ, zero, suc, ◌+◌, ◌<◌, Bool, true, false, length, Option, None, Some, refl, sym, ap, ◌∙◌, arith}
use Rattle.std.specs.Prelude.{slice_get, if◌then◌else◌}
use Rattle.std.proofs.lemmas.Bool.{eqb-true}
use Rattle.std.proofs.lemmas.Option.{same_Some}
use Rattle.xm_conf.specs.Configuration.{Chan, Conf}
use Rattle.xm_conf.specs.View.{channel_of}
use Rattle.machine_model.specs.Lists.{is_number, then_some}
use Rattle.machine_model.specs.LocalTick.{has_name}
use Rattle.machine_model.specs.View.{if_named, name_from, name_of, named, part_of, port_channel, with_its_name, with_name}

-- a number that an option has
pub number_is : (o : Option ℕ) (n : ℕ) → is_number o n ≡ true → o ≡ Some n
number_is None n is = absurd cc
number_is (Some m) n is = ap Some (eqb-true m n is)

-- the number that an option has
pub same_number : (n : ℕ) → is_number (Some n) n ≡ true
same_number n = grind (arith)

-- a name is a port on the channel
pub name_from_is : (conf : Conf) (p c count r q : ℕ) → name_from conf p c count r ≡ Some q → channel_of conf p q ≡ Some c
name_from_is conf p c zero r q is = absurd cc
name_from_is conf p c (suc count) r q is = at (is_number (channel_of conf p r) c) refl is (name_from_is conf p c count (suc r) q)
  where
    at : (b : Bool) → is_number (channel_of conf p r) c ≡ b → (if b then Some r else name_from conf p c count (suc r)) ≡ Some q
        → (name_from conf p c count (suc r) ≡ Some q → channel_of conf p q ≡ Some c) → channel_of conf p q ≡ Some c
    at true found is further = ap (channel_of conf p) (sym (same_Some r q is)) ∙ number_is (channel_of conf p r) c found
    at false other is further = further is

pub name_is : (conf : Conf) (p c q : ℕ) → name_of conf p c ≡ Some q → channel_of conf p q ≡ Some c
unfolding name_of
name_is conf p c q is = name_from_is conf p c (length (part_of conf p).ports) 0 q is

-- a channel that a partition calls q has the name q
if_named_is : (conf : Conf) (p q c : ℕ) (o : Option ℕ) → if_named conf p q o ≡ Some c → name_of conf p c ≡ Some q
if_named_is conf p q c None is = absurd cc
if_named_is conf p q c (Some d) is = at (is_number (name_of conf p d) q) refl is
  where
    at : (b : Bool) → is_number (name_of conf p d) q ≡ b → then_some b d ≡ Some c → name_of conf p c ≡ Some q
    at true found is = ap (name_of conf p) (sym (same_Some d c is)) ∙ number_is (name_of conf p d) q found
    at false other is = absurd cc

pub named_is : (conf : Conf) (p q c : ℕ) → named conf p q ≡ Some c → name_of conf p c ≡ Some q
unfolding named
named_is conf p q c is = if_named_is conf p q c (channel_of conf p q) is

-- a channel with the name q is the one that the partition calls q
pub name_named : (conf : Conf) (p q c : ℕ) → name_of conf p c ≡ Some q → named conf p q ≡ Some c
unfolding named
name_named conf p q c is =
    let found : channel_of conf p q ≡ Some c = name_is conf p c q is in
    let its : is_number (name_of conf p c) q ≡ true = ap (λ o. is_number o q) is ∙ same_number q in
    rw (found, its) refl

-- a port whose channel bears its number as the name: the partition calls that channel so
its_name : (conf : Conf) (p q : ℕ) (chan : Option Chan) (c : ℕ) (name : Option ℕ) → name_of conf p c ≡ name → has_name (with_name chan name) q ≡ true → name_of conf p c ≡ Some q
its_name conf p q None c name is has = absurd cc
its_name conf p q (Some chan) c None is has = absurd cc
its_name conf p q (Some chan) c (Some m) is has = is ∙ ap Some (eqb-true m q has)

at_channel : (conf : Conf) (p q : ℕ) (o : Option ℕ) → has_name (with_its_name conf p o) q ≡ true → (c : ℕ) × (name_of conf p c ≡ Some q)
at_channel conf p q None has = absurd cc
at_channel conf p q (Some c) has = (c, its_name conf p q (slice_get conf.chans c) c (name_of conf p c) refl has)

pub has_name_named : (conf : Conf) (p q : ℕ) → has_name (port_channel conf p q) q ≡ true → (c : ℕ) × (named conf p q ≡ Some c) × (name_of conf p c ≡ Some q)
unfolding port_channel
has_name_named conf p q has =
    let found = at_channel conf p q (channel_of conf p q) has in
    (found.0, name_named conf p q found.0 found.1, found.1)

-- a name is that of a port that the partition has
name_below : (conf : Conf) (p c count r q : ℕ) → name_from conf p c count r ≡ Some q → q < r + count
name_below conf p c zero r q is = absurd cc
name_below conf p c (suc count) r q is = at (is_number (channel_of conf p r) c) is (name_below conf p c count (suc r) q)
  where
    at : (b : Bool) → (if b then Some r else name_from conf p c count (suc r)) ≡ Some q → (name_from conf p c count (suc r) ≡ Some q → q < suc r + count) → q < r + suc count
    at true found further = let e : r ≡ q = same_Some r q found in omega (arith, e)
    at false found further = let below = further found in omega (arith, below)

pub of_name_below : (conf : Conf) (p c q : ℕ) → name_of conf p c ≡ Some q → q < length (part_of conf p).ports
unfolding name_of
of_name_below conf p c q is = let below = name_below conf p c (length (part_of conf p).ports) 0 q is in omega (arith, below)
