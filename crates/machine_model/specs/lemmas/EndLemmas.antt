-- The ports of a partition as ends of channels, and its names for them.
use Rattle.std.proofs.Common.{◌≡◌, ℕ, zero, suc, ◌+◌, Bool, true, false, cond, List, [], ◌∷◌, length, Option, None, Some, refl, ap, ◌∙◌, arith, subst}
use Rattle.std.specs.Prelude.{slice_get, slice_index_or, ◌==◌, ◌&&◌, ◌||◌, All}
use Rattle.std.specs.List.{list_any, position_from}
use Rattle.std.proofs.lemmas.Bool.{eqb-true}
use Rattle.std.proofs.lemmas.List.Elements.{All-head, All-tail}
use Rattle.std.proofs.lemmas.Option.{same_Some}
use Rattle.xm_conf.specs.Configuration.{Chan, Conf, Part}
use Rattle.xm_conf.specs.Rules.{port_at, port_of}
use Rattle.xm_conf.specs.View.{channel_of, is_port}
use Rattle.xm_conf.specs.declared.channel.End.{End}
use Rattle.xm_conf.specs.declared.port.Port.{Port}
use Rattle.xm_ports.specs.Channels.{shape_of}
use Rattle.machine_model.specs.Lists.{table}
use Rattle.machine_model.specs.View.{PortChannel, System, name_of, no_part, part_of, port_channel, view_of, with_its_name, with_name}

-- what is found by a search
pub record IsFoundAt {X : Type 0} (test : X → Bool) (k : ℕ) (xs : List X) (e : ℕ) : Type 0 where
  pub place : ℕ
  pub element : X
  pub at : e ≡ k + place
  pub there : slice_get xs place ≡ Some element
  pub passes : test element ≡ true

pub found_from : {X : Type 0} (test : X → Bool) (k : ℕ) (xs : List X) (e : ℕ) → position_from test k xs ≡ Some e → IsFoundAt test k xs e
found_from test k [] e is = absurd cc
found_from test k (x ∷ xs) e is = by (test x) refl is (found_from test (k + 1) xs e)
  where
    by : (b : Bool) → test x ≡ b → cond b (Some k) (position_from test (k + 1) xs) ≡ Some e → (position_from test (k + 1) xs ≡ Some e → IsFoundAt test (k + 1) xs e) → IsFoundAt test k (x ∷ xs) e
    by true passes said further = record { place = 0; element = x; at = (let same : k ≡ e = same_Some k e said in omega (arith, same)); there = refl; passes = passes }
    by false fails said further =
        let found = further said in
        let at : e ≡ k + 1 + found.place = found.at in
        record { place = suc found.place; element = found.element; at = omega (arith, at); there = found.there; passes = found.passes }

-- the port at an end
pub end_is : (p r : ℕ) (end : End) → is_port p r end ≡ true → end ≡ record { part = p; port = r }
unfolding is_port
end_is p r end is = by (end.part == p) (end.port == r) refl refl is
  where
    by : (a b : Bool) → (end.part == p) ≡ a → (end.port == r) ≡ b → (a && b) ≡ true → end ≡ record { part = p; port = r }
    by true true part port said = ap (λ n. record { part = n; port = end.port }) (eqb-true end.part p part) ∙ ap (λ n. record { part = p; port = n }) (eqb-true end.port r port)
    by true false part port said = absurd cc
    by false b part port said = absurd cc

pub any_end : (P : End → Type 0) (p r : ℕ) (ends : List End) → list_any (is_port p r) ends ≡ true → All P ends → P (record { part = p; port = r })
any_end P p r [] is all = absurd cc
any_end P p r (end ∷ ends) is all = by (is_port p r end) refl is (any_end P p r ends)
  where
    by : (b : Bool) → is_port p r end ≡ b → (b || list_any (is_port p r) ends) ≡ true → (list_any (is_port p r) ends ≡ true → All P ends → P (record { part = p; port = r })) → P (record { part = p; port = r })
    by true its said further = subst P (end_is p r end its) (All-head P end ends all)
    by false its said further = further said (All-tail P end ends all)

-- a port of a partition, as the ends see it
pub part_port : (parts : List Part) (p r : ℕ) (port : Port) → slice_get (slice_index_or parts p no_part).ports r ≡ Some port → port_of r (slice_get parts p) ≡ Some port
part_port [] p r port is = absurd cc
part_port (part ∷ parts) zero r port is = is
part_port (part ∷ parts) (suc p) r port is = part_port parts p r port is

-- a table of options, read where something is
pub table_some : {Y : Type 0} (f : ℕ → Option Y) (n r : ℕ) (y : Y) → slice_index_or (table f n) r None ≡ Some y → f r ≡ Some y
table_some f zero r y is = absurd cc
table_some f (suc n) zero y is = is
table_some f (suc n) (suc r) y is = table_some (λ k. f (suc k)) n r y is

-- the channel of a partition's port
pub record IsItsChannel (conf : Conf) (p r : ℕ) (channel : PortChannel) : Type 0 where
  pub number : ℕ
  pub chan : Chan
  pub found : channel_of conf p r ≡ Some number
  pub there : slice_get conf.chans number ≡ Some chan
  pub named_so : name_of conf p number ≡ Some channel.name
  pub shape_is : shape_of chan ≡ channel.shape

pub its_channel_is : (conf : Conf) (p r : ℕ) (channel : PortChannel) → port_channel conf p r ≡ Some channel → IsItsChannel conf p r channel
unfolding port_channel
its_channel_is conf p r channel is = by (channel_of conf p r) refl is
  where
    with_both : (c : ℕ) → channel_of conf p r ≡ Some c → (chan : Option Chan) (name : Option ℕ) → slice_get conf.chans c ≡ chan → name_of conf p c ≡ name
        → with_name chan name ≡ Some channel → IsItsChannel conf p r channel
    with_both c found None name there named_so said = absurd cc
    with_both c found (Some chan) None there named_so said = absurd cc
    with_both c found (Some chan) (Some q) there named_so said =
        let same : record { shape = shape_of chan; name = q } ≡ channel = same_Some _ channel said in
        record {
          number = c;
          chan = chan;
          found = found;
          there = there;
          named_so = named_so ∙ ap (λ x. Some x.name) same;
          shape_is = ap (λ x. x.shape) same;
        }

    by : (o : Option ℕ) → channel_of conf p r ≡ o → with_its_name conf p o ≡ Some channel → IsItsChannel conf p r channel
    by None found said = absurd cc
    by (Some c) found said = with_both c found (slice_get conf.chans c) (name_of conf p c) refl refl said

pub view_channel : (system : System) (p r : ℕ) (channel : PortChannel) → slice_index_or (view_of system p).channels r None ≡ Some channel → port_channel system.conf p r ≡ Some channel
unfolding view_of
view_channel system p r channel is = table_some (port_channel system.conf p) (length (part_of system.conf p).ports) r channel is

pub view_port : (system : System) (p r : ℕ) (port : Port) → slice_get (view_of system p).part.ports r ≡ Some port → port_at system.conf.parts (record { part = p; port = r }) ≡ Some port
unfolding part_of port_at view_of
view_port system p r port is = part_port system.conf.parts p r port is

-- what holds of each element of a list holds of one that is there
pub all_at : {X : Type 0} (P : X → Type 0) (xs : List X) (k : ℕ) (x : X) → slice_get xs k ≡ Some x → All P xs → P x
all_at P [] k x is all = absurd cc
all_at P (one ∷ xs) zero x is all = subst P (same_Some one x is) (All-head P one xs all)
all_at P (one ∷ xs) (suc k) x is all = all_at P xs k x is (All-tail P one xs all)
