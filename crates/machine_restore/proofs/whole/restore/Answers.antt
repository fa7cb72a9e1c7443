use Rattle.std.proofs.Common.{List, Vec, ℕ, length, map, take, ap, subst, ◌≡◌, ◌∙◌, arith}
use Rattle.std.proofs.lemmas.List.{length-map}
use Rattle.std.specs.Global.{Global}
use Rattle.std.specs.Prelude.{IfOk}
use Rattle.machine_model.specs.Machine.{Machine}
use Rattle.xm_conf.specs.Configuration.{Conf}
use Rattle.machine_restore.proofs.InputLemmas.{length_taken}
use Rattle.machine_restore.proofs.SavedLemmas.{given_enough, given_few, goes_on, values_restorable}
use Rattle.machine_restore.proofs.whole.restore.Goals as goal

pub inputs_of-requires-clause-counted : goal.inputs_of-requires-clause-counted
inputs_of-requires-clause-counted c =
    let words = map (λ own. own.items) c.args.saved.now.inputs.items in
    omega (
      arith,
      c.part_count.ensures.value,
      ap (λ (conf : Conf). length conf.parts) c.conf.ensures.value,
      ap length c.deref.ensures.value,
      length-map c.args.saved.now.inputs.items (λ own. own.items),
      given_enough c.args.system.conf c.args.saved.now.container c.args.saved.now.values words c.requires,
    )

pub inputs_of-requires-clause-few : goal.inputs_of-requires-clause-few
inputs_of-requires-clause-few c = λ p below.
    let count : c.part_count.result ≡ length c.args.system.conf.parts = c.part_count.ensures.value ∙ ap (λ (conf : Conf). length conf.parts) c.conf.ensures.value in
    rw c.deref.ensures.value (given_few c.args.system.conf c.args.saved.now.container c.args.saved.now.values c.args.saved.now.inputs.items p c.requires (omega (arith, below, count)))

pub restore_values-requires-clause-inputs : goal.restore_values-requires-clause-inputs
restore_values-requires-clause-inputs c =
    let words = map (λ own. own.items) c.args.saved.now.inputs.items in
    let count : c.part_count.result ≡ length c.args.system.conf.parts = c.part_count.ensures.value ∙ ap (λ (conf : Conf). length conf.parts) c.conf.ensures.value in
    ap length c.in_ok-inputs.ensures
    ∙ ap (λ (n : ℕ). length (take n (map (λ own. own.items) c.deref.result.now))) count
    ∙ ap (λ (given : List (Vec ℕ Global)). length (take (length c.args.system.conf.parts) (map (λ own. own.items) given))) c.deref.ensures.value
    ∙ length_taken (length c.args.system.conf.parts) words (given_enough c.args.system.conf c.args.saved.now.container c.args.saved.now.values words c.requires)

pub restore_values-requires-clause-values : goal.restore_values-requires-clause-values
restore_values-requires-clause-values c =
    values_restorable c.args.system.conf c.args.saved.now.container c.args.saved.now.values (map (λ own. own.items) c.args.saved.now.inputs.items) c.requires

pub returns-clause-machine : goal.returns-clause-machine
returns-clause-machine c =
    let words = map (λ own. own.items) c.args.saved.now.inputs.items in
    let count : c.part_count.result ≡ length c.args.system.conf.parts = c.part_count.ensures.value ∙ ap (λ (conf : Conf). length conf.parts) c.conf.ensures.value in
    let given = c.in_ok-inputs.ensures
    ∙ ap (λ (n : ℕ). take n (map (λ own. own.items) c.deref.result.now)) count
    ∙ ap (λ (given : List (Vec ℕ Global)). take (length c.args.system.conf.parts) (map (λ own. own.items) given)) c.deref.ensures.value in
    subst (λ (g : Machine). IfOk c.restore_values.result (λ sys. sys.machine ≡ g))
    (goes_on c.args.system c.args.saved.now.container c.args.saved.now.values words c.in_ok-inputs.inputs c.requires given) c.restore_values.ensures.machine
