use Rattle.std.proofs.Common.{◌<◌, ◌∙◌, ◌+◌, ◌++◌, ℕ, List, [], ap, arith, false, get_or, length, refl, subst, sym}
use Rattle.std.proofs.lemmas.List.{append-nil, get_or_default}
use Rattle.gt_explore_search.specs.declared.exploring.FoundText.{FoundText}
use Rattle.gt_script.specs.Contents.{contents_of}
use Rattle.gt_explore_answers.specs.Texts.{texts_of_orders}
use Rattle.gt_explore_answers.specs.Objects.{ShowsTexts}
use Rattle.gt_explore_answers.specs.Outputs.{found_from}
use Rattle.gt_explore_answers.proofs.Shown.{no_objects, object_first, objects_more}
use Rattle.gt_explore_answers.proofs.json.ObjectWriter.push_texts.Goals as goal

pub orders-init : goal.orders-init
orders-init c = record { number = refl; told = λ rest told. (rest, refl, told) }

pub bounds-wanted-number : goal.bounds-wanted-number
bounds-wanted-number c =
    let a = c.orders.invariant.number in
    let b = c.orders-test.true in
    let m = c.requires.many in
    let s = ap length c.as_slice-orders.ensures.value in
    omega (arith, a, b, m, s)

pub orders-preserved : goal.orders-preserved
orders-preserved c =
    let a = c.orders.invariant.number in
    let b = c.orders-test.true in
    let m = c.requires.many in
    let s = ap length c.as_slice-orders.ensures.value in
    let less : c.orders.number < length c.args.wanted.now = omega (arith, a, b, m, s) in
    let head = contents_of c.args.self.now.script.now.head in
    let f = found_from c.args.self.now.found.now in
    let shown = c.in_ok-push_wanted.ensures in
    let wants = get_or c.args.wanted.now c.orders.number false in record {
      number = ap (λ (n : ℕ). n + 1) c.orders.invariant.number;
      told = λ rest told.
          let all = c.orders.invariant.told (shown.0 ++ rest)
          (objects_more head f c.args.scripts c.as_slice-orders.result.now c.args.wanted.now c.orders.order-index c.orders.number c.order-item.result wants shown.0 rest c.orders-test.true c.order-item.is less
          (get_or_default c.args.wanted.now c.orders.number false wants less) shown.2 told) in
          (all.0, object_first c.orders.out.items shown.0 rest c.push_wanted.new.out.items shown.1 ∙ all.1, all.2);
    }

pub returns : goal.returns
returns c =
    let head = contents_of c.args.self.now.script.now.head in
    let f = found_from c.args.self.now.found.now in
    let all = c.orders.invariant.told [] (no_objects head f c.args.scripts c.as_slice-orders.result.now c.args.wanted.now c.orders.order-index c.orders.number c.orders-test.false) in
    (all.0, sym (append-nil c.orders.out.items) ∙ all.1, subst (λ (os : List FoundText). ShowsTexts head f c.args.scripts 0 (texts_of_orders os) c.args.wanted.now all.0) c.as_slice-orders.ensures.value all.2)
