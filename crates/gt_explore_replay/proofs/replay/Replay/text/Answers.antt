use Rattle.std.proofs.Common.{rules, ◌≡◌, ◌<◌, ◌≤◌, ◌++◌, ◌∙◌, ap, sym, refl, false, length, arith, List, Some}
use Rattle.std.proofs.lemmas.Option.{slice_get_read}
use Rattle.std.specs.Prelude.{slice_get}
use Rattle.std.proofs.lemmas.List.{take_all}
use Rattle.std.specs.List.{flat_map}
use Rattle.gt_explore_replay.specs.declared.walker.Walker.{Walker}
use Rattle.gt_explore_replay.proofs.Ending.{ends_all, ends_more, texts_more}
use Rattle.gt_explore_replay.proofs.Following.{not_both, walker_ends, whole_text}
use Rattle.gt_explore_replay.proofs.replay.Replay.text.Goals as goal

pub walkers-preserved : goal.walkers-preserved
walkers-preserved c =
    let within : c.walkers.walker-index < length c.as_slice-walker-items.result.now = c.walkers-test.true in (
      c.in_ok-extend_from_slice.ensures.items ∙ ap (λ l. c.walkers.text.items ++ l) c.as_slice.ensures.value
          ∙ texts_more c.as_slice-walker-items.result.now c.walkers.walker-index c.walker-item.result c.walkers.text.items within c.walker-item.is c.walkers.invariant.0,
      ends_more c.as_slice-walker-items.result.now c.walkers.walker-index c.walker-item.result within c.walker-item.is (c.is_finished.ensures.finished (search rules)) c.walkers.invariant.1,
    )

pub returns-clause-order : goal.returns-clause-order
returns-clause-order c = λ k hs come.
    let all : length c.as_slice-walker-items.result.now ≤ c.walkers.walker-index = omega (arith, c.walkers-test.false) in
    ends_all k hs c.args.self.now c.walkers.text.items c.as_slice-walker-items.result.now c.walkers.walker-index come c.as_slice-walker-items.ensures.value all c.walkers.invariant.0 c.walkers.invariant.1

pub returns-clause-whole : goal.returns-clause-whole
returns-clause-whole c = λ k hs ks abreast over.
    let all : length c.as_slice-walker-items.result.now ≤ c.walkers.walker-index = omega (arith, c.walkers-test.false) in
    c.walkers.invariant.0
    ∙ ap (λ (l : List Walker). flat_map (λ (w : Walker). w.text.items) l) (take_all c.walkers.walker-index c.as_slice-walker-items.result.now all ∙ c.as_slice-walker-items.ensures.value)
    ∙ whole_text k hs ks c.args.self.now abreast

pub returns-then-not-is_finished-clause-whole : goal.returns-then-not-is_finished-clause-whole
returns-then-not-is_finished-clause-whole c = λ k hs ks abreast over.
    let within : c.walkers.walker-index < length c.as_slice-walker-items.result.now = c.walkers-test.true in
    let there : slice_get c.args.self.now.walkers.items c.walkers.walker-index ≡ Some c.walker-item.result =
    ap (λ (l : List Walker). slice_get l c.walkers.walker-index) (sym c.as_slice-walker-items.ensures.value)
    ∙ slice_get_read c.as_slice-walker-items.result.now _ c.walkers.walker-index c.walker-item.result refl within c.walker-item.is in
    let isnt : c.is_finished.result ≡ false = search rules in
    absurd (not_both c.is_finished.result (c.is_finished.ensures.end (walker_ends k hs ks c.args.self.now c.walkers.walker-index c.walker-item.result abreast over there)) isnt)
