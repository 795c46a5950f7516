use Rattle.gt_core.proofs.Words.{◌≡◌, ◌∙◌, List, length, ap, sym, subst, refl, arith, same_Some, slice_get_read}
use Rattle.gt_core.proofs.Words.{State, AccessedBy, applied}
use Rattle.gt_core.proofs.{Placed.ids_in, Placed.ids-applied, Placed.written-back, CallsOver.length-applied}
use Rattle.gt_core.proofs.kept.Machine.perform.Goals as goal

pub invariant_of-self-2 : goal.invariant_of-self-2
invariant_of-self-2 g c =
    let xs = c.args.self.now.domains.items in let ws = c.apply.new.domains in
    let dom = c.args.dom in let step = c.args.last.step in let seen = c.see-seen.result in
    let after : ws ≡ applied dom step seen xs = c.apply.ensures ∙ ap (applied dom step seen) c.deref_mut.ensures.value in
    let long : length ws ≡ length xs = ap (λ (l : List State). length l) after ∙ length-applied dom step seen xs in
    let all = c.args.self.now.domains.ok.0 in record {
      placed = ap ids_in (written-back c.args.self.now.domains.len ws xs long (omega (arith, all)) ∙ after) ∙ ids-applied dom step seen xs ∙ c.args.self.now.placed;
    }

pub returns-clause-accessed : goal.returns-clause-accessed
returns-clause-accessed g c = λ d here.
    let xs = c.args.self.now.domains.items in let y = c.index.result.now in
    let same : y ≡ d = same_Some _ _ (sym (slice_get_read xs (length xs) c.args.at y refl c.requires.there c.index.ensures) ∙ here) in
    subst (λ (z : State). AccessedBy z c.args.last.call c.args.last.step c.args.self.now.frames c.write_bytes.new.frames) same c.in_ok-write_bytes.ensures.accessed

pub returns-clause-applied : goal.returns-clause-applied
returns-clause-applied g c =
    let xs = c.args.self.now.domains.items in let ws = c.apply.new.domains in
    let dom = c.args.dom in let step = c.args.last.step in let seen = c.see-seen.result in
    let after : ws ≡ applied dom step seen xs = c.apply.ensures ∙ ap (applied dom step seen) c.deref_mut.ensures.value in
    let long : length ws ≡ length xs = ap (λ (l : List State). length l) after ∙ length-applied dom step seen xs in
    let all = c.args.self.now.domains.ok.0 in
    written-back c.args.self.now.domains.len ws xs long (omega (arith, all)) ∙ after
