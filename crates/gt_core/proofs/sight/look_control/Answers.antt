use Rattle.gt_core.proofs.Words.{◌∙◌, ap, sym, refl, List, State, OwnerEntry, PinCounts, control_seen, control_in}
use Rattle.gt_core.proofs.Placed.{seen-there, seen-nowhere}
use Rattle.gt_core.proofs.sight.look_control.Goals as goal

pub returns-in-Some : goal.returns-in-Some
returns-in-Some c =
    c.control_word.ensures ∙ ap (λ (l : List OwnerEntry). control_in l c.deref-in-Some.result.now c.args.gref.0) c.deref.ensures.value
    ∙ ap (λ (l : List PinCounts). control_in c.domain.inside.own.items l c.args.gref.0) c.deref-in-Some.ensures.value
    ∙ ap (λ (z : State). control_in z.own z.slots c.args.gref.0) c.domain.view_is
    ∙ sym (seen-there (λ (l : List State). control_seen l c.args.dom.0 c.args.gref.0) (λ (z : State). control_in z.own z.slots c.args.gref.0) c.args.dom.0 (λ y ys. refl) c.args.domains.now c.in-Some.at c.index-domains-at.result (sym c.find.ensures ∙ c.in-Some.is) c.index-domains-at.is)

pub returns-in-None : goal.returns-in-None
returns-in-None c = sym (seen-nowhere (λ (l : List State). control_seen l c.args.dom.0 c.args.gref.0) (λ (z : State). control_in z.own z.slots c.args.gref.0) c.args.dom.0 (λ y ys. refl) c.args.domains.now (sym c.find.ensures ∙ c.in-None.is))
