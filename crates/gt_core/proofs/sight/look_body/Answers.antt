use Rattle.gt_core.proofs.Words.{◌∙◌, ◌≡◌, ℕ, Some, ap, sym, refl, List, State, PinCounts, body_seen, body_in}
use Rattle.gt_core.specs.Sight.{slot_body}
use Rattle.gt_model.specs.declared.change.BodyWord.{BodyWord}
use Rattle.gt_model.specs.declared.change.BodyWord.TheVariants.{First, Second}
use Rattle.gt_core.proofs.Placed.{seen-there, seen-nowhere}
use Rattle.gt_core.proofs.sight.look_body.Goals as goal

-- the body word of a slot that shows both words of a row
body-at : (slot : PinCounts) (slots : List PinCounts) (r : ℕ) (which : BodyWord) → slot.first ≡ body_in slots r First → slot.second ≡ body_in slots r Second
    → slot_body (Some slot) which ≡ body_in slots r which
body-at slot slots r First first second = first
body-at slot slots r Second first second = second

pub returns-in-Some : goal.returns-in-Some
returns-in-Some c =
    c.body.ensures ∙ body-at c.slot_at.result c.deref.result.now c.args.gref.0 c.args.body_word c.slot_at.ensures.first c.slot_at.ensures.second ∙ ap (λ (l : List PinCounts). body_in l c.args.gref.0 c.args.body_word) c.deref.ensures.value
    ∙ ap (λ (z : State). body_in z.slots c.args.gref.0 c.args.body_word) c.domain.view_is
    ∙ sym (seen-there (λ (l : List State). body_seen l c.args.dom.0 c.args.gref.0 c.args.body_word) (λ (z : State). body_in z.slots c.args.gref.0 c.args.body_word) c.args.dom.0 (λ y ys. refl) c.args.domains.now c.in-Some.at c.index-domains-at.result (sym c.find.ensures ∙ c.in-Some.is) c.index-domains-at.is)

pub returns-in-None : goal.returns-in-None
returns-in-None c = sym (seen-nowhere (λ (l : List State). body_seen l c.args.dom.0 c.args.gref.0 c.args.body_word) (λ (z : State). body_in z.slots c.args.gref.0 c.args.body_word) c.args.dom.0 (λ y ys. refl) c.args.domains.now (sym c.find.ensures ∙ c.in-None.is))
