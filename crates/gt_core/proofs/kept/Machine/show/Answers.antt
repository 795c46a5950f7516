use Rattle.gt_core.proofs.Words.{◌≡◌, ◌<◌, ◌≤◌, ℕ, List, Some, None, sym, ap, ◌∙◌, subst, position, size_of, State}
use Rattle.gt_core.{proofs.Rows.has_id, proofs.Showing.shown-nowhere, proofs.Showing.shown-past}
use Rattle.gt_core.{proofs.Showing.shown-there, specs.Acting.setting_by}
use Rattle.gt_core.proofs.kept.Machine.show.Goals as goal

pub returns-in_err-at : goal.returns-in_err-at
returns-in_err-at g c = let s = setting_by g.P.Allows.may c.args.self.now in let xs = c.args.self.now.domains.items in
    let p : position (has_id c.args.dom.0) xs ≡ None = ap (λ (l : List State). position (has_id c.args.dom.0) l) (sym c.deref.ensures.value) ∙ sym c.find.ensures ∙ c.in_err-at.was in
    λ h st. c.from_residual.ensures ∙ shown-nowhere s h xs c.args.dom c.args.gref.0 p st

pub returns-then-gref-entries : goal.returns-then-gref-entries
returns-then-gref-entries g c = let s = setting_by g.P.Allows.may c.args.self.now in
    let xs = c.args.self.now.domains.items in let x = c.index-domain.result.now in
    let p : position (has_id c.args.dom.0) xs ≡ Some c.in_ok-at.at = ap (λ (l : List State). position (has_id c.args.dom.0) l) (sym c.deref.ensures.value) ∙ sym c.find.ensures ∙ c.in_ok-at.was in
    let size : c.entries.result ≡ size_of x.header = c.entries.ensures ∙ ap (λ (z : State). size_of z.header) c.domain.view_is in
    let past : size_of x.header ≤ c.args.gref.0 = subst (λ (n : ℕ). n ≤ c.args.gref.0) size c.if-gref-entries.true in
    λ h st. shown-past s h xs c.args.dom c.args.gref.0 c.in_ok-at.at x p c.index-domain.ensures past st

pub returns : goal.returns
returns g c = let s = setting_by g.P.Allows.may c.args.self.now in
    let xs = c.args.self.now.domains.items in let x = c.index-domain.result.now in
    let p : position (has_id c.args.dom.0) xs ≡ Some c.in_ok-at.at = ap (λ (l : List State). position (has_id c.args.dom.0) l) (sym c.deref.ensures.value) ∙ sym c.find.ensures ∙ c.in_ok-at.was in
    let size : c.entries.result ≡ size_of x.header = c.entries.ensures ∙ ap (λ (z : State). size_of z.header) c.domain.view_is in
    let within : c.args.gref.0 < size_of x.header = subst (λ (n : ℕ). c.args.gref.0 < n) size c.if-gref-entries.false in
    λ h st. c.shown.ensures ∙ shown-there s h xs c.args.dom c.args.gref.0 c.in_ok-at.at x p c.index-domain.ensures within st
