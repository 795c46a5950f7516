use Rattle.gt_core.proofs.Words.{◌≡◌, List, Option, Some, None, sym, ap, ◌∙◌, position, HeldPin, State, entry_place_of}
use Rattle.gt_core.proofs.Words.{Bor}
use Rattle.gt_core.proofs.Words.{option_copied}
use Rattle.std.specs.Prelude.{option_map}
use Rattle.gt_core.{proofs.Rows.has_id, proofs.Showing.subject-nowhere, proofs.Showing.subject-there}
use Rattle.gt_core.{specs.Acting.setting_by}
use Rattle.gt_core.proofs.kept.Machine.subject.Goals as goal

pub returns-in_err-at : goal.returns-in_err-at
returns-in_err-at g c = let s = setting_by g.P.Allows.may c.args.self.now in let xs = c.args.self.now.domains.items in
    let p : position (has_id c.args.dom.0) xs ≡ None = ap (λ (l : List State). position (has_id c.args.dom.0) l) (sym c.deref.ensures.value) ∙ sym c.find.ensures ∙ c.in_err-at.was in
    λ h st. c.from_residual.ensures ∙ subject-nowhere s h xs c.args.dom c.args.handle p st

pub returns-in_err-held : goal.returns-in_err-held
returns-in_err-held g c = let s = setting_by g.P.Allows.may c.args.self.now in let xs = c.args.self.now.domains.items in
    let p : position (has_id c.args.dom.0) xs ≡ Some c.in_ok-at.at = ap (λ (l : List State). position (has_id c.args.dom.0) l) (sym c.deref.ensures.value) ∙ sym c.find.ensures ∙ c.in_ok-at.was in
    λ h st. c.from_residual-in_err-held.ensures ∙ sym (ap (λ (o : Option (Bor HeldPin)). option_map entry_place_of (option_copied o)) c.in_err-held.was)
    ∙ ap (option_map entry_place_of) c.mapping.ensures ∙ subject-there s h xs c.args.dom c.args.handle c.in_ok-at.at c.index.result.now p c.index.ensures st

pub returns : goal.returns
returns g c = let s = setting_by g.P.Allows.may c.args.self.now in let xs = c.args.self.now.domains.items in
    let p : position (has_id c.args.dom.0) xs ≡ Some c.in_ok-at.at = ap (λ (l : List State). position (has_id c.args.dom.0) l) (sym c.deref.ensures.value) ∙ sym c.find.ensures ∙ c.in_ok-at.was in
    λ h st. sym (ap (λ (o : Option (Bor HeldPin)). option_map entry_place_of (option_copied o)) c.in_ok-held.was)
    ∙ ap (option_map entry_place_of) c.mapping.ensures ∙ subject-there s h xs c.args.dom c.args.handle c.in_ok-at.at c.index.result.now p c.index.ensures st
