use Rattle.gt_core.proofs.Words.{sym, ◌∙◌, ap, Some, ◌≡◌, ℕ, List, refl, subst, None, Option, position, is_some, OpenCall}
use Rattle.gt_core.proofs.Words.{with_open_call, bytes_given_by, State, kept_by, ◌<◌, ◌+◌, knowledge_of, DomainsStand}
use Rattle.gt_core.proofs.Words.{OpensAs, CallerKnowledge, DomId, Request}
use Rattle.gt_calls.specs.declared.asking.Judged.{Judged}
use Rattle.gt_core.proofs.Words.{same_Some, set, ◌∷◌, ◌^◌}
use Rattle.gt_core.{proofs.Beginning.serial-left, proofs.Beginning.begin-wants, proofs.Beginning.begin-nowhere}
use Rattle.gt_core.{proofs.Beginning.begin-busy, proofs.Beginning.begin-answers, proofs.Beginning.begin-opened}
use Rattle.gt_core.{proofs.Beginning.place-at, proofs.Beginning.began, proofs.Placed.either-way, proofs.Placed.ids-set}
use Rattle.gt_core.{proofs.Rows.has_id, proofs.Rows.on-err, specs.Acting.setting_by}
use Rattle.gt_core.proofs.kept.Machine.begin.Goals as goal

-- a call that is opened by what its domain knows
opened : (k : CallerKnowledge) {j : CallerKnowledge} (dom : DomId) (request : Request) (o : Judged OpenCall) → j ≡ k → OpensAs j dom request o → OpensAs k dom request o
opened k dom request o same opens = subst (λ (z : CallerKnowledge). OpensAs z dom request o) same opens

pub returns-in_default-clause-stands : goal.returns-in_default-clause-stands
returns-in_default-clause-stands g c =
    let s = setting_by g.P.Allows.may c.args.self.now in let xs = c.args.self.now.domains.items in
    let p : position (has_id c.args.dom.0) xs ≡ None = ap (λ (l : List State). position (has_id c.args.dom.0) l) (sym c.deref.ensures.value) ∙ sym c.find.ensures ∙ c.in_default.is in
    λ h st. (begin-nowhere s h xs c.args.dom p st, st)

pub returns-then-is_some-clause-stands : goal.returns-then-is_some-clause-stands
returns-then-is_some-clause-stands g c =
    let s = setting_by g.P.Allows.may c.args.self.now in let xs = c.args.self.now.domains.items in
    let p : position (has_id c.args.dom.0) xs ≡ Some c.in-Some.at = ap (λ (l : List State). position (has_id c.args.dom.0) l) (sym c.deref.ensures.value) ∙ sym c.find.ensures ∙ c.in-Some.is in
    λ h st. (begin-busy s h xs c.args.dom c.in-Some.at c.index.result.now p c.index.ensures (ap (λ (o : Option OpenCall). is_some o) (sym c.underway.ensures) ∙ sym c.is_some.ensures ∙ c.if-is_some.true) st, st)

pub returns-in-Answered-clause-stands : goal.returns-in-Answered-clause-stands
returns-in-Answered-clause-stands g c =
    let s = setting_by g.P.Allows.may c.args.self.now in let xs = c.args.self.now.domains.items in
    let p : position (has_id c.args.dom.0) xs ≡ Some c.in-Some.at = ap (λ (l : List State). position (has_id c.args.dom.0) l) (sym c.deref.ensures.value) ∙ sym c.find.ensures ∙ c.in-Some.is in
    let x = c.index.result.now in let k = knowledge_of s.domains s.first_generation s.may x.own x.header x.mappings in
    let opens = subst (λ (o : Judged OpenCall). OpensAs k c.args.dom c.args.request o) c.in-Answered.is (opened k c.args.dom c.args.request c.open_call-judged.result (c.known_at.ensures x (place-at xs c.args.dom.0 c.in-Some.at x p c.index.ensures)) c.open_call-judged.ensures) in
    λ h st. let r = begin-answers s h xs c.args.dom c.in-Some.at x c.args.request c.in-Answered.verdict c.answer_of.result c.answer_of.ensures p c.index.ensures (ap (λ (o : Option OpenCall). is_some o) (sym c.underway.ensures) ∙ sym c.is_some.ensures ∙ c.if-is_some.false) opens st in
    ((r.0, (refl, refl), r.1), r.2)

pub returns-in_ok-start_call-in-Open-clause-stands : goal.returns-in_ok-start_call-in-Open-clause-stands
returns-in_ok-start_call-in-Open-clause-stands g c =
    let s = setting_by g.P.Allows.may c.args.self.now in let xs = c.args.self.now.domains.items in
    let p : position (has_id c.args.dom.0) xs ≡ Some c.in-Some.at = ap (λ (l : List State). position (has_id c.args.dom.0) l) (sym c.deref.ensures.value) ∙ sym c.find.ensures ∙ c.in-Some.is in
    let x = c.index.result.now in let k = knowledge_of s.domains s.first_generation s.may x.own x.header x.mappings in
    let opens = subst (λ (o : Judged OpenCall). OpensAs k c.args.dom c.args.request o) c.in-Open.is (opened k c.args.dom c.args.request c.open_call-judged.result (c.known_at.ensures x (place-at xs c.args.dom.0 c.in-Some.at x p c.index.ensures)) c.open_call-judged.ensures) in
    let y = c.index_mut.result.now in
    let same : x ≡ y = same_Some x y (sym (place-at xs c.args.dom.0 c.in-Some.at x p c.index.ensures) ∙ place-at xs c.args.dom.0 c.in-Some.at y p c.index_mut.ensures.value) in
    let r = c.in-Open.open.call.request in
    let new : c.start_call.new.self ≡ with_open_call c.in-Open.open (kept_by r (bytes_given_by c.args.request)) x =
    c.in_ok-start_call-in-Open.ensures.opened ∙ ap (with_open_call c.in-Open.open (kept_by r c.given_by.result.now)) (sym same) ∙ ap (λ (l : List ℕ). with_open_call c.in-Open.open (kept_by r l) x) c.given_by.ensures in
    λ h st. let r = begin-opened s h xs c.args.dom c.in-Some.at x c.args.request c.in-Open.open c.asked_fits.ensures p c.index.ensures
    (ap (λ (o : Option OpenCall). is_some o) (sym c.underway.ensures) ∙ sym c.is_some.ensures ∙ c.if-is_some.false) opens st in (
      (r.0, (refl, refl), r.1),
      subst (λ (z : State). DomainsStand s (began c.args.dom c.args.request None ∷ h) (set xs c.in-Some.at z)) (sym new) r.2,
    )

pub returns-in_err-start_call-in-Open-clause-memory : goal.returns-in_err-start_call-in-Open-clause-memory
returns-in_err-start_call-in-Open-clause-memory g c =
    let s = setting_by g.P.Allows.may c.args.self.now in let xs = c.args.self.now.domains.items in
    let p : position (has_id c.args.dom.0) xs ≡ Some c.in-Some.at = ap (λ (l : List State). position (has_id c.args.dom.0) l) (sym c.deref.ensures.value) ∙ sym c.find.ensures ∙ c.in-Some.is in
    let x = c.index.result.now in let k = knowledge_of s.domains s.first_generation s.may x.own x.header x.mappings in
    let opens = subst (λ (o : Judged OpenCall). OpensAs k c.args.dom c.args.request o) c.in-Open.is (opened k c.args.dom c.args.request c.open_call-judged.result (c.known_at.ensures x (place-at xs c.args.dom.0 c.in-Some.at x p c.index.ensures)) c.open_call-judged.ensures) in
    λ h st. on-err c.from_residual.result _ (begin-wants s h xs c.args.dom c.in-Some.at x c.args.request c.in-Open.open c.in_err-start_call-in-Open.ensures.memory p c.index.ensures
    (ap (λ (o : Option OpenCall). is_some o) (sym c.underway.ensures) ∙ sym c.is_some.ensures ∙ c.if-is_some.false) opens st)

pub start_call-requires : goal.start_call-requires
start_call-requires g c = let s = setting_by g.P.Allows.may c.args.self.now in let xs = c.args.self.now.domains.items in
    let p : position (has_id c.args.dom.0) xs ≡ Some c.in-Some.at = ap (λ (l : List State). position (has_id c.args.dom.0) l) (sym c.deref.ensures.value) ∙ sym c.find.ensures ∙ c.in-Some.is in
    let x = c.index.result.now in let k = knowledge_of s.domains s.first_generation s.may x.own x.header x.mappings in
    let opens = subst (λ (o : Judged OpenCall). OpensAs k c.args.dom c.args.request o) c.in-Open.is (opened k c.args.dom c.args.request c.open_call-judged.result (c.known_at.ensures x (place-at xs c.args.dom.0 c.in-Some.at x p c.index.ensures)) c.open_call-judged.ensures) in
    let y = c.index_mut.result.now in
    let same : x ≡ y = same_Some x y (sym (place-at xs c.args.dom.0 c.in-Some.at x p c.index.ensures) ∙ place-at xs c.args.dom.0 c.in-Some.at y p c.index_mut.ensures.value) in
    λ m. subst (λ (z : State). z.mappings.given + 1 < 2 ^ 64) same (serial-left k c.args.dom c.args.request c.in-Open.open.call.request opens.asks opens.none m)

pub invariant_of-self-in-Open : goal.invariant_of-self-in-Open
invariant_of-self-in-Open g c =
    let xs = c.args.self.now.domains.items in let y = c.index_mut.result.now in let z = c.start_call.new.self in
    let same : z.id ≡ y.id = either-way c.start_call.result _ _ (z.id ≡ y.id) c.start_call.ensures.opened c.start_call.ensures.refused (λ e. ap (λ (x : State). x.id) e) (λ e. ap (λ (x : State). x.id) e) in
    record { placed = ids-set xs c.in-Some.at z y c.index_mut.ensures.value same ∙ c.args.self.now.placed }
