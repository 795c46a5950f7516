use Rattle.gt_core.proofs.Words.{sym, refl, ◌∙◌, ap, Some, Bool, TypeId, Perms, CallerKnowledge, Settled, ◌≡◌, List}
use Rattle.gt_core.proofs.Words.{None, subst, position, slice_get, same_Some, State, IsAdmitted}
use Rattle.gt_core.proofs.{Beginning.begin-nowhere, Beginning.tick-idle, Beginning.place-at, Performing.still-underway}
use Rattle.gt_core.proofs.{Performing.still-within, Rows.has_id, Rows.on-err, Stepping.begins-after, Stepping.tick-does}
use Rattle.gt_core.proofs.{Stepping.room-asked, Stepping.tick-wants, Stepping.tick-admitted, Stepping.tick-readable}
use Rattle.gt_core.proofs.{Stepping.readable-after}
use Rattle.gt_calls.specs.Following.{IsLeftAlike}
use Rattle.gt_core.specs.declared.kept.Machine.{Machine}
use Rattle.gt_core.specs.Acting.{setting_by, known_by}
use Rattle.gt_core.proofs.kept.Machine.tick.Goals as goal

-- what a domain knows of the run stays
known-still : {P : Type 0} (may : P → TypeId → TypeId → Perms → Bool) (old new : Machine P) → new.config ≡ old.config → new.rights ≡ old.rights → (d : State) → known_by may new d ≡ known_by may old d
known-still may old new config rights d = rw (config, rights) refl

pub returns-in_default-clause-stands : goal.returns-in_default-clause-stands
returns-in_default-clause-stands g c =
    let s = setting_by g.P.Allows.may c.args.self.now in let xs = c.args.self.now.domains.items in
    let p : position (has_id c.args.dom.0) xs ≡ None = ap (λ (l : List State). position (has_id c.args.dom.0) l) (sym c.deref.ensures.value) ∙ sym c.find.ensures ∙ c.in_default.is in
    λ h st. (begin-nowhere s h xs c.args.dom p st.domains, st)

pub returns-in_default-underway-clause-stands : goal.returns-in_default-underway-clause-stands
returns-in_default-underway-clause-stands g c =
    let s = setting_by g.P.Allows.may c.args.self.now in let xs = c.args.self.now.domains.items in
    let p : position (has_id c.args.dom.0) xs ≡ Some c.in-Some.at = ap (λ (l : List State). position (has_id c.args.dom.0) l) (sym c.deref.ensures.value) ∙ sym c.find.ensures ∙ c.in-Some.is in
    λ h st. (tick-idle s h xs c.args.dom c.in-Some.at c.index.result.now p c.index.ensures (sym c.underway.ensures ∙ c.in_default-underway.is) st.domains, st)

pub returns-in_err-seen-clause-memory : goal.returns-in_err-seen-clause-memory
returns-in_err-seen-clause-memory g c = let s = setting_by g.P.Allows.may c.args.self.now in let xs = c.args.self.now.domains.items in
    let x = c.index.result.now in let at = c.in-Some.at in let o = c.in-Some-underway.open in
    let p : position (has_id c.args.dom.0) xs ≡ Some at = ap (λ (l : List State). position (has_id c.args.dom.0) l) (sym c.deref.ensures.value) ∙ sym c.find.ensures ∙ c.in-Some.is in
    let is : x.underway ≡ Some o = sym c.underway.ensures ∙ c.in-Some-underway.is in
    λ h st. on-err c.from_residual.result _ (tick-wants s h xs c.args.dom at x o p c.index.ensures is st c.in_err-seen.ensures.memory)

pub perform-requires-clause-admitted : goal.perform-requires-clause-admitted
perform-requires-clause-admitted g c = let s = setting_by g.P.Allows.may c.args.self.now in let xs = c.args.self.now.domains.items in
    let x = c.index.result.now in let at = c.in-Some.at in let o = c.in-Some-underway.open in
    let p : position (has_id c.args.dom.0) xs ≡ Some at = ap (λ (l : List State). position (has_id c.args.dom.0) l) (sym c.deref.ensures.value) ∙ sym c.find.ensures ∙ c.in-Some.is in
    let is : x.underway ≡ Some o = sym c.underway.ensures ∙ c.in-Some-underway.is in λ d there.
    subst (λ (z : State). IsAdmitted c.args.self.now.frames z o.call o.step) (same_Some _ _ (sym (place-at xs c.args.dom.0 at x p c.index.ensures) ∙ there))
    (tick-admitted s c.requires.0 xs c.args.dom at x o p c.index.ensures is c.args.self.now.frames c.requires.1)

pub advance-action-requires : goal.advance-action-requires
advance-action-requires g c = let s = setting_by g.P.Allows.may c.args.self.now in let xs = c.args.self.now.domains.items in
    let x = c.index.result.now in let at = c.in-Some.at in let o = c.in-Some-underway.open in
    let p : position (has_id c.args.dom.0) xs ≡ Some at = ap (λ (l : List State). position (has_id c.args.dom.0) l) (sym c.deref.ensures.value) ∙ sym c.find.ensures ∙ c.in-Some.is in
    still-within c.args.dom o.step c.in_ok-seen.seen xs _ at x p c.in_ok-seen.ensures.applied

pub settle_call-answer-requires-clause-there : goal.settle_call-answer-requires-clause-there
settle_call-answer-requires-clause-there g c = let s = setting_by g.P.Allows.may c.args.self.now in let xs = c.args.self.now.domains.items in
    let x = c.index.result.now in let at = c.in-Some.at in let o = c.in-Some-underway.open in
    let p : position (has_id c.args.dom.0) xs ≡ Some at = ap (λ (l : List State). position (has_id c.args.dom.0) l) (sym c.deref.ensures.value) ∙ sym c.find.ensures ∙ c.in-Some.is in
    still-within c.args.dom o.step c.in_ok-seen.seen xs _ at x p c.in_ok-seen.ensures.applied

pub settle_call-answer-requires-clause-under : goal.settle_call-answer-requires-clause-under
settle_call-answer-requires-clause-under g c = let s = setting_by g.P.Allows.may c.args.self.now in let xs = c.args.self.now.domains.items in
    let x = c.index.result.now in let at = c.in-Some.at in let o = c.in-Some-underway.open in
    let p : position (has_id c.args.dom.0) xs ≡ Some at = ap (λ (l : List State). position (has_id c.args.dom.0) l) (sym c.deref.ensures.value) ∙ sym c.find.ensures ∙ c.in-Some.is in
    λ d there. still-underway c.args.dom o.step c.in_ok-seen.seen xs at x d (place-at xs c.args.dom.0 at x p c.index.ensures)
    (sym (ap (λ (l : List State). slice_get l at) c.in_ok-seen.ensures.applied) ∙ there) ∙ sym c.underway.ensures ∙ c.in-Some-underway.is

pub settle_call-answer-requires-clause-readable : goal.settle_call-answer-requires-clause-readable
settle_call-answer-requires-clause-readable g c = let s = setting_by g.P.Allows.may c.args.self.now in let xs = c.args.self.now.domains.items in
    let x = c.index.result.now in let at = c.in-Some.at in let o = c.in-Some-underway.open in
    let p : position (has_id c.args.dom.0) xs ≡ Some at = ap (λ (l : List State). position (has_id c.args.dom.0) l) (sym c.deref.ensures.value) ∙ sym c.find.ensures ∙ c.in-Some.is in
    readable-after c.args.self.now.frames c.perform.new.self.frames x o.call o.step (c.in_ok-seen.ensures.accessed x (place-at xs c.args.dom.0 at x p c.index.ensures))
    (tick-readable s c.requires.0 xs c.args.dom at x o p c.index.ensures (sym c.underway.ensures ∙ c.in-Some-underway.is) c.args.self.now.frames c.requires.1)

pub settle_call-answer-requires-clause-room : goal.settle_call-answer-requires-clause-room
settle_call-answer-requires-clause-room g c = let s = setting_by g.P.Allows.may c.args.self.now in let xs = c.args.self.now.domains.items in
    let x = c.index.result.now in let at = c.in-Some.at in let o = c.in-Some-underway.open in
    let p : position (has_id c.args.dom.0) xs ≡ Some at = ap (λ (l : List State). position (has_id c.args.dom.0) l) (sym c.deref.ensures.value) ∙ sym c.find.ensures ∙ c.in-Some.is in
    let seen = c.in_ok-seen.seen in let new = c.advance-action.result.0 in let action = c.advance-action.result.1 in
    room-asked s c.requires.0 xs c.args.dom at x o seen new action c.requires.1.legal c.requires.1.domains
    (begins-after s c.requires.0 xs c.perform.new.self.domains.items c.args.self.now.frames c.args.dom at x o seen new action c.requires.1 p c.index.ensures (sym c.underway.ensures ∙ c.in-Some-underway.is)
    c.in_ok-seen.ensures.sees c.in_ok-seen.ensures.applied c.advance-action.ensures.caller c.advance-action.ensures.request
    (λ d there k alike. c.advance-action.ensures.goes d there k
    (subst (λ (z : CallerKnowledge). IsLeftAlike k z o.call seen) (sym (known-still g.P.Allows.may c.args.self.now c.perform.new.self c.in_ok-seen.ensures.config c.in_ok-seen.ensures.rights d)) alike)))

pub returns-clause-stands : goal.returns-clause-stands
returns-clause-stands g c = let s = setting_by g.P.Allows.may c.args.self.now in let xs = c.args.self.now.domains.items in
    let x = c.index.result.now in let at = c.in-Some.at in let o = c.in-Some-underway.open in
    let p : position (has_id c.args.dom.0) xs ≡ Some at = ap (λ (l : List State). position (has_id c.args.dom.0) l) (sym c.deref.ensures.value) ∙ sym c.find.ensures ∙ c.in-Some.is in
    let seen = c.in_ok-seen.seen in let new = c.advance-action.result.0 in let action = c.advance-action.result.1 in
    let ws = c.perform.new.self.domains.items in let applied = c.in_ok-seen.ensures.applied in
    tick-does s c.args.self.now.frames c.perform.new.self.frames c.settle_call-answer.new.self.frames xs c.settle_call-answer.new.self.domains.items c.args.dom at x o seen new action c.settle_call-answer.result c.ticked_as.result c.ticked_as.ensures
    (begins-after s c.requires.0 xs ws c.args.self.now.frames c.args.dom at x o seen new action c.requires.1 p c.index.ensures (sym c.underway.ensures ∙ c.in-Some-underway.is)
    c.in_ok-seen.ensures.sees applied c.advance-action.ensures.caller c.advance-action.ensures.request
    (λ d there k alike. c.advance-action.ensures.goes d there k
    (subst (λ (z : CallerKnowledge). IsLeftAlike k z o.call seen) (sym (known-still g.P.Allows.may c.args.self.now c.perform.new.self c.in_ok-seen.ensures.config c.in_ok-seen.ensures.rights d)) alike)))
    (c.in_ok-seen.ensures.accessed x (place-at xs c.args.dom.0 at x p c.index.ensures))
    (λ d there. subst (λ (l : List State). Settled c.perform.new.self.frames l at d o.step new action c.settle_call-answer.result c.settle_call-answer.new.self.domains.items) applied
    (c.settle_call-answer.ensures.settles d (ap (λ (l : List State). slice_get l at) applied ∙ there))) c.settle_call-answer.ensures.frames
