use Rattle.gt_core.proofs.{Words.◌≡◌, Words.length, Words.Some, Words.None, Words.refl, Words.sym, Words.ap, Words.◌∙◌}
use Rattle.gt_core.proofs.{Words.subst, Words.set, Words.same_Some, Words.slice_get_read, Words.HandleMap, Words.HeldPin}
use Rattle.gt_core.proofs.{Words.Action, Words.Done, Words.CallResult, Words.Mapped, Words.Option, Words.OpenCall, Words.State}
use Rattle.gt_core.proofs.{Words.Adds, Words.with_underway, Words.with_mapping, Words.Settled, Words.IsMapping}
use Rattle.gt_core.proofs.{Words.IsRoomFor, Words.asked_in, Placed.ids-set, CallsOver.ended-plain}
use Rattle.gt_core.proofs.kept.Machine.settle_call.Goals as goal

pub returns-in-Mapped-clause-settles : goal.returns-in-Mapped-clause-settles
returns-in-Mapped-clause-settles g c = λ d here. let xs = c.args.self.now.domains.items in let at = c.args.at in
    let y = c.index_mut-in-Mapped.result.now in
    let same : y ≡ d = same_Some _ _ (sym (slice_get_read xs (length xs) at y refl c.requires.there c.index_mut-in-Mapped.ensures.value) ∙ here) in
    let handle = c.add_mapping.result in let kept : HandleMap HeldPin = c.add_mapping.new.self.mappings in
    let adds = subst (λ (z : State). Adds z.mappings kept handle c.in-Mapped.held) same c.add_mapping.ensures.adds in
    let after = ap (λ (z : State). set xs at z) (c.add_mapping.ensures.added ∙ ap (with_mapping kept) same) in
    subst (λ (z : Action). Settled c.args.self.now.frames xs at d c.args.last.step c.args.call z (Some (Mapped handle)) (set xs at c.add_mapping.new.self)) (sym (c.in-Done.is ∙ ap (λ (v : CallResult). Done v) c.in-Mapped.is))
    (Mapped handle, refl, (handle, kept, refl, adds, after))

pub returns-in_default-clause-settles : goal.returns-in_default-clause-settles
returns-in_default-clause-settles g c = λ d here. let xs = c.args.self.now.domains.items in let at = c.args.at in
    let y = c.index_mut-in_default.result.now in let new = set xs at c.close-in_default.new.self in
    let same : y ≡ d = same_Some _ _ (sym (slice_get_read xs (length xs) at y refl c.requires.there c.index_mut-in_default.ensures.value) ∙ here) in
    subst (λ (z : Action). Settled c.args.self.now.frames xs at d c.args.last.step c.args.call z (Some c.answer_of.result) new) (sym c.in-Done.is)
    (ended-plain c.args.self.now.frames xs new at d c.args.last.step c.args.call c.in-Done.verdict c.answer_of.result c.in_default.not-Granted c.in_default.not-Mapped c.answer_of.ensures
    (ap (λ (z : State). set xs at z) (c.close-in_default.ensures ∙ ap (with_underway None) same)))

pub returns-in-Step-clause-settles : goal.returns-in-Step-clause-settles
returns-in-Step-clause-settles g c = λ d here. let xs = c.args.self.now.domains.items in let at = c.args.at in
    let y = c.index_mut.result.now in let o : Option OpenCall = Some (record { call = c.args.call; step = c.in-Step.step }) in
    let same : y ≡ d = same_Some _ _ (sym (slice_get_read xs (length xs) at y refl c.requires.there c.index_mut.ensures.value) ∙ here) in
    subst (λ (z : Action). Settled c.args.self.now.frames xs at d c.args.last.step c.args.call z None (set xs at c.go_on.new.self)) (sym c.in-Step.is)
    (refl, ap (λ (z : State). set xs at z) (c.go_on.ensures ∙ ap (with_underway o) same))

pub returns-in-Granted-clause-settles : goal.returns-in-Granted-clause-settles
returns-in-Granted-clause-settles g c = λ d here.
    subst (λ (z : Action). Settled c.args.self.now.frames c.args.self.now.domains.items c.args.at d c.args.last.step c.args.call z (Some c.close.result) c.close.new.self.domains.items)
    (sym (c.in-Done.is ∙ ap (λ (v : CallResult). Done v) c.in-Granted.is)) (c.close.result, refl, c.close.ensures.settles d here)

pub invariant_of-self : goal.invariant_of-self
invariant_of-self g c =
    record { placed = ids-set c.args.self.now.domains.items c.args.at c.go_on.new.self c.index_mut.result.now c.index_mut.ensures.value (ap (λ (z : State). z.id) c.go_on.ensures) ∙ c.args.self.now.placed }

pub add_mapping-requires : goal.add_mapping-requires
add_mapping-requires g c =
    let xs = c.args.self.now.domains.items in let y = c.index_mut-in-Mapped.result.now in
    let here = slice_get_read xs (length xs) c.args.at y refl c.requires.there c.index_mut-in-Mapped.ensures.value in
    subst (λ (o : Option OpenCall). IsMapping (asked_in o)) (sym (c.requires.under y here))
    (subst (IsRoomFor c.args.last.call.request) (c.in-Done.is ∙ ap (λ (v : CallResult). Done v) c.in-Mapped.is) c.requires.room)

pub invariant_of-self-in-Mapped : goal.invariant_of-self-in-Mapped
invariant_of-self-in-Mapped g c =
    record { placed = ids-set c.args.self.now.domains.items c.args.at c.add_mapping.new.self c.index_mut-in-Mapped.result.now c.index_mut-in-Mapped.ensures.value (ap (λ (z : State). z.id) c.add_mapping.ensures.added) ∙ c.args.self.now.placed }

pub invariant_of-self-in_default : goal.invariant_of-self-in_default
invariant_of-self-in_default g c =
    record { placed = ids-set c.args.self.now.domains.items c.args.at c.close-in_default.new.self c.index_mut-in_default.result.now c.index_mut-in_default.ensures.value (ap (λ (z : State). z.id) c.close-in_default.ensures) ∙ c.args.self.now.placed }
