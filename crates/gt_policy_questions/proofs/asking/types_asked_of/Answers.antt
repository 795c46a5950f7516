use Rattle.std.proofs.Common.{◌∙◌, sym}
use Rattle.std.specs.Option.{option_map}
use Rattle.gt_policy_questions.proofs.Asked.{types-none, types-yes, types-no}
use Rattle.gt_policy_questions.proofs.asking.types_asked_of.Goals.{then-is_type_asked+in_ok-push, else-is_type_asked}
use Rattle.gt_policy_questions.proofs.asking.types_asked_of.Goals as goal

pub types-init : goal.types-init
types-init c = types-none c.args.members.now (option_map (λ a. a.now) c.args.asked) _ c.new-ids.ensures.items

pub types-preserved : goal.types-preserved
types-preserved c = elim c.if-is_type_asked.branch [
  | then-is_type_asked+in_ok-push w ↦ rw (w.ids-is, w.in_ok-push.ensures.items)
      (types-yes c.args.members.now (option_map (λ a. a.now) c.args.asked) c.types.id c.types.ids.items c.types.invariant
      (sym c.is_type_asked.ensures ∙ w.if-is_type_asked.true))
  | else-is_type_asked w ↦ rw w.ids-is
      (types-no c.args.members.now (option_map (λ a. a.now) c.args.asked) c.types.id c.types.ids.items c.types.invariant
      (sym c.is_type_asked.ensures ∙ w.if-is_type_asked.false))
]
