-- The flags of a script with one flag more.
use Rattle.std.proofs.Common.{◌≡◌, ℕ, ◌+◌, ◌==◌, Bool, true, false, List, [], ◌∷◌, arith, cond, subst, sym}
use Rattle.std.proofs.lemmas.List.Elements.{All-nil, All-cons, All-append, All-head, All-tail}
use Rattle.gt_script.specs.Lists.{RunAction, RunTask}
use Rattle.gt_script.specs.Preceding.{around, beside_call, is_call, with_precedence}
use Rattle.gt_script.specs.Stuck.{IsBelow, AreNumbered}
use Rattle.gt_script.specs.declared.precedence.Precedence.{Precedence}
use Rattle.gt_script.specs.declared.tasks.RunAction.TheVariants as run_actions

below-next : (n : ℕ) (a : RunAction) → IsBelow n a → IsBelow (n + 1) a
below-next n (run_actions.Do call) h = tt
below-next n (run_actions.Tell flag) h = omega (arith, h)
below-next n (run_actions.Await flag) h = omega (arith, h)

one-numbered : (n : ℕ) (b d : Bool) (x : RunTask) → IsBelow n x.run_action → AreNumbered n (cond b (cond d (x ∷ []) []) [])
one-numbered n true true x h = All-cons (λ (t : RunTask). IsBelow n t.run_action) x [] h (All-nil _)
one-numbered n true false x h = All-nil _
one-numbered n false d x h = All-nil _

beside-numbered : (n line : ℕ) (a : RunAction) (t : RunTask) → IsBelow n a → AreNumbered n (beside_call line a t)
beside-numbered n line a t h = one-numbered n (is_call t.run_action) (t.line == line) (record { line = t.line; dom = t.dom; run_action = a }) h

around-numbered : (n : ℕ) (p : Precedence) (t : RunTask) → IsBelow n t.run_action → AreNumbered (n + 1) (around n p t)
around-numbered n p t h =
    let behind = beside_call p.first (run_actions.Tell n) t in
    All-append (λ (t : RunTask). IsBelow (n + 1) t.run_action) (beside_call p.second (run_actions.Await n) t) (t ∷ behind) (beside-numbered (n + 1) p.second (run_actions.Await n) t (omega arith))
    (All-cons (λ (t : RunTask). IsBelow (n + 1) t.run_action) t behind (below-next n t.run_action h) (beside-numbered (n + 1) p.first (run_actions.Tell n) t (omega arith)))

-- the flags are below the new number
pub preceding-numbered : (n : ℕ) (p : Precedence) (tasks : List RunTask) → AreNumbered n tasks → AreNumbered (n + 1) (with_precedence n p tasks)
preceding-numbered n p [] h = All-nil _
preceding-numbered n p (t ∷ ts) h =
    All-append (λ (t : RunTask). IsBelow (n + 1) t.run_action) (around n p t) (with_precedence n p ts) (around-numbered n p t (All-head (λ (t : RunTask). IsBelow n t.run_action) t ts h))
    (preceding-numbered n p ts (All-tail (λ (t : RunTask). IsBelow n t.run_action) t ts h))

pub preceding-counts : (n count : ℕ) (p : Precedence) (tasks made : List RunTask) → count ≡ n + 1 → made ≡ with_precedence n p tasks → AreNumbered n tasks → AreNumbered count made
preceding-counts n count p tasks made next is h =
    subst (λ (m : ℕ). AreNumbered m made) (sym next) (subst (λ (ts : List RunTask). AreNumbered (n + 1) ts) (sym is) (preceding-numbered n p tasks h))
