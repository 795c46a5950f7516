use Rattle.std.proofs.Common.{◌∙◌, ℕ, List, Bor, false, true, ap, map, subst, sym}
use Rattle.gt_explore_precedence.specs.Exploring.{PartsExplored, is_joined_freely}
use Rattle.gt_explore_precedence.specs.Terms.{parts_between}
use Rattle.gt_explore_precedence.proofs.Preceded.{joined}
use Rattle.gt_explore_precedence.proofs.exploring.explore_preceding.Goals as goal

pub returns-then-is_joined_freely : goal.returns-then-is_joined_freely
returns-then-is_joined_freely g c = λ all e.
    let asked = c.args.asked.now in
    let parts = ap (λ (ps : List (Bor (List ℕ))). map (λ (part : Bor (List ℕ)). part.now) ps) c.as_slice.ensures.value ∙ c.in_ok-parts.ensures ∙ ap parts_between c.as_bytes.ensures.value in
    let is = sym (c.is_joined_freely.ensures ∙ ap (λ (ps : List (List ℕ)). is_joined_freely asked.claim asked.expression.now ps) parts) ∙ c.if-is_joined_freely.true in
    joined all asked _ _ c.explore_orders.result true is (c.explore_orders.ensures all e)

pub returns : goal.returns
returns g c = λ all e.
    let asked = c.args.asked.now in
    let parts = ap (λ (ps : List (Bor (List ℕ))). map (λ (part : Bor (List ℕ)). part.now) ps) c.as_slice.ensures.value ∙ c.in_ok-parts.ensures ∙ ap parts_between c.as_bytes.ensures.value in
    let is = sym (c.is_joined_freely.ensures ∙ ap (λ (ps : List (List ℕ)). is_joined_freely asked.claim asked.expression.now ps) parts) ∙ c.if-is_joined_freely.false in
    let again = ap (λ (ps : List (Bor (List ℕ))). map (λ (part : Bor (List ℕ)). part.now) ps) c.as_slice-2.ensures.value ∙ c.in_ok-parts.ensures ∙ ap parts_between c.as_bytes.ensures.value in
    joined all asked _ _ c.explore_parts.result false is
    (subst (λ (ps : List (List ℕ)). PartsExplored all asked ps (g.W.Write.contents c.args.writer.now) (g.W.Write.contents c.explore_parts.new.writer) c.explore_parts.result) again (c.explore_parts.ensures all e))
