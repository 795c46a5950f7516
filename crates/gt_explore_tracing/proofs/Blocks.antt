-- The blocks of moves.
use Rattle.std.proofs.Common.{◌≡◌, ◌≤◌, ◌<◌, ◌+◌, ℕ, suc, Bool, true, false, List, [], ◌∷◌, Option, None, Some, map}
use Rattle.std.proofs.Common.{refl, sym, ap, ◌∙◌, subst, arith, option_map, length, get_or, drop}
use Rattle.std.specs.Prelude.{◌==◌, if◌then◌else◌, slice_get}
use Rattle.std.proofs.lemmas.Bool.{eq-eqb, eqb-true, false≢true}
use Rattle.std.proofs.lemmas.List.{drop_all, drop_more}
use Rattle.std.proofs.lemmas.Option.{same_Some}
use Rattle.gt_types.specs.declared.DomId.{DomId}
use Rattle.gt_types.specs.declared.config.DomainConfig.{DomainConfig}
use Rattle.gt_script.specs.RunContents.{RunContents}
use Rattle.gt_explore_changes.specs.Blocks.{blocks_after, blocks_from, blocks_in, blocks_with, is_again, order_blocks}
use Rattle.gt_explore_changes.specs.Fewest.{HasAtLeast}
use Rattle.gt_explore_search.specs.declared.spaces.Turn.{Turn}
use Rattle.gt_explore_trace.specs.Moves.{AreByTurns}
use Rattle.gt_explore_trace.specs.declared.moves.TracedMove.{TracedMove}
use Rattle.gt_explore_tracing.specs.MoveBlocks.{move_blocks}

-- the blocks that these moves begin after the last one
abbrev pub begun_from : Option DomId → List TracedMove → ℕ
begun_from last ms = blocks_from last (map (λ (m : TracedMove). m.dom) ms)

-- one move more was counted
pub counted-more : (ms : List TracedMove) (at : ℕ) (m : TracedMove) (last : Option DomId) (n one all : ℕ) → at < length ms → m ≡ get_or ms at m → one ≡ (if is_again last m.dom then 0 else 1)
    → all ≡ n + begun_from last (drop at ms) → all ≡ (n + one) + begun_from (Some m.dom) (drop (at + 1) ms)
counted-more ms at m last n one all lt is begins was =
    let left : drop at ms ≡ m ∷ drop (at + 1) ms = drop_more ms at m lt ∙ ap (λ (q : TracedMove). q ∷ drop (at + 1) ms) (sym is) in
    let here : begun_from last (drop at ms) ≡ (if is_again last m.dom then 0 else 1) + begun_from (Some m.dom) (drop (at + 1) ms) = ap (begun_from last) left in
    was ∙ ap (λ (k : ℕ). n + k) here ∙ ap (λ (k : ℕ). n + (k + begun_from (Some m.dom) (drop (at + 1) ms))) (sym begins)
    ∙ regrouped n one (begun_from (Some m.dom) (drop (at + 1) ms))
  where
    regrouped : (a b c : ℕ) → a + (b + c) ≡ (a + b) + c
    regrouped a b c = omega arith

-- all were counted
pub counted-all : (ms : List TracedMove) (at : ℕ) (last : Option DomId) (n all : ℕ) → length ms ≤ at → all ≡ n + begun_from last (drop at ms) → n ≡ all
counted-all ms at last n all end was =
    let none : begun_from last (drop at ms) ≡ 0 = ap (begun_from last) (drop_all at ms end) in
    omega (arith, was, none)

-- the last turn was of the domain of the last move, or there was none
abbrev IsByLast : List DomainConfig → Option ℕ → Option DomId → Type 0
IsByLast ds None None = Unit {0}
IsByLast ds (Some place) (Some dom) = option_map (λ (d : DomainConfig). d.id) (slice_get ds place) ≡ Some dom
IsByLast ds None (Some dom) = ⊥
IsByLast ds (Some place) None = ⊥

at-most : (b : Bool) (n : ℕ) → n + (if b then 0 else 1) ≤ suc n
at-most true n = omega arith
at-most false n = omega arith

none-begun : (b : Bool) (n : ℕ) → b ≡ true → n + (if b then 0 else 1) ≤ n
none-begun true n e = omega arith
none-begun false n e = absurd (false≢true e)

one-block : (ds : List DomainConfig) (last : Option ℕ) (before : Option DomId) (n place : ℕ) (dom : DomId) → IsByLast ds last before → option_map (λ (d : DomainConfig). d.id) (slice_get ds place) ≡ Some dom
    → n + (if is_again before dom then 0 else 1) ≤ blocks_with last n place
one-block ds None None n place dom one own = omega arith
one-block ds None (Some d) n place dom one own = absurd one
one-block ds (Some p) None n place dom one own = absurd one
one-block ds (Some p) (Some d) n place dom one own = by (p == place) refl
  where
    by : (b : Bool) → (p == place) ≡ b → n + (if d.0 == dom.0 then 0 else 1) ≤ (if p == place then n else suc n)
    by false e = subst (λ (b : Bool). n + (if d.0 == dom.0 then 0 else 1) ≤ (if b then n else suc n)) (sym e) (at-most (d.0 == dom.0) n)
    by true e =
        let there = subst (λ (at : ℕ). option_map (λ (c : DomainConfig). c.id) (slice_get ds at) ≡ Some d) (eqb-true p place e) one in
        let same : d ≡ dom = same_Some d dom (sym there ∙ own) in
        subst (λ (b : Bool). n + (if d.0 == dom.0 then 0 else 1) ≤ (if b then n else suc n)) (sym e) (none-begun (d.0 == dom.0) n (eq-eqb d.0 dom.0 (ap (λ (q : DomId). q.0) same)))

no-more : (ds : List DomainConfig) (ts : List Turn) (ms : List TracedMove) (last : Option ℕ) (before : Option DomId) (n : ℕ) → IsByLast ds last before → AreByTurns ds ts ms
    → n + begun_from before ms ≤ blocks_after last n ts
no-more ds [] [] last before n one are = omega arith
no-more ds (t ∷ ts) (m ∷ ms) last before n one (own, rest) =
    added _ (blocks_with last n t.place) n _ (begun_from (Some m.dom) ms) (no-more ds ts ms (Some t.place) (Some m.dom) (blocks_with last n t.place) own rest) (one-block ds last before n t.place m.dom one own)
  where
    added : (all here n one more : ℕ) → here + more ≤ all → n + one ≤ here → n + (one + more) ≤ all
    added all here n one more later now = omega arith
no-more ds [] (m ∷ ms) last before n one are = absurd are
no-more ds (t ∷ ts) [] last before n one are = absurd are

-- moves by the domains of their turns have no more blocks than the turns
pub moves-no-more : (ds : List DomainConfig) (ts : List Turn) (ms : List TracedMove) → AreByTurns ds ts ms → move_blocks ms ≤ blocks_in ts
moves-no-more ds ts ms are =
    let most = no-more ds ts ms None None 0 tt are in
    let same : 0 + move_blocks ms ≡ move_blocks ms = omega arith in
    subst (λ (k : ℕ). k ≤ blocks_in ts) same most

-- each order has at least a smaller number of blocks
pub at-least-fewer : (c : RunContents) (text : List ℕ) (n m : ℕ) → n ≤ m → HasAtLeast c text m → HasAtLeast c text n
at-least-fewer c text n m few least = λ hs order. let more : m ≤ order_blocks hs = least hs order in omega (arith, few, more)
