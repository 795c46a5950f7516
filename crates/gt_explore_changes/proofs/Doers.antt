-- The turns of an order have no more blocks than the order.
use Rattle.std.proofs.Common.{◌≡◌, ◌≤◌, ◌+◌, ℕ, zero, suc, Bool, true, false, List, [], ◌∷◌, ◌++◌, Option, None, Some, map}
use Rattle.std.proofs.Common.{refl, sym, ap, ◌∙◌, subst, arith, option_map, take, drop}
use Rattle.std.specs.Prelude.{◌==◌, if◌then◌else◌, slice_get, slice_set}
use Rattle.std.proofs.lemmas.Bool.{eq-eqb, eqb-true, false≢true}
use Rattle.std.proofs.lemmas.Option.{none-some, same_Some, slice_get-map}
use Rattle.std.proofs.lemmas.Simd.{map-map}
use Rattle.gt_types.specs.declared.DomId.{DomId}
use Rattle.gt_script.specs.Contents.{type_names}
use Rattle.gt_script.specs.Lists.{RunAction, RunTask}
use Rattle.gt_script.specs.RunContents.{RunContents}
use Rattle.gt_script.specs.declared.tasks.RunAction.TheVariants.{Await, Do, Tell}
use Rattle.gt_script_runs.specs.Runs.{answer_in}
use Rattle.gt_explore_replay.specs.Courses.{ActionLeads, Course, IsTurnedBy, OpenLeads, Opened, RestLeads}
use Rattle.gt_explore_replay.specs.Courses.{TurnsLead, calling, first_courses, giving, resting}
use Rattle.gt_explore_replay.specs.Orders.{Happening, doer}
use Rattle.gt_explore_replay.specs.Walking.{HaveOwnIds}
use Rattle.gt_explore_replay.proofs.Turning.{AllDiffer, IsNoneOf, all-differ, ids, numbers}
use Rattle.gt_explore_moves.proofs.HandlesAnswered.{after-dom, back-dom}
use Rattle.gt_explore_search.specs.declared.spaces.Turn.{Turn}
use Rattle.gt_explore_changes.specs.Blocks.{blocks_after, blocks_from, blocks_in, blocks_with, is_again, order_blocks}

-- a domain moves on its own course

leads-line : (types : List (List ℕ)) (k j : Course) (line : ℕ) (left : List RunTask) (run_action : RunAction) (x : Happening) → ActionLeads types k line left run_action x j
    → (j.dom ≡ k.dom) × (doer x ≡ k.dom)
leads-line types k j line left (Tell flag) x leads = (ap (λ (z : Course). z.dom) leads.1, ap doer leads.0)
leads-line types k j line left (Await flag) x leads = (ap (λ (z : Course). z.dom) leads.1, ap doer leads.0)
leads-line types k j line left (Do call) x (q, e, asks, is, to) =
    (ap (λ (z : Course). z.dom) to ∙ after-dom types line call _ (record k { tasks = left }) _, ap doer is)

leads-rest : (types : List (List ℕ)) (k j : Course) (tasks : List RunTask) (choice : ℕ) (x : Happening) → RestLeads types k tasks choice x j
    → (j.dom ≡ k.dom) × (doer x ≡ k.dom)
leads-rest types k j [] choice x (handle, e, there, is, to) =
    (ap (λ (z : Course). z.dom) to ∙ back-dom (record k { held = take choice k.held ++ drop (suc choice) k.held }) (answer_in e), ap doer is)
leads-rest types k j (t ∷ ts) choice x leads = leads-line types k j t.line ts t.run_action x leads.1

leads-open : (types : List (List ℕ)) (k j : Course) (opened : Opened) (choice : ℕ) (x : Happening) → OpenLeads types k opened choice x j
    → (j.dom ≡ k.dom) × (doer x ≡ k.dom)
leads-open types k j resting choice x leads = leads-rest types k j k.tasks choice x leads
leads-open types k j (calling line call lost) choice x (none, e, is, to) = (ap (λ (z : Course). z.dom) to ∙ after-dom types line call lost k _, ap doer is)
leads-open types k j giving choice x (none, e, is, to) = (ap (λ (z : Course). z.dom) to ∙ back-dom k _, ap doer is)

numbers-set : (ks : List Course) (at : ℕ) (k j : Course) → slice_get ks at ≡ Some k → j.dom ≡ k.dom → numbers (slice_set ks at j) ≡ numbers ks
numbers-set [] at k j there dom = refl
numbers-set (l ∷ ks) zero k j there dom = ap (λ (d : DomId). d.0 ∷ numbers ks) (dom ∙ ap (λ (z : Course). z.dom) (sym (same_Some l k there)))
numbers-set (l ∷ ks) (suc at) k j there dom = ap (λ (ns : List ℕ). l.dom.0 ∷ ns) (numbers-set ks at k j there dom)

first-numbers : (c : RunContents) → numbers (first_courses c) ≡ ids c.head.domains
first-numbers c = map-map (λ (k : Course). k.dom.0) _ c.head.domains

-- no two positions have the same domain

none-there : (n : ℕ) (ns : List ℕ) (at : ℕ) → IsNoneOf n ns → slice_get ns at ≡ Some n → ⊥
none-there n [] at none there = none-some n there
none-there n (m ∷ ns) zero none there = none.0 (sym (same_Some m n there))
none-there n (m ∷ ns) (suc at) none there = none-there n ns at none.1 there

same-place : (ns : List ℕ) (i j n : ℕ) → AllDiffer ns → slice_get ns i ≡ Some n → slice_get ns j ≡ Some n → i ≡ j
same-place [] i j n differ one other = absurd (none-some n one)
same-place (m ∷ ns) zero zero n differ one other = refl
same-place (m ∷ ns) zero (suc j) n differ one other = absurd (none-there n ns j (subst (λ (q : ℕ). IsNoneOf q ns) (same_Some m n one) differ.0) other)
same-place (m ∷ ns) (suc i) zero n differ one other = absurd (none-there n ns i (subst (λ (q : ℕ). IsNoneOf q ns) (same_Some m n other) differ.0) one)
same-place (m ∷ ns) (suc i) (suc j) n differ one other = ap suc (same-place ns i j n differ.1 one other)

-- the last turn and the last happening were of the same domain, or none was
abbrev AreOfOne : List ℕ → Option ℕ → Option DomId → Type 0
AreOfOne ns None None = Unit {0}
AreOfOne ns (Some place) (Some dom) = slice_get ns place ≡ Some dom.0
AreOfOne ns None (Some dom) = ⊥
AreOfOne ns (Some place) None = ⊥

-- a turn adds one block at most, and none if its domain goes on
one-more : (b : Bool) (n : ℕ) → (if b then n else suc n) ≤ n + 1
one-more true n = omega arith
one-more false n = omega arith

goes-on : (b : Bool) (n : ℕ) → b ≡ true → (if b then n else suc n) ≤ n + 0
goes-on true n e = omega arith
goes-on false n e = absurd (false≢true e)

one-block : (ns : List ℕ) (last : Option ℕ) (before : Option DomId) (n place : ℕ) (dom : DomId) → AllDiffer ns → AreOfOne ns last before → slice_get ns place ≡ Some dom.0
    → blocks_with last n place ≤ n + (if is_again before dom then 0 else 1)
one-block ns None None n place dom differ one there = omega arith
one-block ns None (Some d) n place dom differ one there = absurd one
one-block ns (Some p) None n place dom differ one there = absurd one
one-block ns (Some p) (Some d) n place dom differ one there = by (d.0 == dom.0) refl
  where
    by : (b : Bool) → (d.0 == dom.0) ≡ b → (if p == place then n else suc n) ≤ n + (if d.0 == dom.0 then 0 else 1)
    by false e = subst (λ (b : Bool). (if p == place then n else suc n) ≤ n + (if b then 0 else 1)) (sym e) (one-more (p == place) n)
    by true e =
        let same : p ≡ place = same-place ns p place dom.0 differ (subst (λ (m : ℕ). slice_get ns p ≡ Some m) (eqb-true d.0 dom.0 e) one) there in
        subst (λ (b : Bool). (if p == place then n else suc n) ≤ n + (if b then 0 else 1)) (sym e) (goes-on (p == place) n (eq-eqb p place same))

no-more : (types : List (List ℕ)) (ks : List Course) (hs : List Happening) (ts : List Turn) (ls : List Course) (last : Option ℕ) (before : Option DomId) (n : ℕ) → AllDiffer (numbers ks)
    → AreOfOne (numbers ks) last before → TurnsLead types ks hs ts ls → blocks_after last n ts ≤ n + blocks_from before (map doer hs)
no-more types ks [] [] ls last before n differ one leads = omega arith
no-more types ks (x ∷ hs) (t ∷ ts) ls last before n differ one (k, j, there, leads, rest) =
    let doms = leads-open types k j k.opened t.choice x leads in
    let same : numbers (slice_set ks t.place j) ≡ numbers ks = numbers-set ks t.place k j there doms.0 in
    let here : slice_get (numbers ks) t.place ≡ Some (doer x).0 =
    slice_get-map (λ (z : Course). z.dom.0) ks t.place ∙ ap (option_map (λ (z : Course). z.dom.0)) there ∙ ap (λ (d : DomId). Some d.0) (sym doms.1) in
    let still : slice_get (numbers (slice_set ks t.place j)) t.place ≡ Some (doer x).0 = ap (λ (ns : List ℕ). slice_get ns t.place) same ∙ here in
    let later = no-more types (slice_set ks t.place j) hs ts ls (Some t.place) (Some (doer x)) (blocks_with last n t.place) (subst AllDiffer (sym same) differ) still rest in
    let now = one-block (numbers ks) last before n t.place (doer x) differ one here in
    added (blocks_after (Some t.place) (blocks_with last n t.place) ts) (blocks_with last n t.place) n _ (blocks_from (Some (doer x)) (map doer hs)) later now
  where
    added : (all here n one more : ℕ) → all ≤ here + more → here ≤ n + one → all ≤ n + (one + more)
    added all here n one more later now = omega arith
no-more types ks [] (t ∷ ts) ls last before n differ one leads = absurd leads
no-more types ks (x ∷ hs) [] ls last before n differ one leads = absurd leads

-- the turns of an order have no more blocks than the order
pub turns-no-more : (c : RunContents) (hs : List Happening) (turns : List Turn) (text : List ℕ) → HaveOwnIds c.head.domains → IsTurnedBy c hs turns text → blocks_in turns ≤ order_blocks hs
turns-no-more c hs turns text apart turned =
    let most = no-more (type_names c.head) (first_courses c) hs turns turned.ends None None 0 (subst AllDiffer (sym (first-numbers c)) (all-differ c.head.domains apart)) tt turned.leads in
    let same : 0 + order_blocks hs ≡ order_blocks hs = omega arith in
    subst (λ (m : ℕ). blocks_in turns ≤ m) same most
