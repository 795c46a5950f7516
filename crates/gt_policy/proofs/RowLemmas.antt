-- What one type may do, lane by lane.
use Rattle.std.proofs.Common.{◌≡◌, ◌<◌, ◌≤◌, ℕ, ◌+◌, ◌^◌, zero, suc, ◌==◌, ◌||◌, ◌&&◌, Bool, true, false, List, [], ◌∷◌}
use Rattle.std.proofs.Common.{length, take, get_or, arith, refl, sym, ap, subst, ◌∙◌}
use Rattle.std.specs.Prelude.{if◌then◌else◌, bit_and, bit_or}
use Rattle.std.specs.List.{list_any}
use Rattle.std.proofs.lemmas.Bool.{eqb-true, false≢true}
use Rattle.std.proofs.lemmas.List.{take_all}
use Rattle.std.proofs.lemmas.List.Folds.{list_any_more}
use Rattle.gt_types.specs.declared.perms.Perms.{Perms}
use Rattle.gt_types.specs.Names as names
use Rattle.gt_types.specs.Names.{is_permission, every_permission}
use Rattle.gt_policy.specs.declared.rules.AllowRule.{AllowRule}
use Rattle.gt_policy.specs.declared.types.TypeSet.{TypeSet}
use Rattle.gt_policy.specs.TypeSets.{holds}
use Rattle.gt_policy.specs.Allowing.{lists_perm}
use Rattle.gt_policy.specs.Kept.{grants, some_grants}
use Rattle.gt_policy.specs.Resolving.{union}
use Rattle.gt_policy.specs.Rows.{Lane, lanes_reach, is_reached}
use Rattle.gt_policy.proofs.PermLemmas.{bit, lists_union}
use Rattle.gt_policy.proofs.BoolLemmas.{or_false}

-- each lane has grown by the types that these permissions reach
abbrev pub AreGrown : Perms → (ℕ → Bool) → List Lane → List Lane → Type 0
AreGrown perms reached [] [] = Unit {0}
AreGrown perms reached [] (n ∷ ns) = ⊥
AreGrown perms reached (l ∷ ls) [] = ⊥
AreGrown perms reached (l ∷ ls) (n ∷ ns) = (n.0 ≡ l.0) × ((t : ℕ) → holds n.1 t ≡ (holds l.1 t || (lists_perm perms l.0 && reached t))) × AreGrown perms reached ls ns

same_lists : (perms p q : Perms) → (p.0 == q.0) ≡ true → lists_perm perms p ≡ lists_perm perms q
same_lists perms p q e = ap (λ (n : ℕ). bit_and perms.0 n == n) (eqb-true p.0 q.0 e)

grown_lanes : (perms : Perms) (reached : ℕ → Bool) (old new : List Lane) → AreGrown perms reached old new → (t : ℕ) (perm : Perms) → lanes_reach new t perm ≡ (lanes_reach old t perm || (list_any (λ l. l.0.0 == perm.0) old && (lists_perm perms perm && reached t)))
grown_lanes perms reached [] [] h t perm = refl
grown_lanes perms reached [] (n ∷ ns) h t perm = absurd h
grown_lanes perms reached (l ∷ ls) [] h t perm = absurd h
grown_lanes perms reached (l ∷ ls) (n ∷ ns) h t perm = ap (λ (p : Perms). if p.0 == perm.0 then holds n.1 t else lanes_reach ns t perm) h.0 ∙ go (grown_lanes perms reached ls ns h.2 t perm) (l.0.0 == perm.0) refl
  where
    go : lanes_reach ns t perm ≡ (lanes_reach ls t perm || (list_any (λ k. k.0.0 == perm.0) ls && (lists_perm perms perm && reached t))) → (v : Bool) → (l.0.0 == perm.0) ≡ v → (if v then holds n.1 t else lanes_reach ns t perm) ≡ ((if v then holds l.1 t else lanes_reach ls t perm) || ((v || list_any (λ k. k.0.0 == perm.0) ls) && (lists_perm perms perm && reached t)))
    go rest true e = h.1 t ∙ ap (λ (b : Bool). holds l.1 t || (b && reached t)) (same_lists perms l.0 perm e)
    go rest false e = rest

-- the lane of one permission
pub lane_grown : (perms p : Perms) (new old targets : TypeSet) (reached : ℕ → Bool) → ((t : ℕ) → holds targets t ≡ reached t) → ((t : ℕ) → holds new t ≡ (holds old t || (lists_perm perms p && holds targets t)))
    → (t : ℕ) → holds new t ≡ (holds old t || (lists_perm perms p && reached t))
lane_grown perms p new old targets reached same grown t = grown t ∙ ap (λ (b : Bool). holds old t || (lists_perm perms p && b)) (same t)

and_assoc : (a b c : Bool) → (a && (b && c)) ≡ ((a && b) && c)
and_assoc true b c = refl
and_assoc false b c = refl

-- a row and one more statement
pub grown_row : (rule : AllowRule) (s : ℕ) (old new : List Lane) → ((perm : Perms) → list_any (λ l. l.0.0 == perm.0) old ≡ is_permission perm) → AreGrown rule.perms (is_reached rule s) old new
    → (t : ℕ) (perm : Perms) → lanes_reach new t perm ≡ (lanes_reach old t perm || (is_permission perm && grants rule s t perm))
grown_row rule s old new one h t perm =
    grown_lanes rule.perms (is_reached rule s) old new h t perm
    ∙ ap (λ (b : Bool). lanes_reach old t perm || (b && (lists_perm rule.perms perm && is_reached rule s t))) (one perm)
    ∙ ap (λ (b : Bool). lanes_reach old t perm || (is_permission perm && b)) (and_assoc (lists_perm rule.perms perm) _ _)

no_grant : (p l h r : Bool) → h ≡ false → false ≡ (p && ((l && h) && r))
no_grant true true h r e = ap (λ (x : Bool). x && r) (sym e)
no_grant true false h r e = refl
no_grant false l h r e = refl

-- a statement whose sources the type is not among adds nothing
pub nothing_grown : (rule : AllowRule) (s t : ℕ) (perm : Perms) (b : Bool) → holds rule.source s ≡ false → b ≡ (b || (is_permission perm && grants rule s t perm))
nothing_grown rule s t perm b e = or_false b ∙ ap (λ (x : Bool). b || x) (no_grant (is_permission perm) (lists_perm rule.perms perm) (holds rule.source s) _ e)

-- a permission that has no lane
pub no_lane : (ls : List Lane) (t : ℕ) (perm : Perms) → list_any (λ l. l.0.0 == perm.0) ls ≡ false → lanes_reach ls t perm ≡ false
no_lane [] t perm e = refl
no_lane (l ∷ ls) t perm e = go (λ x. no_lane ls t perm x) (l.0.0 == perm.0) e
  where
    go : (list_any (λ k. k.0.0 == perm.0) ls ≡ false → lanes_reach ls t perm ≡ false) → (v : Bool) → (v || list_any (λ k. k.0.0 == perm.0) ls) ≡ false → (if v then holds l.1 t else lanes_reach ls t perm) ≡ false
    go rest true x = absurd (false≢true (sym x))
    go rest false x = rest x

and_or : (a b c : Bool) → ((a && b) || (a && c)) ≡ (a && (b || c))
and_or true b c = refl
and_or false b c = refl

-- one more statement of a walk
pub row_more : (rules : List AllowRule) (d : AllowRule) (i s t : ℕ) (perm : Perms) (b c : Bool) → i < length rules → c ≡ (b || (is_permission perm && grants (get_or rules i d) s t perm)) → b ≡ (is_permission perm && some_grants (take i rules) s t perm)
    → c ≡ (is_permission perm && some_grants (take (i + 1) rules) s t perm)
row_more rules d i s t perm b c within now so_far =
    now ∙ ap (λ (x : Bool). x || (is_permission perm && grants (get_or rules i d) s t perm)) so_far ∙ and_or (is_permission perm) _ _
    ∙ ap (λ (x : Bool). is_permission perm && x) (sym (list_any_more (λ rule. grants rule s t perm) rules i d within))

pub and_none : (b c : Bool) → c ≡ false → c ≡ (b && false)
and_none true c e = e
and_none false c e = e

-- it is true of each of these permissions
abbrev AllOf : (Perms → Type 0) → List Perms → Type 0
AllOf P [] = Unit {0}
AllOf P (p ∷ ps) = P p × AllOf P ps

-- so it is true of one among them
among : (P : Perms → Type 0) (ps : List Perms) → AllOf P ps → (q : Perms) → list_any (λ p. p.0 == q.0) ps ≡ true → P q
among P [] all q e = absurd (false≢true e)
among P (p ∷ ps) all q e = go (λ x. among P ps all.1 q x) (p.0 == q.0) refl e
  where
    go : (list_any (λ r. r.0 == q.0) ps ≡ true → P q) → (v : Bool) → (p.0 == q.0) ≡ v → (v || list_any (λ r. r.0 == q.0) ps) ≡ true → P q
    go rest true here x = subst P (ap (λ (n : ℕ). let r : Perms = record { 0 = n } in r) (eqb-true p.0 q.0 here)) all.0
    go rest false here x = rest x

at_place : (P : Perms → Type 0) (ps : List Perms) → AllOf P ps → (i : ℕ) (d : Perms) → i < length ps → P (get_or ps i d)
at_place P [] all i d low = absurd (omega arith)
at_place P (p ∷ ps) all zero d low = all.0
at_place P (p ∷ ps) all (suc i) d low = at_place P ps all.1 i d (omega arith)

-- a set of none
pub none_listed : (p q : Perms) → p.0 ≡ 0 → is_permission q ≡ true → lists_perm p q ≡ false
unfolding is_permission
none_listed p q e one =
    ap (λ (n : ℕ). bit_and n q.0 == q.0) e ∙ among (λ r. lists_perm (bit 0) r ≡ false) every_permission (refl, (refl, (refl, (refl, (refl, (refl, (refl, tt))))))) q one

-- a permission lists itself alone
one_row : (r : Perms) → AllOf (λ q. lists_perm r q ≡ (r.0 == q.0)) every_permission → (q : Perms) → is_permission q ≡ true → lists_perm r q ≡ (r.0 == q.0)
unfolding is_permission
one_row r all q one = among (λ k. lists_perm r k ≡ (r.0 == k.0)) every_permission all q one

abbrev ListsItself : Perms → Type 0
ListsItself r = (q : Perms) → is_permission q ≡ true → lists_perm r q ≡ (r.0 == q.0)

each_row : AllOf ListsItself every_permission
each_row = (
  one_row names.map_read (refl, (refl, (refl, (refl, (refl, (refl, (refl, tt))))))),
  (
    one_row names.map_write (refl, (refl, (refl, (refl, (refl, (refl, (refl, tt))))))),
    (
      one_row names.unmap (refl, (refl, (refl, (refl, (refl, (refl, (refl, tt))))))),
      (
        one_row names.transfer (refl, (refl, (refl, (refl, (refl, (refl, (refl, tt))))))),
        (
          one_row names.setup (refl, (refl, (refl, (refl, (refl, (refl, (refl, tt))))))),
          (
            one_row names.copy (refl, (refl, (refl, (refl, (refl, (refl, (refl, tt))))))),
            (one_row names.query (refl, (refl, (refl, (refl, (refl, (refl, (refl, tt))))))), tt),
          ),
        ),
      ),
    ),
  ),
)

-- a permission is a power of two
power : (q : Perms) → is_permission q ≡ true → (k : ℕ) × (q ≡ bit (2 ^ k))
unfolding is_permission
power q one = among (λ r. (k : ℕ) × (r ≡ bit (2 ^ k))) every_permission ((0, refl), ((1, refl), ((2, refl), ((3, refl), ((4, refl), ((5, refl), ((6, refl), tt))))))) q one

-- one more permission in a set
pub one_inserted : (now before q : Perms) (i : ℕ) (d : Perms) → i < 7 → now.0 ≡ bit_or before.0 (get_or every_permission i d).0 → is_permission q ≡ true → lists_perm now q ≡ (lists_perm before q || ((get_or every_permission i d).0 == q.0))
one_inserted now before q i d low e one =
    let r : Perms = get_or every_permission i d in
    let k = power q one in
    ap (λ (n : ℕ). bit_and n q.0 == q.0) e
    ∙ subst (λ (x : Perms). lists_perm (union before r) x ≡ (lists_perm before x || lists_perm r x)) (sym k.1) (lists_union before r k.0)
    ∙ ap (λ (b : Bool). lists_perm before q || b) (at_place ListsItself every_permission each_row i d low q one)

pub if_taken : (a b c : Bool) → b ≡ true → (a || c) ≡ (a || (b && c))
if_taken a b c e = ap (λ (x : Bool). a || (x && c)) (sym e)

pub if_not : (a b c : Bool) → b ≡ false → a ≡ (a || (b && c))
if_not a b c e = or_false a ∙ ap (λ (x : Bool). a || (x && c)) (sym e)

step_cases : (x here b v : Bool) → (v ≡ true → here ≡ b) → ((x && here) || (b && v)) ≡ ((x || v) && here)
step_cases true true true true same = refl
step_cases true true false true same = absurd (false≢true (sym (same refl)))
step_cases true false true true same = absurd (false≢true (same refl))
step_cases true false false true same = refl
step_cases false true true true same = refl
step_cases false true false true same = absurd (false≢true (sym (same refl)))
step_cases false false true true same = absurd (false≢true (same refl))
step_cases false false false true same = refl
step_cases true true true false same = refl
step_cases true true false false same = refl
step_cases true false true false same = refl
step_cases true false false false same = refl
step_cases false true true false same = refl
step_cases false true false false same = refl
step_cases false false true false same = refl
step_cases false false false false same = refl

-- one more permission of a walk over the seven
pub row_step : (ls : List Lane) (t i : ℕ) (d now before q : Perms) (b : Bool) → i < 7 → b ≡ lanes_reach ls t (get_or every_permission i d) → lists_perm now q ≡ (lists_perm before q || (b && ((get_or every_permission i d).0 == q.0)))
    → lists_perm before q ≡ (list_any (λ p. p.0 == q.0) (take i every_permission) && lanes_reach ls t q) → lists_perm now q ≡ (list_any (λ p. p.0 == q.0) (take (i + 1) every_permission) && lanes_reach ls t q)
row_step ls t i d now before q b low reached grown so_far =
    let r : Perms = get_or every_permission i d in
    let same : (r.0 == q.0) ≡ true → lanes_reach ls t q ≡ b = λ e. sym (reached ∙ ap (λ (n : ℕ). let p : Perms = record { 0 = n } in lanes_reach ls t p) (eqb-true r.0 q.0 e)) in
    grown ∙ ap (λ (x : Bool). x || (b && (r.0 == q.0))) so_far
    ∙ step_cases (list_any (λ p. p.0 == q.0) (take i every_permission)) (lanes_reach ls t q) b (r.0 == q.0) same
    ∙ ap (λ (x : Bool). x && lanes_reach ls t q) (sym (list_any_more (λ p. p.0 == q.0) every_permission i d low))

-- all seven were seen
pub row_end : (ls : List Lane) (t i : ℕ) (p : Perms) → 7 ≤ i → ((q : Perms) → is_permission q ≡ true → lists_perm p q ≡ (list_any (λ r. r.0 == q.0) (take i every_permission) && lanes_reach ls t q))
    → ((t : ℕ) (q : Perms) → is_permission q ≡ false → lanes_reach ls t q ≡ false) → (q : Perms) → (is_permission q && lists_perm p q) ≡ lanes_reach ls t q
unfolding is_permission
row_end ls t i p all listed none q = go (is_permission q) refl
  where
    go : (v : Bool) → is_permission q ≡ v → (v && lists_perm p q) ≡ lanes_reach ls t q
    go true e = listed q e ∙ ap (λ (ps : List Perms). list_any (λ r. r.0 == q.0) ps && lanes_reach ls t q) (take_all i every_permission all) ∙ ap (λ (b : Bool). b && lanes_reach ls t q) e
    go false e = sym (none t q e)
