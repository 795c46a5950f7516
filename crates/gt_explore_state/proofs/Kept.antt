-- The bytes that pages keep.
use Rattle.std.proofs.Common.{◌≡◌, ℕ, zero, suc, ◌+◌, ◌<◌, ◌≤◌, ◌==◌, ◌&&◌, Bool, true, false, cond, ltb, List, []}
use Rattle.std.proofs.Common.{◌∷◌, length, get_or, set, not, Some, None, refl, sym, ap, ◌∙◌, arith, position}
use Rattle.std.specs.List.{insert, position_or_len}
use Rattle.std.proofs.lemmas.Bool.{eqb-true, and_parts}
use Rattle.gt_types.specs.declared.DomId.{DomId}
use Rattle.std.proofs.lemmas.List.Quantifiers.{position-Some}
use Rattle.std.proofs.lemmas.Bool.Decides.{nat_tests}
use Rattle.gt_model.specs.Written.{overlay}
use Rattle.gt_explore_state.specs.Pages.{is_page_of, kept_bytes, padded, page_contents, WritesPage}
use Rattle.gt_explore_state.specs.declared.pages.SparsePage.{SparsePage}

-- no page is of the frame
abbrev pub HasNone : ℕ → ℕ → List SparsePage → Type 0
HasNone t f ps = (k : ℕ) (d : SparsePage) → k < length ps → is_page_of t f (get_or ps k d) ≡ false

kept-first : (ps : List SparsePage) (t f at : ℕ) (d : SparsePage) → at < length ps → is_page_of t f (get_or ps at d) ≡ true → ((k : ℕ) → k < at → is_page_of t f (get_or ps k d) ≡ false)
    → kept_bytes ps t f ≡ (get_or ps at d).bytes.items
kept-first [] t f at d within is apart = absurd (omega arith)
kept-first (p ∷ ps) t f zero d within is apart = grind arith
kept-first (p ∷ ps) t f (suc at) d within is apart = grind (arith, kept-first ps t f at d (omega arith) is (λ k below. apart (suc k) (omega arith)), apart 0 (omega arith))

-- what the page at the place of the first one keeps
pub kept-there : (ps : List SparsePage) (t f at : ℕ) (p : SparsePage) → position (is_page_of t f) ps ≡ Some at → kept_bytes ps t f ≡ (get_or ps at p).bytes.items
kept-there ps t f at p e = let a = position-Some (is_page_of t f) ps at p e in kept-first ps t f at p a.0 a.1 a.2

-- no page of a list is of the frame
abbrev pub AreOthers : List SparsePage → ℕ → ℕ → Type 0
AreOthers ps t f = length ps ≤ position_or_len (is_page_of t f) ps

none-place : (n m : ℕ) → cond (ltb n m) (Some n) None ≡ None → m ≤ n
none-place n m h = by (ltb n m) refl h where
  by : (b : Bool) → ltb n m ≡ b → cond b (Some n) None ≡ None → m ≤ n
  by true e k = cc
  by false e k = grind (arith, nat_tests)

pub others : (ps : List SparsePage) (t f : ℕ) → position (is_page_of t f) ps ≡ None → AreOthers ps t f
others ps t f e = none-place (position_or_len (is_page_of t f) ps) (length ps) e

-- nothing is kept of a frame that has no page
pub kept-nowhere : (ps : List SparsePage) (t f : ℕ) → AreOthers ps t f → kept_bytes ps t f ≡ []
kept-nowhere [] t f a = refl
kept-nowhere (p ∷ ps) t f a = grind (arith, kept-nowhere ps t f)

-- a page of the frame that keeps no bytes yet
pub record IsEmptyOf (t f : ℕ) (p : SparsePage) : Type 0 where
  pub owner : p.owner.0 ≡ t
  pub frame : p.frame ≡ f
  pub bytes : p.bytes.items ≡ []

is-of : (t f : ℕ) (p : SparsePage) → IsEmptyOf t f p → is_page_of t f p ≡ true
is-of t f p e = grind (arith, nat_tests)

-- such a page changes the bytes of no frame, if its frame had none
pub kept-inserted : (ps : List SparsePage) (at : ℕ) (p : SparsePage) (t f u g : ℕ) → at ≤ length ps → IsEmptyOf t f p → AreOthers ps t f → kept_bytes (insert ps at p) u g ≡ kept_bytes ps u g
kept-inserted ps zero p t f u g within e a = by (is_page_of u g p) refl where
  by : (b : Bool) → is_page_of u g p ≡ b → cond b p.bytes.items (kept_bytes ps u g) ≡ kept_bytes ps u g
  by false n = refl
  by true n = let none = kept-nowhere ps t f a in let both = and_parts (p.owner.0 == u) (p.frame == g) n in
      let o : t ≡ u = sym e.owner ∙ eqb-true p.owner.0 u both.0 in let m : f ≡ g = sym e.frame ∙ eqb-true p.frame g both.1 in
      e.bytes ∙ sym none ∙ ap (λ (v : ℕ). kept_bytes ps v f) o ∙ ap (kept_bytes ps u) m
kept-inserted [] (suc at) p t f u g within e a = absurd (omega arith)
kept-inserted (q ∷ ps) (suc at) p t f u g within e a = ap (cond (is_page_of u g q) q.bytes.items) (kept-inserted ps at p t f u g (omega arith) e (fewer q ps t f a))
  where
    fewer : (q : SparsePage) (ps : List SparsePage) (t f : ℕ) → AreOthers (q ∷ ps) t f → AreOthers ps t f
    fewer q ps t f a = grind arith

first-other : (q : SparsePage) (ps : List SparsePage) (t f : ℕ) → AreOthers (q ∷ ps) t f → (is_page_of t f q ≡ false) × AreOthers ps t f
first-other q ps t f a = by (is_page_of t f q) refl a where
  by : (b : Bool) → is_page_of t f q ≡ b → length (q ∷ ps) ≤ cond (not b) (1 + position_or_len (is_page_of t f) ps) 0 → (is_page_of t f q ≡ false) × AreOthers ps t f
  by true e k = absurd (omega arith)
  by false e k = (e, omega arith)

inserted-place : (ps : List SparsePage) (at : ℕ) (p : SparsePage) (t f : ℕ) → at ≤ length ps → IsEmptyOf t f p → AreOthers ps t f
    → (position_or_len (is_page_of t f) (insert ps at p) ≡ at) × (at < length (insert ps at p))
inserted-place ps zero p t f within e a = (ap (λ (b : Bool). cond (not b) (1 + position_or_len (is_page_of t f) ps) 0) (is-of t f p e), omega arith)
inserted-place [] (suc at) p t f within e a = absurd (omega arith)
inserted-place (q ∷ ps) (suc at) p t f within e a = let o = first-other q ps t f a in let r = inserted-place ps at p t f (omega arith) e o.1 in
    let more : 1 + position_or_len (is_page_of t f) (insert ps at p) ≡ suc at = omega (arith, r.0) in
    (ap (λ (b : Bool). cond (not b) (1 + position_or_len (is_page_of t f) (insert ps at p)) 0) o.0 ∙ more, omega (arith, r.1))

pub some-place : (n m at : ℕ) → n ≡ at → at < m → cond (ltb n m) (Some n) None ≡ Some at
some-place n m at e below = by (ltb n m) refl where
  by : (b : Bool) → ltb n m ≡ b → cond b (Some n) None ≡ Some at
  by true k = ap (λ (z : ℕ). Some z) e
  by false k = absurd (grind (arith, nat_tests))

pub place-inserted : (ps : List SparsePage) (at : ℕ) (p : SparsePage) (t f : ℕ) → at ≤ length ps → IsEmptyOf t f p → AreOthers ps t f → position (is_page_of t f) (insert ps at p) ≡ Some at
place-inserted ps at p t f within e a = let r = inserted-place ps at p t f within e a in some-place _ _ at r.0 r.1

-- the first page of a frame, with other bytes

alike : (t f u g : ℕ) (p : SparsePage) → is_page_of t f p ≡ true → is_page_of u g p ≡ ((t == u) && (f == g))
alike t f u g p is = let both = and_parts (p.owner.0 == t) (p.frame == f) is in
    ap (λ (n : ℕ). (n == u) && (p.frame == g)) (eqb-true p.owner.0 t both.0) ∙ ap (λ (n : ℕ). (t == u) && (n == g)) (eqb-true p.frame f both.1)

set-first : (ps : List SparsePage) (t f u g at : ℕ) (d new : SparsePage) → at < length ps → is_page_of t f (get_or ps at d) ≡ true → ((k : ℕ) → k < at → is_page_of t f (get_or ps k d) ≡ false) → is_page_of t f new ≡ true
    → kept_bytes (set ps at new) u g ≡ cond ((t == u) && (f == g)) new.bytes.items (kept_bytes ps u g)
set-first [] t f u g at d new within is apart now = absurd (omega arith)
set-first (p ∷ ps) t f u g zero d new within is apart now = ap (λ (b : Bool). cond b new.bytes.items (kept_bytes ps u g)) (alike t f u g new now) ∙ by ((t == u) && (f == g)) (alike t f u g p is) where
  by : (b : Bool) → is_page_of u g p ≡ b → cond b new.bytes.items (kept_bytes ps u g) ≡ cond b new.bytes.items (cond (is_page_of u g p) p.bytes.items (kept_bytes ps u g))
  by true e = refl
  by false e = ap (λ (b : Bool). cond b p.bytes.items (kept_bytes ps u g)) (sym e)
set-first (p ∷ ps) t f u g (suc at) d new within is apart now =
    ap (cond (is_page_of u g p) p.bytes.items) (set-first ps t f u g at d new (omega arith) is (λ k below. apart (suc k) (omega arith)) now) ∙ by (is_page_of u g p) refl ((t == u) && (f == g)) refl
  where
    by : (b : Bool) → is_page_of u g p ≡ b → (c : Bool) → ((t == u) && (f == g)) ≡ c → cond b p.bytes.items (cond c new.bytes.items (kept_bytes ps u g)) ≡ cond c new.bytes.items (cond b p.bytes.items (kept_bytes ps u g))
    by false e c k = refl
    by true e false k = refl
    by true e true k = let both = and_parts (t == u) (f == g) k in let here : is_page_of t f p ≡ true = grind (arith, nat_tests) in let not_here = apart 0 (omega arith) in cc

pub kept-set : (ps : List SparsePage) (t f u g at : ℕ) (old new : SparsePage) → position (is_page_of t f) ps ≡ Some at → old ≡ get_or ps at old → new.owner ≡ old.owner → new.frame ≡ old.frame
    → kept_bytes (set ps at new) u g ≡ cond ((t == u) && (f == g)) new.bytes.items (kept_bytes ps u g)
kept-set ps t f u g at old new e here owner frame = let a = position-Some (is_page_of t f) ps at old e in
    set-first ps t f u g at old new a.0 a.1 a.2 (ap (λ (d : DomId). (d.0 == t) && (new.frame == f)) owner ∙ ap (λ (n : ℕ). (old.owner.0 == t) && (n == f)) frame ∙ ap (is_page_of t f) here ∙ a.1)

-- the pages after bytes are laid over those of the first page of a frame
pub pages-written : (old mid : List SparsePage) (t f at off : ℕ) (bytes : List ℕ) (p new : SparsePage) → ((u g : ℕ) → kept_bytes mid u g ≡ kept_bytes old u g) → position (is_page_of t f) mid ≡ Some at → p ≡ get_or mid at p
    → new.owner ≡ p.owner → new.frame ≡ p.frame → padded new.bytes.items ≡ overlay (padded p.bytes.items) off bytes → WritesPage old (set mid at new) t f off bytes
pages-written old mid t f at off bytes p new same e here owner frame laid u g =
    ap padded (kept-set mid t f u g at p new e here owner frame) ∙ by ((t == u) && (f == g)) refl
  where
    there : kept_bytes old t f ≡ p.bytes.items
    there = sym (same t f) ∙ kept-there mid t f at p e ∙ ap (λ (q : SparsePage). q.bytes.items) (sym here)

    by : (b : Bool) → ((t == u) && (f == g)) ≡ b → padded (cond b new.bytes.items (kept_bytes mid u g)) ≡ cond b (overlay (page_contents old u g) off bytes) (page_contents old u g)
    by false k = ap padded (same u g)
    by true k = let both = and_parts (t == u) (f == g) k in let o = eqb-true t u both.0 in let m = eqb-true f g both.1 in
        laid ∙ ap (λ (l : List ℕ). overlay (padded l) off bytes) (sym there ∙ ap (λ (v : ℕ). kept_bytes old v f) o ∙ ap (kept_bytes old u) m)
