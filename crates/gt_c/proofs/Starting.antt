-- The handles of a run that started.
use Rattle.std.proofs.Common.{◌≡◌, ℕ, ◌+◌, ◌<◌, ◌∙◌, Bool, true, false, ◌||◌, refl, sym, ap, zero, suc, List, [], ◌∷◌, ◌++◌}
use Rattle.std.proofs.Common.{inl, inr}
use mathlib.Core.Bool.{true≢false}
use Rattle.std.proofs.Common.{length, map, take, get_or, add-one, arith, Option, None}
use Rattle.std.proofs.Math.ListN.{set}
use Rattle.std.proofs.lemmas.List.{length-map}
use Rattle.std.proofs.Math.Seq.{take-suc, take-suc-set}
use Rattle.std.specs.List.{list_any}
use Rattle.std.specs.Prelude.{slice_index_or}
use Rattle.gt_start.specs.declared.settings.DomainSettings.{DomainSettings}
use Rattle.gt_c.specs.Starting.{AreWrong, domain_of_handle, filled_handle}
use Rattle.gt_c.specs.declared.handle.DomainHandle.{DomainHandle}
use Rattle.gt_c.specs.declared.c_domain.CDomain.{CDomain}

or-left : (a b : Bool) → (a || b) ≡ false → a ≡ false
or-left true b e = e
or-left false b e = refl

or-right : (a b : Bool) → (a || b) ≡ false → b ≡ false
or-right true b e = absurd cc
or-right false b e = e

-- no handle has a domain, if none is live
pub all-idle : (hs : List DomainHandle) → list_any (λ h. h.is_live) hs ≡ false → (k : ℕ) (d : DomainHandle) → k < length hs
    → domain_of_handle (slice_index_or hs k d) ≡ None
all-idle [] e k d lt = absurd (omega (arith, lt))
all-idle (h ∷ hs) e zero d lt = h.idle (or-left h.is_live (list_any (λ x. x.is_live) hs) e)
all-idle (h ∷ hs) e (suc k) d lt = all-idle hs (or-right h.is_live (list_any (λ x. x.is_live) hs) e) k d (omega (arith, lt))

-- the handles are right, if there is one for each domain and none is live
pub are-right : (settings : List DomainSettings) (handles : List DomainHandle) → length handles ≡ length settings
    → list_any (λ h. h.is_live) handles ≡ false → ¬ AreWrong settings handles
are-right settings handles same none (inl differs) = differs same
are-right settings handles same none (inr live) = true≢false (sym live ∙ none)

map-append : {A B : Type 0} (f : A → B) (xs ys : List A) → map f (xs ++ ys) ≡ map f xs ++ map f ys
map-append f [] ys = refl
map-append f (x ∷ xs) ys = ap (λ zs. f x ∷ zs) (map-append f xs ys)

-- one more handle got the domain at its place
pub one-more : {B : Type 0} (f : B → Option CDomain) (out : List DomainHandle) (all : List B) (place : ℕ) (h : DomainHandle) (b d : B)
    → place < length out → place < length all → map domain_of_handle (take place out) ≡ map f (take place all)
    → domain_of_handle h ≡ f b → b ≡ get_or all place d
    → map domain_of_handle (take (place + 1) (set out place h)) ≡ map f (take (place + 1) all)
one-more f out all place h b d lt lu so got is =
    ap (λ (n : ℕ). map domain_of_handle (take n (set out place h))) (add-one place)
    ∙ ap (λ (hs : List DomainHandle). map domain_of_handle hs) (take-suc-set out place h lt)
    ∙ map-append domain_of_handle (take place out) (h ∷ [])
    ∙ ap (λ (xs : List (Option CDomain)). xs ++ domain_of_handle h ∷ []) so
    ∙ ap (λ (x : Option CDomain). map f (take place all) ++ x ∷ []) (got ∙ ap f is)
    ∙ sym (map-append f (take place all) (get_or all place d ∷ []))
    ∙ ap (λ xs. map f xs) (sym (take-suc all place d lu))
    ∙ ap (λ (n : ℕ). map f (take n all)) (sym (add-one place))

map-map : {A B C : Type 0} (f : B → C) (g : A → B) (xs : List A) → map f (map g xs) ≡ map (λ x. f (g x)) xs
map-map f g [] = refl
map-map f g (x ∷ xs) = ap (λ ys. f (g x) ∷ ys) (map-map f g xs)

-- the handles have the guests, if they have the boxes of the guests
pub handed-over : {B S : Type 0} (value : B → CDomain) (lent : S → CDomain) (bs : List B) (gs : List S) (os : List (Option CDomain))
    → os ≡ map (λ b. filled_handle (value b)) bs → map value bs ≡ map lent gs → os ≡ map (λ g. filled_handle (lent g)) gs
handed-over value lent bs gs os e same =
    e ∙ sym (map-map filled_handle value bs) ∙ ap (λ xs. map filled_handle xs) same ∙ map-map filled_handle lent gs

pub same-length : {A B C : Type 0} (f : A → C) (g : B → C) (xs : List A) (ys : List B) → map f xs ≡ map g ys → length xs ≡ length ys
same-length f g xs ys e = sym (length-map xs f) ∙ ap (λ zs. length zs) e ∙ length-map ys g
