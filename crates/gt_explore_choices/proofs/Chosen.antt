-- The choices that are found line by line are those that `IsChoice` allows.
use Rattle.std.proofs.Common.{◌≡◌, ◌∙◌, ◌⊎◌, inl, inr, ◌++◌, ◌||◌, ◌&&◌, ◌<◌, ◌+◌, ℕ, zero, suc, Bool, true, false, List, [], ◌∷◌}
use Rattle.std.proofs.Common.{Global, IfOk, Result, Ok, Err, Vec}
use Rattle.std.proofs.Common.{Option, Some, None, All, append_assoc, ap, arith, cond, get_or, length, map, refl, slice_get, subst, sym}
use Rattle.std.specs.Prelude.{not}
use Rattle.std.specs.List.{flat_map}
use Rattle.std.specs.Str.{bytes_eq}
use Rattle.std.proofs.lemmas.List.Elements.{All-cons, All-map, All-nil}
use Rattle.std.proofs.lemmas.List.Folds.{list_any-append}
use Rattle.std.specs.Option.{option_map}
use Rattle.std.proofs.lemmas.List.{length-map}
use Rattle.std.proofs.lemmas.Option.{none-some, same_Some, slice_get-get_or, slice_get-map}
use Rattle.std.proofs.lemmas.Slice.Eq.{bytes_eq-Decides}
use Rattle.gt_explore_choices.specs.Choices.{IsOneOf, IsChoiceIn, text_by, is_kept_whole, text_chosen, whole_in}
use Rattle.gt_explore_choices.specs.Kinds.{Kind, Marked, fixed, must, may, leave}
use Rattle.gt_explore_choices.specs.Choosing.{AreLeftOut, IsChoice, LeavesAt, LeavesBefore, Open, list_domain, first_open}
use Rattle.gt_explore_choices.specs.Choosing.{has_left, leaving, open_seen, widened, widened_all, with_kept}
use Rattle.gt_explore_choices.specs.declared.choosing.OpenChoice.{OpenChoice}

-- ---- lists

-- it is one of these
abbrev pub In : {X : Type 0} → X → List X → Type 0
In x [] = ⊥
In x (y ∷ ys) = (x ≡ y) ⊎ In x ys

in_front : {X : Type 0} (x : X) (xs ys : List X) → In x xs → In x (xs ++ ys)
in_front x [] ys h = absurd h
in_front x (y ∷ xs) ys (inl e) = inl e
in_front x (y ∷ xs) ys (inr h) = inr (in_front x xs ys h)

in_back : {X : Type 0} (x : X) (xs ys : List X) → In x ys → In x (xs ++ ys)
in_back x [] ys h = h
in_back x (y ∷ xs) ys h = inr (in_back x xs ys h)

in_either : {X : Type 0} (x : X) (xs ys : List X) → In x (xs ++ ys) → In x xs ⊎ In x ys
in_either x [] ys h = inr h
in_either x (y ∷ xs) ys (inl e) = inl (inl e)
in_either x (y ∷ xs) ys (inr h) = elim (in_either x xs ys h) [ inl a ↦ inl (inr a) | inr b ↦ inr b ]

in_flat : {X : Type 0} (f : X → List X) (xs : List X) (x y : X) → In x xs → In y (f x) → In y (flat_map f xs)
in_flat f [] x y h i = absurd h
in_flat f (z ∷ xs) x y (inl e) i = in_front y (f z) (flat_map f xs) (subst (λ w. In y (f w)) e i)
in_flat f (z ∷ xs) x y (inr h) i = in_back y (f z) (flat_map f xs) (in_flat f xs x y h i)

from_flat : {X : Type 0} (f : X → List X) (xs : List X) (y : X) → In y (flat_map f xs) → (x : X) × In x xs × In y (f x)
from_flat f [] y h = absurd h
from_flat f (z ∷ xs) y h = elim (in_either y (f z) (flat_map f xs) h) [
  | inl a ↦ (z, inl refl, a)
  | inr b ↦ let r = from_flat f xs y b in (r.0, inr r.1, r.2)
]

-- ---- domains

same_word : (d : List ℕ) → bytes_eq d d ≡ true
same_word d = (bytes_eq-Decides d d).1 refl

or_left : (a b : Bool) → a ≡ true → (a || b) ≡ true
or_left true b e = refl
or_left false b e = absurd (cc)

or_right : (a b : Bool) → b ≡ true → (a || b) ≡ true
or_right true b e = refl
or_right false b e = e

or_cases : (a b : Bool) → (a || b) ≡ true → (a ≡ true) ⊎ (b ≡ true)
or_cases true b e = inl refl
or_cases false b e = inr e

-- a domain more has left
left_more : (left : List (List ℕ)) (d e : List ℕ) → has_left left e ≡ true → has_left (left ++ d ∷ []) e ≡ true
left_more left d e h =
    list_any-append (λ o. bytes_eq o e) left (d ∷ []) ∙ or_left (has_left left e) (bytes_eq d e || false) h

left_now : (left : List (List ℕ)) (d e : List ℕ) → d ≡ e → has_left (left ++ d ∷ []) e ≡ true
left_now left d e is =
    list_any-append (λ o. bytes_eq o e) left (d ∷ [])
    ∙ or_right (has_left left e) (bytes_eq d e || false) (or_left (bytes_eq d e) false ((bytes_eq-Decides d e).1 is))

left_cases : (left : List (List ℕ)) (d e : List ℕ) → has_left (left ++ d ∷ []) e ≡ true → (has_left left e ≡ true) ⊎ (d ≡ e)
left_cases left d e h =
    let both : (has_left left e || (bytes_eq d e || false)) ≡ true = sym (list_any-append (λ o. bytes_eq o e) left (d ∷ [])) ∙ h in
    elim (or_cases (has_left left e) (bytes_eq d e || false) both) [
      | inl a ↦ inl a
      | inr b ↦ elim (or_cases (bytes_eq d e) false b) [ inl c ↦ inr ((bytes_eq-Decides d e).0 c) | inr c ↦ absurd (cc) ]
    ]

-- ---- a choice of the lines that are left, once these domains have left

pub record IsChoiceFrom (left : List (List ℕ)) (kinds : List Kind) (kept : List Bool) : Type 0 where
  pub many : length kept ≡ length kinds
  pub stays : (k : ℕ) → slice_get kinds k ≡ Some fixed → slice_get kept k ≡ Some true
  pub marks : (k : ℕ) (dom : List ℕ) → slice_get kinds k ≡ Some (leave dom) → slice_get kept k ≡ Some false
  pub gone : (k : ℕ) (dom : List ℕ) → slice_get (map list_domain kinds) k ≡ Some (Some dom) → has_left left dom ≡ true
      → slice_get kept k ≡ Some false
  pub listed : (k : ℕ) (dom : List ℕ) → slice_get kinds k ≡ Some (must dom)
      → (slice_get kept k ≡ Some true) ⊎ ((has_left left dom ≡ true) ⊎ LeavesBefore kinds kept dom k)

-- what leaves among later lines leaves among these with one more before them
later_leaves : (h : Kind) (b : Bool) (ks : List Kind) (bs : List Bool) (d : List ℕ) (at : ℕ) → LeavesAt ks bs d at → LeavesAt (h ∷ ks) (b ∷ bs) d (suc at)
later_leaves h b ks bs d at l = record { line = l.line; after = after }
  where
    after : AreLeftOut (h ∷ ks) (b ∷ bs) d (suc at)
    after zero lt e = absurd (omega arith)
    after (suc k) lt e = l.after k (omega arith) e

sooner_leaves : (h : Kind) (b : Bool) (ks : List Kind) (bs : List Bool) (d : List ℕ) (at : ℕ) → LeavesAt (h ∷ ks) (b ∷ bs) d (suc at) → LeavesAt ks bs d at
sooner_leaves h b ks bs d at l = record { line = l.line; after = λ k lt e. l.after (suc k) (omega arith) e }

later_before : (h : Kind) (b : Bool) (ks : List Kind) (bs : List Bool) (d : List ℕ) (k : ℕ) → LeavesBefore ks bs d k → LeavesBefore (h ∷ ks) (b ∷ bs) d (suc k)
later_before h b ks bs d k (at, lt, l) = (suc at, omega arith, later_leaves h b ks bs d at l)

-- one more line before these, at which no domain leaves
one_more : (left : List (List ℕ)) (h : Kind) (b : Bool) (ks : List Kind) (bs : List Bool)
    → (h ≡ fixed → b ≡ true) → ((d : List ℕ) → h ≡ leave d → b ≡ false)
    → ((d : List ℕ) → list_domain h ≡ Some d → has_left left d ≡ true → b ≡ false)
    → ((d : List ℕ) → h ≡ must d → (b ≡ true) ⊎ (has_left left d ≡ true))
    → IsChoiceFrom left ks bs → IsChoiceFrom left (h ∷ ks) (b ∷ bs)
one_more left h b ks bs fixed_is leave_is gone_is must_is c = record {
  many = ap (λ n. suc n) c.many;
  stays = stays;
  marks = marks;
  gone = gone;
  listed = listed;
}
  where
    stays : (k : ℕ) → slice_get (h ∷ ks) k ≡ Some fixed → slice_get (b ∷ bs) k ≡ Some true
    stays zero e = ap Some (fixed_is (same_Some h fixed e))
    stays (suc k) e = c.stays k e

    marks : (k : ℕ) (d : List ℕ) → slice_get (h ∷ ks) k ≡ Some (leave d) → slice_get (b ∷ bs) k ≡ Some false
    marks zero d e = ap Some (leave_is d (same_Some h (leave d) e))
    marks (suc k) d e = c.marks k d e

    gone : (k : ℕ) (d : List ℕ) → slice_get (map list_domain (h ∷ ks)) k ≡ Some (Some d) → has_left left d ≡ true → slice_get (b ∷ bs) k ≡ Some false
    gone zero d e g = ap Some (gone_is d (same_Some (list_domain h) (Some d) e) g)
    gone (suc k) d e g = c.gone k d e g

    listed : (k : ℕ) (d : List ℕ) → slice_get (h ∷ ks) k ≡ Some (must d)
        → (slice_get (b ∷ bs) k ≡ Some true) ⊎ ((has_left left d ≡ true) ⊎ LeavesBefore (h ∷ ks) (b ∷ bs) d k)
    listed zero d e = elim (must_is d (same_Some h (must d) e)) [ inl t ↦ inl (ap Some t) | inr g ↦ inr (inl g) ]
    listed (suc k) d e = elim (c.listed k d e) [
      | inl t ↦ inl t
      | inr o ↦ elim o [ inl g ↦ inr (inl g) | inr l ↦ inr (inr (later_before h b ks bs d k l)) ]
    ]

-- one more line before these, at which this domain leaves
one_leaves : (left : List (List ℕ)) (d : List ℕ) (ks : List Kind) (bs : List Bool) → has_left left d ≡ false
    → IsChoiceFrom (left ++ d ∷ []) ks bs → IsChoiceFrom left (leave d ∷ ks) (false ∷ bs)
one_leaves left d ks bs stayed c = record {
  many = ap (λ n. suc n) c.many;
  stays = stays;
  marks = marks;
  gone = gone;
  listed = listed;
}
  where
    stays : (k : ℕ) → slice_get (leave d ∷ ks) k ≡ Some fixed → slice_get (false ∷ bs) k ≡ Some true
    stays zero e = let clash = same_Some (leave d) fixed e in absurd (cc)
    stays (suc k) e = c.stays k e

    marks : (k : ℕ) (f : List ℕ) → slice_get (leave d ∷ ks) k ≡ Some (leave f) → slice_get (false ∷ bs) k ≡ Some false
    marks zero f e = refl
    marks (suc k) f e = c.marks k f e

    gone : (k : ℕ) (f : List ℕ) → slice_get (map list_domain (leave d ∷ ks)) k ≡ Some (Some f) → has_left left f ≡ true → slice_get (false ∷ bs) k ≡ Some false
    gone zero f e g = refl
    gone (suc k) f e g = c.gone k f e (left_more left d f g)

    after : (f : List ℕ) → d ≡ f → AreLeftOut (leave d ∷ ks) (false ∷ bs) f 0
    after f is zero lt e = absurd (omega arith)
    after f is (suc k) lt e = c.gone k f e (left_now left d f is)

    here : (f : List ℕ) (k : ℕ) → d ≡ f → LeavesBefore (leave d ∷ ks) (false ∷ bs) f (suc k)
    here f k is = (0, omega arith, record { line = ap (λ w. Some (leave w)) is; after = after f is })

    listed : (k : ℕ) (f : List ℕ) → slice_get (leave d ∷ ks) k ≡ Some (must f)
        → (slice_get (false ∷ bs) k ≡ Some true) ⊎ ((has_left left f ≡ true) ⊎ LeavesBefore (leave d ∷ ks) (false ∷ bs) f k)
    listed zero f e = let clash = same_Some (leave d) (must f) e in absurd (cc)
    listed (suc k) f e = elim (c.listed k f e) [
      | inl t ↦ inl t
      | inr o ↦ elim o [
        | inl g ↦ elim (left_cases left d f g) [ inl a ↦ inr (inl a) | inr is ↦ inr (inr (here f k is)) ]
        | inr l ↦ inr (inr (later_before (leave d) false ks bs f k l))
      ]
    ]

none_left : (left : List (List ℕ)) → IsChoiceFrom left [] []
none_left left = record {
  many = refl;
  stays = λ k e. absurd (none-some fixed e);
  marks = λ k d e. absurd (none-some (leave d) e);
  gone = λ k d e g. absurd (none-some (Some d) e);
  listed = λ k d e. absurd (none-some (must d) e);
}

-- ---- what is found is a choice

-- from this choice of the lines before, one of these lines makes that one
abbrev Makes : Kind → List Kind → Open → Open → List Bool → Type 0
Makes h ks o p bs = (b : Bool) × (p.kept ≡ o.kept ++ b ∷ []) × IsChoiceFrom o.left (h ∷ ks) (b ∷ bs)

in_one : {X : Type 0} (x y : X) → In x (y ∷ []) → x ≡ y
in_one x y (inl e) = e
in_one x y (inr h) = absurd h

makes_line : (h : Kind) (ks : List Kind) (o p : Open) (bs : List Bool) (b : Bool) → p ≡ with_kept b o
    → (h ≡ fixed → b ≡ true) → ((d : List ℕ) → h ≡ leave d → b ≡ false)
    → ((d : List ℕ) → list_domain h ≡ Some d → has_left o.left d ≡ true → b ≡ false)
    → ((d : List ℕ) → h ≡ must d → (b ≡ true) ⊎ (has_left o.left d ≡ true))
    → IsChoiceFrom p.left ks bs → Makes h ks o p bs
makes_line h ks o p bs b is fixed_is leave_is gone_is must_is c = (
  b,
  ap (λ (q : Open). q.kept) is,
  one_more o.left h b ks bs fixed_is leave_is gone_is must_is (subst (λ (l : List (List ℕ)). IsChoiceFrom l ks bs) (ap (λ (q : Open). q.left) is) c),
)

makes : (h : Kind) (ks : List Kind) (o p : Open) (bs : List Bool) → In p (widened h o) → IsChoiceFrom p.left ks bs → Makes h ks o p bs
makes fixed ks o p bs i c =
    makes_line fixed ks o p bs true (in_one p (with_kept true o) i) (λ e. refl) (λ d e. absurd (cc)) (λ d e g. absurd (none-some d e)) (λ d e. absurd (cc)) c
makes (must d) ks o p bs i c = go (has_left o.left d) refl i
  where
    go : (t : Bool) → has_left o.left d ≡ t → In p (with_kept (not t) o ∷ []) → Makes (must d) ks o p bs
    go true e j =
        makes_line (must d) ks o p bs false (in_one p (with_kept false o) j) (λ f. absurd (cc)) (λ f g. refl) (λ f g t. refl) (λ f g. inr (let is : d ≡ f = cc in subst (λ (w : List ℕ). has_left o.left w ≡ true) is e)) c
    go false e j =
        makes_line (must d) ks o p bs true (in_one p (with_kept true o) j) (λ f. refl) (λ f g. absurd (cc)) (λ f g t. let is : d ≡ f = same_Some d f g in let stayed : has_left o.left f ≡ false = subst (λ (w : List ℕ). has_left o.left w ≡ false) is e in absurd (cc)) (λ f g. inl refl) c
makes (may d) ks o p bs i c = go (has_left o.left d) refl i
  where
    kept : has_left o.left d ≡ false → p ≡ with_kept true o → Makes (may d) ks o p bs
    kept e is =
        makes_line (may d) ks o p bs true is (λ f. refl) (λ f g. absurd (cc)) (λ f g t. let same : d ≡ f = same_Some d f g in let stayed : has_left o.left f ≡ false = subst (λ (w : List ℕ). has_left o.left w ≡ false) same e in absurd (cc)) (λ f g. inl refl) c

    dropped : p ≡ with_kept false o → Makes (may d) ks o p bs
    dropped is =
        makes_line (may d) ks o p bs false is (λ f. absurd (cc)) (λ f g. refl) (λ f g t. refl) (λ f g. absurd (cc)) c

    go : (t : Bool) → has_left o.left d ≡ t → In p (cond t (with_kept false o ∷ []) (with_kept true o ∷ with_kept false o ∷ [])) → Makes (may d) ks o p bs
    go true e j = dropped (in_one p (with_kept false o) j)
    go false e (inl is) = kept e is
    go false e (inr j) = dropped (in_one p (with_kept false o) j)
makes (leave d) ks o p bs i c = go (has_left o.left d) refl i
  where
    dropped : p ≡ with_kept false o → Makes (leave d) ks o p bs
    dropped is =
        makes_line (leave d) ks o p bs false is (λ f. absurd (cc)) (λ f g. refl) (λ f g t. refl) (λ f g. absurd (cc)) c

    gone : has_left o.left d ≡ false → p ≡ leaving d o → Makes (leave d) ks o p bs
    gone e is = (
      false,
      ap (λ (q : Open). q.kept) is,
      one_leaves o.left d ks bs e (subst (λ (l : List (List ℕ)). IsChoiceFrom l ks bs) (ap (λ (q : Open). q.left) is) c),
    )

    go : (t : Bool) → has_left o.left d ≡ t → In p (cond t (with_kept false o ∷ []) (with_kept false o ∷ leaving d o ∷ [])) → Makes (leave d) ks o p bs
    go true e j = dropped (in_one p (with_kept false o) j)
    go false e (inl is) = dropped is
    go false e (inr j) = gone e (in_one p (leaving d o) j)

abbrev IsFrom : List Kind → List Open → Open → Type 0
IsFrom ks os p = (o : Open) × (bs : List Bool) × In o os × (p.kept ≡ o.kept ++ bs) × IsChoiceFrom o.left ks bs

append_none : (bs : List Bool) → bs ++ [] ≡ bs
append_none [] = refl
append_none (b ∷ bs) = ap (λ (l : List Bool). b ∷ l) (append_none bs)

found_is : (ks : List Kind) (os : List Open) (p : Open) → In p (widened_all ks os) → IsFrom ks os p
found_is [] os p i = (p, [], i, sym (append_none p.kept), none_left p.left)
found_is (h ∷ ks) os p i =
    let r = found_is ks (flat_map (widened h) os) p i in
    let s = from_flat (widened h) os r.0 r.2 in
    let m = makes h ks s.0 r.0 r.1 s.2 r.4 in
    (s.0, m.0 ∷ r.1, s.1, r.3 ∙ ap (λ (l : List Bool). l ++ r.1) m.1 ∙ append_assoc s.0.kept (m.0 ∷ []) r.1, m.2)

-- ---- each choice is found

-- whether no line of a domain is kept
abbrev is_of : List ℕ → Option (List ℕ) → Bool
is_of d None = false
is_of d (Some e) = bytes_eq e d

abbrev all_out : List ℕ → List Kind → List Bool → Bool
all_out d [] bs = true
all_out d (h ∷ ks) [] = true
all_out d (h ∷ ks) (b ∷ bs) = not (is_of d (list_domain h) && b) && all_out d ks bs

abbrev AreOut : List ℕ → List Kind → List Bool → Type 0
AreOut d ks bs = (k : ℕ) → slice_get (map list_domain ks) k ≡ Some (Some d) → slice_get bs k ≡ Some false

and_first : (a b : Bool) → (a && b) ≡ true → a ≡ true
and_first true b e = refl
and_first false b e = e

and_second : (a b : Bool) → (a && b) ≡ true → b ≡ true
and_second true b e = e
and_second false b e = absurd (cc)

and_both : (a b : Bool) → a ≡ true → b ≡ true → (a && b) ≡ true
and_both true b e f = f
and_both false b e f = absurd (cc)

not_kept : (d : List ℕ) (o : Option (List ℕ)) (b : Bool) → not (is_of d o && b) ≡ true → o ≡ Some d → b ≡ false
not_kept d None b e is = absurd (none-some d is)
not_kept d (Some f) false e is = refl
not_kept d (Some f) true e is =
    let same : bytes_eq f d ≡ true = (bytes_eq-Decides f d).1 (same_Some f d is) in
    let clash : not (true && true) ≡ true = subst (λ (t : Bool). not (t && true) ≡ true) same e in absurd (cc)

out_sound : (d : List ℕ) (ks : List Kind) (bs : List Bool) → length bs ≡ length ks → all_out d ks bs ≡ true → AreOut d ks bs
out_sound d [] bs many all k e = absurd (none-some (Some d) e)
out_sound d (h ∷ ks) [] many all k e = absurd (omega arith)
out_sound d (h ∷ ks) (b ∷ bs) many all zero e =
    ap Some (not_kept d (list_domain h) b (and_first (not (is_of d (list_domain h) && b)) (all_out d ks bs) all) (same_Some (list_domain h) (Some d) e))
out_sound d (h ∷ ks) (b ∷ bs) many all (suc k) e =
    out_sound d ks bs (omega arith) (and_second (not (is_of d (list_domain h) && b)) (all_out d ks bs) all) k e

head_out : (d : List ℕ) (o : Option (List ℕ)) (b : Bool) → (o ≡ Some d → b ≡ false) → not (is_of d o && b) ≡ true
head_out d None b out = refl
head_out d (Some f) false out = go (bytes_eq f d)
  where
    go : (t : Bool) → not (t && false) ≡ true
    go true = refl
    go false = refl
head_out d (Some f) true out = go (bytes_eq f d) refl
  where
    go : (t : Bool) → bytes_eq f d ≡ t → not (t && true) ≡ true
    go true e = let clash : true ≡ false = out (ap Some ((bytes_eq-Decides f d).0 e)) in absurd (cc)
    go false e = refl

out_complete : (d : List ℕ) (ks : List Kind) (bs : List Bool) → AreOut d ks bs → all_out d ks bs ≡ true
out_complete d [] bs out = refl
out_complete d (h ∷ ks) [] out = refl
out_complete d (h ∷ ks) (b ∷ bs) out =
    and_both (not (is_of d (list_domain h) && b)) (all_out d ks bs)
    (head_out d (list_domain h) b (λ e. same_Some b false (out zero (ap Some e))))
    (out_complete d ks bs (λ k e. out (suc k) e))

-- what a choice of lines is for those after the first, at which no domain leaves
after_first : (left : List (List ℕ)) (h : Kind) (b : Bool) (ks : List Kind) (bs : List Bool)
    → ((d : List ℕ) → LeavesAt (h ∷ ks) (b ∷ bs) d 0 → has_left left d ≡ true)
    → IsChoiceFrom left (h ∷ ks) (b ∷ bs) → IsChoiceFrom left ks bs
after_first left h b ks bs first c = record {
  many = let many = c.many in omega arith;
  stays = λ k e. c.stays (suc k) e;
  marks = λ k d e. c.marks (suc k) d e;
  gone = λ k d e g. c.gone (suc k) d e g;
  listed = listed;
}
  where
    before : (d : List ℕ) (k : ℕ) → LeavesBefore (h ∷ ks) (b ∷ bs) d (suc k) → (has_left left d ≡ true) ⊎ LeavesBefore ks bs d k
    before d k (zero, lt, l) = inl (first d l)
    before d k (suc at, lt, l) = inr (at, omega arith, sooner_leaves h b ks bs d at l)

    listed : (k : ℕ) (d : List ℕ) → slice_get ks k ≡ Some (must d)
        → (slice_get bs k ≡ Some true) ⊎ ((has_left left d ≡ true) ⊎ LeavesBefore ks bs d k)
    listed k d e = elim (c.listed (suc k) d e) [
      | inl t ↦ inl t
      | inr o ↦ elim o [ inl g ↦ inr (inl g) | inr l ↦ inr (before d k l) ]
    ]

-- the same after a line at which this domain leaves
after_leave : (left : List (List ℕ)) (d : List ℕ) (b : Bool) (ks : List Kind) (bs : List Bool) → AreOut d ks bs
    → IsChoiceFrom left (leave d ∷ ks) (b ∷ bs) → IsChoiceFrom (left ++ d ∷ []) ks bs
after_leave left d b ks bs out c = record {
  many = let many = c.many in omega arith;
  stays = λ k e. c.stays (suc k) e;
  marks = λ k f e. c.marks (suc k) f e;
  gone = gone;
  listed = listed;
}
  where
    gone : (k : ℕ) (f : List ℕ) → slice_get (map list_domain ks) k ≡ Some (Some f) → has_left (left ++ d ∷ []) f ≡ true → slice_get bs k ≡ Some false
    gone k f e g = elim (left_cases left d f g) [
      | inl a ↦ c.gone (suc k) f e a
      | inr is ↦ out k (subst (λ (w : List ℕ). slice_get (map list_domain ks) k ≡ Some (Some w)) (sym is) e)
    ]

    before : (f : List ℕ) (k : ℕ) → LeavesBefore (leave d ∷ ks) (b ∷ bs) f (suc k) → (has_left (left ++ d ∷ []) f ≡ true) ⊎ LeavesBefore ks bs f k
    before f k (zero, lt, l) = inl (left_now left d f (let e = same_Some (leave d) (leave f) l.line in cc))
    before f k (suc at, lt, l) = inr (at, omega arith, sooner_leaves (leave d) b ks bs f at l)

    listed : (k : ℕ) (f : List ℕ) → slice_get ks k ≡ Some (must f)
        → (slice_get bs k ≡ Some true) ⊎ ((has_left (left ++ d ∷ []) f ≡ true) ⊎ LeavesBefore ks bs f k)
    listed k f e = elim (c.listed (suc k) f e) [
      | inl t ↦ inl t
      | inr o ↦ elim o [ inl g ↦ inr (inl (left_more left d f g)) | inr l ↦ inr (before f k l) ]
    ]

-- this choice of the lines before has, at one of these lines, one that goes on as the flags do
abbrev GoesOn : Kind → List Kind → Open → Bool → List Bool → Type 0
GoesOn h ks o b bs = (p : Open) × In p (widened h o) × (p.kept ≡ o.kept ++ b ∷ []) × IsChoiceFrom p.left ks bs

kept_line : (o : Open) (a b : Bool) → a ≡ b → (with_kept a o).kept ≡ o.kept ++ b ∷ []
kept_line o a b e = ap (λ (t : Bool). o.kept ++ t ∷ []) e

goes_on : (h : Kind) (ks : List Kind) (o : Open) (b : Bool) (bs : List Bool) → IsChoiceFrom o.left (h ∷ ks) (b ∷ bs) → GoesOn h ks o b bs
goes_on fixed ks o b bs c = (
  with_kept true o,
  inl refl,
  kept_line o true b (sym (same_Some b true (c.stays zero refl))),
  after_first o.left fixed b ks bs (λ d l. let clash = same_Some fixed (leave d) l.line in absurd (cc)) c,
)
goes_on (must d) ks o b bs c = go (has_left o.left d) refl
  where
    rest : IsChoiceFrom o.left ks bs
    rest = after_first o.left (must d) b ks bs (λ f l. let clash = same_Some (must d) (leave f) l.line in absurd (cc)) c

    go : (t : Bool) → has_left o.left d ≡ t → (p : Open) × In p (with_kept (not t) o ∷ []) × (p.kept ≡ o.kept ++ b ∷ []) × IsChoiceFrom p.left ks bs
    go true e = (with_kept false o, inl refl, kept_line o false b (sym (same_Some b false (c.gone zero d refl e))), rest)
    go false e = (with_kept true o, inl refl, kept_line o true b is, rest)
      where
        is : true ≡ b
        is = elim (c.listed zero d refl) [
          | inl t ↦ sym (same_Some b true t)
          | inr n ↦ elim n [ inl g ↦ absurd (cc) | inr l ↦ absurd (let lt = l.1 in omega arith) ]
        ]
goes_on (may d) ks o b bs c = go (has_left o.left d) refl b refl
  where
    rest : IsChoiceFrom o.left ks bs
    rest = after_first o.left (may d) b ks bs (λ f l. let clash = same_Some (may d) (leave f) l.line in absurd (cc)) c

    go : (t : Bool) → has_left o.left d ≡ t → (u : Bool) → b ≡ u
        → (p : Open) × In p (cond t (with_kept false o ∷ []) (with_kept true o ∷ with_kept false o ∷ [])) × (p.kept ≡ o.kept ++ b ∷ []) × IsChoiceFrom p.left ks bs
    go true e u is = (with_kept false o, inl refl, kept_line o false b (sym (same_Some b false (c.gone zero d refl e))), rest)
    go false e true is = (with_kept true o, inl refl, kept_line o true b (sym is), rest)
    go false e false is = (with_kept false o, inr (inl refl), kept_line o false b (sym is), rest)
goes_on (leave d) ks o b bs c = go (has_left o.left d) refl (all_out d ks bs) refl
  where
    is : false ≡ b
    is = sym (same_Some b false (c.marks zero d refl))

    many : length bs ≡ length ks
    many = let many = c.many in omega arith

    go : (t : Bool) → has_left o.left d ≡ t → (u : Bool) → all_out d ks bs ≡ u
        → (p : Open) × In p (cond t (with_kept false o ∷ []) (with_kept false o ∷ leaving d o ∷ [])) × (p.kept ≡ o.kept ++ b ∷ []) × IsChoiceFrom p.left ks bs
    go true e u out = (
      with_kept false o,
      inl refl,
      kept_line o false b is,
      after_first o.left (leave d) b ks bs (λ f l. let same = same_Some (leave d) (leave f) l.line in let word : d ≡ f = cc in subst (λ (w : List ℕ). has_left o.left w ≡ true) word e) c,
    )
    go false e true out =
        (leaving d o, inr (inl refl), kept_line o false b is, after_leave o.left d b ks bs (out_sound d ks bs many out) c)
    go false e false out = (
      with_kept false o,
      inl refl,
      kept_line o false b is,
      after_first o.left (leave d) b ks bs (λ f l. absurd (stays f l)) c,
    )
      where
        stays : (f : List ℕ) → LeavesAt (leave d ∷ ks) (b ∷ bs) f 0 → ⊥
        stays f l =
            let same = same_Some (leave d) (leave f) l.line in
            let word : f ≡ d = cc in
            let all : all_out d ks bs ≡ true = out_complete d ks bs (λ k e. l.after (suc k) (omega arith) (subst (λ (w : List ℕ). slice_get (map list_domain ks) k ≡ Some (Some w)) (sym word) e)) in
            absurd (cc)

abbrev IsFound : List Kind → List Open → Open → List Bool → Type 0
IsFound ks os o bs = (p : Open) × In p (widened_all ks os) × (p.kept ≡ o.kept ++ bs)

is_found : (ks : List Kind) (os : List Open) (o : Open) (bs : List Bool) → In o os → IsChoiceFrom o.left ks bs → IsFound ks os o bs
is_found [] os o [] i c = (o, i, sym (append_none o.kept))
is_found [] os o (b ∷ bs) i c = absurd (let many = c.many in omega arith)
is_found (h ∷ ks) os o [] i c = absurd (let many = c.many in omega arith)
is_found (h ∷ ks) os o (b ∷ bs) i c =
    let g = goes_on h ks o b bs c in
    let r = is_found ks (flat_map (widened h) os) g.0 bs (in_flat (widened h) os o g.0 i g.1) g.3 in
    (r.0, r.1, r.2 ∙ ap (λ (l : List Bool). l ++ bs) g.2 ∙ append_assoc o.kept (b ∷ []) bs)

-- ---- from the first choice of no lines

no_left : (c : Type 0) → false ≡ true → c
no_left c e = absurd (cc)

whole_choice : (ks : List Kind) (bs : List Bool) → IsChoiceFrom [] ks bs → IsChoice ks bs
whole_choice ks bs c = record {
  many = c.many;
  stays = c.stays;
  marks = c.marks;
  listed = λ k d e. elim (c.listed k d e) [
    | inl t ↦ inl t
    | inr o ↦ elim o [ inl g ↦ absurd (cc) | inr l ↦ inr l ]
  ];
}

choice_from : (ks : List Kind) (bs : List Bool) → IsChoice ks bs → IsChoiceFrom [] ks bs
choice_from ks bs c = record {
  many = c.many;
  stays = c.stays;
  marks = c.marks;
  gone = λ k d e g. absurd (cc);
  listed = λ k d e. elim (c.listed k d e) [ inl t ↦ inl t | inr l ↦ inr (inr l) ];
}

-- each that is found is a choice
pub each_is : (ks : List Kind) (p : Open) → In p (widened_all ks (first_open ∷ [])) → IsChoice ks p.kept
each_is ks p i =
    let f = found_is ks (first_open ∷ []) p i in
    let o : f.0 ≡ first_open = in_one f.0 first_open f.2 in
    let kept : p.kept ≡ f.1 = f.3 ∙ ap (λ (q : Open). q.kept ++ f.1) o in
    subst (IsChoice ks) (sym kept) (whole_choice ks f.1 (subst (λ (q : Open). IsChoiceFrom q.left ks f.1) o f.4))

-- and each choice is found
pub each_found : (ks : List Kind) (bs : List Bool) → IsChoice ks bs → (p : Open) × In p (widened_all ks (first_open ∷ [])) × (p.kept ≡ bs)
each_found ks bs c = is_found ks (first_open ∷ []) first_open bs (inl refl) (choice_from ks bs c)

-- ---- the texts

in_all : {X : Type 0} (P : X → Type 0) (xs : List X) → ((x : X) → In x xs → P x) → All P xs
in_all P [] each = All-nil P
in_all P (x ∷ xs) each = All-cons P x xs (each x (inl refl)) (in_all P xs (λ y i. each y (inr i)))

in_index : {X : Type 0} (f : X → List ℕ) (xs : List X) (x : X) → In x xs → IsOneOf (f x) (map f xs)
in_index f [] x i = absurd i
in_index f (y ∷ xs) x (inl e) = (zero, ap (λ w. Some (f w)) (sym e))
in_index f (y ∷ xs) x (inr i) = let r = in_index f xs x i in (suc r.0, r.1)

abbrev kinds : List Marked → List Kind
kinds lines = map (λ (m : Marked). m.kind) lines

-- each text that is made is a choice of these lines
pub each_text : (lines : List Marked) (os : List Open) → os ≡ widened_all (map (λ (m : Marked). m.kind) lines) (first_open ∷ []) → All (IsChoiceIn lines) (map (text_by lines) os)
each_text lines os is =
    All-map (IsChoiceIn lines) (text_by lines) os
    (in_all (λ o. IsChoiceIn lines (text_by lines o)) os (λ o i. (o.kept, each_is (kinds lines) o (subst (In o) is i), refl)))

-- and each choice of them is made
pub whole_texts : (lines : List Marked) (os : List Open) (text : List ℕ) → os ≡ widened_all (map (λ (m : Marked). m.kind) lines) (first_open ∷ []) → IsChoiceIn lines text → IsOneOf text (map (text_by lines) os)
whole_texts lines os text is (kept, choice, same) =
    let f = each_found (kinds lines) kept choice in
    let r = in_index (text_by lines) os f.0 (subst (In f.0) (sym is) f.1) in
    (r.0, r.1 ∙ ap Some (ap (λ (bs : List Bool). text_chosen lines bs 0) f.2 ∙ sym same))

first_of : (ks : List Kind) (bs : List Bool) (os : List Open) → slice_get (widened_all ks (record { kept = bs; left = [] } ∷ os)) 0 ≡ Some (record { kept = bs ++ map is_kept_whole ks; left = [] })
first_of [] bs os = ap (λ (l : List Bool). Some (record { kept = l; left = [] })) (sym (append_none bs))
first_of (fixed ∷ ks) bs os = first_of ks (bs ++ true ∷ []) (flat_map (widened fixed) os) ∙ ap (λ (l : List Bool). Some (record { kept = l; left = [] })) (append_assoc bs (true ∷ []) (map is_kept_whole ks))
first_of (must d ∷ ks) bs os = first_of ks (bs ++ true ∷ []) (flat_map (widened (must d)) os) ∙ ap (λ (l : List Bool). Some (record { kept = l; left = [] })) (append_assoc bs (true ∷ []) (map is_kept_whole ks))
first_of (may d ∷ ks) bs os =
    first_of ks (bs ++ true ∷ []) (record { kept = bs ++ false ∷ []; left = [] } ∷ flat_map (widened (may d)) os)
    ∙ ap (λ (l : List Bool). Some (record { kept = l; left = [] })) (append_assoc bs (true ∷ []) (map is_kept_whole ks))
first_of (leave d ∷ ks) bs os =
    first_of ks (bs ++ false ∷ []) (record { kept = bs ++ false ∷ []; left = d ∷ [] } ∷ flat_map (widened (leave d)) os)
    ∙ ap (λ (l : List Bool). Some (record { kept = l; left = [] })) (append_assoc bs (false ∷ []) (map is_kept_whole ks))

get_map : {X : Type 0} (f : X → List ℕ) (xs : List X) (x : X) → slice_get xs 0 ≡ Some x → slice_get (map f xs) 0 ≡ Some (f x)
get_map f [] x e = absurd (none-some x e)
get_map f (y ∷ xs) x e = ap (λ w. Some (f w)) (same_Some y x e)

-- the first keeps each `maybe` line
pub first_text : (lines : List Marked) (os : List Open) → os ≡ widened_all (map (λ (m : Marked). m.kind) lines) (first_open ∷ []) → slice_get (map (text_by lines) os) 0 ≡ Some (whole_in lines)
first_text lines os is =
    get_map (text_by lines) os (record { kept = map is_kept_whole (kinds lines); left = [] })
    (ap (λ (l : List Open). slice_get l 0) is ∙ first_of (kinds lines) [] [])

-- the text of the choice at an index
pub text_at : {E : Type 0} (lines : List Marked) (os : List OpenChoice) (value : List (List ℕ)) (at : ℕ) (o : OpenChoice) (r : Result (Vec ℕ Global) E)
    → map (text_by lines) (map open_seen os) ≡ value → at < length value → o ≡ get_or os at o → IfOk r (λ t. t.items ≡ text_chosen lines o.kept.items 0)
    → IfOk r (λ t. slice_get value at ≡ Some t.items)
text_at lines os value at o (Err e) view lt is made = tt
text_at lines os value at o (Ok t) view lt is made =
    let many : length value ≡ length os = ap length (sym view) ∙ length-map (map open_seen os) (text_by lines) ∙ length-map os open_seen in
    let there : slice_get os at ≡ Some o = slice_get-get_or os at o (omega arith) ∙ ap Some (sym is) in
    ap (λ (l : List (List ℕ)). slice_get l at) (sym view)
    ∙ slice_get-map (text_by lines) (map open_seen os) at
    ∙ ap (option_map (text_by lines)) (slice_get-map open_seen os at ∙ ap (option_map open_seen) there)
    ∙ ap Some (sym made)
