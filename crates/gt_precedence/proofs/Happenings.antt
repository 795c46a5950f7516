-- Orders with a flag more or less: what the core does is the same, and the other flags are raised in time.
use Rattle.std.proofs.Common.{◌≡◌, ℕ, zero, suc, ◌+◌, Bool, true, false, cond, not, List, [], ◌∷◌, ◌++◌}
use Rattle.std.proofs.Common.{Some, ◌⊎◌, inl, inr, refl, ap, sym, ◌∙◌, subst, arith}
use Rattle.std.proofs.lemmas.Bool.{eqb-true, eq-eqb}
use Rattle.std.proofs.lemmas.List.Elements.{filter-append}
use Rattle.std.proofs.lemmas.Option.{none-some, same_Some}
use Rattle.std.specs.Prelude.{◌==◌, filter, slice_get}
use Rattle.gt_precedence.specs.Prelude.{DomId, Element, Event, Happening, did, raised, passed, doer, own_happenings}
use Rattle.gt_precedence.specs.Prelude.{events_in, trace_in, IsRaisedBefore, FlagsAreRaised}
use Rattle.gt_precedence.specs.Precedence.{answers_call, begins_call}
use Rattle.gt_precedence.proofs.Lists.{count, count-append, count-no}

-- the flag of this number is raised or passed
abbrev pub is_of_flag : ℕ → Happening → Bool
is_of_flag F (did e x) = false
is_of_flag F (raised d f) = f == F
is_of_flag F (passed d f) = f == F

-- an order without a flag
abbrev pub erased : ℕ → List Happening → List Happening
erased F hs = filter (λ x. not (is_of_flag F x)) hs

pub filters-swap : {X : Type 0} (p q : X → Bool) (xs : List X) → filter p (filter q xs) ≡ filter q (filter p xs)
filters-swap p q [] = refl
filters-swap {X = X} p q (x ∷ xs) = by (p x) (q x) refl refl (filters-swap p q xs) where
  by : (a b : Bool) → p x ≡ a → q x ≡ b → filter p (filter q xs) ≡ filter q (filter p xs) → filter p (cond (q x) (x ∷ filter q xs) (filter q xs)) ≡ filter q (cond (p x) (x ∷ filter p xs) (filter p xs))
  by true true e f rest = rw (e, f) (rw e (ap (λ (l : List X). x ∷ l) rest))
  by true false e f rest = rw (e, f) rest
  by false true e f rest = rw (e, f) (rw e rest)
  by false false e f rest = rw (e, f) rest

pub own-erased : (F : ℕ) (d : DomId) (hs : List Happening) → own_happenings d (erased F hs) ≡ erased F (own_happenings d hs)
own-erased F d hs = filters-swap (λ (x : Happening). (doer x).0 == d.0) (λ (x : Happening). not (is_of_flag F x)) hs

-- what the core does

pub events-erased : (F : ℕ) (hs : List Happening) → events_in (erased F hs) ≡ events_in hs
events-erased F [] = refl
events-erased F (did e x ∷ hs) = ap (λ (es : List Event). e ∷ es) (events-erased F hs)
events-erased F (raised d f ∷ hs) = by (f == F) (events-erased F hs) where
  by : (b : Bool) → events_in (erased F hs) ≡ events_in hs → events_in (cond (not b) (raised d f ∷ erased F hs) (erased F hs)) ≡ events_in hs
  by true rest = rest
  by false rest = rest
events-erased F (passed d f ∷ hs) = by (f == F) (events-erased F hs) where
  by : (b : Bool) → events_in (erased F hs) ≡ events_in hs → events_in (cond (not b) (passed d f ∷ erased F hs) (erased F hs)) ≡ events_in hs
  by true rest = rest
  by false rest = rest

pub trace-erased : (F : ℕ) (hs : List Happening) → trace_in (erased F hs) ≡ trace_in hs
trace-erased F [] = refl
trace-erased F (did e x ∷ hs) = ap (λ (es : List Element). x ∷ es) (trace-erased F hs)
trace-erased F (raised d f ∷ hs) = by (f == F) (trace-erased F hs) where
  by : (b : Bool) → trace_in (erased F hs) ≡ trace_in hs → trace_in (cond (not b) (raised d f ∷ erased F hs) (erased F hs)) ≡ trace_in hs
  by true rest = rest
  by false rest = rest
trace-erased F (passed d f ∷ hs) = by (f == F) (trace-erased F hs) where
  by : (b : Bool) → trace_in (erased F hs) ≡ trace_in hs → trace_in (cond (not b) (passed d f ∷ erased F hs) (erased F hs)) ≡ trace_in hs
  by true rest = rest
  by false rest = rest

-- no event
abbrev pub IsQuiet : Happening → Type 0
IsQuiet (did e x) = ⊥
IsQuiet (raised d f) = Unit {0}
IsQuiet (passed d f) = Unit {0}

pub events-with : (us vs : List Happening) (f : Happening) → IsQuiet f → events_in (us ++ f ∷ vs) ≡ events_in (us ++ vs)
events-with [] vs (did e x) q = absurd q
events-with [] vs (raised d f) q = refl
events-with [] vs (passed d f) q = refl
events-with (did e x ∷ us) vs f q = ap (λ (es : List Event). e ∷ es) (events-with us vs f q)
events-with (raised d g ∷ us) vs f q = events-with us vs f q
events-with (passed d g ∷ us) vs f q = events-with us vs f q

pub trace-with : (us vs : List Happening) (f : Happening) → IsQuiet f → trace_in (us ++ f ∷ vs) ≡ trace_in (us ++ vs)
trace-with [] vs (did e x) q = absurd q
trace-with [] vs (raised d f) q = refl
trace-with [] vs (passed d f) q = refl
trace-with (did e x ∷ us) vs f q = ap (λ (es : List Element). x ∷ es) (trace-with us vs f q)
trace-with (raised d g ∷ us) vs f q = trace-with us vs f q
trace-with (passed d g ∷ us) vs f q = trace-with us vs f q

-- flags

-- each flag that is passed was raised before, or is one of these
abbrev pub RaisedInTime : (ℕ → Type 0) → List Happening → Type 0
RaisedInTime P [] = Unit {0}
RaisedInTime P (did e x ∷ hs) = RaisedInTime P hs
RaisedInTime P (raised d f ∷ hs) = RaisedInTime (λ g. P g ⊎ (g ≡ f)) hs
RaisedInTime P (passed d f ∷ hs) = P f × RaisedInTime P hs

earlier : (x : Happening) (hs : List Happening) (at f : ℕ) → IsRaisedBefore (suc at) f (x ∷ hs) → ((d : DomId) × (x ≡ raised d f)) ⊎ IsRaisedBefore at f hs
earlier x hs at f (zero, d, lt, is) = inl (d, same_Some x (raised d f) is)
earlier x hs at f (suc k, d, lt, is) = inr (k, d, omega (arith, lt), is)

later : (x : Happening) (hs : List Happening) (at f : ℕ) → IsRaisedBefore at f hs → IsRaisedBefore (suc at) f (x ∷ hs)
later x hs at f (k, d, lt, is) = (suc k, d, omega (arith, lt), is)

abbrev EachRaised : (ℕ → Type 0) → List Happening → Type 0
EachRaised P hs = (at : ℕ) (d : DomId) (f : ℕ) → slice_get hs at ≡ Some (passed d f) → P f ⊎ IsRaisedBefore at f hs

each-later : (P : ℕ → Type 0) (x : Happening) (hs : List Happening) → ((d : DomId) (f : ℕ) → x ≡ raised d f → ⊥) → EachRaised P (x ∷ hs) → EachRaised P hs
each-later P x hs none each at d f is = elim (each (suc at) d f is) [
  | inl here ↦ inl here
  | inr before ↦ elim (earlier x hs at f before) [ inl now ↦ absurd (none now.0 f now.1) | inr rest ↦ inr rest ]
]

pub in-time : (P : ℕ → Type 0) (hs : List Happening) → EachRaised P hs → RaisedInTime P hs
in-time P [] each = tt
in-time P (did e x ∷ hs) each = in-time P hs (each-later P (did e x) hs (λ d f is. cc) each)
in-time P (raised k g ∷ hs) each = in-time (λ h. P h ⊎ (h ≡ g)) hs (λ at d f is. elim (each (suc at) d f is) [
  | inl here ↦ inl (inl here)
  | inr before ↦ elim (earlier (raised k g) hs at f before) [ inl now ↦ let z = now.1 in let e : f ≡ g = cc in inl (inr e) | inr rest ↦ inr rest ]
])
in-time P (passed k g ∷ hs) each =
    (elim (each zero k g refl) [ inl here ↦ here | inr before ↦ absurd (omega (arith, before.2)) ], in-time P hs (each-later P (passed k g) hs (λ d f is. cc) each))

pub each-in-time : (P : ℕ → Type 0) (hs : List Happening) → RaisedInTime P hs → EachRaised P hs
each-in-time P [] are at d f is = absurd (none-some _ is)
each-in-time P (did e x ∷ hs) are zero d f is = absurd (let z = same_Some _ _ is in cc)
each-in-time P (raised k g ∷ hs) are zero d f is = absurd (let z = same_Some _ _ is in cc)
each-in-time P (passed k g ∷ hs) are zero d f is = let z = same_Some _ _ is in let e : g ≡ f = cc in inl (subst P e are.0)
each-in-time P (did e x ∷ hs) are (suc at) d f is = elim (each-in-time P hs are at d f is) [ inl here ↦ inl here | inr before ↦ inr (later (did e x) hs at f before) ]
each-in-time P (raised k g ∷ hs) are (suc at) d f is = elim (each-in-time (λ h. P h ⊎ (h ≡ g)) hs are at d f is) [
  | inl here ↦ elim here [ inl old ↦ inl old | inr now ↦ inr (zero, k, omega arith, ap (λ (n : ℕ). Some (raised k n)) (sym now)) ]
  | inr before ↦ inr (later (raised k g) hs at f before)
]
each-in-time P (passed k g ∷ hs) are (suc at) d f is = elim (each-in-time P hs are.1 at d f is) [ inl here ↦ inl here | inr before ↦ inr (later (passed k g) hs at f before) ]

abbrev NotYet : ℕ → Type 0
NotYet f = ⊥

pub raised-in-time : (hs : List Happening) → FlagsAreRaised hs → RaisedInTime NotYet hs
raised-in-time hs are = in-time NotYet hs (λ at d f is. inr (are at d f is))

pub flags-raised : (hs : List Happening) → RaisedInTime NotYet hs → FlagsAreRaised hs
flags-raised hs are at d f is = elim (each-in-time NotYet hs are at d f is) [ inl none ↦ absurd none | inr before ↦ before ]

weaker : (P Q : ℕ → Type 0) (hs : List Happening) → ((f : ℕ) → P f → Q f) → RaisedInTime P hs → RaisedInTime Q hs
weaker P Q [] also are = tt
weaker P Q (did e x ∷ hs) also are = weaker P Q hs also are
weaker P Q (raised d g ∷ hs) also are = weaker (λ h. P h ⊎ (h ≡ g)) (λ h. Q h ⊎ (h ≡ g)) hs (λ f is. elim is [ inl old ↦ inl (also f old) | inr now ↦ inr now ]) are
weaker P Q (passed d g ∷ hs) also are = (also g are.0, weaker P Q hs also are.1)

pub raised-erased : (F : ℕ) (P Q : ℕ → Type 0) (hs : List Happening) → ((f : ℕ) → (f == F) ≡ false → P f → Q f) → RaisedInTime P hs → RaisedInTime Q (erased F hs)
raised-erased F P Q [] also are = tt
raised-erased F P Q (did e x ∷ hs) also are = raised-erased F P Q hs also are
raised-erased F P Q (raised d g ∷ hs) also are = by (g == F) refl (raised-erased F (λ h. P h ⊎ (h ≡ g)) Q hs) (raised-erased F (λ h. P h ⊎ (h ≡ g)) (λ h. Q h ⊎ (h ≡ g)) hs) where
  by : (b : Bool) → (g == F) ≡ b → (((f : ℕ) → (f == F) ≡ false → P f ⊎ (f ≡ g) → Q f) → RaisedInTime (λ h. P h ⊎ (h ≡ g)) hs → RaisedInTime Q (erased F hs))
      → (((f : ℕ) → (f == F) ≡ false → P f ⊎ (f ≡ g) → Q f ⊎ (f ≡ g)) → RaisedInTime (λ h. P h ⊎ (h ≡ g)) hs → RaisedInTime (λ h. Q h ⊎ (h ≡ g)) (erased F hs))
      → RaisedInTime Q (cond (not b) (raised d g ∷ erased F hs) (erased F hs))
  by true e gone kept = gone (λ f differs is. elim is [ inl old ↦ also f differs old | inr now ↦ absurd (let z : true ≡ false = sym e ∙ ap (λ (n : ℕ). n == F) (sym now) ∙ differs in cc) ]) are
  by false e gone kept = kept (λ f differs is. elim is [ inl old ↦ inl (also f differs old) | inr now ↦ inr now ]) are
raised-erased F P Q (passed d g ∷ hs) also are = by (g == F) refl (raised-erased F P Q hs also are.1) where
  by : (b : Bool) → (g == F) ≡ b → RaisedInTime Q (erased F hs) → RaisedInTime Q (cond (not b) (passed d g ∷ erased F hs) (erased F hs))
  by true e rest = rest
  by false e rest = (also g e are.0, rest)

pub flags-erased : (F : ℕ) (hs : List Happening) → FlagsAreRaised hs → FlagsAreRaised (erased F hs)
flags-erased F hs are = flags-raised (erased F hs) (raised-erased F NotYet NotYet hs (λ f differs is. is) (raised-in-time hs are))

-- one more flag is raised
with-raised : (P : ℕ → Type 0) (us vs : List Happening) (d : DomId) (f : ℕ) → RaisedInTime P (us ++ vs) → RaisedInTime P (us ++ raised d f ∷ vs)
with-raised P [] vs d f are = weaker P (λ h. P h ⊎ (h ≡ f)) vs (λ g is. inl is) are
with-raised P (did e x ∷ us) vs d f are = with-raised P us vs d f are
with-raised P (raised k g ∷ us) vs d f are = with-raised (λ h. P h ⊎ (h ≡ g)) us vs d f are
with-raised P (passed k g ∷ us) vs d f are = (are.0, with-raised P us vs d f are.1)

pub flags-with-raised : (us vs : List Happening) (d : DomId) (f : ℕ) → FlagsAreRaised (us ++ vs) → FlagsAreRaised (us ++ raised d f ∷ vs)
flags-with-raised us vs d f are = flags-raised (us ++ raised d f ∷ vs) (with-raised NotYet us vs d f (raised-in-time (us ++ vs) are))

-- and one more is passed
abbrev IsRaisedBy : (ℕ → Type 0) → ℕ → List Happening → Type 0
IsRaisedBy P f [] = P f
IsRaisedBy P f (did e x ∷ hs) = IsRaisedBy P f hs
IsRaisedBy P f (raised d g ∷ hs) = IsRaisedBy (λ h. P h ⊎ (h ≡ g)) f hs
IsRaisedBy P f (passed d g ∷ hs) = IsRaisedBy P f hs

raised-then : (P : ℕ → Type 0) (f : ℕ) (hs : List Happening) → P f → IsRaisedBy P f hs
raised-then P f [] is = is
raised-then P f (did e x ∷ hs) is = raised-then P f hs is
raised-then P f (raised d g ∷ hs) is = raised-then (λ h. P h ⊎ (h ≡ g)) f hs (inl is)
raised-then P f (passed d g ∷ hs) is = raised-then P f hs is

raised-there : (P : ℕ → Type 0) (us vs : List Happening) (d : DomId) (f : ℕ) → IsRaisedBy P f (us ++ raised d f ∷ vs)
raised-there P [] vs d f = raised-then (λ h. P h ⊎ (h ≡ f)) f vs (inr refl)
raised-there P (did e x ∷ us) vs d f = raised-there P us vs d f
raised-there P (raised k g ∷ us) vs d f = raised-there (λ h. P h ⊎ (h ≡ g)) us vs d f
raised-there P (passed k g ∷ us) vs d f = raised-there P us vs d f

with-passed : (P : ℕ → Type 0) (us vs : List Happening) (d : DomId) (f : ℕ) → IsRaisedBy P f us → RaisedInTime P (us ++ vs) → RaisedInTime P (us ++ passed d f ∷ vs)
with-passed P [] vs d f is are = (is, are)
with-passed P (did e x ∷ us) vs d f is are = with-passed P us vs d f is are
with-passed P (raised k g ∷ us) vs d f is are = with-passed (λ h. P h ⊎ (h ≡ g)) us vs d f is are
with-passed P (passed k g ∷ us) vs d f is are = (are.0, with-passed P us vs d f is are.1)

pub flags-with-passed : (us ws vs : List Happening) (k d : DomId) (f : ℕ) → FlagsAreRaised ((us ++ raised k f ∷ ws) ++ vs) → FlagsAreRaised ((us ++ raised k f ∷ ws) ++ passed d f ∷ vs)
flags-with-passed us ws vs k d f are =
    flags-raised _ (with-passed NotYet (us ++ raised k f ∷ ws) vs d f (raised-there NotYet us ws k f) (raised-in-time _ are))

-- what one domain does

pub own-append : (d : DomId) (us vs : List Happening) → own_happenings d (us ++ vs) ≡ own_happenings d us ++ own_happenings d vs
own-append d us vs = filter-append (λ (x : Happening). (doer x).0 == d.0) us vs

pub own-here : (d : DomId) (x : Happening) (hs : List Happening) → ((doer x).0 == d.0) ≡ true → own_happenings d (x ∷ hs) ≡ x ∷ own_happenings d hs
own-here d x hs e = rw e refl

pub own-other : (d : DomId) (x : Happening) (hs : List Happening) → ((doer x).0 == d.0) ≡ false → own_happenings d (x ∷ hs) ≡ own_happenings d hs
own-other d x hs e = rw e refl

pub same-dom : (d e : DomId) → (d.0 == e.0) ≡ true → d ≡ e
same-dom d e is = ap {B = DomId} (λ (n : ℕ). record { 0 = n }) (eqb-true d.0 e.0 is)

pub its-own : (d : DomId) → (d.0 == d.0) ≡ true
its-own d = eq-eqb d.0 d.0 refl

-- calls are begun and answered by no flag

one-more : (p : Happening → Bool) (x : Happening) (xs ys : List Happening) → count p xs ≡ count p ys → count p (x ∷ xs) ≡ count p (x ∷ ys)
one-more p x xs ys e = count-append p (x ∷ []) xs ∙ ap (λ (n : ℕ). count p (x ∷ []) + n) e ∙ sym (count-append p (x ∷ []) ys)

pub count-erased : (p : Happening → Bool) (F : ℕ) (hs : List Happening) → ((x : Happening) → IsQuiet x → p x ≡ false) → count p (erased F hs) ≡ count p hs
count-erased p F [] none = refl
count-erased p F (did e x ∷ hs) none = one-more p (did e x) (erased F hs) hs (count-erased p F hs none)
count-erased p F (raised d f ∷ hs) none = by (f == F) (count-erased p F hs none) where
  by : (b : Bool) → count p (erased F hs) ≡ count p hs → count p (cond (not b) (raised d f ∷ erased F hs) (erased F hs)) ≡ count p (raised d f ∷ hs)
  by true rest = rest ∙ sym (count-no p (raised d f) hs (none (raised d f) tt))
  by false rest = one-more p (raised d f) (erased F hs) hs rest
count-erased p F (passed d f ∷ hs) none = by (f == F) (count-erased p F hs none) where
  by : (b : Bool) → count p (erased F hs) ≡ count p hs → count p (cond (not b) (passed d f ∷ erased F hs) (erased F hs)) ≡ count p (passed d f ∷ hs)
  by true rest = rest ∙ sym (count-no p (passed d f) hs (none (passed d f) tt))
  by false rest = one-more p (passed d f) (erased F hs) hs rest

pub begins-nothing : (x : Happening) → IsQuiet x → begins_call x ≡ false
begins-nothing (did e x) q = absurd q
begins-nothing (raised d f) q = refl
begins-nothing (passed d f) q = refl

pub answers-nothing : (x : Happening) → IsQuiet x → answers_call x ≡ false
answers-nothing (did e x) q = absurd q
answers-nothing (raised d f) q = refl
answers-nothing (passed d f) q = refl

pub own-count-erased : (p : Happening → Bool) (F : ℕ) (d : DomId) (hs : List Happening) → ((x : Happening) → IsQuiet x → p x ≡ false) → count p (own_happenings d (erased F hs)) ≡ count p (own_happenings d hs)
own-count-erased p F d hs none = ap (count p) (own-erased F d hs) ∙ count-erased p F (own_happenings d hs) none

-- a flag that is inserted counts nothing
pub own-count-with : (p : Happening → Bool) (d : DomId) (us vs : List Happening) (f : Happening) → p f ≡ false → count p (own_happenings d (us ++ f ∷ vs)) ≡ count p (own_happenings d (us ++ vs))
own-count-with p d us vs f none =
    ap (count p) (own-append d us (f ∷ vs)) ∙ count-append p (own_happenings d us) (own_happenings d (f ∷ vs))
    ∙ ap (λ (n : ℕ). count p (own_happenings d us) + n) (by ((doer f).0 == d.0) refl)
    ∙ sym (ap (count p) (own-append d us vs) ∙ count-append p (own_happenings d us) (own_happenings d vs))
  where
    by : (b : Bool) → ((doer f).0 == d.0) ≡ b → count p (own_happenings d (f ∷ vs)) ≡ count p (own_happenings d vs)
    by true e = ap (count p) (own-here d f vs e) ∙ count-no p f (own_happenings d vs) none
    by false e = ap (count p) (own-other d f vs e)
