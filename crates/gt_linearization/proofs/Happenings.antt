-- An order of a run as the happenings of an order of its script.
use Rattle.std.proofs.Common.{◌≡◌, ◌≢◌, ◌==◌, ◌<◌, ◌⊎◌, inl, inr, ⊎_elim, ℕ, zero, suc, Bool, true, false, cond, List}
use Rattle.std.proofs.Common.{[], ◌∷◌, ◌++◌, length, All, Option, Some, None, append_assoc, refl, sym, ap, ◌∙◌, subst}
use Rattle.std.proofs.Common.{arith}
use Rattle.std.specs.Prelude.{slice_get}
use Rattle.std.proofs.lemmas.List.{append-nil, map-append}
use Rattle.std.proofs.lemmas.List.Elements.{All-cons, All-nil}
use Rattle.gt_types.specs.Names.{domain_of}
use Rattle.gt_types.specs.declared.DomId.{DomId}
use Rattle.gt_types.specs.declared.config.Config.{Config}
use Rattle.gt_model.specs.Path.{Continuation}
use Rattle.gt_model.specs.declared.request.Request.{Request}
use Rattle.gt_model.specs.History.{setting_of, History, Setting}
use Rattle.gt_model.specs.Legal.{LegalAfter, actor_of}
use Rattle.gt_model.specs.declared.trace.Answer.{Answer}
use Rattle.gt_model.specs.declared.trace.Element.{Element}
use Rattle.gt_model.specs.declared.trace.Element.TheVariants.{Busy, Idle, NoDomain}
use Rattle.gt_model.specs.declared.trace.Element.TheVariants as elements
use Rattle.gt_model.specs.declared.trace.Event.TheVariants.{Begin, Tick}
use Rattle.gt_model.specs.declared.trace.Item.{Item}
use Rattle.gt_model.specs.declared.trace.ItemEvent.{ItemEvent}
use Rattle.gt_model.specs.declared.trace.ItemEvent.TheVariants.{Began, Stepped}
use Rattle.gt_script_runs.specs.Runs.{AnswerNothing, answer_in}
use Rattle.gt_explore_replay.specs.Orders.{CallHappens, FlagsAreRaised, Happening, IsRaisedBefore, did, doer}
use Rattle.gt_explore_replay.specs.Orders.{events_in, own_happenings, passed, raised, ticks_of, trace_in}
use Rattle.gt_live.specs.Domains.{AllowRelation}
use Rattle.gt_word_history.specs.History.{Moment}
use Rattle.gt_word_history.specs.declared.view.FlagStep.{FlagStep}
use Rattle.gt_word_history.specs.declared.view.FlagStep.TheVariants.{Passed, Raised}
use Rattle.gt_linearization.specs.Ordering.{AreOnRaisedFlags, IsRaisedIn, RunOrder, event_in, events_of, item_of}
use Rattle.gt_linearization.specs.Ordering.{item_of_beginning, items_in, items_of_call, items_of_steps, of_core, own_in}
use Rattle.gt_linearization.specs.Ordering.{trace_of}
use Rattle.gt_linearization.specs.Ordering.Occurrence.{OfCore, OfFlag, OfLook}

-- an item, as an event and an element of the trace
abbrev pub did_item : Item → Happening
did_item i = did (event_in i.actor i.happened) (elements.Item i)

abbrev pub on_flag : DomId → ℕ → FlagStep → Happening
on_flag d flag Raised = raised d flag
on_flag d flag Passed = passed d flag

-- what happened in this order, the first first; no order of a script has a look that belongs to no call
abbrev pub happenings : RunOrder → List Happening
happenings [] = []
happenings (OfCore i ∷ o) = happenings o ++ did_item i ∷ []
happenings (OfFlag d flag m ∷ o) = happenings o ++ on_flag d flag m ∷ []
happenings (OfLook d gref word ∷ o) = happenings o

events-both : (xs ys : List Happening) → events_in (xs ++ ys) ≡ events_in xs ++ events_in ys
events-both [] ys = refl
events-both (did e x ∷ xs) ys = ap (λ l. e ∷ l) (events-both xs ys)
events-both (raised d flag ∷ xs) ys = events-both xs ys
events-both (passed d flag ∷ xs) ys = events-both xs ys

trace-both : (xs ys : List Happening) → trace_in (xs ++ ys) ≡ trace_in xs ++ trace_in ys
trace-both [] ys = refl
trace-both (did e x ∷ xs) ys = ap (λ l. x ∷ l) (trace-both xs ys)
trace-both (raised d flag ∷ xs) ys = trace-both xs ys
trace-both (passed d flag ∷ xs) ys = trace-both xs ys

pub events-are : (o : RunOrder) → events_in (happenings o) ≡ events_of (items_in o)
events-are [] = refl
events-are (OfCore i ∷ o) = events-both (happenings o) (did (event_in i.actor i.happened) (elements.Item i) ∷ []) ∙ ap (λ l. l ++ event_in i.actor i.happened ∷ []) (events-are o)
events-are (OfFlag d flag Raised ∷ o) = events-both (happenings o) (raised d flag ∷ []) ∙ (append-nil (events_in (happenings o)) ∙ events-are o)
events-are (OfFlag d flag Passed ∷ o) = events-both (happenings o) (passed d flag ∷ []) ∙ (append-nil (events_in (happenings o)) ∙ events-are o)
events-are (OfLook d gref word ∷ o) = events-are o

pub trace-is : (o : RunOrder) → trace_in (happenings o) ≡ trace_of (items_in o)
trace-is [] = refl
trace-is (OfCore i ∷ o) = trace-both (happenings o) (did (event_in i.actor i.happened) (elements.Item i) ∷ []) ∙ ap (λ l. l ++ elements.Item i ∷ []) (trace-is o)
trace-is (OfFlag d flag Raised ∷ o) = trace-both (happenings o) (raised d flag ∷ []) ∙ (append-nil (trace_in (happenings o)) ∙ trace-is o)
trace-is (OfFlag d flag Passed ∷ o) = trace-both (happenings o) (passed d flag ∷ []) ∙ (append-nil (trace_in (happenings o)) ∙ trace-is o)
trace-is (OfLook d gref word ∷ o) = trace-is o

-- those of one domain

both-if : {A : Type 0} (b : Bool) (x : A) (xs ys zs : List A) → zs ≡ xs ++ ys → cond b (x ∷ zs) zs ≡ cond b (x ∷ xs) xs ++ ys
both-if true x xs ys zs e = ap (λ l. x ∷ l) e
both-if false x xs ys zs e = e

own-both : (d : DomId) (xs ys : List Happening) → own_happenings d (xs ++ ys) ≡ own_happenings d xs ++ own_happenings d ys
own-both d [] ys = refl
own-both d (x ∷ xs) ys = both-if ((doer x).0 == d.0) x (own_happenings d xs) (own_happenings d ys) (own_happenings d (xs ++ ys)) (own-both d xs ys)

item-doer : (i : Item) → doer (did_item i) ≡ i.actor
item-doer i = by i.happened
  where
    by : (e : ItemEvent) → actor_of (event_in i.actor e) ≡ i.actor
    by (Began request) = refl
    by (Stepped step seen) = refl

flag-doer : (d : DomId) (flag : ℕ) (m : FlagStep) → doer (on_flag d flag m) ≡ d
flag-doer d flag Raised = refl
flag-doer d flag Passed = refl

own-last : (d a : DomId) (hs : List Happening) (y : Happening) (own longer : RunOrder) → doer y ≡ a → happenings longer ≡ happenings own ++ y ∷ [] → own_happenings d hs ≡ happenings own → own_happenings d (hs ++ y ∷ []) ≡ happenings (cond (a.0 == d.0) longer own)
own-last d a hs y own longer does more rest = own-both d hs (y ∷ []) ∙ (ap (λ (z : DomId). own_happenings d hs ++ cond (z.0 == d.0) (y ∷ []) []) does ∙ by (a.0 == d.0))
  where
    by : (b : Bool) → own_happenings d hs ++ cond b (y ∷ []) [] ≡ happenings (cond b longer own)
    by true = ap (λ l. l ++ y ∷ []) rest ∙ sym more
    by false = append-nil (own_happenings d hs) ∙ rest

pub own-are : (d : DomId) (o : RunOrder) → own_happenings d (happenings o) ≡ happenings (own_in d o)
own-are d [] = refl
own-are d (OfCore i ∷ o) = own-last d i.actor (happenings o) (did_item i) (own_in d o) (OfCore i ∷ own_in d o) (item-doer i) refl (own-are d o)
own-are d (OfFlag a flag m ∷ o) = own-last d a (happenings o) (on_flag a flag m) (own_in d o) (OfFlag a flag m ∷ own_in d o) (flag-doer a flag m) refl (own-are d o)
own-are d (OfLook a gref word ∷ o) = by (own-are d o) (a.0 == d.0)
  where
    by : own_happenings d (happenings o) ≡ happenings (own_in d o) → (b : Bool) → own_happenings d (happenings o) ≡ happenings (cond b (OfLook a gref word ∷ own_in d o) (own_in d o))
    by rest true = rest
    by rest false = rest

pub happenings-both : (xs ys : RunOrder) → happenings (xs ++ ys) ≡ happenings ys ++ happenings xs
happenings-both [] ys = sym (append-nil (happenings ys))
happenings-both (OfCore i ∷ xs) ys = ap (λ l. l ++ did_item i ∷ []) (happenings-both xs ys) ∙ append_assoc (happenings ys) (happenings xs) (did_item i ∷ [])
happenings-both (OfFlag d flag m ∷ xs) ys = ap (λ l. l ++ on_flag d flag m ∷ []) (happenings-both xs ys) ∙ append_assoc (happenings ys) (happenings xs) (on_flag d flag m ∷ [])
happenings-both (OfLook d gref word ∷ xs) ys = happenings-both xs ys

-- a call

steps-tick : (d : DomId) (way : Continuation) (answer : Option Answer) (xs : List Moment) → happenings (of_core (items_of_steps d way answer xs)) ≡ ticks_of d (trace_of (items_of_steps d way answer xs))
steps-tick d way answer [] = refl
steps-tick d way answer (x ∷ xs) =
    let rest = trace_of (items_of_steps d way None xs) in let last : Element = elements.Item (item_of d way _ x answer) in
    ap (λ l. l ++ did (Tick d) last ∷ []) (steps-tick d way None xs) ∙ sym (map-append (λ (e : Element). did (Tick d) e) rest (last ∷ []))

quiet-push : (xs : List Element) (x : Element) → AnswerNothing xs → answer_in x ≡ None → AnswerNothing (xs ++ x ∷ [])
quiet-push [] x q e = (e, tt)
quiet-push (y ∷ ys) x q e = (q.0, quiet-push ys x q.1 e)

steps-quiet : (d : DomId) (way : Continuation) (xs : List Moment) → AnswerNothing (trace_of (items_of_steps d way None xs))
steps-quiet d way [] = tt
steps-quiet d way (x ∷ xs) = quiet-push (trace_of (items_of_steps d way None xs)) (elements.Item (item_of d way _ x None)) (steps-quiet d way xs) refl

-- the items of an answered call are a call that happens
pub call-happens : (d : DomId) (way : Continuation) (request : Request) (answer : Answer) (steps : List Moment) (After : Answer → List Happening → Type 0) (more : List Happening) → After answer more
    → CallHappens d request After (happenings (of_core (items_of_call d way request (Some answer) steps)) ++ more)
call-happens d way request answer [] After more then =
    let first : Element = elements.Item (item_of_beginning d request (Some answer)) in
    (first, [], answer, more, refl, record { before = []; last = first; order = refl; quiet = tt; answers = refl }, then)
call-happens d way request answer (x ∷ xs) After more then =
    let begins = item_of_beginning d request None in let steps = items_of_steps d way (Some answer) (x ∷ xs) in let rest = trace_of (items_of_steps d way None xs) in (
      elements.Item begins,
      trace_of steps,
      answer,
      more,
      ap (λ l. l ++ more)
          (ap happenings (map-append (λ (i : Item). OfCore i) steps (begins ∷ []))
          ∙ (happenings-both (of_core steps) (OfCore begins ∷ []) ∙ ap (λ l. did (Begin d request) (elements.Item begins) ∷ l) (steps-tick d way (Some answer) (x ∷ xs)))),
      record { before = elements.Item begins ∷ rest; last = elements.Item (item_of d way _ x (Some answer)); order = refl; quiet = (refl, steps-quiet d way xs); answers = refl },
      then,
    )

-- all are of domains of the run

-- the happening is an item, or a step on a flag by a domain of the run
abbrev IsOfRun : Setting → Happening → Type 0
IsOfRun s (did e (elements.Item i)) = Unit {0}
IsOfRun s (did e x) = ⊥
IsOfRun s (raised d flag) = domain_of s.domains d ≢ None
IsOfRun s (passed d flag) = domain_of s.domains d ≢ None

abbrev AreOfRun : Setting → List Happening → Type 0
AreOfRun s [] = Unit {0}
AreOfRun s (x ∷ xs) = IsOfRun s x × AreOfRun s xs

of-run-both : (s : Setting) (xs ys : List Happening) → AreOfRun s xs → AreOfRun s ys → AreOfRun s (xs ++ ys)
of-run-both s [] ys a b = b
of-run-both s (x ∷ xs) ys a b = (a.0, of-run-both s xs ys a.1 b)

are-of-run : (c : Config) (may : AllowRelation) (o : RunOrder) → AreOnRaisedFlags c o → AreOfRun (setting_of c may) (happenings o)
are-of-run c may [] flags = tt
are-of-run c may (OfCore i ∷ o) flags = of-run-both (setting_of c may) (happenings o) (did (event_in i.actor i.happened) (elements.Item i) ∷ []) (are-of-run c may o flags) (tt, tt)
are-of-run c may (OfFlag d flag Raised ∷ o) flags = of-run-both (setting_of c may) (happenings o) (raised d flag ∷ []) (are-of-run c may o flags.2) (flags.0, tt)
are-of-run c may (OfFlag d flag Passed ∷ o) flags = of-run-both (setting_of c may) (happenings o) (passed d flag ∷ []) (are-of-run c may o flags.2) (flags.0, tt)
are-of-run c may (OfLook d gref word ∷ o) flags = are-of-run c may o flags

all-known : (s : Setting) (h : History) (hs : List Happening) → AreOfRun s hs → LegalAfter s h (events_in hs) (trace_in hs) → All (λ x. domain_of s.domains (doer x) ≢ None) hs
all-known s h [] are legal = All-nil (λ (x : Happening). domain_of s.domains (doer x) ≢ None)
all-known s h (did e (elements.Item i) ∷ hs) are legal = All-cons (λ (x : Happening). domain_of s.domains (doer x) ≢ None) (did e (elements.Item i)) hs legal.0.0 (all-known s (i ∷ h) hs are.1 legal.1)
all-known s h (did e Busy ∷ hs) are legal = absurd are.0
all-known s h (did e Idle ∷ hs) are legal = absurd are.0
all-known s h (did e NoDomain ∷ hs) are legal = absurd are.0
all-known s h (raised d flag ∷ hs) are legal = All-cons (λ (x : Happening). domain_of s.domains (doer x) ≢ None) (raised d flag) hs are.0 (all-known s h hs are.1 legal)
all-known s h (passed d flag ∷ hs) are legal = All-cons (λ (x : Happening). domain_of s.domains (doer x) ≢ None) (passed d flag) hs are.0 (all-known s h hs are.1 legal)

pub order-known : (c : Config) (may : AllowRelation) (o : RunOrder) → AreOnRaisedFlags c o → LegalAfter (setting_of c may) [] (events_of (items_in o)) (trace_of (items_in o))
    → All (λ x. domain_of c.domains.items (doer x) ≢ None) (happenings o)
order-known c may o flags legal =
    let s = setting_of c may in
    let there : LegalAfter s [] (events_in (happenings o)) (trace_in (happenings o)) = subst (λ es. LegalAfter s [] es (trace_in (happenings o))) (sym (events-are o)) (subst (λ xs. LegalAfter s [] (events_of (items_in o)) xs) (sym (trace-is o)) legal) in
    all-known s [] (happenings o) (are-of-run c may o flags) there

-- flags

-- an index of a list with one more at its end is one of the list, or the last
last-or-before : {A : Type 0} (xs : List A) (y z : A) (at : ℕ) → slice_get (xs ++ y ∷ []) at ≡ Some z → ((at < length xs) × (slice_get xs at ≡ Some z)) ⊎ ((at ≡ length xs) × (y ≡ z))
last-or-before [] y z zero e = inr (refl, cc)
last-or-before [] y z (suc at) e = cc
last-or-before (x ∷ xs) y z zero e = inl (omega arith, e)
last-or-before (x ∷ xs) y z (suc at) e = ⊎_elim (λ (p : (at < length xs) × (slice_get xs at ≡ Some z)). inl (let l = p.0 in omega (arith, l), p.1)) (λ (p : (at ≡ length xs) × (y ≡ z)). inr (ap (λ (n : ℕ). suc n) p.0, p.1)) (last-or-before xs y z at e)

still-there : {A : Type 0} (xs ys : List A) (z : A) (at : ℕ) → slice_get xs at ≡ Some z → slice_get (xs ++ ys) at ≡ Some z
still-there [] ys z at e = cc
still-there (x ∷ xs) ys z zero e = e
still-there (x ∷ xs) ys z (suc at) e = still-there xs ys z at e

at-end : {A : Type 0} (xs : List A) (y : A) → slice_get (xs ++ y ∷ []) (length xs) ≡ Some y
at-end [] y = refl
at-end (x ∷ xs) y = at-end xs y

longer : {A : Type 0} (xs : List A) (y : A) → length xs < length (xs ++ y ∷ [])
longer [] y = omega arith
longer (x ∷ xs) y = let l = longer xs y in omega (arith, l)

-- a flag that was raised is raised before a later index too
later : (xs : List Happening) (y : Happening) (flag : ℕ) → IsRaisedBefore (length xs) flag xs → IsRaisedBefore (length (xs ++ y ∷ [])) flag (xs ++ y ∷ [])
later xs y flag r = (r.0, r.1, (let l = r.2 in let m = longer xs y in omega (arith, l, m)), still-there xs (y ∷ []) (raised r.1 flag) r.0 r.3)

-- a flag that a domain raised in an order is raised before its end
raised-at : (o : RunOrder) (flag : ℕ) → IsRaisedIn flag o → IsRaisedBefore (length (happenings o)) flag (happenings o)
raised-at [] flag is = absurd is
raised-at (OfCore i ∷ o) flag is = later (happenings o) (did_item i) flag (raised-at o flag is)
raised-at (OfFlag d f Raised ∷ o) flag (inl here) = (length (happenings o), d, longer (happenings o) (raised d f), at-end (happenings o) (raised d f) ∙ ap (λ (n : ℕ). Some (raised d n)) here)
raised-at (OfFlag d f Raised ∷ o) flag (inr before) = later (happenings o) (raised d f) flag (raised-at o flag before)
raised-at (OfFlag d f Passed ∷ o) flag is = later (happenings o) (passed d f) flag (raised-at o flag is)
raised-at (OfLook d gref word ∷ o) flag is = raised-at o flag is

item-passes : (i : Item) (d : DomId) (flag : ℕ) → did_item i ≡ passed d flag → ⊥
item-passes i d flag e = cc

raised-passes : (a d : DomId) (f flag : ℕ) → raised a f ≡ passed d flag → ⊥
raised-passes a d f flag e = cc

same-flag : (a d : DomId) (f flag : ℕ) → passed a f ≡ passed d flag → f ≡ flag
same-flag a d f flag e = cc

-- if one thing more happens, and passes a flag only if a domain raised it before
one-last : (o : RunOrder) (y : Happening) → FlagsAreRaised (happenings o) → ((d : DomId) (flag : ℕ) → y ≡ passed d flag → IsRaisedIn flag o) → FlagsAreRaised (happenings o ++ y ∷ [])
one-last o y raised-so passes at d flag e =
    ⊎_elim (λ (p : (at < length (happenings o)) × (slice_get (happenings o) at ≡ Some (passed d flag))). let r = raised-so at d flag p.1 in
    (r.0, r.1, r.2, still-there (happenings o) (y ∷ []) (raised r.1 flag) r.0 r.3))
    (λ (p : (at ≡ length (happenings o)) × (y ≡ passed d flag)). let r = raised-at o flag (passes d flag p.1) in
    (r.0, r.1, (let l = r.2 in let m = p.0 in omega (arith, l, m)), still-there (happenings o) (y ∷ []) (raised r.1 flag) r.0 r.3))
    (last-or-before (happenings o) y (passed d flag) at e)

none-raised : FlagsAreRaised []
none-raised at d flag e = cc

module _ (c : Config) where
  -- a flag is passed only after a domain raised it
  pub order-raised : (o : RunOrder) → AreOnRaisedFlags c o → FlagsAreRaised (happenings o)
  order-raised [] flags = none-raised
  order-raised (OfCore i ∷ o) flags = one-last o (did_item i) (order-raised o flags) (λ d flag e. absurd (item-passes i d flag e))
  order-raised (OfFlag a f Raised ∷ o) flags = one-last o (raised a f) (order-raised o flags.2) (λ d flag e. absurd (raised-passes a d f flag e))
  order-raised (OfFlag a f Passed ∷ o) flags = one-last o (passed a f) (order-raised o flags.2) (λ d flag e. subst (λ (n : ℕ). IsRaisedIn n o) (same-flag a d f flag e) flags.1)
  order-raised (OfLook d gref word ∷ o) flags = order-raised o flags
