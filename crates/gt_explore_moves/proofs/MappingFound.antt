-- The mapping that is found by what a label names, in a state and in a run.
use Rattle.std.proofs.Common.{◌≡◌, ◌+◌, ◌<◌, ◌≤◌, ◌^◌, ◌-◌, ◌⊎◌, inl, inr, ℕ, zero, suc, refl, true, false, Bool}
use Rattle.std.proofs.Common.{cond, List, [], ◌∷◌, length, map, Option, Some, None, sym, ap, ◌∙◌, arith, subst, Bor}
use Rattle.std.proofs.Common.{get_or, is_some}
use Rattle.std.specs.Prelude.{slice_get, unwrap_or, nat_lt, option_copied, IfSome}
use Rattle.std.proofs.lemmas.Bool.{eq-eqb}
use Rattle.gt_types.specs.declared.DomId.{DomId}
use Rattle.gt_model.specs.Asking.{same_handle, asked, bytes_of, plainly_asked}
use Rattle.gt_handles.specs.Listing.{listed}
use Rattle.gt_model.specs.declared.handle.Handle.{Handle}
use Rattle.gt_model.specs.declared.held.HeldPin.{HeldPin}
use Rattle.gt_model.specs.declared.request.OpenRequest.TheVariants as asks
use Rattle.gt_model.specs.declared.request.Request.{Request}
use Rattle.gt_model.specs.History.{mapping_of}
use Rattle.gt_script_runs.specs.Runs.{Named, MakesRequest, handle_labelled, handle_of, never_given, request_of}
use Rattle.gt_script_lines.specs.declared.calls.ScriptCall.{ScriptCall}
use Rattle.gt_script_lines.specs.declared.calls.ScriptCall.TheVariants as script_calls
use Rattle.gt_explore_moves.specs.Calls.{SerialsRise}
use Rattle.gt_explore_moves.specs.Placing.{CountFrom}
use Rattle.gt_explore_moves.specs.Renaming.{FindsSame, asked_under}
use Rattle.gt_explore_moves.proofs.ByPlace.{NamesAlike, NamesNothing}
use Rattle.std.proofs.lemmas.Option.{none-some, same_Some, slice_get_past}

-- serials that rise

pub rise-from : (low : ℕ) (handles : List Handle) (high at : ℕ) (handle : Handle) → SerialsRise low handles high → slice_get handles at ≡ Some handle → low ≤ handle.serial
rise-from low [] high at handle r h = absurd (none-some handle h)
rise-from low (first ∷ more) high zero handle r h = let e : first.serial ≡ handle.serial = ap (λ (z : Handle). z.serial) (same_Some first handle h) in let le : low ≤ first.serial = r.0 in omega arith
rise-from low (first ∷ more) high (suc at) handle r h = let more-le = rise-from (suc first.serial) more high at handle r.1 h in let le : low ≤ first.serial = r.0 in omega arith

pub rise-below : (low : ℕ) (handles : List Handle) (high at : ℕ) (handle : Handle) → SerialsRise low handles high → slice_get handles at ≡ Some handle → handle.serial < high
rise-below low [] high at handle r h = absurd (none-some handle h)
rise-below low (first ∷ more) high zero handle r h = let e : first.serial ≡ handle.serial = ap (λ (z : Handle). z.serial) (same_Some first handle h) in let lt = end-after (suc first.serial) more high r.1 in omega arith where
  end-after : (n : ℕ) (hs : List Handle) (m : ℕ) → SerialsRise n hs m → n ≤ m
  end-after n [] m r = r
  end-after n (x ∷ xs) m r = let le = end-after (suc x.serial) xs m r.1 in let from : n ≤ x.serial = r.0 in omega arith
rise-below low (first ∷ more) high (suc at) handle r h = rise-below (suc first.serial) more high at handle r.1 h

pub count-rises : (n : ℕ) (handles : List Handle) → CountFrom n handles → SerialsRise n handles (n + length handles)
count-rises n [] c = omega arith
count-rises n (first ∷ more) c = (
  let e : first.serial ≡ n = c.0 in omega arith,
  subst (λ (m : ℕ). SerialsRise (suc first.serial) more m) (let e : suc n + length more ≡ n + suc (length more) = omega arith in e)
      (subst (λ (m : ℕ). SerialsRise (suc m) more (suc n + length more)) (sym c.0) (count-rises (suc n) more c.1)),
)

-- the mapping under a handle

pub same-self : (a : Handle) → same_handle a a ≡ true
same-self a = grind (arith, eq-eqb)

same-is : (a b : Handle) → same_handle a b ≡ true → a ≡ b
same-is a b e = grind arith

pub apart-serials : (a b : Handle) → a.serial < b.serial → same_handle a b ≡ false
apart-serials a b lt = by (same_handle a b) refl where
  by : (x : Bool) → same_handle a b ≡ x → same_handle a b ≡ false
  by true e = let f : a.serial ≡ b.serial = ap (λ (z : Handle). z.serial) (same-is a b e) in absurd (omega arith)
  by false e = e

pub listed-at : (low : ℕ) (ms : List (Handle × HeldPin)) (high at : ℕ) (handle : Handle) → SerialsRise low (map (λ (m : Handle × HeldPin). m.0) ms) high → slice_get (map (λ (m : Handle × HeldPin). m.0) ms) at ≡ Some handle
    → listed ms handle ≡ slice_get (map (λ (m : Handle × HeldPin). m.1) ms) at
listed-at low [] high at handle r h = refl
listed-at low (m ∷ ms) high zero handle r h =
    ap (λ (b : Bool). cond b (Some m.1) (listed ms handle)) (ap (same_handle m.0) (sym (same_Some m.0 handle h)) ∙ same-self m.0)
listed-at low (m ∷ ms) high (suc at) handle r h =
    let le : suc m.0.serial ≤ handle.serial = rise-from (suc m.0.serial) (map (λ (m : Handle × HeldPin). m.0) ms) high at handle r.1 h in
    ap (λ (b : Bool). cond b (Some m.1) (listed ms handle)) (apart-serials m.0 handle (omega arith)) ∙ listed-at (suc m.0.serial) ms high at handle r.1 h

pub listed-gone : (ms : List (Handle × HeldPin)) (handle : Handle) → ((at : ℕ) → slice_get (map (λ (m : Handle × HeldPin). m.0) ms) at ≡ Some handle → ⊥) → listed ms handle ≡ None
listed-gone [] handle gone = refl
listed-gone (m ∷ ms) handle gone = by (same_handle m.0 handle) refl (listed-gone ms handle (λ at h. gone (suc at) h)) where
  by : (b : Bool) → same_handle m.0 handle ≡ b → listed ms handle ≡ None → cond b (Some m.1) (listed ms handle) ≡ None
  by true e rest = absurd (gone 0 (ap (λ (z : Handle). Some z) (same-is m.0 handle e)))
  by false e rest = rest

pub mapping-listed : (ms : List (Handle × HeldPin)) (handle : Handle) → mapping_of ms handle ≡ listed ms handle
mapping-listed [] handle = refl
mapping-listed (m ∷ ms) handle = ap (λ (o : Option HeldPin). cond (same_handle m.0 handle) (Some m.1) o) (mapping-listed ms handle)

pub never-listed : (low : ℕ) (ms : List (Handle × HeldPin)) (high : ℕ) → SerialsRise low (map (λ (m : Handle × HeldPin). m.0) ms) high → high ≤ 2 ^ 64 - 1 → listed ms never_given ≡ None
never-listed low ms high r le = listed-gone ms never_given (λ at h.
    let lt = rise-below low (map (λ (m : Handle × HeldPin). m.0) ms) high at never_given r h in absurd (omega arith))

-- by what a label names

pub same-found : (found mapping : Handle → Option HeldPin) (named names : List Named) (d : DomId) (handles places : List Handle) (label : List ℕ)
    → ((at : ℕ) (handle place : Handle) → slice_get handles at ≡ Some handle → slice_get places at ≡ Some place → found place ≡ mapping handle)
    → ((handle : Handle) → ((at : ℕ) → slice_get handles at ≡ Some handle → ⊥) → mapping handle ≡ None) → found never_given ≡ None → mapping never_given ≡ None
    → NamesAlike named names d handles places label ⊎ NamesNothing named names d handles label → found (handle_of names d label) ≡ mapping (handle_of named d label)
same-found found mapping named names d handles places label same gone no-place no-handle (inl n) =
    ap (λ (o : Option Handle). found (unwrap_or o never_given)) n.names_is ∙ same n.at n.handle n.place n.there n.here
    ∙ sym (ap (λ (o : Option Handle). mapping (unwrap_or o never_given)) n.named_is)
same-found found mapping named names d handles places label same gone no-place no-handle (inr n) =
    ap (λ (o : Option Handle). found (unwrap_or o never_given)) n.none ∙ no-place ∙ sym (by (handle_labelled named d.0 label) refl)
  where
    by : (o : Option Handle) → handle_labelled named d.0 label ≡ o → mapping (handle_of named d label) ≡ None
    by None e = ap (λ (z : Option Handle). mapping (unwrap_or z never_given)) e ∙ no-handle
    by (Some handle) e = ap (λ (z : Option Handle). mapping (unwrap_or z never_given)) e ∙ gone handle (λ at h. n.gone at handle h e)

-- what a call asks

-- the label that a call names a mapping by
abbrev pub label_asked : ScriptCall → List ℕ
label_asked (script_calls.Unmap label) = label
label_asked (script_calls.Load label off len) = label
label_asked (script_calls.Store label off hex) = label
label_asked call = []

request-by : (named names : List Named) (d : DomId) (one other : Bor (List ℕ)) (call : ScriptCall) → other.now ≡ one.now
    → (bytes_of (request_of names d other call) ≡ bytes_of (request_of named d one call))
    × (plainly_asked (request_of names d other call) ≡ asked_under (handle_of names d (label_asked call)) (plainly_asked (request_of named d one call)))
unfolding request_of
request-by named names d one other (script_calls.GrantBytes gref hex) e = (ap (λ (bs : List ℕ). Some (gref, bs)) e, refl)
request-by named names d one other (script_calls.Store label off hex) e = (refl, ap (λ (bs : List ℕ). asks.Store (handle_of names d label) off (length bs)) e)
request-by named names d one other (script_calls.Poke frame off hex) e = (refl, ap (λ (bs : List ℕ). asks.Poke frame off (length bs)) e)
request-by named names d one other call e = (refl, refl)

-- in a state and in a run a call asks the same but for handles
pub request-renamed : (named names : List Named) (d : DomId) (call : ScriptCall) (q p : Request) → MakesRequest named d call q → MakesRequest names d call p
    → (bytes_of p ≡ bytes_of q) × (plainly_asked p ≡ asked_under (handle_of names d (label_asked call)) (plainly_asked q))
request-renamed named names d call q p (one, e, is) (other, f, also) =
    let both = request-by named names d one other call (f ∙ sym e) in (
      ap bytes_of also ∙ both.0 ∙ sym (ap bytes_of is),
      ap plainly_asked also ∙ both.1 ∙ sym (ap (λ (r : Request). asked_under (handle_of names d (label_asked call)) (plainly_asked r)) is),
    )

finds-by : (found mapping : Handle → Option HeldPin) (named names : List Named) (d : DomId) (one : Bor (List ℕ)) (call : ScriptCall) → found (handle_of names d (label_asked call)) ≡ mapping (handle_of named d (label_asked call))
    → FindsSame found (handle_of names d (label_asked call)) mapping (asked (request_of named d one call))
unfolding request_of
finds-by found mapping named names d one (script_calls.Unmap label) e = e
finds-by found mapping named names d one (script_calls.Load label off len) e = e
finds-by found mapping named names d one (script_calls.Store label off hex) e = e
finds-by found mapping named names d one call e = tt

pub finds-alike : (found mapping : Handle → Option HeldPin) (named names : List Named) (d : DomId) (call : ScriptCall) (q : Request) → MakesRequest named d call q → found (handle_of names d (label_asked call)) ≡ mapping (handle_of named d (label_asked call))
    → FindsSame found (handle_of names d (label_asked call)) mapping (asked q)
finds-alike found mapping named names d call q (one, e, is) same =
    subst (λ (r : Request). FindsSame found (handle_of names d (label_asked call)) mapping (asked r)) (sym is) (finds-by found mapping named names d one call same)

-- an element at a place

pub get-at : {A : Type 0} (xs : List A) (n : ℕ) (x : A) → n < length xs → x ≡ get_or xs n x → slice_get xs n ≡ Some x
get-at [] n x lt is = absurd (omega arith)
get-at (y ∷ xs) zero x lt is = ap (λ z. Some z) (sym is)
get-at (y ∷ xs) (suc n) x lt is = get-at xs n x (omega arith) is

pub at-found : {A : Type 0} (xs : List A) (n : ℕ) (x : A) → true ≡ nat_lt n (length xs) → x ≡ get_or xs n x → slice_get xs n ≡ Some x
at-found xs n x some is = get-at xs n x (grind arith) is

pub at-copied : (xs : List Handle) (n : ℕ) (g : Option (Bor Handle)) (x : Handle) → is_some g ≡ nat_lt n (length xs) → IfSome g (λ (r : Bor Handle). r.now ≡ get_or xs n r.now) → option_copied g ≡ Some x → slice_get xs n ≡ Some x
at-copied xs n None x some is e = absurd (none-some x e)
at-copied xs n (Some r) x some is e = let same : r.now ≡ x = same_Some r.now x e in
    get-at xs n x (grind arith) (sym same ∙ is ∙ ap (get_or xs n) same)

pub not-copied : (xs : List Handle) (n : ℕ) (g : Option (Bor Handle)) → is_some g ≡ nat_lt n (length xs) → option_copied g ≡ None → slice_get xs n ≡ None
not-copied xs n None some e = slice_get_past xs n (grind arith)
not-copied xs n (Some r) some e = absurd (none-some r.now (sym e))
