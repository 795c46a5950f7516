-- Pieces, and the list that they make.
use Rattle.std.proofs.Common.{◌≡◌, ◌≤◌, ◌<◌, ◌+◌, ◌*◌, ◌/◌, ℕ, zero, suc, refl, List, [], ◌∷◌, ◌++◌}
use Rattle.std.proofs.Common.{length, ap, subst, sym, ◌∙◌, arith, slice_get, take, OnOk, OnErr, None, Some, Result, Ok}
use Rattle.std.proofs.Common.{Err, get_or, append_assoc, append-nil, length-append}
use Rattle.std.proofs.Math.ListN.{set}
use Rattle.std.proofs.Common.{replicate}
use Rattle.std.proofs.lemmas.List.{replicate-append-replicate}
use Rattle.std.proofs.Math.Seq.{get_or-append_seam}
use Rattle.std.proofs.lemmas.Option.{get_or_from_slice_get, slice_get-get_or, slice_get_past}
use Rattle.gt_audit.specs.declared.record.Record.{Record}
use Rattle.gt_audit.specs.Pieces.{AreFilled, AddsEmptyPieces, HasRoomAt, joined, room_of}

pub joined-fits : (at : ℕ) (ps : List (List Record)) → AreFilled at ps → length (joined ps) ≤ 256 * length ps
joined-fits at [] f = omega arith
joined-fits zero (p ∷ ps) f = omega (arith, length-append p (joined ps), ap length f.1, f.0)
joined-fits (suc at) (p ∷ ps) f = omega (arith, length-append p (joined ps), joined-fits at ps f.1, f.0)

pub place-fits : (at : ℕ) (ps : List (List Record)) → AreFilled at ps → at ≤ length ps
place-fits at [] f = omega arith
place-fits zero (p ∷ ps) f = omega arith
place-fits (suc at) (p ∷ ps) f = omega (arith, place-fits at ps f.1)

-- all pieces are full if there is none at the index
pub full-joined : (at : ℕ) (ps : List (List Record)) → AreFilled at ps → at ≡ length ps → length (joined ps) ≡ 256 * length ps
full-joined at [] f e = refl
full-joined zero (p ∷ ps) f e = absurd (omega (arith, e))
full-joined (suc at) (p ∷ ps) f e = omega (arith, length-append p (joined ps), full-joined at ps f.1 (omega (arith, e)), f.0)

empty_list : (xs : List Record) → length xs ≡ 0 → xs ≡ []
empty_list [] e = refl
empty_list (x ∷ xs) e = absurd (omega (arith, e))

-- the index after a full piece
pub filled-next : (at : ℕ) (ps : List (List Record)) (d : List Record) → AreFilled at ps → at < length ps → length (get_or ps at d) ≡ 256 → AreFilled (suc at) ps
filled-next at [] d f lt full = absurd (omega arith)
filled-next zero (p ∷ []) d f lt full = (full, refl)
filled-next zero (p ∷ q ∷ ps) d f lt full =
    let none : length (q ++ joined ps) ≡ 0 = ap length f.1 in
    (full, (omega (arith, none, length-append q (joined ps)), empty_list (joined ps) (omega (arith, none, length-append q (joined ps)))))
filled-next (suc at) (p ∷ ps) d f lt full = (f.0, filled-next at ps d f.1 (omega (arith, lt)) full)

pub joined-add : (ps : List (List Record)) → joined (ps ++ [] ∷ []) ≡ joined ps
joined-add [] = refl
joined-add (p ∷ ps) = ap (λ q. p ++ q) (joined-add ps)

-- one more empty piece
pub filled-add : (at : ℕ) (ps : List (List Record)) → AreFilled at ps → AreFilled at (ps ++ [] ∷ [])
filled-add zero [] f = (omega arith, refl)
filled-add (suc at) [] f = absurd (omega (arith, f))
filled-add zero (p ∷ ps) f = (f.0, joined-add ps ∙ f.1)
filled-add (suc at) (p ∷ ps) f = (f.0, filled-add at ps f.1)

-- one record more
pub joined-push : (at : ℕ) (ps : List (List Record)) (d : List Record) (r : Record) → AreFilled at ps → at < length ps → joined (set ps at (get_or ps at d ++ r ∷ [])) ≡ joined ps ++ r ∷ []
joined-push at [] d r f lt = absurd (omega arith)
joined-push zero (p ∷ ps) d r f lt =
    let none : joined ps ≡ [] = f.1 in
    ap (λ q. (p ++ r ∷ []) ++ q) none ∙ append-nil (p ++ r ∷ []) ∙ ap (λ q. q ++ r ∷ []) (sym (append-nil p) ∙ ap (λ q. p ++ q) (sym none))
joined-push (suc at) (p ∷ ps) d r f lt = ap (λ q. p ++ q) (joined-push at ps d r f.1 (omega (arith, lt))) ∙ sym (append_assoc p (joined ps) (r ∷ []))

pub filled-push : (at : ℕ) (ps : List (List Record)) (d : List Record) (r : Record) → AreFilled at ps → at < length ps → length (get_or ps at d) < 256 → AreFilled at (set ps at (get_or ps at d ++ r ∷ []))
filled-push at [] d r f lt room = absurd (omega arith)
filled-push zero (p ∷ ps) d r f lt room = (omega (arith, length-append p (r ∷ []), room), f.1)
filled-push (suc at) (p ∷ ps) d r f lt room = (f.0, filled-push at ps d r f.1 (omega (arith, lt)) room)

-- there is no record
pub cleared : (ps : List (List Record)) → ((k : ℕ) → k < length ps → get_or ps k [] ≡ []) → joined ps ≡ []
cleared [] none = refl
cleared (p ∷ ps) none = ap (λ q. q ++ joined ps) (none 0 (omega arith)) ∙ cleared ps (λ k lt. none (suc k) (omega (arith, lt)))

pub filled-cleared : (ps : List (List Record)) → joined ps ≡ [] → AreFilled 0 ps
filled-cleared [] none = refl
filled-cleared (p ∷ ps) none =
    let no : length (p ++ joined ps) ≡ 0 = ap length none in
    (omega (arith, no, length-append p (joined ps)), empty_list (joined ps) (omega (arith, no, length-append p (joined ps))))

none-at : (ps : List (List Record)) (k : ℕ) (d : List Record) → joined ps ≡ [] → k < length ps → length (get_or ps k d) ≡ 0
none-at [] k d none inside = absurd (omega arith)
none-at (p ∷ ps) zero d none inside =
    let no : length (p ++ joined ps) ≡ 0 = ap length none in omega (arith, no, length-append p (joined ps))
none-at (p ∷ ps) (suc k) d none inside =
    let no : length (p ++ joined ps) ≡ 0 = ap length none in
    none-at ps k d (empty_list (joined ps) (omega (arith, no, length-append p (joined ps)))) (omega (arith, inside))

pub after-empty : (at k : ℕ) (ps : List (List Record)) (d : List Record) → AreFilled at ps → at < k → k < length ps → length (get_or ps k d) ≡ 0
after-empty at k [] d f lt inside = absurd (omega arith)
after-empty zero zero (p ∷ ps) d f lt inside = absurd (omega (arith, lt))
after-empty zero (suc k) (p ∷ ps) d f lt inside = none-at ps k d f.1 (omega (arith, inside))
after-empty (suc at) zero (p ∷ ps) d f lt inside = absurd (omega (arith, lt))
after-empty (suc at) (suc k) (p ∷ ps) d f lt inside = after-empty at k ps d f.1 (omega (arith, lt)) (omega (arith, inside))

slice_get-append_left : (xs ys : List Record) (i : ℕ) → i < length xs → slice_get (xs ++ ys) i ≡ slice_get xs i
slice_get-append_left [] ys i lt = absurd (omega arith)
slice_get-append_left (x ∷ xs) ys zero lt = refl
slice_get-append_left (x ∷ xs) ys (suc i) lt = slice_get-append_left xs ys i (omega (arith, lt))

slice_get-append_right : (xs ys : List Record) (i j : ℕ) → i ≡ length xs + j → slice_get (xs ++ ys) i ≡ slice_get ys j
slice_get-append_right [] ys i j e = ap (λ n. slice_get ys n) (omega (arith, e))
slice_get-append_right (x ∷ xs) ys zero j e = absurd (omega (arith, e))
slice_get-append_right (x ∷ xs) ys (suc i) j e = slice_get-append_right xs ys i j (omega (arith, e))

-- the record at an index is in the piece at the index divided by 256
pub place-get : (at : ℕ) (ps : List (List Record)) (k i : ℕ) (d : List Record) → AreFilled at ps → i < 256 → k < length ps
    → slice_get (joined ps) (256 * k + i) ≡ slice_get (get_or ps k d) i
place-get at [] k i d f lt inside = absurd (omega arith)
place-get zero (p ∷ ps) zero i d f lt inside =
    ap (λ q. slice_get (p ++ q) (256 * 0 + i)) f.1 ∙ ap (λ q. slice_get q (256 * 0 + i)) (append-nil p)
    ∙ ap (λ n. slice_get p n) (omega arith)
place-get zero (p ∷ ps) (suc k) i d f lt inside =
    slice_get_past (joined (p ∷ ps)) (256 * suc k + i) (omega (arith, length-append p (joined ps), ap length f.1, f.0))
    ∙ sym (slice_get_past (get_or ps k d) i (omega (arith, none-at ps k d f.1 (omega (arith, inside)))))
place-get (suc at) (p ∷ ps) zero i d f lt inside =
    slice_get-append_left p (joined ps) (256 * 0 + i) (omega (arith, f.0, lt)) ∙ ap (λ n. slice_get p n) (omega arith)
place-get (suc at) (p ∷ ps) (suc k) i d f lt inside =
    slice_get-append_right p (joined ps) (256 * suc k + i) (256 * k + i) (omega (arith, f.0))
    ∙ place-get at ps k i d f.1 lt (omega (arith, inside))

pub past-get : (at : ℕ) (ps : List (List Record)) (k i : ℕ) → AreFilled at ps → length ps ≤ k → slice_get (joined ps) (256 * k + i) ≡ None
past-get at ps k i f past = slice_get_past (joined ps) (256 * k + i) (omega (arith, joined-fits at ps f, past))

-- an empty piece at the end, which has room
pub added-room : (n : ℕ) (ps : List (List Record)) → AreFilled n ps → n ≡ length ps → HasRoomAt n (ps ++ [] ∷ [])
added-room n ps f last =
    let room : length (get_or (ps ++ [] ∷ []) n []) < 256 = omega (arith, ap (λ (k : ℕ). length (get_or (ps ++ [] ∷ []) k [])) last, ap (λ (q : List Record). length q) (get_or-append_seam ps [] [] [])) in
    (filled-add n ps f, omega (arith, length-append ps ([] ∷ []), last), room)

-- no piece after the index has a record
pub joined-below : (at : ℕ) (ps : List (List Record)) → AreFilled at ps → length (joined ps) ≤ 256 * (at + 1)
joined-below at [] f = omega arith
joined-below zero (p ∷ ps) f = omega (arith, length-append p (joined ps), ap length f.1, f.0)
joined-below (suc at) (p ∷ ps) f = omega (arith, length-append p (joined ps), joined-below at ps f.1, f.0)

-- the default of a read inside a list does not matter
pub same-read : (ps : List (List Record)) (k : ℕ) (d e : List Record) → k < length ps → get_or ps k e ≡ get_or ps k d
same-read ps k d e lt = get_or_from_slice_get ps k (get_or ps k d) e (slice_get-get_or ps k d lt)

pub extends-none : (ps : List (List Record)) → AddsEmptyPieces ps ps
extends-none ps = record { records = refl; filled = λ n f. f; grows = omega arith }

-- one more empty piece
pub extends-add : (ps qs rs : List (List Record)) → AddsEmptyPieces ps qs → rs ≡ qs ++ [] ∷ [] → AddsEmptyPieces ps rs
extends-add ps qs rs e added =
    record {
      records = ap (λ (ts : List (List Record)). joined ts) added ∙ joined-add qs ∙ e.records;
      filled = λ n f. subst (λ (ts : List (List Record)). AreFilled n ts) (sym added) (filled-add n qs (e.filled n f));
      grows = omega (arith, ap (λ (ts : List (List Record)). length ts) added, length-append qs ([] ∷ []), e.grows);
    }

-- `n` empty pieces more
pub extends-many : (ps : List (List Record)) (n : ℕ) → AddsEmptyPieces ps (ps ++ replicate n [])
extends-many ps zero = subst (λ (qs : List (List Record)). AddsEmptyPieces ps qs) (sym (append-nil ps)) (extends-none ps)
extends-many ps (suc n) =
    let first = extends-add ps ps (ps ++ [] ∷ []) (extends-none ps) refl in
    let rest = extends-many (ps ++ [] ∷ []) n in
    let both : AddsEmptyPieces ps ((ps ++ [] ∷ []) ++ replicate n []) =
    record {
      records = rest.records ∙ first.records;
      filled = λ k f. rest.filled k (first.filled k f);
      grows = omega (arith, rest.grows, first.grows);
    } in
    subst (λ (qs : List (List Record)). AddsEmptyPieces ps qs) (append_assoc ps ([] ∷ []) (replicate n [])) both

pub replicate-more : (n : ℕ) (p : List Record) → replicate n p ++ p ∷ [] ≡ replicate (n + 1) p
replicate-more n p = replicate-append-replicate n 1 p

-- `n` empty pieces more, or none
pub extends-either : {E : Type 0} (r : Result (Unit {0}) E) (ps qs : List (List Record)) (n : ℕ) → OnOk r (qs ≡ ps ++ replicate n [])
    → OnErr r (qs ≡ ps) → AddsEmptyPieces ps qs
extends-either (Ok u) ps qs n added same = subst (λ (xs : List (List Record)). AddsEmptyPieces ps xs) (sym added) (extends-many ps n)
extends-either (Err e) ps qs n added same = subst (λ (xs : List (List Record)). AddsEmptyPieces ps xs) (sym same) (extends-none ps)

pub room-ahead : (at n : ℕ) (ps : List (List Record)) → AreFilled at ps → at + n / 256 + 2 ≤ length ps → n ≤ room_of ps
room-ahead at n ps f ahead = omega (arith, joined-below at ps f, ahead)

pub if-ok : {E : Type 0} (r : Result (Unit {0}) E) (P Q : Type 0) → (P → Q) → OnOk r P → OnOk r Q
if-ok (Ok u) P Q f p = f p
if-ok (Err e) P Q f p = tt

pub take_get : (xs : List Record) (i : ℕ) (x : Record) → slice_get xs i ≡ Some x → take (suc i) xs ≡ take i xs ++ x ∷ []
take_get [] i x is = cc
take_get (y ∷ xs) zero x is = let same : y ≡ x = cc in ap (λ (z : Record). z ∷ []) same
take_get (y ∷ xs) (suc i) x is = ap (λ (zs : List Record). y ∷ zs) (take_get xs i x is)

pub none_past : (xs : List Record) (i : ℕ) → slice_get xs i ≡ None → length xs ≤ i
none_past [] i none = omega arith
none_past (y ∷ xs) zero none = absurd cc
none_past (y ∷ xs) (suc i) none = omega (arith, none_past xs i none)
