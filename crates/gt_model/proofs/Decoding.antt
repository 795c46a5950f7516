-- What is read from the bytes of an entry.
use Rattle.std.proofs.Common.{◌≡◌, ◌≢◌, ℕ, ◌+◌, ◌/◌, ◌%◌, ◌<◌, ◌≤◌, Bool, true, false, ◌&&◌, ◌||◌, ◌==◌, nat_lt, List}
use Rattle.std.proofs.Common.{[], ◌∷◌, length, find, Option, Some, None, get_or, refl, sym, ap, ◌∙◌, subst, cond}
use Rattle.std.proofs.Common.{arith}
use Rattle.std.proofs.lemmas.Bool.Decides.{nat_tests}
use Rattle.std.proofs.lemmas.List.{get_or_default}
use Rattle.std.proofs.lemmas.Option.{none-some}
use Rattle.std.proofs.lemmas.Bool.{or_parts}
use Rattle.gt_types.specs.declared.denial.Field.{Field}
use Rattle.gt_types.specs.declared.denial.Field.TheVariants.{Length, Kind, Reading, Writing, Pwt, Pcd, Pat, SubPage}
use Rattle.gt_types.specs.declared.denial.Field.TheVariants.{Reserved}
use Rattle.gt_model.specs.declared.entry.Entry.{Entry}
use Rattle.gt_model.specs.declared.entry.Entry.TheVariants.{Invalid, Page, Sub, Via}
use Rattle.gt_model.specs.Words.{flag}
use Rattle.gt_model.specs.Bytes.{field, flags_of, AreBytes, SpellsV1, SpellsV2, is_set, is_refused, flag_fields}
use Rattle.gt_model.specs.Bytes.{refused_flag, first_refused}

-- none of the fields is refused
record NoneRefused (version size flags : ℕ) : Type 0 where
  kind : is_refused version size flags Kind ≡ false
  reading : is_refused version size flags Reading ≡ false
  writing : is_refused version size flags Writing ≡ false
  pwt : is_refused version size flags Pwt ≡ false
  pcd : is_refused version size flags Pcd ≡ false
  pat : is_refused version size flags Pat ≡ false
  sub_page : is_refused version size flags SubPage ≡ false
  reserved : is_refused version size flags Reserved ≡ false

first-false : (p : Field → Bool) (f : Field) (fs : List Field) (b : Bool) → p f ≡ b → cond b (Some f) (find p fs) ≡ None → (p f ≡ false) × (find p fs ≡ None)
first-false p f fs true is e = absurd (none-some f (sym e))
first-false p f fs false is e = (is, e)

next : (p : Field → Bool) (f : Field) (fs : List Field) → find p (f ∷ fs) ≡ None → (p f ≡ false) × (find p fs ≡ None)
next p f fs e = first-false p f fs (p f) refl e

none-refused : (version size flags : ℕ) → find (is_refused version size flags) flag_fields ≡ None → NoneRefused version size flags
none-refused version size flags e =
    let p : Field → Bool = is_refused version size flags in
    let a = next p Kind (Reading ∷ Writing ∷ Pwt ∷ Pcd ∷ Pat ∷ SubPage ∷ Reserved ∷ []) e in
    let b = next p Reading (Writing ∷ Pwt ∷ Pcd ∷ Pat ∷ SubPage ∷ Reserved ∷ []) a.1 in
    let c = next p Writing (Pwt ∷ Pcd ∷ Pat ∷ SubPage ∷ Reserved ∷ []) b.1 in
    let d = next p Pwt (Pcd ∷ Pat ∷ SubPage ∷ Reserved ∷ []) c.1 in
    let f = next p Pcd (Pat ∷ SubPage ∷ Reserved ∷ []) d.1 in
    let g = next p Pat (SubPage ∷ Reserved ∷ []) f.1 in
    let h = next p SubPage (Reserved ∷ []) g.1 in
    let k = next p Reserved [] h.1 in
    record { kind = a.0; reading = b.0; writing = c.0; pwt = d.0; pcd = f.0; pat = g.0; sub_page = h.0; reserved = k.0 }

-- flags of which nothing is refused

and-true : (a : Bool) → (a && true) ≡ a
and-true true = refl
and-true false = refl

clear : (n : ℕ) → (n % 2 == 1) ≡ false → n % 2 ≡ 0
clear n e = grind (arith, nat_tests)

set : (n : ℕ) → (n % 2 == 1) ≡ true → n % 2 ≡ 1
set n e = grind (arith, nat_tests)

below-512 : (f : ℕ) → nat_lt 0 (f / 512) ≡ false → f < 512
below-512 f e = let none : f / 512 ≡ 0 = grind (arith, nat_tests) in omega arith

-- the rest of the flags is below 8, or below 264 with the sub-page bit
record Small (f : ℕ) : Type 0 where
  plain : is_set f 256 ≡ false → f < 8
  sub : is_set f 256 ≡ true → (256 ≤ f) × (f < 264)

small : (version size f : ℕ) → NoneRefused version size f → Small f
small version size f n =
    let top = below-512 f n.reserved in
    let a = clear (f / 8) n.reading in
    let b = clear (f / 16) n.writing in
    let c = clear (f / 32) n.pwt in
    let d = clear (f / 64) n.pcd in
    let e = clear (f / 128) n.pat in
    record { plain = λ is. plain top a b c d e (clear (f / 256) is); sub = λ is. with-sub top a b c d e (set (f / 256) is) }
  where
    plain : f < 512 → f / 8 % 2 ≡ 0 → f / 16 % 2 ≡ 0 → f / 32 % 2 ≡ 0 → f / 64 % 2 ≡ 0 → f / 128 % 2 ≡ 0 → f / 256 % 2 ≡ 0 → f < 8
    plain top a b c d e s =
        let l256 : f < 256 = omega arith in
        let l128 : f < 128 = omega arith in
        let l64 : f < 64 = omega arith in
        let l32 : f < 32 = omega arith in
        let l16 : f < 16 = omega arith in
        omega arith

    with-sub : f < 512 → f / 8 % 2 ≡ 0 → f / 16 % 2 ≡ 0 → f / 32 % 2 ≡ 0 → f / 64 % 2 ≡ 0 → f / 128 % 2 ≡ 0 → f / 256 % 2 ≡ 1 → (256 ≤ f) × (f < 264)
    with-sub top a b c d e s =
        let low : 256 ≤ f = omega arith in
        let l384 : f < 384 = omega arith in
        let l320 : f < 320 = omega arith in
        let l288 : f < 288 = omega arith in
        let l272 : f < 272 = omega arith in
        let l264 : f < 264 = omega arith in
        (low, l264)

-- the readonly bit is the only addition to the type and the sub-page bit
readonly-left : (f k : ℕ) → f % 4 ≡ k % 4 → k % 8 < 4 → k ≤ f → f < k + 8 → k % 8 ≡ k % 4 → f ≡ k + flag (is_set f 4)
readonly-left f k t low least most none = go (is_set f 4) refl
  where
    go : (b : Bool) → is_set f 4 ≡ b → f ≡ k + flag b
    go true is = let s = set (f / 4) is in omega arith
    go false is = let s = clear (f / 4) is in omega arith

and-true-right : (a b : Bool) → b ≡ true → (a && b) ≡ false → a ≡ false
and-true-right true b is e = absurd cc
and-true-right false b is e = refl

flag-one : (a b : Bool) → flag a ≡ flag b → a ≡ b
flag-one true true e = refl
flag-one true false e = absurd (omega arith)
flag-one false true e = absurd (omega arith)
flag-one false false e = refl

flag-small : (a : Bool) → flag a ≤ 4
flag-small true = omega arith
flag-small false = omega arith

-- with the right length the first refused field is one of the flags

pub first-of-8 : (bytes : List ℕ) (o : Option Field) → length bytes ≡ 8 → find (is_refused 1 8 (flags_of bytes)) flag_fields ≡ o → first_refused 1 bytes ≡ o
first-of-8 bytes o long e = ap (λ (n : ℕ). find (is_refused 1 n (flags_of bytes)) (Length ∷ flag_fields)) long ∙ e

pub first-of-16 : (bytes : List ℕ) (o : Option Field) → length bytes ≡ 16 → find (is_refused 2 16 (flags_of bytes)) flag_fields ≡ o → first_refused 2 bytes ≡ o
first-of-16 bytes o long e = ap (λ (n : ℕ). find (is_refused 2 n (flags_of bytes)) (Length ∷ flag_fields)) long ∙ e

-- version 1

pub v1-none : (bytes : List ℕ) (e : Entry) → SpellsV1 bytes e → find (is_refused 1 8 (flags_of bytes)) flag_fields ≡ None
v1-none bytes Invalid s = absurd s.layout
v1-none bytes (Page dom true frame) s = ap (λ (f : ℕ). find (is_refused 1 8 f) flag_fields) s.layout.0
v1-none bytes (Page dom false frame) s = ap (λ (f : ℕ). find (is_refused 1 8 f) flag_fields) s.layout.0
v1-none bytes (Sub dom ro frame off len) s = absurd s.layout
v1-none bytes (Via dom ro dom2 gref) s = absurd s.layout

v1-kind : (f : ℕ) → NoneRefused 1 8 f → f % 4 ≡ 1
v1-kind f n =
    let a = or_parts ((f % 4 == 0) || (f % 4 == 2)) ((f % 4 == 3) && true) n.kind in
    let b = or_parts (f % 4 == 0) (f % 4 == 2) a.0 in
    let three : (f % 4 == 3) ≡ false = sym (and-true (f % 4 == 3)) ∙ a.1 in
    let two = b.1 in
    let none = b.0 in
    grind (arith, nat_tests)

pub v1-read : (bytes : List ℕ) → AreBytes 8 bytes → find (is_refused 1 8 (flags_of bytes)) flag_fields ≡ None
    → SpellsV1 bytes (Page (record { 0 = field bytes 2 2 }) (is_set (flags_of bytes) 4) (field bytes 4 4))
v1-read bytes are e =
    let n = none-refused 1 8 (flags_of bytes) e in
    let no_sub : is_set (flags_of bytes) 256 ≡ false = sym (and-true (is_set (flags_of bytes) 256)) ∙ n.sub_page in
    let few = (small 1 8 (flags_of bytes) n).plain no_sub in
    let kind = v1-kind (flags_of bytes) n in
    let some : 1 ≤ flags_of bytes = omega arith in
    record {
      size = are;
      layout = (readonly-left (flags_of bytes) 1 kind (omega arith) some (omega arith) refl, refl, refl);
    }

-- version 2

pub v2-none : (bytes : List ℕ) (e : Entry) → SpellsV2 bytes e → find (is_refused 2 16 (flags_of bytes)) flag_fields ≡ None
v2-none bytes Invalid s = absurd s.layout
v2-none bytes (Page dom true frame) s = ap (λ (f : ℕ). find (is_refused 2 16 f) flag_fields) s.layout.0
v2-none bytes (Page dom false frame) s = ap (λ (f : ℕ). find (is_refused 2 16 f) flag_fields) s.layout.0
v2-none bytes (Sub dom true frame off len) s = ap (λ (f : ℕ). find (is_refused 2 16 f) flag_fields) s.layout.0
v2-none bytes (Sub dom false frame off len) s = ap (λ (f : ℕ). find (is_refused 2 16 f) flag_fields) s.layout.0
v2-none bytes (Via dom true dom2 gref) s = ap (λ (f : ℕ). find (is_refused 2 16 f) flag_fields) s.layout.0
v2-none bytes (Via dom false dom2 gref) s = ap (λ (f : ℕ). find (is_refused 2 16 f) flag_fields) s.layout.0

v2-kind : (f : ℕ) → NoneRefused 2 16 f → (f % 4 ≢ 0) × (f % 4 ≢ 2)
v2-kind f n =
    let a = or_parts ((f % 4 == 0) || (f % 4 == 2)) ((f % 4 == 3) && false) n.kind in
    let b = or_parts (f % 4 == 0) (f % 4 == 2) a.0 in
    let two = b.1 in
    let none = b.0 in
    (grind (arith, nat_tests), grind (arith, nat_tests))

pub v2-page : (bytes : List ℕ) → AreBytes 16 bytes → find (is_refused 2 16 (flags_of bytes)) flag_fields ≡ None → flags_of bytes % 4 ≢ 3 → is_set (flags_of bytes) 256 ≡ false
    → SpellsV2 bytes (Page (record { 0 = field bytes 2 2 }) (is_set (flags_of bytes) 4) (field bytes 8 8))
v2-page bytes are e no_via no_sub =
    let n = none-refused 2 16 (flags_of bytes) e in
    let few = (small 2 16 (flags_of bytes) n).plain no_sub in
    let kinds = v2-kind (flags_of bytes) n in
    let not_two = kinds.1 in
    let not_none = kinds.0 in
    let kind : flags_of bytes % 4 ≡ 1 = omega arith in
    let some : 1 ≤ flags_of bytes = omega arith in
    record {
      size = are;
      layout = (readonly-left (flags_of bytes) 1 kind (omega arith) some (omega arith) refl, refl, refl);
    }

pub v2-sub : (bytes : List ℕ) → AreBytes 16 bytes → find (is_refused 2 16 (flags_of bytes)) flag_fields ≡ None → flags_of bytes % 4 ≢ 3 → is_set (flags_of bytes) 256 ≡ true
    → SpellsV2 bytes (Sub (record { 0 = field bytes 2 2 }) (is_set (flags_of bytes) 4) (field bytes 8 8) (field bytes 4 2) (field bytes 6 2))
v2-sub bytes are e no_via sub =
    let n = none-refused 2 16 (flags_of bytes) e in
    let few = (small 2 16 (flags_of bytes) n).sub sub in
    let low = few.0 in
    let high = few.1 in
    let kinds = v2-kind (flags_of bytes) n in
    let not_two = kinds.1 in
    let not_none = kinds.0 in
    let kind : flags_of bytes % 4 ≡ 1 = omega arith in
    let some : 257 ≤ flags_of bytes = omega arith in
    record {
      size = are;
      layout = (readonly-left (flags_of bytes) 257 kind (omega arith) some (omega arith) refl, refl, refl, refl, refl);
    }

pub v2-via : (bytes : List ℕ) → AreBytes 16 bytes → find (is_refused 2 16 (flags_of bytes)) flag_fields ≡ None → flags_of bytes % 4 ≡ 3
    → SpellsV2 bytes (Via (record { 0 = field bytes 2 2 }) (is_set (flags_of bytes) 4) (record { 0 = field bytes 4 2 }) (record { 0 = field bytes 8 4 }))
v2-via bytes are e via =
    let n = none-refused 2 16 (flags_of bytes) e in
    let is_via : (flags_of bytes % 4 == 3) ≡ true = grind (arith, nat_tests) in
    let no_sub : is_set (flags_of bytes) 256 ≡ false = and-true-right (is_set (flags_of bytes) 256) (flags_of bytes % 4 == 3) is_via n.sub_page in
    let few = (small 2 16 (flags_of bytes) n).plain no_sub in
    let some : 3 ≤ flags_of bytes = omega arith in
    record {
      size = are;
      layout = (readonly-left (flags_of bytes) 3 via (omega arith) some (omega arith) refl, refl, refl, refl);
    }

-- no bytes spell two entries in version 2
pub one-v2 : (bytes : List ℕ) (a b : Entry) → SpellsV2 bytes a → SpellsV2 bytes b → a ≡ b
one-v2 bytes Invalid b s t = absurd s.layout
one-v2 bytes (Page d o f) Invalid s t = absurd t.layout
one-v2 bytes (Page d o f) (Page d' o' f') s t =
    let x = s.layout.0 in let y = t.layout.0 in
    let ro : o ≡ o' = flag-one o o' (omega arith) in
    let dom : d.0 ≡ d'.0 = sym s.layout.1 ∙ t.layout.1 in
    let frame : f ≡ f' = sym s.layout.2 ∙ t.layout.2 in
    λ i. Page (record { 0 = dom i }) (ro i) (frame i)
one-v2 bytes (Page d o f) (Sub d' o' f' off' len') s t = let x = s.layout.0 in let y = t.layout.0 in absurd (omega (arith, flag-small o, flag-small o'))
one-v2 bytes (Page d o f) (Via d' o' e' r') s t = let x = s.layout.0 in let y = t.layout.0 in absurd (other o o' (omega arith))
  where
    other : (o o' : Bool) → 1 + flag o ≡ 3 + flag o' → ⊥
    other true true e = omega arith
    other true false e = omega arith
    other false true e = omega arith
    other false false e = omega arith
one-v2 bytes (Sub d o f off len) Invalid s t = absurd t.layout
one-v2 bytes (Sub d o f off len) (Page d' o' f') s t = let x = s.layout.0 in let y = t.layout.0 in absurd (omega (arith, flag-small o, flag-small o'))
one-v2 bytes (Sub d o f off len) (Sub d' o' f' off' len') s t =
    let x = s.layout.0 in let y = t.layout.0 in
    let ro : o ≡ o' = flag-one o o' (omega arith) in
    let dom : d.0 ≡ d'.0 = sym s.layout.1 ∙ t.layout.1 in
    let start : off ≡ off' = sym s.layout.2 ∙ t.layout.2 in
    let size : len ≡ len' = sym s.layout.3 ∙ t.layout.3 in
    let frame : f ≡ f' = sym s.layout.4 ∙ t.layout.4 in
    λ i. Sub (record { 0 = dom i }) (ro i) (frame i) (start i) (size i)
one-v2 bytes (Sub d o f off len) (Via d' o' e' r') s t = let x = s.layout.0 in let y = t.layout.0 in absurd (omega (arith, flag-small o, flag-small o'))
one-v2 bytes (Via d o e r) Invalid s t = absurd t.layout
one-v2 bytes (Via d o e r) (Page d' o' f') s t = let x = s.layout.0 in let y = t.layout.0 in absurd (other o o' (omega arith))
  where
    other : (o o' : Bool) → 3 + flag o ≡ 1 + flag o' → ⊥
    other true true e = omega arith
    other true false e = omega arith
    other false true e = omega arith
    other false false e = omega arith
one-v2 bytes (Via d o e r) (Sub d' o' f' off' len') s t = let x = s.layout.0 in let y = t.layout.0 in absurd (omega (arith, flag-small o, flag-small o'))
one-v2 bytes (Via d o e r) (Via d' o' e' r') s t =
    let x = s.layout.0 in let y = t.layout.0 in
    let ro : o ≡ o' = flag-one o o' (omega arith) in
    let dom : d.0 ≡ d'.0 = sym s.layout.1 ∙ t.layout.1 in
    let next_dom : e.0 ≡ e'.0 = sym s.layout.2 ∙ t.layout.2 in
    let ref : r.0 ≡ r'.0 = sym s.layout.3 ∙ t.layout.3 in
    λ i. Via (record { 0 = dom i }) (ro i) (record { 0 = next_dom i }) (record { 0 = ref i })

-- what is known of the bytes of the program's arrays
pub are-bytes : (n : ℕ) (bytes : List ℕ) → length bytes ≡ n → ((i : ℕ) → get_or bytes i 0 < 256) → AreBytes n bytes
are-bytes n bytes long fits = (long, λ k d h. subst (λ (b : ℕ). b < 256) (get_or_default bytes k 0 d h) (fits k))

-- the same with the values that were read

pub v1-ok : (bytes : List ℕ) (flags dom frame : ℕ) (ro : Bool) → AreBytes 8 bytes → flags ≡ flags_of bytes → refused_flag 1 flags ≡ None
    → dom ≡ field bytes 2 2 → ro ≡ is_set flags 4 → frame ≡ field bytes 4 4 → SpellsV1 bytes (Page (record { 0 = dom }) ro frame)
v1-ok bytes flags dom frame ro are f none d r n =
    let ro_is : ro ≡ is_set (flags_of bytes) 4 = r ∙ ap (λ (x : ℕ). is_set x 4) f in
    let same : Page (record { 0 = field bytes 2 2 }) (is_set (flags_of bytes) 4) (field bytes 4 4) ≡ Page (record { 0 = dom }) ro frame =
    λ i. Page (record { 0 = sym d i }) (sym ro_is i) (sym n i) in
    subst (SpellsV1 bytes) same (v1-read bytes are (ap (refused_flag 1) (sym f) ∙ none))

pub v2-page-ok : (bytes : List ℕ) (flags dom frame : ℕ) (ro : Bool) → AreBytes 16 bytes → flags ≡ flags_of bytes → refused_flag 2 flags ≡ None → flags % 4 ≢ 3 → is_set flags 256 ≡ false
    → dom ≡ field bytes 2 2 → ro ≡ is_set flags 4 → frame ≡ field bytes 8 8 → SpellsV2 bytes (Page (record { 0 = dom }) ro frame)
v2-page-ok bytes flags dom frame ro are f none no_via no_sub d r n =
    let ro_is : ro ≡ is_set (flags_of bytes) 4 = r ∙ ap (λ (x : ℕ). is_set x 4) f in
    let same : Page (record { 0 = field bytes 2 2 }) (is_set (flags_of bytes) 4) (field bytes 8 8) ≡ Page (record { 0 = dom }) ro frame =
    λ i. Page (record { 0 = sym d i }) (sym ro_is i) (sym n i) in
    subst (SpellsV2 bytes) same
    (v2-page bytes are (ap (refused_flag 2) (sym f) ∙ none) (λ e. no_via (ap (λ (x : ℕ). x % 4) f ∙ e)) (ap (λ (x : ℕ). is_set x 256) (sym f) ∙ no_sub))

pub v2-sub-ok : (bytes : List ℕ) (flags dom frame off len : ℕ) (ro : Bool) → AreBytes 16 bytes → flags ≡ flags_of bytes → refused_flag 2 flags ≡ None → flags % 4 ≢ 3 → is_set flags 256 ≡ true
    → dom ≡ field bytes 2 2 → ro ≡ is_set flags 4 → frame ≡ field bytes 8 8 → off ≡ field bytes 4 2 → len ≡ field bytes 6 2 → SpellsV2 bytes (Sub (record { 0 = dom }) ro frame off len)
v2-sub-ok bytes flags dom frame off len ro are f none no_via sub d r n o l =
    let ro_is : ro ≡ is_set (flags_of bytes) 4 = r ∙ ap (λ (x : ℕ). is_set x 4) f in
    let same : Sub (record { 0 = field bytes 2 2 }) (is_set (flags_of bytes) 4) (field bytes 8 8) (field bytes 4 2) (field bytes 6 2) ≡ Sub (record { 0 = dom }) ro frame off len =
    λ i. Sub (record { 0 = sym d i }) (sym ro_is i) (sym n i) (sym o i) (sym l i) in
    subst (SpellsV2 bytes) same
    (v2-sub bytes are (ap (refused_flag 2) (sym f) ∙ none) (λ e. no_via (ap (λ (x : ℕ). x % 4) f ∙ e)) (ap (λ (x : ℕ). is_set x 256) (sym f) ∙ sub))

pub v2-via-ok : (bytes : List ℕ) (flags dom dom2 gref : ℕ) (ro : Bool) → AreBytes 16 bytes → flags ≡ flags_of bytes → refused_flag 2 flags ≡ None → flags % 4 ≡ 3
    → dom ≡ field bytes 2 2 → ro ≡ is_set flags 4 → dom2 ≡ field bytes 4 2 → gref ≡ field bytes 8 4 → SpellsV2 bytes (Via (record { 0 = dom }) ro (record { 0 = dom2 }) (record { 0 = gref }))
v2-via-ok bytes flags dom dom2 gref ro are f none via d r e g =
    let ro_is : ro ≡ is_set (flags_of bytes) 4 = r ∙ ap (λ (x : ℕ). is_set x 4) f in
    let same : Via (record { 0 = field bytes 2 2 }) (is_set (flags_of bytes) 4) (record { 0 = field bytes 4 2 }) (record { 0 = field bytes 8 4 }) ≡ Via (record { 0 = dom }) ro (record { 0 = dom2 }) (record { 0 = gref }) =
    λ i. Via (record { 0 = sym d i }) (sym ro_is i) (record { 0 = sym e i }) (record { 0 = sym g i }) in
    subst (SpellsV2 bytes) same (v2-via bytes are (ap (refused_flag 2) (sym f) ∙ none) (ap (λ (x : ℕ). x % 4) (sym f) ∙ via))
