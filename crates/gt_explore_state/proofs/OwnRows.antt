-- What the rows of a table keep, after one of them was replaced or removed.
use Rattle.std.proofs.Common.{◌≡◌, ℕ, zero, suc, ◌+◌, ◌==◌, Bool, true, false, cond, List, [], ◌∷◌, refl, sym}
use Rattle.std.proofs.Common.{ap, ◌∙◌, min, Option, Some, None, not, get_or, drop, length, ◌<◌, arith, subst, take}
use Rattle.std.proofs.Common.{◌++◌, ◌≢◌, ◌≤◌}
use Rattle.std.specs.List.{filter}
use Rattle.gt_types.specs.declared.limits.TheConstants.{LAST_GENERATION}
use Rattle.gt_model.specs.declared.entry.Entry.TheVariants.{Invalid}
use Rattle.gt_model.specs.declared.change.EntryChange.{EntryChange}
use Rattle.gt_model.specs.Entries.{changed_entry, raise_of}
use Rattle.gt_calls.specs.declared.known.OwnerEntry.{OwnerEntry}
use Rattle.gt_calls.specs.Known.{own_after, entry_in, own_generation, row_entry, row_generation}
use Rattle.gt_explore_state.specs.Rows.{ListsEntries, OwnBecomes, RowsBecome, kept_entry, kept_generation, value_at}
use Rattle.gt_explore_state.specs.declared.rows.TableRow.{TableRow}
use Rattle.std.proofs.lemmas.Bool.{eqb-true, eqb-false, eq-eqb}
use Rattle.std.proofs.lemmas.Option.{none-some}

-- a changed row is kept
pub own-becomes : (first at : ℕ) (old new : List (TableRow OwnerEntry)) (change : EntryChange) (was : OwnerEntry) → was.entry ≡ kept_entry old at → was.generation ≡ kept_generation first old at
    → RowsBecome old new at (Some (own_after change was)) → OwnBecomes first old new at change
own-becomes first at old new change was e g each = record {
  entries = λ r. ap row_entry (each r) ∙ entries (at == r) r refl;
  generations = λ r. ap (row_generation first) (each r) ∙ generations (at == r) r refl;
} where
  entries : (b : Bool) (r : ℕ) → (at == r) ≡ b → row_entry (cond b (Some (own_after change was)) (value_at old r)) ≡ cond b (changed_entry change (kept_entry old r)) (kept_entry old r)
  entries true r k = ap (changed_entry change) (e ∙ ap (kept_entry old) (eqb-true at r k))
  entries false r k = refl

  generations : (b : Bool) (r : ℕ) → (at == r) ≡ b → row_generation first (cond b (Some (own_after change was)) (value_at old r)) ≡ cond b (min (kept_generation first old r + raise_of change) LAST_GENERATION) (kept_generation first old r)
  generations true r k = ap (λ (n : ℕ). min (n + raise_of change) LAST_GENERATION) (g ∙ ap (kept_generation first old) (eqb-true at r k))
  generations false r k = refl

module _ {T : Type 0} where
  -- the rows without that of one reference
  pub but-one : (xs : List (TableRow T)) (at r : ℕ) → value_at (filter (λ (x : TableRow T). not (x.gref.0 == at)) xs) r ≡ cond (at == r) None (value_at xs r)
  but-one [] at r = by (at == r) where
    by : (b : Bool) → ◌≡◌ {A = Option T} None (cond b None None)
    by true = refl
    by false = refl
  but-one (x ∷ xs) at r = by (x.gref.0 == at) (x.gref.0 == r) (at == r) refl refl refl (but-one xs at r) where
    rest : List (TableRow T)
    rest = filter (λ (y : TableRow T). not (y.gref.0 == at)) xs

    by : (a b c : Bool) → (x.gref.0 == at) ≡ a → (x.gref.0 == r) ≡ b → (at == r) ≡ c → value_at rest r ≡ cond c None (value_at xs r)
        → value_at (cond (not a) (x ∷ rest) rest) r ≡ cond c None (cond b (Some x.value) (value_at xs r))
    by true b true e f g more = more
    by true false false e f g more = more
    by true true false e f g more = absurd (eqb-false at r g (sym (eqb-true x.gref.0 at e) ∙ eqb-true x.gref.0 r f))
    by false b c e f g more = ap (λ (z : Bool). cond z (Some x.value) (value_at rest r)) f ∙ kept b c f g more where
      kept : (z w : Bool) → (x.gref.0 == r) ≡ z → (at == r) ≡ w → value_at rest r ≡ cond w None (value_at xs r)
          → cond z (Some x.value) (value_at rest r) ≡ cond w None (cond z (Some x.value) (value_at xs r))
      kept true true h k m = absurd (eqb-false x.gref.0 at e (eqb-true x.gref.0 r h ∙ sym (eqb-true at r k)))
      kept true false h k m = refl
      kept false w h k m = m

  -- a row is put at some place, where there is none of its reference
  pub one-more : (xs : List (TableRow T)) (n : ℕ) (x : TableRow T) (r : ℕ) → value_at xs x.gref.0 ≡ None → value_at (take n xs ++ x ∷ drop n xs) r ≡ cond (x.gref.0 == r) (Some x.value) (value_at xs r)
  one-more [] zero x r none = refl
  one-more [] (suc n) x r none = refl
  one-more (y ∷ ys) zero x r none = refl
  one-more (y ∷ ys) (suc n) x r none = by (y.gref.0 == x.gref.0) (y.gref.0 == r) (x.gref.0 == r) refl refl refl none (one-more ys n x r) where
    by : (a b c : Bool) → (y.gref.0 == x.gref.0) ≡ a → (y.gref.0 == r) ≡ b → (x.gref.0 == r) ≡ c → cond a (Some y.value) (value_at ys x.gref.0) ≡ None
        → (value_at ys x.gref.0 ≡ None → value_at (take n ys ++ x ∷ drop n ys) r ≡ cond (x.gref.0 == r) (Some x.value) (value_at ys r))
        → cond b (Some y.value) (value_at (take n ys ++ x ∷ drop n ys) r) ≡ cond c (Some x.value) (cond b (Some y.value) (value_at ys r))
    by true b c e f g free more = absurd (none-some y.value (sym free))
    by false true true e f g free more = absurd (eqb-false y.gref.0 x.gref.0 e (eqb-true y.gref.0 r f ∙ sym (eqb-true x.gref.0 r g)))
    by false true false e f g free more = refl
    by false false c e f g free more = more free ∙ ap (λ (z : Bool). cond z (Some x.value) (value_at ys r)) g

  -- the row of a reference is replaced
  pub replaced : (old mid new : List (TableRow T)) (n : ℕ) (x : TableRow T) → RowsBecome old mid x.gref.0 None → new ≡ take n mid ++ x ∷ drop n mid → RowsBecome old new x.gref.0 (Some x.value)
  replaced old mid new n x gone put = λ r. ap (λ (l : List (TableRow T)). value_at l r) put ∙ one-more mid n x r none ∙ by (x.gref.0 == r) r (gone r) where
    none : value_at mid x.gref.0 ≡ None
    none = gone x.gref.0 ∙ ap (λ (b : Bool). cond b None (value_at old x.gref.0)) (eq-eqb x.gref.0 x.gref.0 refl)

    by : (b : Bool) (r : ℕ) → value_at mid r ≡ cond b None (value_at old r) → cond b (Some x.value) (value_at mid r) ≡ cond b (Some x.value) (value_at old r)
    by true r e = refl
    by false r e = e

  -- a row is found, or is not the one; and there is none past the end
  pub row-found : (xs : List (TableRow T)) (i : ℕ) (x : TableRow T) (r : ℕ) → i < length xs → x ≡ get_or xs i x → x.gref.0 ≡ r → value_at (drop i xs) r ≡ Some x.value
  row-found [] i x r below e f = absurd (omega arith)
  row-found (y ∷ ys) zero x r below e f = ap (λ (b : Bool). cond b (Some y.value) (value_at ys r)) (eq-eqb y.gref.0 r (ap (λ (z : TableRow T). z.gref.0) (sym e) ∙ f)) ∙ ap (λ (z : TableRow T). Some z.value) (sym e)
  row-found (y ∷ ys) (suc i) x r below e f = row-found ys i x r (omega arith) e f

  pub row-passed : (xs : List (TableRow T)) (i : ℕ) (x : TableRow T) (r : ℕ) → i < length xs → x ≡ get_or xs i x → x.gref.0 ≢ r → value_at (drop i xs) r ≡ value_at (drop (suc i) xs) r
  row-passed [] i x r below e f = absurd (omega arith)
  row-passed (y ∷ ys) zero x r below e f = by (y.gref.0 == r) refl where
    by : (b : Bool) → (y.gref.0 == r) ≡ b → cond b (Some y.value) (value_at ys r) ≡ value_at ys r
    by true g = absurd (f (ap (λ (z : TableRow T). z.gref.0) e ∙ eqb-true y.gref.0 r g))
    by false g = refl
  row-passed (y ∷ ys) (suc i) x r below e f = row-passed ys i x r (omega arith) e f

  pub no-row-past : (xs : List (TableRow T)) (i r : ℕ) → length xs ≤ i → value_at (drop i xs) r ≡ None
  no-row-past [] zero r past = refl
  no-row-past [] (suc i) r past = refl
  no-row-past (y ∷ ys) zero r past = absurd (omega arith)
  no-row-past (y ∷ ys) (suc i) r past = no-row-past ys i r (omega arith)

-- the list of what an owner knows of its entries

-- the row of an untouched entry
pub record IsUntouched (first : ℕ) (u : OwnerEntry) : Type 0 where
  pub entry : u.entry ≡ Invalid
  pub generation : u.generation ≡ min first LAST_GENERATION

entry-row : (own : List OwnerEntry) (r first : ℕ) (u : OwnerEntry) → IsUntouched first u → entry_in own r ≡ (get_or own r u).entry
entry-row [] r first u a = sym a.entry
entry-row (o ∷ os) zero first u a = refl
entry-row (o ∷ os) (suc r) first u a = entry-row os r first u a

generation-row : (own : List OwnerEntry) (r first : ℕ) (u : OwnerEntry) → IsUntouched first u → own_generation first own r ≡ (get_or own r u).generation
generation-row [] r first u a = sym a.generation
generation-row (o ∷ os) zero first u a = refl
generation-row (o ∷ os) (suc r) first u a = generation-row os r first u a

-- a row more
pub one-listed : (first : ℕ) (old new : List OwnerEntry) (u : OwnerEntry) (x : TableRow OwnerEntry) (rows : List (TableRow OwnerEntry)) → IsUntouched first u
    → ((k : ℕ) → get_or new k u ≡ cond (x.gref.0 == k) x.value (get_or old k u)) → ListsEntries first rows old → ListsEntries first (x ∷ rows) new
one-listed first old new u x rows a each lists = record {
  entries = λ r. entry-row new r first u a ∙ ap (λ (o : OwnerEntry). o.entry) (each r) ∙ entries (x.gref.0 == r) r;
  generations = λ r. generation-row new r first u a ∙ ap (λ (o : OwnerEntry). o.generation) (each r) ∙ generations (x.gref.0 == r) r;
} where
  entries : (b : Bool) (r : ℕ) → (cond b x.value (get_or old r u)).entry ≡ row_entry (cond b (Some x.value) (value_at rows r))
  entries true r = refl
  entries false r = sym (entry-row old r first u a) ∙ lists.entries r

  generations : (b : Bool) (r : ℕ) → (cond b x.value (get_or old r u)).generation ≡ row_generation first (cond b (Some x.value) (value_at rows r))
  generations true r = refl
  generations false r = sym (generation-row old r first u a) ∙ lists.generations r

-- the rows from this one on
pub from-here : (xs : List (TableRow OwnerEntry)) (n : ℕ) (d : TableRow OwnerEntry) → n < length xs → drop n xs ≡ get_or xs n d ∷ drop (suc n) xs
from-here [] n d below = absurd (omega arith)
from-here (x ∷ xs) zero d below = refl
from-here (x ∷ xs) (suc n) d below = from-here xs n d (omega arith)
