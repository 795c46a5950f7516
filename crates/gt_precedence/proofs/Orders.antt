-- Orders: what one domain follows, and what all do.
use Rattle.std.proofs.Common.{◌≡◌, ◌≢◌, ◌<◌, ℕ, zero, suc, Bool, true, false, cond, List, [], ◌∷◌, ◌++◌, length}
use Rattle.std.proofs.Common.{Some, None, refl, ap, sym, ◌∙◌, subst, arith, append_assoc}
use Rattle.std.proofs.lemmas.Option.{none-some, same_Some}
use Rattle.std.specs.List.{AllByRecursion}
use Rattle.std.specs.Prelude.{◌==◌, slice_get}
use Rattle.gt_precedence.specs.Prelude.{DomId, DomainConfig, RunContents, domain_of, list_of, type_names}
use Rattle.gt_precedence.specs.Prelude.{Happening, own_happenings, AllFollow, FollowsList}
use Rattle.gt_precedence.proofs.Happenings.{same-dom}

-- a domain follows its list in an order of the script, and prints this
abbrev pub Follows : RunContents → List Happening → DomId → List ℕ → Type 0
Follows c hs d part = FollowsList (type_names c.head) d [] [] (list_of c.tasks d) (own_happenings d hs) part

pub all-follow : (c e : RunContents) (hs ks : List Happening) → ((d : DomId) (part : List ℕ) → Follows c hs d part → Follows e ks d part) → (ds : List DomainConfig) (text : List ℕ) → AllFollow c hs ds text → AllFollow e ks ds text
all-follow c e hs ks each [] text is = is
all-follow c e hs ks each (d ∷ ds) text (part, (rest, told, more), follows) = (part, (rest, told, all-follow c e hs ks each ds rest more), each d.id part follows)

-- a domain follows its list, and prints this part of the text
pub record FollowsIn (c : RunContents) (hs : List Happening) (d : DomId) (text : List ℕ) : Type 0 where
  pub part : List ℕ
  pub before : List ℕ
  pub after : List ℕ
  pub printed : text ≡ before ++ (part ++ after)
  pub follows : Follows c hs d part

pub one-follows : (c : RunContents) (hs : List Happening) (d : DomId) (ds : List DomainConfig) (text : List ℕ) → domain_of ds d ≢ None → AllFollow c hs ds text → FollowsIn c hs d text
one-follows c hs d [] text known all = absurd (known refl)
one-follows c hs d (e ∷ ds) text known (part, (rest, told, more), follows) = by (e.id.0 == d.0) refl known (λ k. one-follows c hs d ds rest k more) where
  by : (b : Bool) → (e.id.0 == d.0) ≡ b → cond b (Some e) (domain_of ds d) ≢ None → (domain_of ds d ≢ None → FollowsIn c hs d rest) → FollowsIn c hs d text
  by true is known next = record { part = part; before = []; after = rest; printed = told; follows = subst (λ (k : DomId). Follows c hs k part) (same-dom e.id d is) follows }
  by false is known next = let there = next known in
      record { part = there.part; before = part ++ there.before; after = there.after; printed = told ∙ ap (λ (l : List ℕ). part ++ l) there.printed ∙ sym (append_assoc part there.before (there.part ++ there.after)); follows = there.follows }

module _ {X : Type 0} where
  pub all-at : (P : X → Type 0) (xs : List X) (place : ℕ) (x : X) → AllByRecursion P xs → slice_get xs place ≡ Some x → P x
  all-at P [] place x all there = absurd (none-some _ there)
  all-at P (y ∷ xs) zero x all there = subst P (same_Some y x there) all.0
  all-at P (y ∷ xs) (suc place) x all there = all-at P xs place x all.1 there

  pub at-length : (us vs : List X) (x : X) → slice_get (us ++ x ∷ vs) (length us) ≡ Some x
  at-length [] vs x = refl
  at-length (u ∷ us) vs x = at-length us vs x

  pub split-there : (us vs : List X) (at : ℕ) (x : X) → at < length us → slice_get (us ++ vs) at ≡ Some x → (front : List X) × (back : List X) × (us ≡ front ++ x ∷ back)
  split-there [] vs at x lt there = absurd (omega (arith, lt))
  split-there (u ∷ us) vs zero x lt there = ([], us, ap (λ (z : X). z ∷ us) (same_Some u x there))
  split-there (u ∷ us) vs (suc at) x lt there = let (front, back, is) = split-there us vs at x (omega (arith, lt)) there in (u ∷ front, back, ap (λ (l : List X). u ∷ l) is)
