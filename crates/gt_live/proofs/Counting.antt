-- Pins and mappings counted.
use Rattle.std.proofs.Common.{◌≡◌, ℕ, ◌+◌, ◌<◌, Bool, true, cond, refl, ap, List, ◌∷◌, length, get_or, arith}
use Rattle.std.specs.List.{count_by}
use Rattle.std.proofs.lemmas.List.Sums.{sum_by-cons, get_or-le-sum_by}
use Rattle.gt_types.specs.declared.Dir.{Dir}
use Rattle.gt_types.specs.declared.Dir.TheVariants.{Read, Write}
use Rattle.gt_word_history.specs.Views.{is_same_dir}

module _ {X : Type 0} where
  pub count-cons : (p : X → Bool) (x : X) (xs : List X) → count_by p (x ∷ xs) ≡ cond (p x) 1 0 + count_by p xs
  count-cons p x xs = sum_by-cons (λ (y : X). cond (p y) 1 0) x xs

  -- an element that passes is counted
  pub counted : (p : X → Bool) (xs : List X) (i : ℕ) (d : X) → i < length xs → p (get_or xs i d) ≡ true → 0 < count_by p xs
  counted p xs i d lt e = let one : cond (p (get_or xs i d)) 1 0 ≡ 1 = ap {B = ℕ} (λ (b : Bool). cond b 1 0) e in let le = get_or-le-sum_by (λ (y : X). cond (p y) 1 0) xs i d lt in omega (arith, one, le)

pub dir-self : (a : Dir) → is_same_dir a a ≡ true
dir-self Read = refl
dir-self Write = refl
