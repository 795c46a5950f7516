-- What the core keeps of an entry: the code's own representation. It is in specs/ because private contracts cite it.
use Rattle.std.specs.Prelude.{ℕ, zero, suc, List, [], ◌∷◌}

-- the pins and body words of an entry
pub record PinCountsRow : Type 0 where
  pub reads : ℕ
  pub writes : ℕ
  pub first : ℕ
  pub second : ℕ

-- the list with a change of the element at this index
abbrev pub changed_at : {A : Type 0} → ℕ → (A → A) → List A → List A
changed_at r f [] = []
changed_at zero f (x ∷ xs) = f x ∷ xs
changed_at (suc r) f (x ∷ xs) = x ∷ changed_at r f xs
