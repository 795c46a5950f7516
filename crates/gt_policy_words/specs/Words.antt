-- The classes that Xen's FLASK policy has.
use Rattle.std.specs.Prelude.{ℕ, Bool, ◌||◌, List, [], ◌∷◌, codes, if◌then◌else◌}
use Rattle.std.specs.List.{list_any}
use Rattle.std.specs.Str.{bytes_eq}

-- the classes other than `grant` (Xen: access_vectors of the FLASK policy)
abbrev pub flask_classes : List (List ℕ)
flask_classes =
    codes "xen" ∷ codes "xen2" ∷ codes "domain" ∷ codes "domain2" ∷ codes "hvm" ∷ codes "mmu" ∷ codes "resource"
    ∷ codes "shadow" ∷ codes "event" ∷ codes "security" ∷ codes "version" ∷ codes "argo" ∷ []

abbrev pub is_flask_class : List ℕ → Bool
is_flask_class w = list_any (λ c. bytes_eq w c) flask_classes

abbrev pub is_known_class : List ℕ → Bool
is_known_class w = bytes_eq w (codes "grant") || is_flask_class w

-- the line of a class that the policy does not have
abbrev pub unknown_line : ℕ → List ℕ → List ℕ
unknown_line line w = if is_known_class w then [] else line ∷ []
