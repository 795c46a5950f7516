-- Alternatives of which one is false, and their order.
use Rattle.std.proofs.Common.{◌≡◌, Bool, true, false, refl}
use Rattle.std.specs.Prelude.{◌||◌, ◌&&◌}

pub or_false : (b : Bool) → b ≡ (b || false)
or_false true = refl
or_false false = refl

pub or_no : (b c : Bool) → b ≡ (b || (c && false))
or_no true c = refl
or_no false true = refl
or_no false false = refl

pub or_assoc : (a b c : Bool) → ((a || b) || c) ≡ (a || (b || c))
or_assoc true b c = refl
or_assoc false b c = refl
