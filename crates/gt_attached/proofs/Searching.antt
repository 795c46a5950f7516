-- A search over a domain's entries, by one look at each.
use Rattle.std.proofs.Common.{◌≡◌, ◌∙◌, ◌+◌, ℕ, Bool, true, Option, Some, refl, subst}
use Rattle.gt_model.specs.declared.control.Control.{Control}
use Rattle.gt_words.specs.Conditions.{IsSameSeat, SeatOf}
use Rattle.gt_live.specs.Closing.{LooksAtOwn}
use Rattle.gt_live.specs.Prelude.{Layout}
use Rattle.gt_live.specs.declared.domain.Domain.{Domain}
use Rattle.gt_attached.specs.Seated.{Seated, StaysIdle}
use Rattle.gt_attached.specs.Unused.{FindsUnused, LooksForPins, PassesOver, is_unused}

pub seat-same : (s : SeatOf) → IsSameSeat s s
seat-same s = record { table = refl; dom = refl; position = refl; first = refl; headers = refl; ids = refl }

seat-then : (r s t : SeatOf) → IsSameSeat r s → IsSameSeat s t → IsSameSeat r t
seat-then r s t a b =
    record {
      table = b.table ∙ a.table;
      dom = b.dom ∙ a.dom;
      position = b.position ∙ a.position;
      first = b.first ∙ a.first;
      headers = b.headers ∙ a.headers;
      ids = b.ids ∙ a.ids;
    }

pub stays-then : {P : Type 0} (s t u : Seated P) → StaysIdle s t → StaysIdle t u → StaysIdle s u
stays-then s t u a b = (b.0 ∙ a.0, b.1, seat-then s.domain.seat t.domain.seat u.domain.seat a.2 b.2)

-- a look that found this entry, and whether it is unused
pub looks-so : (k m : Layout) (c e : Domain) (r at : ℕ) (o : Option Control) (x : Control) (unused : Bool) → m ≡ k → at ≡ r
    → o ≡ Some x → LooksAtOwn m c (record { 0 = at }) o e → is_unused x ≡ unused → LooksForPins k c r unused e
looks-so k m c e r at o x unused same here is look says = (
  x,
  subst (λ (y : Layout). LooksAtOwn y c (record { 0 = r }) (Some x) e) same
      (subst (λ (z : ℕ). LooksAtOwn m c (record { 0 = z }) (Some x) e) here
      (subst (λ (p : Option Control). LooksAtOwn m c (record { 0 = at }) p e) is look)),
  says,
)

-- the search came to an unused entry
pub found-here : (k : Layout) (d t e : Domain) (from count at : ℕ) → at ≡ from + count → PassesOver k d from count t
    → LooksForPins k t at true e → FindsUnused k d from (Some (record { 0 = at })) e
found-here k d t e from count at here passed looks = (count, t, passed, here, looks)
