-- When bytes have one in common.
use Rattle.std.proofs.Common.{◌≡◌, ◌<◌, ◌+◌, ◌-◌, ◌↔◌, Bool, true, false, Option, Some, refl, sym, ◌∙◌, subst, inl, inr, arith}
use Rattle.std.proofs.lemmas.Bool.{true≢false}
use Rattle.std.specs.Prelude.{IsTrue}
use Rattle.gt_model.specs.declared.action.Step.{Step}
use Rattle.gt_explore_races.specs.Accesses.{Conflict, ShareByte, bytes_read, bytes_written}
use Rattle.gt_explore_races.specs.declared.accesses.FrameBytes.{FrameBytes}

-- what bytes with one in common have in common
pub record AreOver (a b : FrameBytes) : Type 0 where
  pub owner : a.owner.0 ≡ b.owner.0
  pub frame : a.frame ≡ b.frame
  pub some : 0 < a.len
  pub other : 0 < b.len
  pub before : a.off < b.off + b.len
  pub after : b.off < a.off + a.len

pub over : (a b : FrameBytes) → ShareByte (Some a) (Some b) → AreOver a b
over a b (t, f, byte, (p, q, from, to), (u, v, start, end)) = record {
  owner = p ∙ sym u;
  frame = q ∙ sym v;
  some = omega arith;
  other = omega arith;
  before = omega arith;
  after = omega arith;
}

pub shared : (a b : FrameBytes) → AreOver a b → ShareByte (Some a) (Some b)
shared a b o =
    let some = o.some in let other = o.other in let before = o.before in let after = o.after in (
      a.owner.0,
      a.frame,
      a.off + (b.off - a.off),
      (refl, refl, omega arith, omega arith),
      (sym o.owner, sym o.frame, omega arith, omega arith),
    )

-- an answer that conflicts are decided by

pub by-writes : (y z : Step) → ShareByte (bytes_written y) (bytes_written z) → IsTrue true ↔ Conflict y z
by-writes y z both = (λ yes. inl both, λ conflict. refl)

pub by-read : (y z : Step) → ShareByte (bytes_written y) (bytes_read z) → IsTrue true ↔ Conflict y z
by-read y z both = (λ yes. inr (inl both), λ conflict. refl)

pub by-last : (y z : Step) (a b r : Bool) → IsTrue a ↔ ShareByte (bytes_written y) (bytes_written z) → a ≡ false → IsTrue b ↔ ShareByte (bytes_written y) (bytes_read z) → b ≡ false
    → IsTrue r ↔ ShareByte (bytes_read y) (bytes_written z) → IsTrue r ↔ Conflict y z
by-last y z a b r first none second neither third = (λ yes. inr (inr (third.0 yes)), by) where
  by : Conflict y z → IsTrue r
  by (inl both) = absurd (true≢false (sym (first.1 both) ∙ none))
  by (inr (inl both)) = absurd (true≢false (sym (second.1 both) ∙ neither))
  by (inr (inr both)) = third.1 both

-- the same of other bytes that are equal
pub told : (r : Bool) (a b c d : Option FrameBytes) → a ≡ b → c ≡ d → IsTrue r ↔ ShareByte a c → IsTrue r ↔ ShareByte b d
told r a b c d e f is = subst (λ (o : Option FrameBytes). IsTrue r ↔ ShareByte b o) f (subst (λ (o : Option FrameBytes). IsTrue r ↔ ShareByte o c) e is)
