use Rattle.std.proofs.Common.{◌≡◌, ◌∙◌, ◌+◌, ◌<◌, ℕ, sym, ap, subst, refl, List, [], ◌∷◌, ◌++◌, length, get_or, Some}
use Rattle.std.proofs.Common.{arith, inl, inr, length-append, length-drop, Option, None, true}
use Rattle.std.specs.Prelude.{is_some, vec_capacity}
use lib.ListN.{get_or-append}
use Rattle.std.proofs.lemmas.Bool.{cases_eq}
use Rattle.std.proofs.lemmas.List.Elements.{All-pop}
use Rattle.gt_words.specs.Answers.{IsNewSeat}
use Rattle.gt_words.specs.Conditions.{SeatOf}
use Rattle.gt_live.specs.Starting.{first_rows, IsNewDomain}
use Rattle.gt_live.specs.declared.domain.Domain.{Domain}
use Rattle.gt_live.proofs.NewDomain.{new-domain}
use Rattle.gt_live.proofs.start.make_domains.Goals as goal
use Rattle.gt_live.proofs.start.make_domains.Goals.{in-Some, in_default}

last-at : {X : Type 0} (xs : List X) (x d : X) → get_or (xs ++ x ∷ []) (length xs) d ≡ x
last-at [] x d = refl
last-at (y ∷ xs) x d = last-at xs x d

is-there : {X : Type 0} (o : Option X) → is_some o ≡ true → ((x : X) → o ≡ Some x → ⊥) → ⊥
is-there None e n = cc
is-there (Some x) e n = n x refl

pub domains-preserved : goal.domains-preserved
domains-preserved g c = elim c.match-pop.branch [
  | in-Some w ↦
      let b = c.args.monitor.now.words in let cf = c.args.monitor.now.config in let may = g.P.Allows.may c.args.monitor.now.rights in let inv = c.domains.invariant in let test = c.domains-test.true in let at = c.domains.at in
      let p = w.push_reserved.ensures in let q = w.in-Some.ensures in let r = c.remove-seat.ensures in
      let d0 : Domain = w.new.result in
      let seats = c.domains.seats.items in let made = c.domains.domains.items in
      let s1 : length c.remove-seat.new.self.items + 1 ≡ length seats = (let e = ap {B = ℕ} (λ (xs : List SeatOf). length xs) r.items in let l = length-drop 1 seats in let i1 = inv.seats in omega (arith, e, l, i1, test)) in
      let s2 : length c.pop.new.self.items + 1 ≡ length c.domains.rows.items = (let e = ap {B = ℕ} (λ xs. length xs) q.items in let l = length-append c.pop.new.self.items (w.in-Some.own ∷ []) in omega (arith, e, l)) in
      let all : c.match-pop.domains.items ≡ made ++ d0 ∷ [] = ap (λ v. v.items) w.domains-is ∙ p.items in
      let s3 : length c.match-pop.domains.items ≡ length made + 1 = (let e = ap {B = ℕ} (λ (xs : List Domain). length xs) all in let l = length-append made (d0 ∷ []) in omega (arith, e, l)) in
      let count = c.len-count.ensures in
      let popped = All-pop (λ v. v.items ≡ first_rows cf.first_gen) c.domains.rows.items c.pop.new.self.items (Some w.in-Some.own) q.items inv.new_rows in
      let i0 = inv.seats in let z0 : at + 0 ≡ at = omega arith in
      let seat : IsNewSeat b at c.remove-seat.result = subst (λ (x : SeatOf). IsNewSeat b at x) (sym r.value)
      (subst (λ (n : ℕ). IsNewSeat b n (get_or seats 0 c.remove-seat.result)) z0 (inv.new_seats 0 (omega (arith, i0, test)) c.remove-seat.result)) in
      let new : IsNewDomain b cf may at d0 = new-domain b cf may at d0 c.requires.config c.args.monitor.now.same_run (subst (λ (x : Domain). IsNewSeat b at x.seat) (sym w.new.ensures) seat) (ap (λ (x : Domain). x.own.items) w.new.ensures ∙ popped.1) (ap (λ (x : Domain). x.mappings) w.new.ensures ∙ w.new-mappings.ensures) (ap (λ (x : Domain). x.trail) w.new.ensures ∙ w.new-trail.ensures) in
      record {
        seats = (let i1 = inv.seats in omega (arith, s1, i1));
        rows = (let i1 = inv.rows in omega (arith, s2, i1));
        made = (let i1 = inv.made in omega (arith, s3, i1));
        room = (let e = ap {B = ℕ} (λ v. vec_capacity v) w.domains-is in let pc = p.capacity in let i1 = inv.room in omega (arith, e, pc, i1));
        new_rows = popped.0;
        new_seats = λ i lt d.
            subst (λ (x : SeatOf). IsNewSeat b (at + 1 + i) x) (sym (r.by_index.1 i d (omega arith)))
            (subst (λ (n : ℕ). IsNewSeat b n (get_or seats (i + 1) d)) (let z : at + (i + 1) ≡ at + 1 + i = omega arith in z) (inv.new_seats (i + 1) (omega (arith, s1, lt)) d));
        new_domains = λ i lt d.
            subst (λ (xs : List Domain). IsNewDomain b cf may i (get_or xs i d)) (sym all)
            (elim (cases_eq i at) [
              | inl e ↦
                  let m = inv.made in let z : length made ≡ i = m ∙ sym e in
                  subst (λ (x : Domain). IsNewDomain b cf may i x) (sym (ap (λ (n : ℕ). get_or (made ++ d0 ∷ []) n d) (sym z) ∙ last-at made d0 d)) (subst (λ (n : ℕ). IsNewDomain b cf may n d0) (sym e) new)
              | inr ne ↦
                  let m = inv.made in let low : i < at = omega (arith, lt, ne) in
                  subst (λ (x : Domain). IsNewDomain b cf may i x) (sym (get_or-append made (d0 ∷ []) d i (omega (arith, low, m)))) (inv.new_domains i low d)
            ]);
      }
  | in_default w ↦
      let inv = c.domains.invariant in let test = c.domains-test.true in let i1 = inv.rows in let ok = c.domains.rows.ok.0 in
      let pos : 0 < c.domains.rows.len = omega (arith, i1, ok, test) in absurd (is-there c.pop.result (c.pop.ensures.variant.1 pos) w.in_default.not-Some)
]
