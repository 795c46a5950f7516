-- What holds of a guest's domain beside the monitor that it was lent holds of the guest as contracts see it.
use Rattle.std.proofs.Common.{◌≡◌, ◌∙◌, ap, refl, subst, sym, Bool, true, false, Option, Some, None, IsSome}
use mathlib.Core.Bool.{true≢false}
use Rattle.gt_live.specs.declared.domain.Domain.{Domain}
use Rattle.gt_live.specs.declared.domain.copies.PendingCopy.{PendingCopy}
use Rattle.gt_live.specs.declared.monitor.Monitor.{Monitor}
use Rattle.gt_types.specs.declared.copies.CopyArgs.{CopyArgs}
use Rattle.gt_live.specs.Domains.{AllowRelation, BelongsTo}
use Rattle.gt_live.specs.Halves.{BecomesPending, IsPending}
use Rattle.gt_attached.specs.Seated.{Seated, StandsBy, copy_in_place}

pub beside : {P : Type 0} {m n : Monitor P} {d : Domain} {o : Option PendingCopy} {s : Seated P} (Q : Monitor P → Domain → Type 0)
    → m ≡ n → ◌≡◌ {A = Seated P} (record { monitor = n; domain = d; copying = o }) s → Q m d → Q s.monitor s.domain
beside {P} {m} {n} {d} {o} {s} Q e v q = subst (λ (t : Seated P). Q t.monitor t.domain) v (subst (λ (k : Monitor P). Q k d) e q)

pub idle : {P : Type 0} (may : P → AllowRelation) {m n : Monitor P} {d : Domain} {o : Option PendingCopy} {s : Seated P}
    → m ≡ n → ◌≡◌ {A = Seated P} (record { monitor = n; domain = d; copying = o }) s → s.copying ≡ None → StandsBy may n d o
    → BelongsTo may m d
idle {P} may {m} {n} {d} {o} {s} e v none stands =
    subst (λ (k : Monitor P). BelongsTo may k d) (sym e)
    (subst (λ (x : Option PendingCopy). StandsBy may n d x) (ap (λ (t : Seated P). t.copying) v ∙ none) stands)

pub still : {P : Type 0} (may : P → AllowRelation) {m n : Monitor P} {d e : Domain} {o : Option PendingCopy} {s : Seated P}
    → m ≡ n → ◌≡◌ {A = Seated P} (record { monitor = n; domain = d; copying = o }) s → s.copying ≡ None → BelongsTo may m e
    → StandsBy may n e o
still {P} may {m} {n} {d} {e} {o} {s} q v none mine =
    subst (λ (x : Option PendingCopy). StandsBy may n e x) (sym (ap (λ (t : Seated P). t.copying) v ∙ none))
    (subst (λ (k : Monitor P). BelongsTo may k e) q mine)

pub stands-there : {P : Type 0} (may : P → AllowRelation) (m n : Monitor P) (d e : Domain) (copy : CopyArgs) (h : PendingCopy)
    → m ≡ n → BelongsTo may m d → BecomesPending may m d copy h e → IsPending may n h e
stands-there {P} may m n d e copy h q mine comes =
    subst (λ (k : Monitor P). IsPending may k h e) q (d, mine, subst (λ (x : CopyArgs). BecomesPending may m d x h e) (sym comes.asked) comes)

-- a domain in a copy is in the one that is kept
pub is-in : (b : Bool) (h : PendingCopy) → IsSome (copy_in_place b h) → copy_in_place b h ≡ Some h
is-in true h some = refl
is-in false h some = absurd (true≢false (sym some))

pub at-access : {P : Type 0} (may : P → AllowRelation) {m n : Monitor P} {d : Domain} {s : Seated P} (b : Bool) (h : PendingCopy)
    → m ≡ n → ◌≡◌ {A = Seated P} (record { monitor = n; domain = d; copying = copy_in_place b h }) s → IsSome s.copying
    → StandsBy may n d (copy_in_place b h) → IsPending may m h d
at-access {P} may {m} {n} {d} {s} b h e v some stands =
    let there : IsSome (copy_in_place b h) = subst (λ (o : Option PendingCopy). IsSome o) (sym (ap (λ (t : Seated P). t.copying) v)) some in
    subst (λ (k : Monitor P). IsPending may k h d) (sym e) (subst (λ (x : Option PendingCopy). StandsBy may n d x) (is-in b h there) stands)
