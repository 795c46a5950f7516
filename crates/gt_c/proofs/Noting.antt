-- A domain whose entries were all noted.
use Rattle.std.proofs.Common.{◌≡◌, ◌∙◌, ℕ, zero, suc, ap, refl, subst, sym}
use Rattle.gt_c.specs.Grantees.{noted_first}
use Rattle.gt_c.specs.Prelude.{CDomain, Seated, Table}

-- nothing else changed
again : (n : ℕ) (d : CDomain) → record (noted_first n d) { granted = d.granted } ≡ d
again zero d = refl
again (suc n) d = again n d

pub noted-run : (n : ℕ) (x k : CDomain) (g : Seated Table) → k ≡ noted_first n (record x { attached = g }) → k.run ≡ x.run
noted-run n x k g e = ap (λ (y : CDomain). y.run) e ∙ ap (λ (y : CDomain). y.run) (again n (record x { attached = g }))

pub noted-attached : (n : ℕ) (x k : CDomain) (g : Seated Table) → k ≡ noted_first n (record x { attached = g }) → k.attached ≡ g
noted-attached n x k g e =
    ap (λ (y : CDomain). y.attached) e ∙ ap (λ (y : CDomain). y.attached) (again n (record x { attached = g }))

pub noted-all : (n : ℕ) (x k : CDomain) (g : Seated Table) → k ≡ noted_first n (record x { attached = g })
    → k.granted ≡ (noted_first n (record k { granted = x.granted })).granted
noted-all n x k g e =
    subst (λ (y : CDomain). y.granted ≡ (noted_first n (record y { granted = x.granted })).granted) (sym e)
    (ap (λ (y : CDomain). (noted_first n y).granted) (sym (again n (record x { attached = g }))))

-- the first n entries were noted, and n is all of them
pub noted-to : (n all : ℕ) (d k : CDomain) → n ≡ all → k ≡ noted_first n d → k ≡ noted_first all d
noted-to n all d k is e = subst (λ (m : ℕ). k ≡ noted_first m d) is e
