-- Whether some task of a list, from an index on, passes a test before one awaits a shut flag.
use Rattle.std.proofs.Common.{◌≡◌, ◌+◌, ℕ, zero, suc, refl, Bool, true, false, cond, List, [], ◌∷◌}
use Rattle.std.proofs.Common.{drop, sym, ap, ◌∙◌, add-one}
use Rattle.std.specs.List.{list_any}
use Rattle.std.specs.Prelude.{slice_get, ◌||◌}
use Rattle.std.proofs.lemmas.Bool.{true≢false}
use Rattle.gt_script.specs.Lists.{RunTask}
use Rattle.gt_explore_moves.specs.Touches.{awaits_shut, of_task, reachable}

module _ (shut : List Bool) (test : RunTask → Bool) where
  -- the first of these tasks, and what is in reach behind it
  here-any : (t : RunTask) (ts : List RunTask) → awaits_shut shut t ≡ false
      → list_any test (reachable shut (t ∷ ts)) ≡ (test t || list_any test (reachable shut ts))
  here-any t ts on = ap (λ (b : Bool). list_any test (cond b [] (t ∷ reachable shut ts))) on

  pub any-here : (n : ℕ) (ts : List RunTask) → of_task (awaits_shut shut) (slice_get ts n) ≡ false
      → of_task test (slice_get ts n) ≡ true → list_any test (reachable shut (drop n ts)) ≡ true
  any-here n [] on is = absurd (true≢false (sym is))
  any-here zero (t ∷ ts) on is = here-any t ts on ∙ ap (λ (b : Bool). b || list_any test (reachable shut ts)) is
  any-here (suc n) (t ∷ ts) on is = any-here n ts on is

  pub any-stop : (n : ℕ) (ts : List RunTask) → of_task (awaits_shut shut) (slice_get ts n) ≡ true
      → list_any test (reachable shut (drop n ts)) ≡ false
  any-stop n [] stop = absurd (true≢false (sym stop))
  any-stop zero (t ∷ ts) stop = ap (λ (b : Bool). list_any test (cond b [] (t ∷ reachable shut ts))) stop
  any-stop (suc n) (t ∷ ts) stop = any-stop n ts stop

  pub any-step : (n : ℕ) (ts : List RunTask) → of_task (awaits_shut shut) (slice_get ts n) ≡ false
      → of_task test (slice_get ts n) ≡ false
      → list_any test (reachable shut (drop (n + 1) ts)) ≡ list_any test (reachable shut (drop n ts))
  any-step n ts on is = ap (λ (m : ℕ). list_any test (reachable shut (drop m ts))) (add-one n) ∙ by n ts on is where
    by : (m : ℕ) (us : List RunTask) → of_task (awaits_shut shut) (slice_get us m) ≡ false
        → of_task test (slice_get us m) ≡ false
        → list_any test (reachable shut (drop (suc m) us)) ≡ list_any test (reachable shut (drop m us))
    by zero [] f e = refl
    by (suc m) [] f e = refl
    by zero (u ∷ us) f e = sym (here-any u us f ∙ ap (λ (b : Bool). b || list_any test (reachable shut us)) e)
    by (suc m) (u ∷ us) f e = by m us f e
