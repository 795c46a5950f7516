-- An order with a moment at which the claim holds is a run up to the first such moment.
use Rattle.std.proofs.Common.{◌≡◌, ℕ, Bool, true, false, refl, List, [], ◌∷◌, ◌++◌, sym, ◌∙◌, arith}
use Rattle.std.proofs.Common.{subst, append_assoc, append-nil}
use Rattle.std.proofs.lemmas.Option.{slice_get_within}
use Rattle.std.specs.Prelude.{slice_set, vec_len}
use Rattle.gt_explore_moves.proofs.Ways.{may-follow}
use Rattle.gt_explore_moves.specs.Scenes.{IsSceneOf}
use Rattle.gt_explore_moves.specs.Spaces.{Point}
use Rattle.gt_explore_moves.specs.declared.scene.SearchContext.{SearchContext}
use Rattle.gt_explore_replay.specs.Courses.{Course, IsTurnedBy, TurnsLead, first_courses}
use Rattle.gt_explore_replay.specs.Orders.{Happening, IsOrderOf}
use Rattle.gt_explore_replay.specs.Walking.{HaveOwnIds}
use Rattle.gt_explore_search.specs.Exploring.{AllTextsFound}
use Rattle.gt_explore_search.specs.Ways.{GoesTo}
use Rattle.gt_explore_search.specs.declared.exploring.SearchResult.{SearchResult}
use Rattle.gt_explore_search.specs.declared.spaces.Turn.{Turn}
use Rattle.gt_script.specs.Contents.{type_names}
use Rattle.gt_script.specs.RunContents.{RunContents}
use Rattle.gt_state_claims.specs.Claims.{ClaimAsked}
use Rattle.gt_explore_states.specs.Moments.{HoldsNowhere, holds_after}
use Rattle.gt_explore_states.specs.Spaces.{moment_ways}

-- the first moment

abbrev point : RunContents → List Happening → List Course → Point
point c hs ks = record { script = c; happened = hs; courses = ks }

module _ (scene : SearchContext) (asked : ClaimAsked) (c : RunContents) (whole : List Happening) (text : List ℕ) (order : IsOrderOf c whole text) where
  abbrev Ends : List Happening → List Course → Type 0
  Ends done ks = (ts : List Turn) × (q : Point) × GoesTo (moment_ways scene asked) (point c done ks) ts q

  first-moment : (done left after : List Happening) (ks : List Course) (turns : List Turn) (ends : List Course) → whole ≡ done ++ (left ++ after) → TurnsLead (type_names c.head) ks (left ++ after) turns ends
      → holds_after c asked (done ++ left) ≡ true → Ends done ks
  first-moment done [] after ks turns ends parts leads holds =
      ([], point c done ks, (refl, subst (λ (hs : List Happening). holds_after c asked hs ≡ true) (append-nil done) holds))
  first-moment done (x ∷ left) after ks [] ends parts leads holds = absurd leads
  first-moment done (x ∷ left) after ks (t ∷ ts) ends parts (k, j, there, leads, rest) holds =
      by (holds_after c asked done) refl
      (first-moment (done ++ x ∷ []) left after (slice_set ks t.place j) ts ends (parts ∙ sym (append_assoc done (x ∷ []) (left ++ after))) rest
      (subst (λ (hs : List Happening). holds_after c asked hs ≡ true) (sym (append_assoc done (x ∷ []) left)) holds))
    where
      by : (b : Bool) → holds_after c asked done ≡ b → Ends (done ++ x ∷ []) (slice_set ks t.place j) → Ends done ks
      by true e more = ([], point c done ks, (refl, e))
      by false e (us, q, goes) = (
        t ∷ us,
        q,
        (
          point c (done ++ x ∷ []) (slice_set ks t.place j),
          (
            e,
            record {
              script = refl;
              k = k;
              j = j;
              x = x;
              there = there;
              leads = leads;
              next = may-follow c done x (left ++ after) text (subst (λ (hs : List Happening). IsOrderOf c hs text) parts order);
              happened = refl;
              courses = refl;
            },
          ),
          goes,
        ),
      )

-- if all were found, and none was, there is none
pub holds-nowhere : (scene : SearchContext) (asked : ClaimAsked) (c : RunContents) (found : SearchResult) → IsSceneOf c scene
    → ((d : RunContents) (hs : List Happening) (text : List ℕ) → HaveOwnIds d.head.domains → IsOrderOf d hs text → (turns : List Turn) × IsTurnedBy d hs turns text)
    → AllTextsFound (moment_ways scene asked) found → vec_len found.orders ≡ 0 → HoldsNowhere c asked
holds-nowhere scene asked c found is turned all none hs (after, text, order) = by (holds_after c asked hs) refl
  where
    by : (b : Bool) → holds_after c asked hs ≡ b → holds_after c asked hs ≡ false
    by false e = e
    by true e =
        let t = turned c (hs ++ after) text is.setting.apart order in
        let r = first-moment scene asked c (hs ++ after) text order [] hs after (first_courses c) t.0 t.1.ends refl t.1.leads e in
        let f = all (point c [] (first_courses c)) r.0 r.1 (record { scene_is = is; happened = refl; courses = refl }) r.2 in
        let within = slice_get_within found.orders.items f.0 f.1 f.2 in
        absurd (omega (arith, within, none, found.orders.ok.0))
