-- The moves and turns of the runs that end at races.
use Rattle.std.proofs.Common.{◌≡◌, ◌<◌, ◌+◌, ◌++◌, ◌⊎◌, ℕ, suc, List, [], ◌∷◌, length, Option, Some, None, sym, ap, ◌∙◌, subst, inl, inr, arith, append-nil, append_assoc, Vec, Global}
use Rattle.std.proofs.lemmas.Option.{none-some, same_Some, slice_get_within}
use Rattle.std.specs.Prelude.{slice_get}
use Rattle.gt_explore_moves.specs.Spaces.{Point, RunComesTo, scene_ways}
use Rattle.gt_explore_moves.specs.declared.scene.SearchContext.{SearchContext}
use Rattle.gt_explore_moves.specs.declared.scene.SearchState.{SearchState}
use Rattle.gt_explore_replay.proofs.Places.{get_end, get_left}
use Rattle.gt_explore_search.proofs.Finding.{each_enough}
use Rattle.gt_explore_search.specs.Parts.{Extends}
use Rattle.gt_explore_search.specs.Ways.{HasEachTurn, HasEnoughTurns, IsShownSo, LedFits, MovesTo, ShowsFirst, only_at}
use Rattle.gt_explore_search.specs.declared.spaces.Turn.{Turn}
use Rattle.gt_explore_search.specs.declared.spaces.TurnResult.{TurnResult}
use Rattle.gt_explore_search.specs.declared.spaces.TurnResult.TheVariants.{Answered, Nowhere, On}
use Rattle.gt_explore_races.specs.Spaces.{AreToRace, HasRaceAt, HasRacesBelow, HasRacesOf, RacePoint, ShowsRun}
use Rattle.gt_explore_races.specs.Spaces.{race_ways, said_by, quieted}
use Rattle.gt_explore_races.specs.Texts.{race_of, race_text}
use Rattle.gt_explore_races.specs.declared.racing.Race.{Race}

module _ (scene : SearchContext) where
  -- what is shown

  shown : (w : SearchState) (run : Point) (said : Option (ℕ × List ℕ)) → said ≡ None → ShowsRun scene w run said → (scene_ways scene).shows w run
  shown w run None e shows = shows
  shown w run (Some s) e shows = absurd (none-some s (sym e))

  shows-run : (w : SearchState) (run : Point) (said : Option (ℕ × List ℕ)) → said ≡ None → (scene_ways scene).shows w run → ShowsRun scene w run said
  shows-run w run None e shows = shows
  shows-run w run (Some s) e shows = tt

  shows-over : (w : SearchState) (run : Point) (said : Option (ℕ × List ℕ)) (s : ℕ × List ℕ) → said ≡ Some s → ShowsRun scene w run said
  shows-over w run None s e = absurd (none-some s e)
  shows-over w run (Some t) s e = tt

  carried : (w v : SearchState) → IsShownSo (scene_ways scene) w v → (run : Point) (said : Option (ℕ × List ℕ)) → ShowsRun scene w run said → ShowsRun scene v run said
  carried w v so run None shows = so run shows
  carried w v so run (Some s) shows = tt

  pub shown-so : (w v : SearchState) → IsShownSo (scene_ways scene) w v → IsShownSo (race_ways scene) w v
  shown-so w v so p shows = carried w v so p.run p.said shows

  pub shows-first : (w : SearchState) → ShowsFirst (scene_ways scene) w → ShowsFirst (race_ways scene) w
  shows-first w first p begins = shows-run w p.run p.said begins.1 (first p.run begins.0)

  -- moves

  quiet : (p q : RacePoint) → p.said ≡ None → q.said ≡ None → (at : ℕ) → said_by q.said at ≡ said_by p.said at ++ []
  quiet p q e f at = ap (λ (said : Option (ℕ × List ℕ)). said_by said at) f ∙ sym (ap (λ (said : Option (ℕ × List ℕ)). said_by said at ++ []) e)

  fits : (led : TurnResult) (place : ℕ) (p q : RacePoint) → p.said ≡ None → q.said ≡ None → LedFits (scene_ways scene) led place p.run q.run → LedFits (race_ways scene) (quieted led) place p q
  fits Nowhere place p q e f led = led
  fits On place p q e f led = quiet p q e f
  fits (Answered line) place p q e f led = quiet p q e f

  -- a move of the script
  pub moves-silent : (old : SearchState) (turn : Turn) (led : TurnResult) (new : SearchState) → MovesTo (scene_ways scene) old turn led new
      → ((p : Point) (other k l : ℕ) → (scene_ways scene).shows old p → turn.choice ≡ suc other → AreToRace p turn.place other k l → None ≡ Some (race_of k l))
      → MovesTo (race_ways scene) old turn (quieted led) new
  moves-silent old turn led new moves none p q shows next =
      let here = shown old p.run p.said next.0 shows in
      elim next.1 [
        | inl (run, still) ↦ (fits led turn.place p q next.0 still (moves p.run q.run here run).0, shows-run new q.run q.said still (moves p.run q.run here run).1)
        | inr ends ↦ absurd (none-some (race_of ends.k ends.l) (none p.run ends.other ends.k ends.l here ends.choice ends.race))
      ]

  -- a move that ends a run at a race
  pub moves-over : (old : SearchState) (turn : Turn) (race : Race) (line : Vec ℕ Global) (new : SearchState) → line.items ≡ race_text race
      → ((p : Point) (other k l : ℕ) → (scene_ways scene).shows old p → turn.choice ≡ suc other → AreToRace p turn.place other k l → Some race ≡ Some (race_of k l))
      → ((p q : Point) → (scene_ways scene).shows old p → RunComesTo p turn q → ⊥)
      → MovesTo (race_ways scene) old turn (Answered line) new
  moves-over old turn race line new text same none p q shows next =
      let here = shown old p.run p.said next.0 shows in
      elim next.1 [
        | inl (run, still) ↦ absurd (none p.run q.run here run)
        | inr ends ↦ (
          λ at. ap (λ (said : Option (ℕ × List ℕ)). said_by said at) ends.said
              ∙ ap (λ (t : List ℕ). only_at turn.place t at) (ap race_text (sym (same_Some race (race_of ends.k ends.l) (same p.run ends.other ends.k ends.l here ends.choice ends.race))) ∙ sym text)
              ∙ sym (ap (λ (said : Option (ℕ × List ℕ)). said_by said at ++ only_at turn.place line.items at) next.0),
          shows-over new q.run q.said _ ends.said,
        )
      ]

  -- turns

  pub still-there : (old new : List Turn) → Extends old new → (t : Turn) → (at : ℕ) × (slice_get old at ≡ Some t) → (at : ℕ) × (slice_get new at ≡ Some t)
  still-there old new (more, is) t (at, there) =
      (at, ap (λ (l : List Turn). slice_get l at) is ∙ get_left old more at (slice_get_within old at t there) ∙ there)

  pub enough : (w : SearchState) (old new : List Turn) → HasEachTurn (scene_ways scene) w old → Extends old new → HasRacesBelow scene w (length w.actors.items) new → HasEnoughTurns (race_ways scene) w new
  enough w old new each grown races = each_enough (race_ways scene) w new (λ p turn q shows next.
      let here = shown w p.run p.said next.0 shows in
      elim next.1 [
        | inl (run, still) ↦ still-there old new grown turn (each p.run turn q.run here run)
        | inr ends ↦ let below = slice_get_within p.run.courses turn.place ends.race.first_next.course ends.race.first_next.there in let many = here.1.many in
            let also = slice_get_within p.run.courses ends.other ends.race.second_next.course ends.race.second_next.there in
            let listed = races turn.place (omega (arith, below, many)) ends.other ends.later (omega (arith, also, many)) p.run ends.k ends.l here ends.race in
            (listed.0, listed.1 ∙ ap (λ (n : ℕ). Some (record { place = turn.place; choice = n })) (sym ends.choice))
      ])

  -- turns that were appended

  pub grown-none : (xs : List Turn) → Extends xs xs
  grown-none xs = ([], sym (append-nil xs))

  pub grown-on : (xs ys zs : List Turn) → Extends xs ys → Extends ys zs → Extends xs zs
  grown-on xs ys zs (more, e) (last, f) = (more ++ last, f ∙ ap (λ (l : List Turn). l ++ last) e ∙ append_assoc xs more last)

  pub pushed : (w : SearchState) (one other : ℕ) (old new : List Turn) → new ≡ old ++ record { place = one; choice = other + 1 } ∷ [] → Extends old new × HasRaceAt scene w one other new
  pushed w one other old new e =
      let next : other + 1 ≡ suc other = omega arith in
      let t : Turn = record { place = one; choice = other + 1 } in (
        (t ∷ [], e),
        λ p k l shows race. (
          length old,
          ap (λ (l : List Turn). slice_get l (length old)) e ∙ get_end old t ∙ ap (λ (n : ℕ). Some (record { place = one; choice = n })) next,
        ),
      )

  at-or-below : (at n : ℕ) → at < n + 1 → (at < n) ⊎ (at ≡ n)
  at-or-below at n lt = grind arith

  -- a turn of one more race of a domain
  pub races-more : (w : SearchState) (one n : ℕ) (old new : List Turn) → HasRacesOf scene w one n old → Extends old new → HasRaceAt scene w one n new → HasRacesOf scene w one (n + 1) new
  races-more w one n old new before grown here other lt below = elim (at-or-below other n below) [
    | inl less ↦ λ p k l shows race. still-there old new grown (record { place = one; choice = suc other }) (before other lt less p k l shows race)
    | inr same ↦ subst (λ (m : ℕ). HasRaceAt scene w one m new) (sym same) here
  ]

  -- the turns of the races of one more domain
  pub domains-more : (w : SearchState) (n : ℕ) (old new : List Turn) → HasRacesBelow scene w n old → Extends old new → HasRacesOf scene w n (length w.actors.items) new → HasRacesBelow scene w (n + 1) new
  domains-more w n old new before grown here one below = elim (at-or-below one n below) [
    | inl less ↦ λ other lt under p k l shows race. still-there old new grown (record { place = one; choice = suc other }) (before one less other lt under p k l shows race)
    | inr same ↦ subst (λ (m : ℕ). HasRacesOf scene w m (length w.actors.items) new) (sym same) here
  ]
