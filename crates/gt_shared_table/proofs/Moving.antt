-- From what the caller of a step on a word shows to what the table underneath asks for.
use Rattle.std.proofs.Common.{◌≡◌, ℕ, ◌<◌, [], ap, get_or, refl, sym, ◌∙◌, subst}
use mathlib.Core.Option.{none}
use lib.ListN.{get_elem?}
use Rattle.std.specs.Prelude.{slice_index, false}
use Rattle.atomic_table.specs.Table.{Allows, Me, Step as TableStep, keeps, step}
use Rattle.atomic_table.proofs.Lists.{at_map}
use Rattle.gt_word_history.specs.History.{header_place}
use Rattle.gt_word_history.specs.Joining.{Learns, TableHolds, promises_own}
use Rattle.gt_word_history.specs.Moves.{MayTake}
use Rattle.gt_word_history.specs.Rule.{Layout, Shows}
use Rattle.gt_word_history.specs.Steps.{StepKind, promises_step}
use Rattle.gt_word_history.proofs.Joining.{first_id, holders_learn, lifted}
use Rattle.gt_shared_table.specs.declared.rule.FrameHolder.{FrameHolder}
use Rattle.gt_shared_table.specs.Bytes.{IsOnWords}
use Rattle.gt_shared_table.specs.Rule.{Cell, HoldsAll, Places, inner, own_of}
use Rattle.gt_shared_table.specs.Seats.{learns_all_of}
use Rattle.gt_shared_table.specs.Words.{IsAlone, promises_word, promises_word_stored}
use Rattle.gt_shared_table.proofs.Steps.{nothing_found, steps}

module _ (b : Places) (d : StepKind) (f : ℕ → ℕ) (at here slots id : ℕ) (me : Me Cell FrameHolder) (x y : ℕ)
    (alone : IsAlone me) (same : at ≡ here) (before : here < header_place b.layout.domains) (of_run : d.layout ≡ b.layout)
    (leaves : d.leaves ≡ f) (is : (n : ℕ) → IsOnWords (d.step n)) (may : MayTake d at me.0.own.own) where
  allowed : Allows {S = Unit {0}} (Shows b.layout) slots id (me.0.own.own, []) at f (promises_step d (step slots at x y none) (me.0.own.own, []))
  allowed = subst (λ (q : Layout × (ℕ → ℕ)). Allows {S = Unit {0}} (Shows q.0) slots id (me.0.own.own, []) at q.1 (promises_step d (step slots at x y none) (me.0.own.own, [])))
      (λ i. (of_run i, leaves i)) (may slots id)

  in_words : Allows (TableHolds b.layout) slots id (me.0.own, []) here f (promises_own d (step slots here x y none) (me.0.own, []))
  in_words = lifted b.layout slots id (me.0.own, []) at here f d (step slots at x y none) (step slots here x y none) alone.3 same (ap (λ (i : ℕ). step slots i x y none) same) allowed

  -- a step that reports what it found
  pub moved : Allows (HoldsAll b) slots id me here f (promises_word d (step slots here x y none) me)
  moved = steps b slots id me here f d (step slots here x y none) alone.3 before is in_words

  -- a store, which does not report it
  pub moved_store : Allows (HoldsAll b) slots id me here f (λ _. promises_word_stored d (step slots here x y none) me)
  moved_store s holds many found fits = let z = moved s holds many found fits in (z.0, z.1, z.2, z.3, (get_or s.words here 0, z.4))

-- a look that tells of all seats
pub learns : (b : Places) (slots id : ℕ) (me : Me Cell FrameHolder) (at : ℕ) (d : StepKind) (st : TableStep Cell) → me.0.own.own.position ≡ 0 → me.0.own.gone ≡ false → d.layout ≡ b.layout
    → Allows (HoldsAll b) slots id me at (λ n. n) (learns_all_of d st me)
learns b slots id me at d st own here of_run s holds many found bound =
    let seen = at_map own_of s.views id me.0 found in
    let first = first_id b.layout (inner b s) holds.words id me.0.own seen here own in (
      me.0,
      keeps,
      tt,
      nothing_found b s holds id me.0 found at (slice_index s.words at) refl me.1,
      (refl, subst (λ (l : Layout). Learns l me.0.own) (sym of_run) (holders_learn b.layout (inner b s) me.0.own holds.words (ap (λ (i : ℕ). get_elem? (inner b s).views i) (sym first) ∙ seen) here)),
    )
