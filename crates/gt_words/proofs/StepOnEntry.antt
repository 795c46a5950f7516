-- A step on an entry takes the state that words and views show to the one that its event gives.
use Rattle.std.proofs.Common.{◌≡◌, ℕ, List, [], ◌∷◌, map, get_or, set, sym, refl, ap, ◌∙◌, subst}
use mathlib.Core.Option.{some}
use lib.ListN.{get_elem?}
use lib.Seq.{map-set}
use Rattle.atomic_table.proofs.Lists.{at_map, set_again}
use Rattle.gt_words.proofs.Lists.{whose_at, whose_here}
use Rattle.gt_words.proofs.OneEntry.{same_owner}
use Rattle.gt_word_history.specs.Events.{IsByOwner, entry_after}
use Rattle.gt_word_history.specs.History.{entry_by}
use Rattle.gt_word_history.specs.Rule.{owner_steps}
use Rattle.gt_word_history.specs.Views.{LivePin, last_record, live_pins, stored_body, without_pin}
use Rattle.gt_word_history.specs.declared.view.EntryStep.{EntryStep}
use Rattle.gt_word_history.specs.declared.view.EntryStep.TheVariants.{ChangeMissed, Changed, Looked, PinMissed}
use Rattle.gt_word_history.specs.declared.view.EntryStep.TheVariants.{Pinned, ReadBody, StoredBody, Unpinned}
use Rattle.gt_model.specs.declared.change.BodyWord.TheVariants.{First, Second}

module _ (g t : ℕ) (hs : List (List EntryStep)) (i : ℕ) (h : List EntryStep) (at : get_elem? hs i ≡ some h) where
  live_here : (m : EntryStep) → map live_pins (set hs i (m ∷ h)) ≡ set (map live_pins hs) i (live_pins (m ∷ h))
  live_here m = map-set live_pins hs i (m ∷ h)

  live_same : (m : EntryStep) → live_pins (m ∷ h) ≡ live_pins h → map live_pins (set hs i (m ∷ h)) ≡ map live_pins hs
  live_same m e = live_here m ∙ (ap (set (map live_pins hs) i) e ∙ set_again (map live_pins hs) i (live_pins h) (at_map live_pins hs i h at))

  live_is : get_or (map live_pins hs) i [] ≡ live_pins h
  live_is = whose_at (map live_pins hs) i (live_pins h) (at_map live_pins hs i h at)

  plain : (m : EntryStep) → last_record g (m ∷ h) ≡ last_record g h → stored_body First (m ∷ h) ≡ stored_body First h → stored_body Second (m ∷ h) ≡ stored_body Second h → (l : List (List LivePin)) → map live_pins (set hs i (m ∷ h)) ≡ l
      → entry_by g t (set hs i (m ∷ h)) ≡ record (entry_by g t hs) { live = l }
  plain m a b c l e = λ j. record { current = same_owner g t hs i h at (last_record g) m a j; first = same_owner g t hs i h at (stored_body First) m b j; second = same_owner g t hs i h at (stored_body Second) m c j; live = e j }

  owned : (m : EntryStep) → i ≡ t → live_pins (m ∷ h) ≡ live_pins h
      → entry_by g t (set hs i (m ∷ h)) ≡ record { current = last_record g (m ∷ h); first = stored_body First (m ∷ h); second = stored_body Second (m ∷ h); live = map live_pins hs }
  owned m e p = let o : owner_steps t (set hs i (m ∷ h)) ≡ m ∷ h = subst (λ (u : ℕ). owner_steps u (set hs i (m ∷ h)) ≡ m ∷ h) e (whose_here hs i h (m ∷ h) at) in
      λ j. record { current = last_record g (o j); first = stored_body First (o j); second = stored_body Second (o j); live = live_same m p j }

  mine_is : i ≡ t → h ≡ owner_steps t hs
  mine_is e = sym (whose_at hs t h (subst (λ (u : ℕ). get_elem? hs u ≡ some h) e at))

  -- on the entry itself
  pub happens_here : (m : EntryStep) → IsByOwner i t m → entry_by g t (set hs i (m ∷ h)) ≡ entry_after i m (entry_by g t hs)
  happens_here (Looked n) may = plain (Looked n) refl refl refl (map live_pins hs) (live_same (Looked n) refl)
  happens_here (ReadBody p n) may = plain (ReadBody p n) refl refl refl (map live_pins hs) (live_same (ReadBody p n) refl)
  happens_here (PinMissed d e f n) may = plain (PinMissed d e f n) refl refl refl (map live_pins hs) (live_same (PinMissed d e f n) refl)
  happens_here (ChangeMissed c e f n) may = plain (ChangeMissed c e f n) refl refl refl (map live_pins hs) (live_same (ChangeMissed c e f n) refl)
  happens_here (Pinned d e y) may = plain (Pinned d e y) refl refl refl (set (map live_pins hs) i ((d, y) ∷ get_or (map live_pins hs) i [])) (live_here (Pinned d e y) ∙ ap (λ (l : List LivePin). set (map live_pins hs) i ((d, y) ∷ l)) (sym live_is))
  happens_here (Unpinned d n) may = plain (Unpinned d n) refl refl refl (set (map live_pins hs) i (without_pin d n (get_or (map live_pins hs) i []))) (live_here (Unpinned d n) ∙ ap (λ (l : List LivePin). set (map live_pins hs) i (without_pin d n l)) (sym live_is))
  happens_here (StoredBody First n) may = owned (StoredBody First n) may refl ∙ (λ j. record { current = last_record g (mine_is may j); first = n; second = stored_body Second (mine_is may j); live = map live_pins hs })
  happens_here (StoredBody Second n) may = owned (StoredBody Second n) may refl ∙ (λ j. record { current = last_record g (mine_is may j); first = stored_body First (mine_is may j); second = n; live = map live_pins hs })
  happens_here (Changed c e n y) may = owned (Changed c e n y) may refl ∙ (λ j. record { current = y; first = stored_body First (mine_is may j); second = stored_body Second (mine_is may j); live = map live_pins hs })
