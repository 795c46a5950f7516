-- The rule at the start.
use Rattle.std.proofs.Common.{◌≡◌, ℕ, zero, suc, List, [], ◌∷◌, map, sym, ap, ◌∙◌, subst}
use Rattle.std.specs.Prelude.{Some}
use mathlib.Core.Option.{Option as Maybe, some, some-injective, some-ne-none}
use lib.ListN.{get_elem?}
use Rattle.atomic_table.specs.Table.{State, opening}
use Rattle.atomic_table.proofs.Lists.{at_map, some_there}
use Rattle.gt_word_history.specs.History.{Layout, StepHistory}
use Rattle.gt_word_history.specs.Rule.{Stands}
use Rattle.gt_word_history.specs.Views.{IsAmong}
use Rattle.gt_word_history.specs.declared.view.Outlook.{Outlook}
use Rattle.gt_word_history.specs.declared.view.View.{View}
use Rattle.gt_shared_table.specs.declared.rule.FrameHolder.{FrameHolder}
use Rattle.gt_shared_table.specs.Laws.{FramesOpen}
use Rattle.gt_shared_table.specs.Rule.{AreOnce, Has, FramesAreKept, hidden, made, newcomer}

-- what words and views show says nothing of slots
other_homes : (k : Layout) (h : StepHistory) (s : State (Unit {0}) View) (hs : List (Maybe (Unit {0}))) → Stands k h s → Stands k h (record { words = s.words; homes = hs; views = s.views })
other_homes k h s hs is = record {
  wide = is.wide;
  dealt = is.dealt;
  seats = is.seats;
  entries = is.entries;
  headers = is.headers;
  led_here = record { parts = is.led_here.parts; no_other = is.led_here.no_other; words = is.led_here.words; true_steps = is.led_here.true_steps };
}

no_frames : (o : Outlook) (j : ℕ) (v : FrameHolder) → get_elem? (newcomer o ∷ []) j ≡ some v → v.held ≡ []
no_frames o zero v e = ap (λ (z : FrameHolder). z.held) (sym (some-injective (newcomer o) v e))
no_frames o (suc j) v e = absurd (some-ne-none v (sym e))

pub opens_all : FramesOpen
opens_all b ws xs o words nothing_yet apart frames many wide zeros = record {
  words = record {
    shown = record { history = words.shown.history; now = other_homes b.layout words.shown.history _ (map hidden (map some xs)) words.shown.now; stood = words.shown.stood };
    taken = words.taken;
  };
  frames = subst (λ h. FramesAreKept b h (opening ws xs (newcomer o))) (sym nothing_yet) (record {
    truth = tt;
    apart = apart;
    home = λ q n y named found. sym (some-injective _ y (some-injective (some (Some (made b [] n))) (some y) (sym (at_map some xs q (Some (made b [] n)) (frames q n named)) ∙ found)));
    values = λ j v p n found is named. absurd (subst (IsAmong p) (no_frames o j v found) is);
    out = λ j v q found has. absurd (subst (Has q) (no_frames o j v found) has);
    one = λ i j v w q found also has too. absurd (subst (Has q) (no_frames o i v found) has);
    once = λ j v found. subst AreOnce (sym (no_frames o j v found)) tt;
    free = λ q lt is. some_there xs q (many q lt);
    wide = wide;
    flags = λ f is. absurd (is (zeros f));
  });
}
