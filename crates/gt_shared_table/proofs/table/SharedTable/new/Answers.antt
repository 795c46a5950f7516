use Rattle.std.proofs.Common.{◌≡◌, ⊎_elim, ℕ, ◌+◌, ◌*◌, ◌^◌, ◌<◌, ◌≤◌, List, [], length, map, take, get_or, slice_index_or, ap, ◌∙◌, sym, subst, arith}
use Rattle.std.proofs.Common.{length-take}
use Rattle.std.proofs.lemmas.Bool.{cases_lt}
use Rattle.std.proofs.lemmas.List.{get_or_past, length-map}
use Rattle.std.specs.List.{flat_map}
use Rattle.std.specs.Prelude.{Some}
use lib.ListN.{get_elem?}
use Rattle.atomic_table.specs.Seated.{TableId}
use Rattle.atomic_table.specs.Table.{opening}
use Rattle.gt_frames.specs.Frames.{FrameState}
use Rattle.gt_frames.specs.Places.{frame_counts, frames_of}
use Rattle.gt_frames.specs.Sets.{zero_frames}
use Rattle.gt_frames.proofs.Laying.{laid_new}
use Rattle.gt_types.specs.declared.config.Config.{Config}
use Rattle.gt_word_history.specs.History.{header_place, initial}
use Rattle.gt_word_history.specs.Joining.{TableHolds, outlook_of}
use Rattle.gt_word_history.specs.Places.{first_view}
use Rattle.gt_word_history.specs.Rule.{IsHeader, Shows, layout_of}
use Rattle.gt_word_history.proofs.Joining.{opens_same, opens_so}
use Rattle.gt_word_history.proofs.Opens.{headers_ok, opens, opens_empty}
use Rattle.gt_shared_table.specs.Rule.{Cell, HoldsAll, flag_place, newcomer, places_of}
use Rattle.gt_shared_table.specs.Words.{HasWordsAndFlags, HasTable, first_slots, frames_kept}
use Rattle.gt_shared_table.proofs.Names.{one_slot}
use Rattle.gt_shared_table.proofs.Opens.{opens_all}
use Rattle.gt_shared_table.proofs.Placed.{few_frames, id_here, names_len, zeros_at}
use Rattle.gt_shared_table.proofs.Steps.{take_same}
use Rattle.gt_shared_table.proofs.table.SharedTable.new.Goals as goal

abbrev cells : List FrameState → List Cell
cells fs = map (λ (f : FrameState). Some f) fs

-- the slots are as many as the frames
slots_are : (c : Config) (fs : List FrameState) (xs : List Cell) → fs ≡ flat_map zero_frames (frame_counts c.domains.items) → xs ≡ cells fs
    → length xs ≡ frames_of (frame_counts c.domains.items)
slots_are c fs xs zeros slots =
    let a : length xs ≡ length (cells fs) = ap (λ (l : List Cell). length l) slots in
    let b = length-map fs (λ (f : FrameState). Some f) in
    let d : length fs ≡ length (flat_map zero_frames (frame_counts c.domains.items)) = ap (λ (l : List FrameState). length l) zeros in
    let e = (laid_new (frame_counts c.domains.items)).count in
    omega arith

few_slots : (c : Config) → HasTable c → frames_of (frame_counts c.domains.items) ≤ 4096
few_slots c is = let f = few_frames c.domains.items is.frames in let n = is.few in omega arith

module _ (c : Config) (is : HasTable c) (ws : List ℕ) (fs : List FrameState) (xs : List Cell) (flags : ℕ)
    (many : length ws ≡ length c.domains.items * 65544 + 8 * length xs + flags)
    (rest : (i : ℕ) → length c.domains.items * 65544 ≤ i → i < length ws → get_or ws i 0 ≡ 0)
    (words : (i : ℕ) → i < length c.domains.items * 65544 → get_or ws i 0 ≡ initial (layout_of c) i)
    (zeros : fs ≡ flat_map zero_frames (frame_counts c.domains.items)) (slots : xs ≡ cells fs) where
  abbrev own : List ℕ
  own = take (header_place (length c.domains.items)) ws

  len : length own ≡ length c.domains.items * 65544
  len = grind (arith, length-take)

  all_headers : (t : ℕ) → t < length c.domains.items → IsHeader (get_or (layout_of c).headers t 0)
  all_headers = headers_ok c.domains.items is.table_frames is.versions

  first : (i : ℕ) → i < length c.domains.items * 65544 → get_or own i 0 ≡ initial (layout_of c) i
  first i l = take_same (header_place (length c.domains.items)) ws i l ∙ words i l

  some_domain : 0 < length c.domains.items
  some_domain = let some = is.some in omega arith

  small : c.first_gen < 1048576
  small = let last = is.generation in omega arith

  abbrev shows : Shows {S = Unit {0}} (layout_of c) (opening own [] (first_view (layout_of c)))
  shows = opens (layout_of c) own len some_domain small all_headers first

  abbrev holds : TableHolds (layout_of c) (opening own [] (outlook_of (first_view (layout_of c))))
  holds = opens_so (layout_of c) own (first_view (layout_of c)) shows

  nothing_yet : holds.shown.history ≡ []
  nothing_yet = opens_same (layout_of c) own (first_view (layout_of c)) shows ∙ opens_empty (Unit {0}) (layout_of c) own len some_domain small all_headers first

  pub all_slots : length xs ≡ length (places_of c).names
  all_slots = slots_are c fs xs zeros slots ∙ sym (names_len 0 c.domains.items)

  unraised : (f : ℕ) → get_or ws (flag_place (places_of c) f) 0 ≡ 0
  unraised f = ⊎_elim (λ (l : flag_place (places_of c) f < length ws). rest (flag_place (places_of c) f) (let t : ℕ = length c.domains.items * 65544 in let j : t ≤ t + 8 * length (places_of c).names + f = omega arith in j) l)
      (λ (l : length ws ≤ flag_place (places_of c) f). get_or_past ws (flag_place (places_of c) f) 0 l) (cases_lt (flag_place (places_of c) f) (length ws))

  pub begins : HoldsAll (places_of c) (opening ws xs (newcomer (outlook_of (first_view (layout_of c)))))
  begins = opens_all (places_of c) ws xs (outlook_of (first_view (layout_of c))) holds nothing_yet (one_slot c)
      (λ q n named. ap (λ (l : List Cell). get_elem? l q) (slots ∙ ap cells zeros) ∙ zeros_at (layout_of c).ids 0 c.domains.items (λ j d e. ap (λ (i : ℕ). slice_index_or (layout_of c).ids i (record { 0 = 0 })) (let z : 0 + j ≡ j = omega arith in z) ∙ id_here c.domains.items j d e) q n named)
      (λ q l. omega (arith, all_slots)) (λ q l. omega (arith, all_slots, many)) unraised

has_room : (z : TableId) (key c : Config) → key ≡ c → (flags at : ℕ) → flag_place (places_of c) 0 ≤ z.words → z.words ≡ flag_place (places_of c) 0 + flags → flags < 2 ^ 32 → at ≡ flag_place (places_of c) 0 → HasTable c → (firsts counts : List ℕ) → firsts ≡ first_slots 0 c.domains.items → counts ≡ frames_kept c
    → HasWordsAndFlags z (places_of key) flags × (at ≡ flag_place (places_of key) 0) × HasTable key × (firsts ≡ first_slots 0 key.domains.items) × (counts ≡ frames_kept key)
has_room z key c same flags at long words small first_at is firsts counts first kept =
    subst (λ (k : Config). HasWordsAndFlags z (places_of k) flags × (at ≡ flag_place (places_of k) 0) × HasTable k × (firsts ≡ first_slots 0 k.domains.items) × (counts ≡ frames_kept k)) (sym same) ((long, words, small, is.few), first_at, is, first, kept)

pub first_words-requires-clause-frames : goal.first_words-requires-clause-frames
first_words-requires-clause-frames c = let n = slots_are c.args.config.now c.in_ok-frames_of_zeros.field-0.items c.in_ok-slots.slots.items (c.in_ok-frames_of_zeros.ensures ∙ ap (λ l. flat_map zero_frames l) (c.deref.ensures.value ∙ c.in_ok-counts.ensures)) c.in_ok-slots.ensures in
    let few = few_slots c.args.config.now c.requires in let len = c.len.ensures in omega arith

pub new-requires : goal.new-requires
new-requires c = let many = c.in_ok-words.ensures.many in let len = c.len.ensures in
    begins c.args.config.now c.requires c.deref-2.result.now c.in_ok-frames_of_zeros.field-0.items c.in_ok-slots.slots.items c.args.flags
    (ap length c.deref-2.ensures.value ∙ (let e : length c.in_ok-words.words.items ≡ length c.args.config.now.domains.items * 65544 + 8 * length c.in_ok-slots.slots.items + c.args.flags = omega arith in e))
    (subst (λ (ws : List ℕ). (i : ℕ) → length c.args.config.now.domains.items * 65544 ≤ i → i < length ws → get_or ws i 0 ≡ 0) (sym c.deref-2.ensures.value) c.in_ok-words.ensures.zeros)
    (λ i l. ap (λ xs. get_or xs i 0) c.deref-2.ensures.value ∙ c.in_ok-words.ensures.words i l)
    (c.in_ok-frames_of_zeros.ensures ∙ ap (λ l. flat_map zero_frames l) (c.deref.ensures.value ∙ c.in_ok-counts.ensures)) c.in_ok-slots.ensures

pub invariant_of-result : goal.invariant_of-result
invariant_of-result c = let ok = c.in-Ok.ensures.ok in let many = c.in_ok-words.ensures.many in let len = c.len.ensures in let config = c.args.config.now in
    let all = all_slots config c.requires c.deref-2.result.now c.in_ok-frames_of_zeros.field-0.items c.in_ok-slots.slots.items c.args.flags
    (ap length c.deref-2.ensures.value ∙ (let e : length c.in_ok-words.words.items ≡ length config.domains.items * 65544 + 8 * length c.in_ok-slots.slots.items + c.args.flags = omega arith in e))
    (subst (λ (ws : List ℕ). (i : ℕ) → length config.domains.items * 65544 ≤ i → i < length ws → get_or ws i 0 ≡ 0) (sym c.deref-2.ensures.value) c.in_ok-words.ensures.zeros)
    (λ i l. ap (λ xs. get_or xs i 0) c.deref-2.ensures.value ∙ c.in_ok-words.ensures.words i l)
    (c.in_ok-frames_of_zeros.ensures ∙ ap (λ l. flat_map zero_frames l) (c.deref.ensures.value ∙ c.in_ok-counts.ensures)) c.in_ok-slots.ensures in
    let at_words = ap length c.deref-2.ensures.value in
    has_room c.in-Ok.table.shared.table_id c.in-Ok.table.shared.key config ok.5 c.args.flags (c.len-2.result * 65544 + c.len-3.result * 8)
    (let e : header_place (length config.domains.items) + 8 * length (places_of config).names + 0 ≤ c.in-Ok.table.shared.table_id.words = (let w = ok.0 in omega arith) in e)
    (let e : c.in-Ok.table.shared.table_id.words ≡ header_place (length config.domains.items) + 8 * length (places_of config).names + 0 + c.args.flags = (let w = ok.0 in omega arith) in e)
    (let small = c.ranges.flags in omega arith)
    (let domains = c.len-2.ensures in let slots = c.len-3.ensures in let e : c.len-2.result * 65544 + c.len-3.result * 8 ≡ header_place (length config.domains.items) + 8 * length (places_of config).names + 0 = omega arith in e)
    c.requires c.in_ok-firsts.firsts.items c.in_ok-frames.frames.items c.in_ok-firsts.ensures c.in_ok-frames.ensures
