-- `lent_mut` lends what the pointer of a handle leads to, and the handle follows it.
use mathlib.Core.Path.{◌≡◌, refl, sym}
use mathlib.Core.Bool.{true≢false}
use Prim.Native.Nat.{ℕ}
use mathlib.Core.List.{List, [], ◌∷◌}
use seplogic.Ra.Ura.{Ura}
use base.Fraction.{full_share}
use mir.Syntax.{named}
use mir.Val.{Val, vptr}
use base.Logic.{SProp, ent, sep, id⊢}
use base.Fml.{Lft, GName, Share, Fml, ftrue, flft, fsep}
use prog.Memory.{Memory}
use prog.Routine.{Routine}
use prog.Wp.{Env, Calls, Loops, WpFn, Tables}
use types.Logic.{Logic, sem}
use sound.WpLaws.{WpFn-mono}
use types.Kit.{‵, ◌⊛◌, some, at_ret, ◌$◌, ◌∵◌, !, qed, by, move, keep, use1, drop, split, join, pick, fsplit, fsplit3, fjoin}
use types.Kit.{rewrite, suffices, frame, done, raw, later, await, group, fpack}
use types.Part.{whole, sub, look_in}
use types.Run.{stop, fld, load, of_opd, first, blocks, exec, returns, enter, addr}
use types.ByLocal.{alloc_all, pass_all, free_all, look_at, get, through, sets, env, sets_last}
use denote.RattleType.{owns}
use denote.Memory.{part_at, mem, cell_at, part_of}
use denote.RawPtr.{Ptr, block_ptr}
use denote.Ref.{MutBor, MutRef, mut_vals, mut_Tells}
use denote.Signature.{plain, mut_ref_to}
use denote.Steps.{heard, nothing, opens}
use denote.Triple.Clauses.{Clauses}
use denote.Triple.Entry.{on_entry}
use denote.Triple.Spec.{triple_of}
use denote.Triple.Table.{entered}
use denote.Triple.Walked.{says, Stays, stay_dropped, walk_of, ends_at, walked, walk_Meets, Goes-spent_ref}
use Rattle.std.proofs.alloc.Calls.{token}
use mir.Raw.{raw as bare}
use contract.Monad.{Fun, fact}
use contract.Running.{tables, tables_of}
use denote.Exit.{no}
use denote.Follow.{follows, Part, lends_Part}
use Rattle.std.specs.Prelude.{Option, Some, None, IsSome}
use Rattle.std_alloc.proofs.BoxSteps.Form.{D, τ, word, handle}
use Rattle.std_alloc.proofs.BoxSteps.Steps.{box_out, box_in}
use Rattle.std_heap.specs.contracts.Global as Heap
use Rattle.gt_c.proofs.AsBox.{E}
use Rattle.gt_c.specs.Lending.{with_c_domain}
use Rattle.gt_c.specs.declared.c_domain.CDomain.{CDomain}
use Rattle.gt_c.specs.declared.held.RawBox.{RawBox}
use Rattle.gt_c.specs.contracts.c_domain.CDomain as H-type
use Rattle.gt_c.specs.contracts.held.RawBox as RawBox-type
use Rattle.gt_c.specs.contracts.lending.lent_mut as F
use Rattle.gt_c.specs.contracts.lending.lent_mut.Key.{name as #self}
use Rattle.gt_c.proofs.lending.lent_mut.Statement as stated
use Rattle.gt_c.proofs.lending.lent_mut.Code as code

abbrev stayed : Stays F.ended.signature.params F.ended.kept
stayed = (stay_dropped (mut_ref_to (0 ∷ []) tt (plain (λ _. RawBox-type.the_row))) no, tt)

module _ {M : Type 1} {𝓤 : Ura M} (𝓛 : Logic 𝓤) (at_mem : Memory → SProp 𝓤) (run : Routine → Fun 𝓤) where
  open 𝓛 use {H, A}

  abbrev held : Clauses 𝓤 F.ended
  held = F.clauses 𝓛 at_mem run

  module _ (κ : Lft) (q : Share) (rb ro : ℕ) (γ : GName) (p : Ptr) (al : Heap.the_row.Denot) (x : CDomain) where
    abbrev h : RawBox
    h = record { at = p; alloc = al; value = Some x }

    abbrev d : CDomain → D E
    d w = record { ptr = p; alloc = al; value = w }

    abbrev bound : (walk_of 𝓛 F.ended stayed held).Ghost
    bound = (((κ, tt), (q, tt), tt, (record { ref_ptr = (rb, ro); ghost_name = γ; now = h }, tt), (vptr rb ro ∷ [], tt)), tt)

    abbrev Post : Val → SProp 𝓤
    Post = (walk_of 𝓛 F.ended stayed held).post bound

    module _ (b o : ℕ) (hv : Val) where
      -- all of the handle but its domain
      abbrev Rest : Fml
      Rest = fsep (fsep (token E.al al (bare (τ E)) (block_ptr b o)) (handle E al hv)) (cell_at full_share RawBox-type.the_row.mir (word E hv b o ∷ []) rb ro)

      back : p ≡ block_ptr b o → (w : CDomain)
          → ent 𝓤 (sep 𝓤 (sem 𝓛 ((mem H-type.the_row).own_at w b o)) (sem 𝓛 Rest)) (sem 𝓛 ((mem RawBox-type.the_row).own_at (with_c_domain h w) rb ro))
      unfolding part_of
      back at_b w =
          qed 𝓛 (‵ (part_at H-type.the_row full_share w b o) ∷ ‵ Rest ∷ []) ∵ move ! (1 ∷ []) $ fsplit ! $ fsplit ! $ move ! (3 ∷ []) $
          box_in E ! (d w) b o w at_b refl $ use1 𝓛 (‵ (RawBox-type.the_row.own_val (with_c_domain h w) (word E hv b o ∷ []))) (id⊢ 𝓤 _) $ move ! (1 ∷ 0 ∷ []) $ fjoin ! $
          fpack ! (List Val) (λ us. fsep (cell_at full_share RawBox-type.the_row.mir us rb ro) (RawBox-type.the_row.own_val (with_c_domain h w) us)) (word E hv b o ∷ []) $ done !

      exits : (γ' : GName)
          → ent 𝓤 (sep 𝓤 (sem 𝓛 ((MutRef (named 0) κ H-type.the_row).own_val (record { ref_ptr = (b, o); ghost_name = γ'; now = x }) (vptr b o ∷ []))) (sep 𝓤 (A.lft κ q) (sem 𝓛 (follows RawBox-type.the_row H-type.the_row γ γ' (with_c_domain h))))) (Post (vptr b o))
      exits γ' =
          qed 𝓛 (‵ ((MutRef (named 0) κ H-type.the_row).own_val (record { ref_ptr = (b, o); ghost_name = γ'; now = x }) (vptr b o ∷ [])) ∷ ‵ (flft κ q) ∷ ‵ (follows RawBox-type.the_row H-type.the_row γ γ' (with_c_domain h)) ∷ []) ∵
          suffices ! _ (ends_at 𝓛 F.ended stayed held bound (vptr b o) (record { ref_ptr = (b, o); ghost_name = γ'; now = x }) (tt, tt) (tt, tt)) $
          nothing ! $ nothing ! $ fjoin ! $ join ! $ nothing ! $ move ! (2 ∷ 0 ∷ []) $ join ! $ join ! $ frame ! $ says ! refl $ done !

    module _ (C : Calls 𝓤 H) (Λ : Loops 𝓤 H) where
      walk : ent 𝓤 (on_entry 𝓛 F.ended.signature (κ, tt) (q, tt) (record { ref_ptr = (rb, ro); ghost_name = γ; now = h }, tt) (vptr rb ro ∷ [], tt)) (WpFn 𝓤 H C Λ code.function (vptr rb ro ∷ []) Post)
      walk =
          qed 𝓛 ((‵ (flft κ q) ⊛ ‵ ftrue) ∷ ‵ (owns (MutRef (named 0) κ RawBox-type.the_row ∷ []) (record { ref_ptr = (rb, ro); ghost_name = γ; now = h }, tt) (vptr rb ro ∷ [], tt)) ∷ []) ∵
          enter ! C Λ code.function (vptr rb ro ∷ []) _ $
          alloc_all ! (λ l. pass_all ! refl ((tt, tt), tt) $
          let En : Env 𝓤 H = env code.function.locals l in
          move ! (1 ∷ []) $ fsplit ! $ fsplit3 ! $ drop ! $ move ! (3 ∷ []) $ split ! $ move ! (2 ∷ 3 ∷ 0 ∷ []) $
          opens ! tt RawBox-type.the_row {h = h} rb ro (λ vs. move ! (1 ∷ []) $ box_out E ! (d x) vs (λ b o hv at_b ws fa. move ! (1 ∷ 2 ∷ []) $ fjoin ! $ move ! (1 ∷ []) $
          rewrite ! 2 (λ (us : List Val). ‵ (cell_at full_share RawBox-type.the_row.mir us rb ro)) ws refl $
          first ! $ blocks ! $
          sets ! (of_opd ! (load ! (through ! refl (fld ! refl (stop !))) (look_in ! 2 (sub ! 0 refl (whole !))))) refl (tt, tt) $
          sets ! (of_opd ! (get ! refl)) refl (tt, tt) $
          sets_last ! (addr ! (through ! refl (stop !))) refl (tt, tt) $
          exec ! C Λ En code.Mir.t-2 (at_ret En Post) $
          sets ! (of_opd ! (get ! refl)) refl (tt, tt) $
          move ! (1 ∷ 2 ∷ []) $ fjoin ! $ move ! (2 ∷ 3 ∷ 4 ∷ 1 ∷ 0 ∷ []) $ group ! 5 $
          use1 𝓛 (later (some (λ (γ' : GName). raw (Part 𝓛 RawBox-type.the_row H-type.the_row (with_c_domain h) (named 0) κ q rb ro b o γ (sem 𝓛 (Rest b o hv)) (back b o hv at_b) x γ'))))
          (lends_Part 𝓛 RawBox-type.the_row H-type.the_row (with_c_domain h) (named 0) κ q rb ro b o γ (sem 𝓛 (Rest b o hv)) (back b o hv at_b) (RawBox-type.the_row.coded.code h) (RawBox-type.the_row.coded.code h) x) $ await ! tt $ pick ! (λ γ'.
          returns ! (look_at ! 0 refl) $ free_all ! refl $
          keep ! (0 ∷ []) $ by ! (exits b o hv γ')))))

  each : (κ : Lft) (q : Share) (rb ro : ℕ) (γ : GName) (p : Ptr) (al : Heap.the_row.Denot) (o : Option CDomain) → IsSome o → (C : Calls 𝓤 H) (Λ : Loops 𝓤 H)
      → let s : MutBor RawBox = record { ref_ptr = (rb, ro); ghost_name = γ; now = record { at = p; alloc = al; value = o } } in
      ent 𝓤 (on_entry 𝓛 F.ended.signature (κ, tt) (q, tt) (s, tt) (vptr rb ro ∷ [], tt)) (WpFn 𝓤 H C Λ code.function (vptr rb ro ∷ []) ((walk_of 𝓛 F.ended stayed held).post (((κ, tt), (q, tt), tt, (s, tt), (vptr rb ro ∷ [], tt)), tt)))
  each κ q rb ro γ p al (Some x) is C Λ = walk κ q rb ro γ p al x C Λ
  each κ q rb ro γ p al None is C Λ = absurd (true≢false (sym is))

pub lent_mut_spec : {M : Type 1} → stated.statement M
unfolding tables_of
lent_mut_spec 𝓤 𝓛 𝓜 𝓡 wired =
    let 𝓣 : Tables 𝓤 𝓛.H = tables_of 𝓤 𝓛.H 𝓜 (tables 𝓤 𝓛.H 𝓜 𝓡 𝓡.env) in
    let c : Clauses 𝓤 F.ended = F.clauses 𝓛 𝓜.mem 𝓡.returns in
    entered 𝓤 𝓛.H (triple_of 𝓛 F.signature (F.spec 𝓛 𝓜.mem 𝓡.returns)) 𝓣.C 𝓣.Λ #self code.function (code.unfolded 𝓤 𝓛.H 𝓜 𝓡 wired)
    (walk_Meets 𝓛 F.ended stayed (Goes-spent_ref 𝓛 1 (0 ∷ []) tt (plain (λ _. RawBox-type.the_row)), tt) c (WpFn 𝓤 𝓛.H 𝓣.C 𝓣.Λ code.function) (WpFn-mono 𝓤 𝓛.H 𝓛.laws 𝓣 code.function)
    (walked 𝓛 F.ended stayed c (WpFn 𝓤 𝓛.H 𝓣.C 𝓣.Λ code.function) (λ κs. (mut_vals, tt)) (λ κs. (mut_Tells (named 0) κs.0 RawBox-type.the_row, tt))
    (λ κs qs bounds a g are. qed 𝓛 (raw (on_entry 𝓛 F.ended.signature κs qs a (vptr a.0.ref_ptr.0 a.0.ref_ptr.1 ∷ [], tt)) ∷ raw (fact 𝓤 (IsSome a.0.now.value)) ∷ []) ∵ move ! (1 ∷ 0 ∷ []) $ heard ! (IsSome a.0.now.value) (λ is.
    by ! (each 𝓛 𝓜.mem 𝓡.returns κs.0 qs.0 a.0.ref_ptr.0 a.0.ref_ptr.1 a.0.ghost_name a.0.now.at a.0.now.alloc a.0.now.value is 𝓣.C 𝓣.Λ)))))
