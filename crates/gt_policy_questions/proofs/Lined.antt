-- The lines of an answer, from their parts.
use Rattle.std.proofs.Common.{◌≡◌, Bool, List, [], ◌++◌, ℕ, Option, Some, None, length, ap, sym, ◌∙◌, append_assoc}
use Rattle.std.proofs.lemmas.List.{append-nil}
use Rattle.std.specs.Prelude.{codes, decimal}
use Rattle.gt_types.specs.declared.TypeId.{TypeId}
use Rattle.gt_flow.specs.Flow.{FlowPolicy}
use Rattle.gt_flow.specs.Accesses.{allowed_access}
use Rattle.gt_flow.specs.declared.accesses.Access.{Access}
use Rattle.gt_flow.specs.declared.accesses.Access.TheVariants.{Load, Copy, Store}
use Rattle.gt_policy.specs.declared.lined.LinedStatement.{LinedStatement}
use Rattle.gt_policy_statements.specs.declared.members.Member.{Member}
use Rattle.gt_policy_questions.specs.Listing.{pair_type_name}
use Rattle.gt_policy_questions.specs.Format.{TextGrows, by_format, name_text}
use Rattle.gt_policy_questions.specs.FlowPairs.{none_text, pair_answer_text, steps_text}
use Rattle.gt_policy_questions.specs.Steps.{access_text, accesses_text, line_between, no_path_text, path_line_text}
use Rattle.gt_policy_questions.specs.Steps.{permission_text, type_pair_text}
use Rattle.gt_policy_questions.specs.declared.flows.format.FlowFormat.{FlowFormat}
use Rattle.gt_policy_questions.specs.declared.flows.format.FlowText.{FlowText}
use Rattle.gt_policy_questions.specs.declared.flows.pairs.PairForm.{PairForm}
use Rattle.gt_policy_questions.proofs.Growing.{grows-as, grows-more}

-- pieces of text, one after another
five : (a b c d e rest : List ℕ) → a ++ (b ++ (c ++ (d ++ (e ++ rest)))) ≡ a ++ b ++ c ++ d ++ e ++ rest
five a b c d e rest = simp append_assoc

with-one : (m p a g b e : List ℕ) → m ++ (p ++ (a ++ (g ++ (b ++ (e ++ []))))) ≡ m ++ p ++ (a ++ g ++ b) ++ e
with-one m p a g b e = simp (append_assoc, append-nil)

with-two : (m p a g s h b e : List ℕ)
    → m ++ (p ++ (a ++ (g ++ (s ++ (h ++ (b ++ (e ++ []))))))) ≡ m ++ p ++ (a ++ g ++ s ++ h ++ b) ++ e
with-two m p a g s h b e = simp (append_assoc, append-nil)

with-none : (m p e : List ℕ) → m ++ (p ++ (e ++ [])) ≡ m ++ p ++ [] ++ e
with-none m p e = simp (append_assoc, append-nil)

with-number : (p a n e : List ℕ) → p ++ (a ++ (n ++ (e ++ []))) ≡ p ++ (a ++ n ++ e)
with-number p a n e = simp (append_assoc, append-nil)

module _ (format : FlowFormat) (xs : List LinedStatement) (members : List Member) (x y : TypeId) where
  -- two types, and what follows them
  abbrev pub pair_then : List ℕ → List ℕ
  pair_then rest =
      by_format format [] (codes "{\"source\":") ++ (name_text format (pair_type_name members x)
      ++ (by_format format (codes " -> ") (codes ",\"target\":") ++ (name_text format (pair_type_name members y)
      ++ (by_format format (codes "  ") (codes ",") ++ rest))))

  pair-is : (rest : List ℕ) → pair_then rest ≡ type_pair_text format members x y ++ rest
  pair-is rest = five (by_format format [] (codes "{\"source\":")) (name_text format (pair_type_name members x))
      (by_format format (codes " -> ") (codes ",\"target\":")) (name_text format (pair_type_name members y))
      (by_format format (codes "  ") (codes ",")) rest

  -- a permission, and what follows it
  abbrev pub grant_then : List ℕ → ℕ → List ℕ → List ℕ
  grant_then perm line rest =
      by_format format [] (codes "{\"perm\":\"") ++ (perm ++ (by_format format (codes " (line ") (codes "\",\"line\":")
      ++ (decimal line ++ (by_format format (codes ")") (codes "}") ++ rest))))

  grant-is : (from to : TypeId) (perm rest : List ℕ)
      → grant_then perm (line_between xs members from to perm) rest
      ≡ permission_text format xs members from to perm ++ rest
  grant-is from to perm rest = five (by_format format [] (codes "{\"perm\":\"")) perm
      (by_format format (codes " (line ") (codes "\",\"line\":")) (decimal (line_between xs members from to perm))
      (by_format format (codes ")") (codes "}")) rest

  -- the line of an access
  abbrev pub line_by : Option Access → List ℕ
  line_by access = by_format format (codes "  ") [] ++ type_pair_text format members x y
      ++ access_text format xs members x y access ++ by_format format (codes "\n") (codes "}\n")

  -- the parts of a line with one permission
  abbrev pub one_grant : TypeId → TypeId → List ℕ → List ℕ → List ℕ
  one_grant from to mark perm = by_format format (codes "  ") [] ++ pair_then (mark
      ++ grant_then perm (line_between xs members from to perm) (by_format format [] (codes "]")
      ++ (by_format format (codes "\n") (codes "}\n") ++ [])))

  one-grant : (from to : TypeId) (mark perm : List ℕ) → one_grant from to mark perm
      ≡ by_format format (codes "  ") [] ++ type_pair_text format members x y
      ++ (mark ++ permission_text format xs members from to perm ++ by_format format [] (codes "]"))
      ++ by_format format (codes "\n") (codes "}\n")
  one-grant from to mark perm =
      let m = by_format format (codes "  ") [] in
      let b = by_format format [] (codes "]") in
      let e = by_format format (codes "\n") (codes "}\n") in
      let p = type_pair_text format members x y in
      ap (λ (l : List ℕ). m ++ l) (pair-is _ ∙ ap (λ (l : List ℕ). p ++ (mark ++ l)) (grant-is from to perm (b ++ (e ++ []))))
      ∙ with-one m p mark (permission_text format xs members from to perm) b e

  pub load-line : one_grant y x (by_format format [] (codes "\"access\":\"load\",\"perms\":[")) (codes "map_read")
      ≡ line_by (Some Load)
  load-line = one-grant y x (by_format format [] (codes "\"access\":\"load\",\"perms\":[")) (codes "map_read")

  pub copy-line : one_grant x y (by_format format [] (codes "\"access\":\"copy\",\"perms\":[")) (codes "copy")
      ≡ line_by (Some Copy)
  copy-line = one-grant x y (by_format format [] (codes "\"access\":\"copy\",\"perms\":[")) (codes "copy")

  -- the parts of the line of a store
  abbrev pub two_grants : List ℕ
  two_grants = by_format format (codes "  ") [] ++ pair_then (by_format format [] (codes "\"access\":\"store\",\"perms\":[")
      ++ grant_then (codes "map_read") (line_between xs members x y (codes "map_read")) (by_format format (codes ", ") (codes ",")
      ++ grant_then (codes "map_write") (line_between xs members x y (codes "map_write")) (by_format format [] (codes "]")
      ++ (by_format format (codes "\n") (codes "}\n") ++ []))))

  pub store-line : two_grants ≡ line_by (Some Store)
  store-line =
      let m = by_format format (codes "  ") [] in
      let a = by_format format [] (codes "\"access\":\"store\",\"perms\":[") in
      let s = by_format format (codes ", ") (codes ",") in
      let b = by_format format [] (codes "]") in
      let e = by_format format (codes "\n") (codes "}\n") in
      let p = type_pair_text format members x y in
      let g = permission_text format xs members x y (codes "map_read") in
      let h = permission_text format xs members x y (codes "map_write") in
      ap (λ (l : List ℕ). m ++ l) (pair-is _ ∙ ap (λ (l : List ℕ). p ++ (a ++ l))
      (grant-is x y (codes "map_read") _ ∙ ap (λ (l : List ℕ). g ++ (s ++ l)) (grant-is x y (codes "map_write") (b ++ (e ++ [])))))
      ∙ with-two m p a g s h b e

  pub no-access-line : by_format format (codes "  ") [] ++ pair_then (by_format format (codes "\n") (codes "}\n") ++ [])
      ≡ line_by None
  no-access-line =
      let m = by_format format (codes "  ") [] in
      let e = by_format format (codes "\n") (codes "}\n") in
      ap (λ (l : List ℕ). m ++ l) (pair-is (e ++ [])) ∙ with-none m (type_pair_text format members x y) e

  pub path-line : (n : ℕ) → pair_then (by_format format [] (codes "\"accesses\":")
      ++ (decimal n ++ (by_format format (codes "\n") (codes "}\n") ++ [])))
      ≡ type_pair_text format members x y ++ accesses_text format n
  path-line n = pair-is _ ∙ with-number (type_pair_text format members x y) (by_format format [] (codes "\"accesses\":"))
      (decimal n) (by_format format (codes "\n") (codes "}\n"))

  pub no-path-line : pair_then (by_format format (codes "none\n") (codes "\"accesses\":null}\n") ++ [])
      ≡ type_pair_text format members x y ++ no_path_text format
  no-path-line = pair-is _ ∙ ap (λ (l : List ℕ). type_pair_text format members x y ++ l)
      (append-nil (by_format format (codes "none\n") (codes "\"accesses\":null}\n")))

module _ (format : FlowFormat) (may : FlowPolicy) (trusted : TypeId → Bool) (xs : List LinedStatement)
    (members : List Member) where
  -- the line of an access that was found
  pub stepped : (x y : TypeId) (b : Bool) (result access : Option Access) (text : List ℕ) (old new : FlowText)
      → result ≡ allowed_access may b x y → b ≡ trusted x → result ≡ access
      → text ≡ line_by format xs members x y access → TextGrows old new text
      → TextGrows old new (path_line_text format may trusted xs members x y)
  stepped x y b result access text old new allowed is-trusted is same grows =
      grows-as old new text _ (same ∙ ap (λ (o : Option Access). line_by format xs members x y o)
      (sym is ∙ allowed ∙ ap (λ (t : Bool). allowed_access may t x y) is-trusted)) grows

  -- the answer for a pair with a path
  pub found : (form : PairForm) (source target : TypeId) (path : List TypeId) (old mid new : FlowText)
      → TextGrows old mid (pair_then format xs members source target (by_format format [] (codes "\"accesses\":")
      ++ (decimal (length path) ++ (by_format format (codes "\n") (codes "}\n") ++ []))))
      → TextGrows mid new (steps_text format may trusted xs members form source path)
      → TextGrows old new (pair_answer_text format may trusted xs members form source target (Some path))
  found form source target path old mid new line rest =
      grows-more old mid new (type_pair_text format members source target ++ accesses_text format (length path)) _
      (grows-as old mid _ _ (path-line format xs members source target (length path)) line) rest

  -- the answer for a pair without a path, in the form that has one
  pub missed : (form : PairForm) (source target : TypeId) (old new : FlowText)
      → none_text format may trusted xs members form source target
      ≡ type_pair_text format members source target ++ no_path_text format
      → TextGrows old new (pair_then format xs members source target (by_format format (codes "none\n") (codes "\"accesses\":null}\n") ++ []))
      → TextGrows old new (pair_answer_text format may trusted xs members form source target None)
  missed form source target old new is line =
      grows-as old new _ _ (no-path-line format xs members source target ∙ sym is) line
