-- Bytes tell one thing.
use Rattle.std.proofs.Common.{◌≡◌, ℕ, ◌+◌, ◌<◌, ◌≤◌, List, length, take, drop, Option, None, Some, Result, Ok, Err, sym}
use Rattle.std.proofs.Common.{ap, ◌∙◌, inl, inr, arith}
use Rattle.std.specs.Str.Lines.{lines as lines_in}
use Rattle.gt_policy.specs.Allowing.{Allowed, Meaning, allowed_by}
use Rattle.gt_policy.specs.Whole.{ReadsAs}
use Rattle.gt_policy.specs.declared.fault.TokenFault as policy
use Rattle.gt_script.specs.Blocks.{BlockMeans, IsFaultyBlock, fault_in_block, block_text, opening, closing}
use Rattle.gt_script.specs.Contents.{Contents, with_policy}
use Rattle.gt_script.specs.declared.command.ScriptCommand.{ScriptCommand}
use Rattle.gt_script.specs.Script.{Wrong, in_policy, in_result, whole_script, ClosedReads, BlockReads, LinesRead}
use Rattle.gt_script.specs.Script.{ReadsFor}

-- a text of a policy says one thing alone
abbrev pub OneMeaning : Type 0
OneMeaning = (text : List ℕ) (one other : Result Meaning policy.TokenFault) → ReadsAs text one → ReadsAs text other → one ≡ other

same_meaning : (m n : Meaning) → (let x : Result Meaning policy.TokenFault = Ok m in x ≡ Ok n) → m ≡ n
same_meaning m n e = cc

same_fault : (f g : policy.TokenFault) → (let x : Result Meaning policy.TokenFault = Err f in x ≡ Err g) → f ≡ g
same_fault f g e = cc

never_both : (m : Meaning) (f : policy.TokenFault) → (let x : Result Meaning policy.TokenFault = Ok m in x ≡ Err f) → ⊥
never_both m f e = cc

means_one : OneMeaning → (lines : List (List ℕ)) (a b : Allowed) → BlockMeans lines a → BlockMeans lines b → a ≡ b
means_one one lines a b (m, says, is) (n, said, other) = is ∙ ap allowed_by (same_meaning m n (one (block_text lines) (Ok m) (Ok n) says said)) ∙ sym other

faulty_one : OneMeaning → (before : ℕ) (lines : List (List ℕ)) (f g : policy.TokenFault) → IsFaultyBlock before lines f → IsFaultyBlock before lines g → f ≡ g
faulty_one one before lines f g (k, says, is) (l, said, other) = is ∙ ap (fault_in_block before) (same_fault k l (one (block_text lines) (Err k) (Err l) says said)) ∙ sym other

means_or_faulty : OneMeaning → (before : ℕ) (lines : List (List ℕ)) (a : Allowed) (g : policy.TokenFault) → BlockMeans lines a → IsFaultyBlock before lines g → ⊥
means_or_faulty one before lines a g (m, says, is) (f, said, other) = never_both m f (one (block_text lines) (Ok m) (Err f) says said)

closed_one : (command : ScriptCommand) → OneMeaning → (count first : ℕ) (lines : List (List ℕ)) (end : ℕ) (x y : Result Contents Wrong) → ClosedReads command count first lines end x → ClosedReads command count first lines end y → x ≡ y
closed_one command one count first lines end x y (inl (a, means, is)) (inl (b, meant, other)) =
    is ∙ ap (λ (p : Allowed). in_result (whole_script count (with_policy command p) (first + end + 1 + 1) (drop (end + 1) lines))) (means_one one (take end lines) a b means meant) ∙ sym other
closed_one command one count first lines end x y (inl (a, means, is)) (inr (g, faulty, other)) = absurd (means_or_faulty one first (take end lines) a g means faulty)
closed_one command one count first lines end x y (inr (g, faulty, is)) (inl (a, means, other)) = absurd (means_or_faulty one first (take end lines) a g means faulty)
closed_one command one count first lines end x y (inr (f, faulty, is)) (inr (g, also, other)) =
    is ∙ ap (λ (p : policy.TokenFault). Err (in_policy p)) (faulty_one one first (take end lines) f g faulty also) ∙ sym other

block_one : (command : ScriptCommand) → OneMeaning → (count first : ℕ) (lines : List (List ℕ)) (o : Option ℕ) (x y : Result Contents Wrong) → BlockReads command count first lines o x → BlockReads command count first lines o y → x ≡ y
block_one command one count first lines None x y is other = is ∙ sym other
block_one command one count first lines (Some end) x y is other = closed_one command one count first lines end x y is other

lines_one : (command : ScriptCommand) → OneMeaning → (lines : List (List ℕ)) (o : Option ℕ) (x y : Result Contents Wrong) → LinesRead command lines o x → LinesRead command lines o y → x ≡ y
lines_one command one lines None x y is other = is ∙ sym other
lines_one command one lines (Some place) x y is other = block_one command one (length lines) (place + 1) (drop (place + 1) lines) (closing (drop (place + 1) lines)) x y is other

long_or_short : (n most : ℕ) → most < n → n ≤ most → ⊥
long_or_short n most long short = absurd (omega arith)

-- bytes tell one script, or one fault
pub tells_one : (command : ScriptCommand) → OneMeaning → (bytes : List ℕ) (x y : Result Contents Wrong) → ReadsFor command bytes x → ReadsFor command bytes y → x ≡ y
tells_one command one bytes x y (inl (long, is)) (inl (also, other)) = is ∙ sym other
tells_one command one bytes x y (inl (long, is)) (inr (inl (short, bad, other))) = absurd (long_or_short (length bytes) 1048576 long short)
tells_one command one bytes x y (inl (long, is)) (inr (inr (short, text, says))) = absurd (long_or_short (length bytes) 1048576 long short)
tells_one command one bytes x y (inr (inl (short, bad, is))) (inl (long, other)) = absurd (long_or_short (length bytes) 1048576 long short)
tells_one command one bytes x y (inr (inl (short, bad, is))) (inr (inl (also, worse, other))) = is ∙ sym other
tells_one command one bytes x y (inr (inl (short, bad, is))) (inr (inr (also, text, says))) = absurd (bad text)
tells_one command one bytes x y (inr (inr (short, text, says))) (inl (long, other)) = absurd (long_or_short (length bytes) 1048576 long short)
tells_one command one bytes x y (inr (inr (short, text, says))) (inr (inl (also, bad, other))) = absurd (bad text)
tells_one command one bytes x y (inr (inr (short, text, says))) (inr (inr (also, utf8, said))) = lines_one command one (lines_in bytes) (opening (lines_in bytes)) x y says said
