-- What is made of an expression that is being read.
use Rattle.std.specs.Prelude.{ℕ, Bool, ◌++◌, List}
use Rattle.gt_explore_precedence.specs.Replacing.{replaced_from}
use Rattle.gt_explore_precedence.specs.declared.replacing.Replacing.{Replacing}

-- what was made of it so far, and what is made of these bytes then
abbrev pub read_so_far : List Bool → Replacing → List ℕ → List ℕ
read_so_far held r more = r.out.items ++ replaced_from held r.orders r.term.items more
