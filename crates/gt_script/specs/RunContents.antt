-- The contents of a script for `run`.
use Rattle.std.specs.Prelude.{ℕ, List}
use Rattle.gt_script.specs.Contents.{Contents, KeptContents, contents_of}
use Rattle.gt_script.specs.Lists.{RunTask}

-- the part before the body, as a script without lines of a body; the tasks of the
-- body, in order; and the number of flags
pub record RunContents : Type 0 where
  pub head : Contents
  pub tasks : List RunTask
  pub flags : ℕ

-- the same, with the policy as it is kept
pub record RunKept : Type 0 where
  pub head : KeptContents
  pub tasks : List RunTask
  pub flags : ℕ

-- the contents of a kept script for `run`
abbrev pub run_contents : RunKept → RunContents
run_contents k = record { head = contents_of k.head; tasks = k.tasks; flags = k.flags }
