-- The contents of a script.
use Rattle.std.specs.Prelude.{ℕ, List, [], Option, Some, None}
use Rattle.std.specs.Option.{unwrap_or, option_map}
use Rattle.gt_types.specs.declared.rights.Triple.{Triple}
use Rattle.gt_types.specs.declared.config.DomainConfig.{DomainConfig}
use Rattle.gt_policy.specs.Kept.{KeptPolicy, allowed_of}
use Rattle.gt_policy.specs.Allowing.{Allowed}
use Rattle.gt_script.specs.declared.command.ScriptCommand.{ScriptCommand}
use Rattle.gt_script.specs.Lists.{RunTask}
use Rattle.gt_script.specs.declared.script.ScriptStep.{ScriptStep}

-- the command of the script; the policy of its block, if it has one; else the names of its types, by their
-- numbers, and its triples; the number of its line `wear`, if it has one; its domains; the lines of its body,
-- which are steps for `play` and tasks for `run`; all in the order of their lines; and the names of the flags of
-- its tasks, by their numbers
pub record Contents : Type 0 where
  pub command : ScriptCommand
  pub policy : Option Allowed
  pub types : List (List ℕ)
  pub triples : List Triple
  pub wear : Option ℕ
  pub domains : List DomainConfig
  pub steps : List ScriptStep
  pub tasks : List RunTask
  pub flags : List (List ℕ)

-- the same, with the policy as it is kept
pub record KeptContents : Type 0 where
  pub command : ScriptCommand
  pub policy : Option KeptPolicy
  pub types : List (List ℕ)
  pub triples : List Triple
  pub wear : Option ℕ
  pub domains : List DomainConfig
  pub steps : List ScriptStep
  pub tasks : List RunTask
  pub flags : List (List ℕ)

-- the contents of a kept script
abbrev pub contents_of : KeptContents → Contents
contents_of k = record {
  command = k.command;
  policy = option_map allowed_of k.policy;
  types = k.types;
  triples = k.triples;
  wear = k.wear;
  domains = k.domains;
  steps = k.steps;
  tasks = k.tasks;
  flags = k.flags;
}

-- a script without lines, for this command, and with the policy of its block if it has one
abbrev pub starting : ScriptCommand → Option Allowed → Contents
starting command policy =
    record {
      command = command;
      policy = policy;
      types = [];
      triples = [];
      wear = None;
      domains = [];
      steps = [];
      tasks = [];
      flags = [];
    }

-- a script without lines, and without a policy block
abbrev pub empty : ScriptCommand → Contents
empty command = starting command None

-- a script with only a policy block
abbrev pub with_policy : ScriptCommand → Allowed → Contents
with_policy command p = starting command (Some p)

-- what precedes the body of a script, as a script without lines of a body
abbrev pub head_in : Contents → Contents
head_in c = record c { steps = []; tasks = []; flags = [] }

-- the same, with the policy as it is kept
abbrev pub kept_head_in : KeptContents → KeptContents
kept_head_in k = record k { steps = []; tasks = []; flags = [] }

-- the names of the types: those of the policy, or else these
abbrev pub type_names_with : Option Allowed → List (List ℕ) → List (List ℕ)
type_names_with None types = types
type_names_with (Some p) types = p.types

-- the names of the types, by their numbers
abbrev pub type_names : Contents → List (List ℕ)
type_names c = type_names_with c.policy c.types

-- the first generation of all entries: 0 if no line gives it
abbrev pub first_gen : Contents → ℕ
first_gen c = unwrap_or c.wear 0
