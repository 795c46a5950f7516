-- The FILEs of `check` after the first.
use Rattle.std.specs.Prelude.{List, [], ◌∷◌, Option, option_map}
use Rattle.std.specs.Borrow.{Bor}
use Rattle.clap.specs.Words.{Text}
use Rattle.gt_command_line.specs.declared.invocation.MoreFiles.{MoreFiles}

-- the name of a file, if there is one
abbrev pub file_name_of : Option (Bor Text) → Option Text
file_name_of file = option_map (λ f. f.now) file

-- their names
abbrev pub file_names_of : MoreFiles → List (Option Text)
file_names_of more = file_name_of more.second ∷ file_name_of more.third ∷ file_name_of more.fourth
    ∷ file_name_of more.fifth ∷ file_name_of more.sixth ∷ file_name_of more.seventh ∷ file_name_of more.eighth ∷ []
