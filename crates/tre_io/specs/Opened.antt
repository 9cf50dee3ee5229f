-- What a source of the system holds open.
use Rattle.std.specs.Prelude.{ℕ, List, [], Bool, true, false, Option, None, Some}
use Rattle.tre_io.specs.declared.file_source.Opened.{Opened}
use Rattle.tre_io.specs.declared.file_source.Opened.TheVariants.{Nothing, File, Ended, Standard}

-- it was opened
abbrev pub is_open : {F I : Type 0} → Opened F I → Bool
is_open Nothing = false
is_open _ = true

-- it was opened, and is standard input
abbrev pub is_standard : {F I : Type 0} → Opened F I → Bool
is_standard (Standard input) = true
is_standard _ = false

-- what the reader of a file, or that of standard input, has left; nothing, once it has ended
abbrev pub left_in : {F I : Type 0} → (F → Option (List ℕ)) → (I → Option (List ℕ))
    → Opened F I → Option (List ℕ)
left_in of_file of_input Nothing = None
left_in of_file of_input Ended = Some []
left_in of_file of_input (File file) = of_file file
left_in of_file of_input (Standard input) = of_input input
