-- The request of `lint` in its arguments.
use Rattle.std.specs.Prelude.{ℕ, ◌^◌, List, [], ◌∷◌, ◌&&◌, nat_lt, Option, Some, None, bytes_eq, codes}
use Rattle.std.specs.Prelude.{if◌then◌else◌, option_map}
use Rattle.std.specs.Option.{option_and_then}
use Rattle.std.specs.Str.{all_ascii_digits}
use Rattle.std.specs.Str.Parse.{digits_value}
use Rattle.miette_devices.specs.declared.output_form.OutputForm.{OutputForm}
use Rattle.miette_devices.specs.declared.output_form.OutputForm.TheVariants.{Brief, Github, Sarif}
use Rattle.miette_devices.specs.rules.OutputForms.{form_named}

-- what is written for a source: the findings in one of five forms, or the fixed text; a log names its tool
pub data Written : Type 0 where
  graphical : Written
  brief : Written
  github : Written
  sarif : List ℕ → Written
  diff : Written
  fixed : Written

-- a source to check: what is written, its name, and the maximum number of columns of its lines
pub record Check : Type 0 where
  pub output : Written
  pub name : List ℕ
  pub width : ℕ

-- check a source, or serve an editor with this maximum number of columns
pub data Request : Type 0 where
  check : Check → Request
  serve : ℕ → Request

-- a number is one or more decimal digits, and is below 2 ^ 64
abbrev pub number_written : List ℕ → Option ℕ
number_written [] = None
number_written (d ∷ ds) = if all_ascii_digits (d ∷ ds) && nat_lt (digits_value 10 (d ∷ ds)) (2 ^ 64)
    then Some (digits_value 10 (d ∷ ds)) else None

-- the forms of output that `lint` has
abbrev pub form_of_lint : OutputForm → Option Written
form_of_lint Brief = Some brief
form_of_lint Github = Some github
form_of_lint Sarif = Some (sarif (codes "lint"))
form_of_lint _ = None

-- the output that an argument selects
abbrev pub output_for : List ℕ → Option Written
output_for word =
    if bytes_eq word (codes "--diff") then Some diff
    else if bytes_eq word (codes "--fix") then Some fixed else option_and_then form_of_lint (form_named word)

-- a check of the source with this name and width
abbrev pub checked : Written → List ℕ → List ℕ → Option Request
checked output name width =
    option_map (λ n. check (record { output = output; name = name; width = n })) (number_written width)

-- all requests of `lint`
abbrev pub lint_request : List (List ℕ) → Option Request
lint_request (word ∷ width ∷ []) =
    if bytes_eq word (codes "--lsp") then option_map serve (number_written width) else checked graphical word width
lint_request (word ∷ name ∷ width ∷ []) = option_and_then (λ output. checked output name width) (output_for word)
lint_request (word ∷ key ∷ tool ∷ name ∷ width ∷ []) =
    if bytes_eq word (codes "--sarif") && bytes_eq key (codes "--tool") then checked (sarif tool) name width else None
lint_request _ = None
