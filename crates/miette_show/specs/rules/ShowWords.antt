-- The arguments of `show`.
use Rattle.std.specs.Prelude.{◌≡◌, ℕ, List, [], ◌∷◌, Option, Some, None, Bool, ◌||◌, if◌then◌else◌, bytes_eq, codes}
use Rattle.std.specs.Prelude.{option_and_then, true, false, ◌==◌, not, length}
use Rattle.std.specs.Option.{option_map, option_map_or}
use Rattle.miette_lsp.specs.rules.LogWords.{LogRequest, logging_of}
use Rattle.miette_program.specs.rules.OptionWords.{parsed_arguments}
use Rattle.miette_show.specs.declared.words.Format.{Format}
use Rattle.miette_show.specs.declared.words.Format.TheVariants.{Auto}
pub use Rattle.miette_show.specs.rules.ValueKinds.{format_named}

-- ---- the arguments in front

-- The root folder, the input format, whether files are fixed, also those of packages with errors, and the options of
-- `job`.
pub record FrontWords : Type 0 where
  pub root : Option (List ℕ)
  pub from : Format
  pub fix : Bool
  pub broken : Bool
  pub options : List (List ℕ)

-- No arguments.
abbrev pub nothing_asked : FrontWords
nothing_asked = record { root = None; from = Auto; fix = false; broken = false; options = [] }

abbrev pub is_front : List ℕ → Bool
is_front word = bytes_eq word (codes "--root") || bytes_eq word (codes "--from")

-- A folder name isn't empty, as it would be for an unset variable.
abbrev pub folder_named : List ℕ → Option (List ℕ)
folder_named name = if length name == 0 then None else Some name

abbrev pub with_fix : FrontWords → FrontWords
with_fix asked = record asked { fix = true }

abbrev pub with_broken : FrontWords → FrontWords
with_broken asked = record asked { broken = true }

abbrev pub with_root : FrontWords → List ℕ → FrontWords
with_root asked folder = record asked { root = Some folder }

abbrev pub with_from : FrontWords → Format → FrontWords
with_from asked format = record asked { from = format }

abbrev pub with_options : FrontWords → List (List ℕ) → FrontWords
with_options asked words = record asked { options = words }

-- `--root`, `--from`, `--fix` and `--broken-code` come first and may repeat. The last one counts. The options of `job`
-- follow.
abbrev pub asked_from : FrontWords → List (List ℕ) → Option FrontWords
asked_from asked [] = Some (with_options asked [])
asked_from asked (word ∷ []) =
    if bytes_eq word (codes "--fix") then Some (with_options (with_fix asked) [])
    else if bytes_eq word (codes "--broken-code") then Some (with_options (with_broken asked) [])
    else if is_front word then None else Some (with_options asked (word ∷ []))
asked_from asked (word ∷ (value ∷ words)) =
    if bytes_eq word (codes "--fix") then asked_from (with_fix asked) (value ∷ words)
    else if bytes_eq word (codes "--broken-code") then asked_from (with_broken asked) (value ∷ words)
    else if bytes_eq word (codes "--root")
    then option_and_then (λ folder. asked_from (with_root asked folder) words) (folder_named value)
    else if bytes_eq word (codes "--from")
    then option_and_then (λ format. asked_from (with_from asked format) words) (format_named value)
    else Some (with_options asked (word ∷ (value ∷ words)))

-- Without `--from`, the format is detected for each line.
abbrev pub asked_in_front : List (List ℕ) → Option FrontWords
asked_in_front words = asked_from nothing_asked words

-- `--fix` has no options of `job` after it. `--broken-code` needs `--fix`.
abbrev pub is_alone : FrontWords → Bool
is_alone asked = if asked.fix then length asked.options == 0 else not asked.broken

abbrev pub fixes_alone : FrontWords → Option FrontWords
fixes_alone asked = if is_alone asked then Some asked else None

abbrev pub asked_for : List (List ℕ) → Option FrontWords
asked_for words = option_and_then fixes_alone (asked_in_front words)

abbrev pub folder_in : List (List ℕ) → Option (List ℕ)
folder_in words = option_and_then (λ front. front.root) (asked_for words)

-- ---- the request

-- Either each message is drawn by options of `job`, or all messages go into one log, or files are fixed, also those of
-- packages with errors.
pub data ShowRequest : Type 0 where
  draw : Format → List (List ℕ) → ShowRequest
  log : Format → LogRequest → ShowRequest
  fix : Bool → ShowRequest

abbrev pub request_of : FrontWords → ShowRequest
request_of front =
    if front.fix then fix front.broken
    else option_map_or (log front.from) (logging_of (codes "show") front.options) (draw front.from front.options)

abbrev pub requested_by : List (List ℕ) → Option ShowRequest
requested_by words = option_map request_of (asked_for words)

-- The arguments in front are wrong, or the options of `job` after them.
abbrev pub IsWrong : Option ShowRequest → Type 0
IsWrong None = Unit
IsWrong (Some (draw from options)) = parsed_arguments options ≡ None
IsWrong (Some (log from asked)) = ⊥
IsWrong (Some (fix broken)) = ⊥

abbrev pub AreWrong : List (List ℕ) → Type 0
AreWrong words = IsWrong (requested_by words)
