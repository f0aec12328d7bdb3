-- What `show` is asked for.
use Rattle.std.proofs.Common.{◌≡◌, ◌<◌, ◌^◌, ℕ, List, ◌++◌, Bool, true, false, Option, Some, None, IfSome, sym}
use Rattle.std.proofs.Common.{ap, ◌∙◌, subst, codes}
use Rattle.std.specs.Prelude.{if◌then◌else◌}
use Rattle.std.specs.Option.{option_and_then, option_map, option_map_or}
use Rattle.miette.specs.declared.terminal.Stream.TheVariants.{Stdout}
use Rattle.miette.specs.declared.terminal.Variables.{Variables}
use Rattle.miette.specs.rules.Detection.{IsDetected}
use Rattle.miette_lsp.specs.rules.LogWords.{LogRequest, logging_of}
use Rattle.miette_program.specs.declared.arguments.Arguments.{Arguments}
use Rattle.miette_program.specs.rules.OptionWords.{AreParsed, parsed_arguments}
use Rattle.miette_program.specs.rules.OptionWords as table
use Rattle.miette_style.specs.declared.theme.Terminal.{Terminal}
use Rattle.miette_show.specs.rules.ShowWords.{FrontWords, ShowRequest, IsWrong, asked_for, draw, fix, folder_in, log}
use Rattle.miette_show.specs.rules.ShowWords.{request_of, requested_by}
use Rattle.miette_show.specs.rules.TerminalWords.{terminal_words}
use Rattle.miette_show.specs.declared.request.ShowRequest as code
use Rattle.miette_show.specs.declared.request.ShowRequest.TheVariants.{Draw, Log, Fix}
use Rattle.miette_show.specs.views.Asked.{IsRequest}
use Rattle.miette_show.proofs.OptionSteps.{wrong_alone, wrong_there}

-- ---- after the words in front

module _ (front : FrontWords) where
  abbrev after : Bool → Option LogRequest → ShowRequest
  after fixes logs =
      if fixes then fix front.broken else option_map_or (log front.from) logs (draw front.from front.options)

  pub asked-fix : true ≡ front.fix → request_of front ≡ fix front.broken
  asked-fix fixes = ap (λ b. after b (logging_of (codes "show") front.options)) (sym fixes)

  module _ (fixes : false ≡ front.fix) (l : Option LogRequest) (l_is : l ≡ logging_of (codes "show") front.options)
    where
      first : request_of front ≡ after false l
      first = ap (λ b. after b (logging_of (codes "show") front.options)) (sym fixes) ∙ ap (after false) (sym l_is)

      pub asked-log : (it : LogRequest) → l ≡ Some it → request_of front ≡ log front.from it
      asked-log it some = first ∙ ap (after false) some

      pub asked-draw : l ≡ None → request_of front ≡ draw front.from front.options
      asked-draw none = first ∙ ap (after false) none

-- words of `job` after those of a terminal by such variables
abbrev pub AreInTerminal : (Variables → Type 0) → List (List ℕ) → List (List ℕ) → Type 0
AreInTerminal told options words = (v : Variables) × (t : Terminal) × told v × IsDetected v Stdout t
    × IfSome t.width (λ n. n < 2 ^ 64) × (words ≡ terminal_words t ++ options)

pub drawn : (told : Variables → Type 0) (front : FrontWords) (words read : List (List ℕ)) (it : Arguments)
    → request_of front ≡ draw front.from front.options → AreInTerminal told front.options words → read ≡ words
    → AreParsed read it.choice it.options it.terminal
    → IsRequest told (Some (request_of front)) (Draw front.from it)
drawn told front words read it asked (v, t, tells, detected, low, are) same wanted =
    (front.options, ap Some asked, (v, t, tells, detected, ap parsed_arguments (sym (same ∙ are)) ∙ wanted))

pub not-drawn : (told : Variables → Type 0) (front : FrontWords) (words read : List (List ℕ))
    → request_of front ≡ draw front.from front.options → AreInTerminal told front.options words → read ≡ words
    → parsed_arguments read ≡ None → IsWrong (Some (request_of front))
not-drawn told front words read asked (v, t, tells, detected, low, are) same none =
    subst (λ it. IsWrong (Some it)) (sym asked)
    (wrong_alone t low front.options (ap parsed_arguments (sym (same ∙ are)) ∙ none))

-- a request is not one of wrong arguments
pub not-wrong : (told : Variables → Type 0) (asked : Option ShowRequest) (it : code.ShowRequest)
    → IsRequest told asked it → IsWrong asked → ⊥
not-wrong told asked (Draw from it) (options, is, (v, t, tells, detected, wanted)) wrong =
    let none : parsed_arguments options ≡ None = subst IsWrong is wrong in
    let no : None ≡ Some (table.request_of it.choice it.options it.terminal) =
    sym (wrong_there t options none) ∙ wanted
    in
    absurd (cc)
not-wrong told asked (Log from it) is wrong = absurd (subst IsWrong is wrong)
not-wrong told asked (Fix broken) is wrong = absurd (subst IsWrong is wrong)

-- ---- all words

module _ (words : List (List ℕ)) (front : Option FrontWords) (front_is : front ≡ asked_for words) where
  requested : requested_by words ≡ option_map request_of front
  requested = ap (option_map request_of) (sym front_is)

  pub read-request : (told : Variables → Type 0) (f : FrontWords) (it : code.ShowRequest) → front ≡ Some f
      → IsRequest told (Some (request_of f)) it → IsRequest told (requested_by words) it
  read-request told f it some h =
      subst (λ asked. IsRequest told asked it) (sym (requested ∙ ap (option_map request_of) some)) h

  pub read-folder : (f : FrontWords) → front ≡ Some f → f.root ≡ folder_in words
  read-folder f some = sym (ap (option_and_then (λ (it : FrontWords). it.root)) (sym front_is ∙ some))

  pub read-wrong : (f : FrontWords) → front ≡ Some f → IsWrong (Some (request_of f)) → IsWrong (requested_by words)
  read-wrong f some h = subst IsWrong (sym (requested ∙ ap (option_map request_of) some)) h

  pub front-wrong : front ≡ None → IsWrong (requested_by words)
  front-wrong none = subst IsWrong (sym (requested ∙ ap (option_map request_of) none)) tt
