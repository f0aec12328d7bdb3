-- What rows show by the settings of a call.
use Rattle.std.proofs.Common.{◌≡◌, ◌⊎◌, ℕ, Bool, List, Option, Some, None, IfSome, IfOk, OnErr, Result, Ok, Err, inr}
use Rattle.std.specs.Prelude.{⊤}
use Rattle.miette.specs.rules.Options.{Options}
use Rattle.miette_protocol.specs.rules.Reading.{Source}
use Rattle.miette_style.specs.declared.theme.Terminal.{Terminal}
use Rattle.miette_tree.specs.rules.Tree.{Tree}
use Rattle.miette_program.proofs.JobHandlerSteps.{asked-text}
use Rattle.miette_program.specs.rules.JobText.{IsAsked, IsGiven, IsJobText}
use Rattle.miette_program.specs.rules.LanguageRules.{TokensFollow}
use Rattle.miette_program.specs.declared.arguments.Choice.{Choice}
use Rattle.miette_program.specs.declared.job_handler.JobHandler.{JobHandler}
use Rattle.miette_program.specs.declared.language.LanguageHighlighter.{LanguageHighlighter}
use Rattle.miette_show.specs.rules.ShownRow.{Shows, ShowsFirst}
use Rattle.miette_show.specs.declared.words.Format.{Format}
use Rattle.miette_show_rows.specs.rules.Statuses.{status_of}
use Rattle.miette_show_rows.specs.declared.verdict.Verdict.{Verdict}
use Rattle.miette_show.proofs.Showing.{first_by, shows_by}

module _ (is_blank : LanguageHighlighter → Bool) (from : Format) (c : Choice) (o : Options LanguageHighlighter)
    (l : Terminal) (h : JobHandler LanguageHighlighter) (asked : IsAsked c o l h) where
  pub call_shows : {E : Type 0} (found : (List ℕ → Option Source) → List (List ℕ) → Type 0) (told : Option (List ℕ))
      (holds : List ℕ → List ℕ → Type 0) (r : Result Verdict E)
      → IfOk r (λ v. IfSome told (λ bytes. Shows from (IsGiven is_blank TokensFollow h) found bytes holds v))
      → IfOk r (λ v. IfSome told (λ bytes. Shows from (IsJobText is_blank c o l) found bytes holds v))
  call_shows found told holds (Err e) shows = tt
  call_shows found None holds (Ok v) shows = tt
  call_shows found (Some bytes) holds (Ok v) shows =
      shows_by from (IsGiven is_blank TokensFollow h) (IsJobText is_blank c o l) found bytes holds v
      (λ t x. asked-text is_blank c o l h t x asked) shows

  pub call_first : {E : Type 0} (found : (List ℕ → Option Source) → List (List ℕ) → Type 0) (told : Option (List ℕ))
      (holds : List ℕ → List ℕ → Type 0) (r : Result Verdict E) (other : Type 0)
      → OnErr r (IfSome told (λ bytes. ShowsFirst from (IsGiven is_blank TokensFollow h) found bytes holds))
      → OnErr r (other ⊎ IfSome told (λ bytes. ShowsFirst from (IsJobText is_blank c o l) found bytes holds))
  call_first found told holds (Ok v) other shows = tt
  call_first found None holds (Err e) other shows = inr tt
  call_first found (Some bytes) holds (Err e) other shows =
      inr (first_by from (IsGiven is_blank TokensFollow h) (IsJobText is_blank c o l) found bytes holds
      (λ t x. asked-text is_blank c o l h t x asked) shows)

any_holds : (from : Format) (gives : Tree → List ℕ → Type 0)
    (found : (List ℕ → Option Source) → List (List ℕ) → Type 0) (bytes : List ℕ) (holds : List ℕ → List ℕ → Type 0)
    (v : Verdict) → Shows from gives found bytes holds v → Shows from gives found bytes (λ text notes. ⊤) v
any_holds from gives found bytes holds v (shown, rows, each, held, is) = (shown, rows, each, tt, is)

pub call_status : (from : Format) (gives : Tree → List ℕ → Type 0)
    (found : (List ℕ → Option Source) → List (List ℕ) → Type 0) (told : Option (List ℕ))
    (holds : List ℕ → List ℕ → Type 0) (v : Verdict) (status : ℕ) → status ≡ status_of v
    → IfSome told (λ bytes. Shows from gives found bytes holds v)
    → IfSome told (λ bytes. (w : Verdict) × (status ≡ status_of w)
    × Shows from gives found bytes (λ text notes. ⊤) w)
call_status from gives found None holds v status is shows = tt
call_status from gives found (Some bytes) holds v status is shows =
    (v, is, any_holds from gives found bytes holds v shows)
