use Rattle.std.proofs.Common.{◌≡◌, ℕ, List, None, Option, refl, rules}
use Rattle.std.specs.Prelude.{⊤}
use Rattle.miette_highlight.specs.declared.highlighter.Highlighter.{is_blank-default}
use Rattle.miette_program.specs.declared.language.LanguageHighlighter.{LanguageHighlighter}
use Rattle.miette_protocol.specs.rules.Reading.{Source}
use Rattle.miette_show_rows.specs.rules.Looking.{IsFoundBy}
use Rattle.miette_show_rows.specs.views.Folder.{IsLookedFor, found_in}
use Rattle.std.specs.HashMap.{IsEmpty}
use Rattle.std.specs.Option.{option_copied}
use Rattle.std.proofs.lemmas.Result.{IfOk-weaker}
use Rattle.miette.specs.rules.Detection.{IsToldBy}
use Rattle.miette_show_rows.specs.declared.folder.Folder.{Folder}
use Rattle.miette_show_rows.specs.views.Reading.{left_of}
use Rattle.miette_show.specs.rules.ShowWords.{folder_in, requested_by}
use Rattle.miette_show.specs.views.Asked.{IsRequest, words_of}
use Rattle.miette_show.proofs.RunSteps.{program-status}
use Rattle.miette_show.proofs.request.run_on.Goals as goal

pub returns-clause-status : goal.returns-clause-status
returns-clause-status g c =
    let told = IsToldBy (g.H.Lookup.variable_may_be c.args.rt.now) (g.H.Streams.terminal_may_be c.args.rt.now) in
    let asked = requested_by (words_of c.args.words) in
    let files = c.folder_for-files.result in
    let is : IsRequest told asked c.in_ok-root.field-0.request = search rules in
    let below : option_copied files.lookup.root ≡ folder_in (words_of c.args.words) = search rules in
    let request = c.in_ok-root.field-0.request in
    let left = left_of g.R.Read.remaining c.args.streams.now.rows in
    let found : Folder g.row.H.Denot → (List ℕ → Option Source) → List (List ℕ) → Type 0 =
    λ (it : Folder g.row.H.Denot). IsFoundBy {F = Folder g.row.H.Denot}
    (λ (at : Folder g.row.H.Denot) (name : List ℕ). found_in at.files name)
    (λ (at : Folder g.row.H.Denot) (name : List ℕ). IsLookedFor at.files name) it
    in
    IfOk-weaker c.run.result _ _
    (λ status run. program-status (is_blank-default LanguageHighlighter) found (found files) (λ name. ⊤) None None
    (IsRequest told asked) (λ (it : Folder g.row.H.Denot). IsEmpty it.files)
    (λ (it : Folder g.row.H.Denot). option_copied it.lookup.root ≡ folder_in (words_of c.args.words))
    request files is c.folder_for-files.ensures.empty below refl left status run) c.run.ensures.status
