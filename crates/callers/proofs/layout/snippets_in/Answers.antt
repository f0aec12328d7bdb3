use Rattle.std.proofs.Common.{◌≡◌, List, [], Option, Some, None, refl, ◌∙◌, ap, ap₂}
use Rattle.std.specs.Prelude.{unwrap_or}
use Rattle.std.specs.Option.{option_map}
use Rattle.miette_columns.specs.rules.Widths.{width_of}
use Rattle.miette_style.specs.rules.Rows.{Row}
use Rattle.miette_style.specs.views.Printouts.{Printout, ended_text, printout_of, ◌⊕◌}
use Rattle.miette_style.specs.views.Tokens.{rows_tokens}
use Rattle.miette_protocol.specs.rules.Reading.{plain_source}
use Rattle.miette_snippet_rules.specs.rules.SnippetLayout.{rows_of_labels}
use Rattle.miette_style.specs.rules.Themes.{theme_of}
use Rattle.callers.proofs.layout.snippets_in.Goals as goal

-- the rows whose tokens were printed
printed_rows : (before after : Printout) (found : Option (List Row)) →
    Some after ≡ option_map (λ rows. before ⊕ rows_tokens rows) found →
    (rows : List Row) × (found ≡ Some rows) × (after ≡ before ⊕ rows_tokens rows)
printed_rows before after None e = absurd (cc)
printed_rows before after (Some rows) e = (rows, refl, ap (λ o. unwrap_or o after) e)

pub returns : goal.returns
returns c =
    let given = c.in_ok-page.ensures.gives in
    let found = printed_rows (printout_of []) c.in_ok-page.page _
    (given.is ∙ ap₂ (λ before layout. option_map (λ rows. before ⊕ rows_tokens rows)
    (rows_of_labels (record { theme = theme_of c.args.theme.now; width = width_of; layout = layout })
    (plain_source c.args.source.now) c.args.labels.now given.answers))
    (c.over-page.ensures ∙ ap printout_of c.for_text.ensures) c.default-layout.ensures) in
    record {
      answers = given.answers;
      none_fails = given.always refl;
      rows = found.0;
      are = found.1;
      printed = c.in_ok-into_output.ensures ∙ ap ended_text found.2;
    }
