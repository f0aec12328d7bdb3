use Rattle.std.proofs.Common.{ℕ, ◌≡◌, ◌+◌, List, ap, sym, subst, ◌∙◌, length, map, refl}
use Rattle.std.specs.Option.{option_map}
use Rattle.std.proofs.lemmas.Result.{on_ok_weaker}
use Rattle.miette_snippet_folds.specs.views.ExtentIndex.{extent_view}
use Rattle.miette_snippet_frames.specs.views.Places.{place_at}
use Rattle.miette_snippet_folds.specs.views.Folding.{fold_in}
use Rattle.miette_labels.specs.views.Sweeping.{IsAt}
use Rattle.miette_snippet_rules.specs.views.SnippetSettings.{settings_of}
use Rattle.miette_snippet_rules.specs.rules.Highlighting.{leaves_plain, follows}
use Rattle.miette_highlight.specs.rules.HighlighterCalls.{Call, Leads}
use Rattle.miette_lines.specs.rules.Lines.{lines_from}
use Rattle.miette_labels.specs.views.ProgramLabels.{drawn_of}
use Rattle.miette_snippet_rules.specs.rules.SnippetLayout.{snippet_context}
use Rattle.miette_snippet_frames.specs.views.ContentsRows.{cells_in, texts_in}
use Rattle.miette_layout.proofs.ReadRows.{told_contents}
use Rattle.miette_layout.proofs.AroundRows.{rows_around}
use Rattle.miette_layout.proofs.snippet.push_framed.Goals as goal

pub size_of_snippet-requires-clause-at : goal.size_of_snippet-requires-clause-at
size_of_snippet-requires-clause-at g c =
    let at : c.offset-start.result ≡ c.args.snippet.now.contents.now.span.offset = c.offset-start.ensures
    ∙ ap (λ s. s.offset) c.span.ensures in
    subst (λ (n : ℕ). IsAt c.args.drawing.now.placed.now n c.args.sweep.now.next c.args.sweep.now.running.items)
    (sym at) c.requires.at

pub push_lines-requires-clause-at : goal.push_lines-requires-clause-at
push_lines-requires-clause-at g c =
    let at : c.offset-start.result ≡ c.args.snippet.now.contents.now.span.offset = c.offset-start.ensures
    ∙ ap (λ s. s.offset) c.span.ensures in
    rw (
      c.return_to.ensures.next,
      c.return_to.ensures.running,
      c.in_ok-begun.ensures.next,
      c.in_ok-begun.ensures.running,
    )
    (subst (λ (n : ℕ). IsAt c.args.drawing.now.placed.now n c.args.sweep.now.next c.args.sweep.now.running.items)
    (sym at) c.requires.at)

pub size_of_snippet-requires-clause-folds : goal.size_of_snippet-requires-clause-folds
size_of_snippet-requires-clause-folds g c =
    let contents = c.args.snippet.now.contents.now in
    let label_extents = c.around-label_extents.result.now in
    let at : contents.span.offset ≡ c.offset-start.result =
    sym (c.offset-start.ensures ∙ ap (λ s. s.offset) c.span.ensures) in
    record {
      labels = label_extents;
      are = c.in_ok-folds.ensures ∙ ap (λ n. map (fold_in n contents.bytes) label_extents) at
          ∙ ap (λ bs. map (fold_in c.offset-start.result bs) label_extents) (sym c.data-bytes.ensures);
    }

pub push_lines-requires-clause-folds : goal.push_lines-requires-clause-folds
push_lines-requires-clause-folds g c =
    let contents = c.args.snippet.now.contents.now in
    let label_extents = c.around-label_extents.result.now in
    let at : contents.span.offset ≡ c.offset-start.result =
    sym (c.offset-start.ensures ∙ ap (λ s. s.offset) c.span.ensures) in
    c.in_ok-folds.ensures ∙ ap (λ n. map (fold_in n contents.bytes) label_extents) at
    ∙ ap (λ bs. map (fold_in c.offset-start.result bs) label_extents) (sym c.data-bytes.ensures)

pub index_folds-requires-clause-numbered : goal.index_folds-requires-clause-numbered
index_folds-requires-clause-numbered g c = record {
  counted = c.requires.numbered.counted;
  each = c.around-label_extents.ensures.numbered c.args.snippet.now.contents.now c.requires.numbered.each;
}

pub returns-clause-rows : goal.returns-clause-rows
returns-clause-rows g c =
    let drawing = c.args.drawing.now in
    let snippet = c.args.snippet.now in
    let blank = leaves_plain g.H.Highlighter.is_blank c.args.highlighter.now in
    let had : List Call → Type 0 = follows g.H.Highlighter.may_follow c.args.highlighter.now in
    let now : List Call → Type 0 = follows g.H.Highlighter.may_follow c.push_lines.new.highlighter in
    on_ok_weaker c.push_frame_bottom.result
    (told_contents (settings_of drawing.settings) (map extent_view drawing.label_extents.now) drawing.placed.now
    snippet.contents.now (option_map place_at snippet.place) blank (λ calls. Leads had calls now)
    c.in_ok-number_width.field-0 c.in_ok-gutter_width.field-0 c.in_ok-extent.extent.lines c.in_ok-extent.extent.most
    c.line-before.result c.offset-start.result
    _ c.data-bytes.result.now c.args.page.now c.push_frame_top.new.page c.push_lines.new.page
    c.push_frame_bottom.new.page
    c.line-before.ensures (c.offset-start.ensures ∙ ap (λ s. s.offset) c.span.ensures) c.name.ensures
    c.data-bytes.ensures
    c.in_ok-extent.ensures.lines c.in_ok-extent.ensures.most c.in_ok-number_width.ensures c.in_ok-gutter_width.ensures
    c.in_ok-push_frame_top.ensures
    (rows_around (settings_of drawing.settings) blank (λ calls. Leads had calls now) c.offset-start.result
    (c.offset-start.result + length c.data-bytes.result.now) c.line-before.result c.data-bytes.result.now
    drawing.label_extents.now c.around-label_extents.result.now
    (texts_in c.offset-start.result c.data-bytes.result.now (lines_from c.offset-start.result c.data-bytes.result.now))
    (snippet_context (settings_of drawing.settings) c.in_ok-number_width.field-0 c.in_ok-gutter_width.field-0
    (map drawn_of drawing.placed.now)
    (cells_in (settings_of drawing.settings) c.offset-start.result c.data-bytes.result.now))
    c.push_frame_top.new.page c.push_lines.new.page refl c.around-label_extents.ensures.around
    c.in_ok-push_lines.ensures.rows))
    c.push_frame_bottom.ensures
