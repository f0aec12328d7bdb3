use Rattle.std.proofs.Common.{ℕ, ◌≡◌, ◌+◌, List, ◌∷◌, ap, ◌∙◌, sym, subst, length, map}
use Rattle.std.specs.Option.{option_map}
use Rattle.miette_snippet_folds.specs.views.ExtentIndex.{extent_view}
use Rattle.miette_snippet_frames.specs.views.Places.{place_at}
use Rattle.miette_snippet_rules.specs.views.SnippetSettings.{settings_of}
use Rattle.miette_labels.specs.views.ProgramLabels.{drawn_of}
use Rattle.miette_snippet_frames.specs.views.ContentsRows.{PutsRows, contents_snippet}
use Rattle.miette_labels.specs.views.Sweeping.{IsAt}
use Rattle.miette_highlight.specs.rules.HighlighterCalls.{Call, Leads, restarted}
use Rattle.miette_snippet_rules.specs.rules.Highlighting.{follows, leaves_plain}
use Rattle.miette_style.specs.rules.Rows.{Row}
use Rattle.miette_labels.specs.rules.Answers.{Highlight}
use Rattle.miette_layout.proofs.ReadRows.{contents_texts, restarted_first}
use Rattle.miette_layout.proofs.snippet.push_snippet.Goals as goal

pub push_framed-requires-clause-at : goal.push_framed-requires-clause-at
push_framed-requires-clause-at g c =
    subst (λ (n : ℕ). IsAt c.args.drawing.now.placed.now n c.seek.new.position.sweep.next
    c.seek.new.position.sweep.running.items) (c.offset-start.ensures ∙ ap (λ s. s.offset) c.span.ensures)
    c.in_ok-seek.ensures

pub returns-clause-rows : goal.returns-clause-rows
returns-clause-rows g c =
    let contents = c.args.snippet.now.contents.now in
    let drawing = c.args.drawing.now in
    let had : List Call → Type 0 = follows g.H.Highlighter.may_follow c.args.highlighter.now in
    let begun : List Call → Type 0 = follows g.H.Highlighter.may_follow c.restart.new.highlighter in
    let now : List Call → Type 0 = follows g.H.Highlighter.may_follow c.push_framed.new.highlighter in
    let blank = leaves_plain g.H.Highlighter.is_blank c.restart.new.highlighter in
    let drawn : List (List Highlight) → List Row = contents_snippet (settings_of drawing.settings)
    (map extent_view drawing.label_extents.now) (map drawn_of drawing.placed.now) contents
    (option_map place_at c.args.snippet.now.place) in
    subst (λ b. PutsRows b (λ calls. Leads had (restarted contents ∷ calls) now) (contents_texts contents) drawn
    c.args.page.now c.push_framed.new.page) c.restart.ensures.stays
    (restarted_first blank had begun now (contents_texts contents) drawn contents c.args.page.now c.push_framed.new.page
    c.restart.ensures.calls c.in_ok-push_framed.ensures.rows)

pub returns-clause-at : goal.returns-clause-at
returns-clause-at g c =
    let e : c.args.snippet.now.contents.now.span.offset + length c.args.snippet.now.contents.now.bytes
    ≡ c.in_ok-end.end =
    sym (c.in_ok-end.ensures ∙ ap (λ n. n + length c.data.result.now)
    (c.offset-start.ensures ∙ ap (λ s. s.offset) c.span.ensures)
    ∙ ap (λ b. c.args.snippet.now.contents.now.span.offset + length b) c.data.ensures) in
    subst (λ (n : ℕ). IsAt c.args.drawing.now.placed.now n c.push_framed.new.sweep.next
    c.push_framed.new.sweep.running.items) e c.in_ok-push_framed.ensures.at
