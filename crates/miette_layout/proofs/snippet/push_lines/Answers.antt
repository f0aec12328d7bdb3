use Rattle.std.proofs.Common.{ℕ, ◌≡◌, ◌+◌, ◌-◌, ◌≤◌, ◌<◌, false, arith, length, map, refl, sym, ap, subst, ◌∙◌, Bool}
use Rattle.std.proofs.Common.{List, drop}
use Rattle.miette_labels.specs.declared.placed.PlacedLabel.{PlacedLabel}
use Rattle.miette_snippet_rules.specs.views.SnippetSettings.{settings_of}
use Rattle.miette_labels.specs.views.ProgramLabels.{drawn_of}
use Rattle.miette_snippet_rules.specs.rules.FoldedLabels.{leaves_out, line_at}
use Rattle.miette_snippet_rules.specs.rules.Highlighting.{leaves_plain, decoded_text, ArePieces, follows, highlight_of}
use Rattle.miette_snippet_rules.specs.rules.SnippetLayout.{left_out}
use Rattle.miette_lines.specs.rules.Lines.{Line, lines_from}
use Rattle.miette_snippet_folds.specs.declared.folds.LineStart.{LineStart}
use Rattle.miette_snippet_folds.specs.views.ExtentIndex.{extent_view}
use Rattle.miette_snippet_frames.specs.views.ContentsRows.{text_in}
use Rattle.miette_snippet_folds.specs.views.Gaps.{next_line}
use Rattle.miette_lines.specs.views.Walking.{line_of_text}
use Rattle.miette_labels.specs.views.Sweeping.{IsAt}
use Rattle.miette_labels.proofs.Swept.{left_at}
use Rattle.miette_highlight.specs.rules.HighlighterCalls.{Call}
use Rattle.miette_layout.proofs.HighlightedPieces.{call_for}
use Rattle.miette_snippet_folds.proofs.Starts.{Begins, begins_first, begins_next, begins_few, begun_line}
use Rattle.miette_snippet_folds.proofs.GapLines.{IsBetween, next_begins, next_further}
use Rattle.miette_snippet_rules.proofs.NeverHidden.{none_before}
use Rattle.miette_snippet_folds.proofs.LeftOutGaps.{IsPassed, next_before, next_outs}
use Rattle.miette_layout.proofs.LeftOutRows.{lines_run}
use Rattle.miette_snippet_folds.proofs.LineExtent.{not_jumped}
use Rattle.miette_layout.proofs.ReadRows.{AreLined, lines_first, lines_more, lines_all, text_fits}
use Rattle.miette_layout.proofs.snippet.push_lines.Goals as goal

pub loop-at-init : goal.loop-at-init
loop-at-init g c =
    let body = c.args.body.now in
    let e : c.args.body.now.start ≡ c.args.body.now.start + 0 = omega arith in
    let n : c.args.body.now.before + 1 ≡ c.args.body.now.before + 0 + 1 = omega arith in record {
      lined = subst (λ (m : ℕ). AreLined (left_out (settings_of body.frame.settings) body.before
          (lines_from body.start body.bytes.now) (map extent_view c.args.body.now.label_extents.now)) false
          (settings_of body.frame.settings) body.frame.number_width body.gutter
          (map drawn_of c.args.labels.now) body.start body.bytes.now
          (body.before + 1)
          (leaves_plain g.H.Highlighter.is_blank c.args.highlighter.now)
          (follows g.H.Highlighter.may_follow c.args.highlighter.now)
          (follows g.H.Highlighter.may_follow c.args.highlighter.now) 0 m c.args.page.now c.args.page.now) n
          (lines_first (left_out (settings_of body.frame.settings) body.before
          (lines_from body.start body.bytes.now) (map extent_view c.args.body.now.label_extents.now))
          (settings_of body.frame.settings) body.frame.number_width body.gutter
          (map drawn_of c.args.labels.now) body.start body.bytes.now
          (body.before + 1)
          (leaves_plain g.H.Highlighter.is_blank c.args.highlighter.now)
          (follows g.H.Highlighter.may_follow c.args.highlighter.now) c.args.page.now);
      before = none_before body.frame.settings.layout.now.label_lines (lines_from body.start body.bytes.now)
          (map extent_view body.label_extents.now);
      begun = begins_first body.start body.bytes.now;
      state = subst (λ (n : ℕ). IsAt c.args.labels.now n c.args.sweep.now.next
          c.args.sweep.now.running.items) e c.requires.at;
      stays = refl;
    }

pub enter-requires-clause-at : goal.enter-requires-clause-at
enter-requires-clause-at g c =
    subst (λ (n : ℕ). IsAt c.args.labels.now n c.loop-at.sweep.next c.loop-at.sweep.running.items)
    (sym c.line_at-line.ensures.from) c.loop-at.invariant.state

pub push_line_or_break-requires : goal.push_line_or_break-requires
push_line_or_break-requires g c =
    let from : c.line_at-line.result.start ≡ c.args.body.now.start + c.loop-at.at = c.line_at-line.ensures.from in
    text_fits c.args.body.now.start c.args.body.now.bytes.now c.line_at-line.result (omega (arith, from))
    c.line_at-line.ensures.text c.line_at-line.ensures.ending c.line_at-line.ensures.to c.requires.small

pub next_line_start-next-requires : goal.next_line_start-next-requires
next_line_start-next-requires g c =
    let start : ℕ = c.args.body.now.start in
    let few : start + c.loop-at.place ≤ start + c.loop-at.at =
    begins_few start c.args.body.now.bytes.now (start + c.loop-at.at) c.loop-at.place c.loop-at.invariant.begun in
    omega (arith, few, c.loop-at-test.true, c.requires.small)

pub skip_lines-requires-clause-order : goal.skip_lines-requires-clause-order
skip_lines-requires-clause-order g c =
    subst (λ (x : LineStart). c.line_at-line.result.end ≤ x.offset) (sym c.next_line_start-next.ensures)
    (next_further c.args.body.now.folds.now c.loop-at.place (line_of_text c.line_at-line.result) c.may_pass.result)

pub leaves_out-left_out-requires-clause-there : goal.leaves_out-left_out-requires-clause-there
leaves_out-left_out-requires-clause-there g c =
    begun_line c.args.body.now.start c.args.body.now.bytes.now c.loop-at.at c.loop-at.place c.line_at-line.result
    c.loop-at.invariant.begun c.line_at-line.ensures.parted

pub skip_lines-requires-clause-at : goal.skip_lines-requires-clause-at
skip_lines-requires-clause-at g c =
    rw c.leave.ensures.next
    (left_at c.args.labels.now (line_of_text c.line_at-line.result) c.enter.new.self.next c.enter.new.self.running.items
    c.leave.new.self.running.items
    c.requires.sorted c.line_at-line.ensures.some c.in_ok-enter.ensures.on c.leave.ensures.running)

pub overflow_sub-at : goal.overflow_sub-at
overflow_sub-at g c =
    let from : c.line_at-line.result.start ≡ c.args.body.now.start + c.loop-at.at = c.line_at-line.ensures.from in
    let le : c.line_at-line.result.end ≤ c.next_line_start-next.result.offset =
    subst (λ (x : LineStart). c.line_at-line.result.end ≤ x.offset) (sym c.next_line_start-next.ensures)
    (next_further c.args.body.now.folds.now c.loop-at.place (line_of_text c.line_at-line.result) c.may_pass.result) in
    omega (arith, from, le, c.line_at-line.ensures.some)

pub loop-at-smaller : goal.loop-at-smaller
loop-at-smaller g c =
    let from : c.line_at-line.result.start ≡ c.args.body.now.start + c.loop-at.at = c.line_at-line.ensures.from in
    let le : c.line_at-line.result.end ≤ c.next_line_start-next.result.offset =
    subst (λ (x : LineStart). c.line_at-line.result.end ≤ x.offset) (sym c.next_line_start-next.ensures)
    (next_further c.args.body.now.folds.now c.loop-at.place (line_of_text c.line_at-line.result) c.may_pass.result) in
    omega (arith, from, le, c.line_at-line.ensures.some, c.loop-at-test.true)

pub loop-at-preserved : goal.loop-at-preserved
loop-at-preserved g c =
    let body = c.args.body.now in
    let start : ℕ = c.args.body.now.start in
    let bytes : List ℕ = c.args.body.now.bytes.now in
    let label_extents = c.args.body.now.label_extents.now in
    let folds = c.args.body.now.folds.now in
    let placed : List PlacedLabel = c.args.labels.now in
    let l : Line = line_of_text c.line_at-line.result in
    let place : ℕ = c.loop-at.place in
    let jumps : Bool = c.may_pass.result in
    let near : LineStart = next_line c.loop-at.place (line_of_text c.line_at-line.result) in
    let far : LineStart = c.next_line_start-next.result in
    let blank : Bool = leaves_plain g.H.Highlighter.is_blank c.args.highlighter.now in
    let begun : List Call → Type 0 = follows g.H.Highlighter.may_follow c.args.highlighter.now in
    let was : List Call → Type 0 = follows g.H.Highlighter.may_follow c.loop-at.highlighter in
    let now : List Call → Type 0 = follows g.H.Highlighter.may_follow c.pieces_of.new.highlighter in
    let text = decoded_text (text_in c.args.body.now.start c.args.body.now.bytes.now
    (line_of_text c.line_at-line.result)) in
    let answered : ArePieces blank text (map highlight_of c.in_ok-pieces.pieces.items) =
    subst (λ b. ArePieces b text (map highlight_of c.in_ok-pieces.pieces.items)) c.loop-at.invariant.stays
    c.in_ok-pieces.ensures.pieces in
    let own : ArePieces blank text (map highlight_of c.deref-in-loop-at-2.result.now) =
    subst (λ ps. ArePieces blank text (map highlight_of ps)) (sym c.deref-in-loop-at-2.ensures.value) answered in
    let from : c.line_at-line.result.start ≡ c.args.body.now.start + c.loop-at.at = c.line_at-line.ensures.from in
    let some : c.line_at-line.result.start < c.line_at-line.result.end = c.line_at-line.ensures.some in
    let to : c.line_at-line.result.end ≤ c.args.body.now.start + length c.args.body.now.bytes.now =
    c.line_at-line.ensures.to in
    let low : c.args.body.now.start ≤ c.line_at-line.result.end = omega (arith, from, some) in
    let lined = subst (λ (n : ℕ). AreLined (left_out (settings_of body.frame.settings) body.before
    (lines_from body.start body.bytes.now) (map extent_view c.args.body.now.label_extents.now)) c.loop-at.gap
    (settings_of body.frame.settings) body.frame.number_width body.gutter
    (map drawn_of placed) body.start body.bytes.now (body.before + 1) blank begun was
    c.loop-at.at n c.args.page.now c.loop-at.page)
    (sym c.in_ok-number.ensures) c.loop-at.invariant.lined in
    let counted : c.loop-at.place ≡ c.in_ok-number.number - (c.args.body.now.before + 1) =
    omega (arith, c.in_ok-number.ensures) in
    let is : c.leaves_out-left_out.result ≡ leaves_out c.args.body.now.frame.settings.layout.now.label_lines
    (lines_from start bytes) (map extent_view c.args.body.now.label_extents.now) c.loop-at.place
    (line_of_text c.line_at-line.result) =
    c.leaves_out-left_out.ensures c.args.body.now.label_extents.now c.requires.folds c.loop-at.invariant.before in
    let leaves : c.leaves_out-left_out.result ≡ left_out (settings_of body.frame.settings)
    body.before (lines_from body.start body.bytes.now) (map extent_view c.args.body.now.label_extents.now)
    c.in_ok-number.number (line_of_text c.line_at-line.result) =
    is ∙ ap (λ n. leaves_out c.args.body.now.frame.settings.layout.now.label_lines (lines_from start bytes)
    (map extent_view c.args.body.now.label_extents.now) n (line_of_text c.line_at-line.result)) counted in
    let drawn = lines_more (left_out (settings_of body.frame.settings) body.before
    (lines_from body.start body.bytes.now) (map extent_view c.args.body.now.label_extents.now)) c.loop-at.gap
    c.leaves_out-left_out.result (settings_of body.frame.settings) body.frame.number_width body.gutter placed
    body.start body.bytes.now (body.before + 1) blank begun was now
    c.loop-at.at c.in_ok-number.number c.line_at-line.result
    c.deref-in-loop-at.result.now c.deref.result.now (map highlight_of c.deref-in-loop-at-2.result.now)
    c.args.page.now c.loop-at.page c.push_line_or_break.new.page lined leaves c.line_at-line.ensures.parted low
    (c.deref-in-loop-at.ensures.value ∙ c.in_ok-enter.ensures.alone)
    (c.deref.ensures.value ∙ c.in_ok-enter.ensures.on.multi) own
    (call_for was now text c.deref-in-loop-at-2.result.now c.in_ok-pieces.pieces.items
    c.deref-in-loop-at-2.ensures.value c.in_ok-pieces.ensures.calls)
    c.in_ok-push_line_or_break.ensures in
    let sums : c.in_ok-number.number + 1 ≡ c.args.body.now.before + (c.loop-at.place + 1) + 1 =
    omega (arith, c.in_ok-number.ensures) in
    let after = subst (λ (n : ℕ). AreLined (left_out (settings_of body.frame.settings) body.before
    (lines_from body.start body.bytes.now) (map extent_view c.args.body.now.label_extents.now))
    c.leaves_out-left_out.result (settings_of body.frame.settings) body.frame.number_width
    body.gutter (map drawn_of placed) body.start body.bytes.now (body.before + 1)
    blank begun now (c.line_at-line.result.end - c.args.body.now.start) n c.args.page.now
    c.push_line_or_break.new.page) sums drawn in
    let a : Begins start bytes c.line_at-line.result.end (c.loop-at.place + 1) =
    begins_next start bytes c.loop-at.at c.loop-at.place c.line_at-line.result c.loop-at.invariant.begun
    c.line_at-line.ensures.parted low to in
    let b : Begins start bytes c.next_line_start-next.result.offset c.next_line_start-next.result.place =
    subst (λ (x : LineStart). Begins start bytes x.offset x.place) (sym c.next_line_start-next.ensures)
    (next_begins start bytes label_extents folds place l jumps c.requires.folds a) in
    let le : c.line_at-line.result.end ≤ c.next_line_start-next.result.offset =
    subst (λ (x : LineStart). c.line_at-line.result.end ≤ x.offset) (sym c.next_line_start-next.ensures)
    (next_further folds place l jumps) in
    let passed : IsPassed start bytes label_extents folds place l = record {
      folds_are = c.requires.folds;
      low = low;
      order = omega (arith, some);
      rest = lines_from c.line_at-line.result.end (drop (c.line_at-line.result.end - start) bytes);
      there = begun_line start bytes c.loop-at.at place c.line_at-line.result c.loop-at.invariant.begun
          c.line_at-line.ensures.parted;
      next = a;
    } in
    let there : c.next_line_start-next.result.offset ≡ c.args.body.now.start
    + (c.next_line_start-next.result.offset - c.args.body.now.start) = omega (arith, b.low) in
    record {
      lined = lines_run (settings_of body.frame.settings)
          (map extent_view c.args.body.now.label_extents.now) c.leaves_out-left_out.result jumps body.frame.number_width
          body.gutter (map drawn_of placed) start bytes body.before (body.before + 1)
          blank begun now near far c.args.page.now c.push_line_or_break.new.page
          c.may_pass.ensures.out c.may_pass.ensures.free (λ f. c.next_line_start-next.ensures
          ∙ not_jumped folds place l jumps f) a b le
          (λ k other h. next_outs start bytes label_extents folds c.args.body.now.frame.settings.layout.now.label_lines
          place
          l jumps passed (λ t. sym is ∙ c.may_pass.ensures.out t) k other
          (subst (λ (x : LineStart). IsBetween near x k other) c.next_line_start-next.ensures h))
          after;
      before = subst (λ (x : LineStart). c.leaves_out-left_out.result
          ≡ leaves_out c.args.body.now.frame.settings.layout.now.label_lines (lines_from start bytes)
          (map extent_view label_extents) (x.place - 1) (line_at (lines_from start bytes) (x.place - 1)))
          (sym c.next_line_start-next.ensures)
          (next_before start bytes label_extents folds c.args.body.now.frame.settings.layout.now.label_lines place l
          jumps
          c.leaves_out-left_out.result passed is c.may_pass.ensures.out);
      begun = subst (λ (n : ℕ). Begins start bytes n c.next_line_start-next.result.place) there b;
      state = subst (λ (n : ℕ). IsAt placed n c.skip_lines.new.sweep.next c.skip_lines.new.sweep.running.items) there
          c.in_ok-skip_lines.ensures;
      stays = c.pieces_of.ensures.stays ∙ c.loop-at.invariant.stays;
    }

pub returns-clause-rows : goal.returns-clause-rows
returns-clause-rows g c =
    let body = c.args.body.now in
    lines_all (left_out (settings_of body.frame.settings) body.before
    (lines_from body.start body.bytes.now) (map extent_view c.args.body.now.label_extents.now)) c.loop-at.gap
    (settings_of body.frame.settings) body.frame.number_width body.gutter
    (map drawn_of c.args.labels.now) body.start body.bytes.now
    (body.before + 1)
    (leaves_plain g.H.Highlighter.is_blank c.args.highlighter.now)
    (follows g.H.Highlighter.may_follow c.args.highlighter.now)
    (follows g.H.Highlighter.may_follow c.loop-at.highlighter) c.loop-at.at
    (c.args.body.now.before + c.loop-at.place + 1) c.args.page.now c.loop-at.page c.loop-at.invariant.lined
    c.loop-at-test.false

pub returns-clause-at : goal.returns-clause-at
returns-clause-at g c =
    let inside : c.args.body.now.start + c.loop-at.at ≤ c.args.body.now.start + length c.args.body.now.bytes.now =
    c.loop-at.invariant.begun.high in
    let over : length c.args.body.now.bytes.now ≤ c.loop-at.at = c.loop-at-test.false in
    let e : c.args.body.now.start + c.loop-at.at ≡ c.args.body.now.start + length c.args.body.now.bytes.now =
    omega (arith, inside, over) in
    subst (λ (n : ℕ). IsAt c.args.labels.now n c.loop-at.sweep.next c.loop-at.sweep.running.items) e
    c.loop-at.invariant.state
