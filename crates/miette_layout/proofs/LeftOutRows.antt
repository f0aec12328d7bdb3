-- Lines that are left out after one that is left out have no rows, and none is asked for without a highlighter.
use Rattle.miette_style.specs.views.Printouts.{Printout, ◌⊕◌}
use Rattle.std.proofs.Common.{ℕ, ◌+◌, ◌-◌, ◌≤◌, ◌≡◌, Bool, true, false, List, [], ◌∷◌, ◌++◌, length, drop, refl, sym}
use Rattle.std.proofs.Common.{ap, ◌∙◌, subst, arith}
use Rattle.miette_lines.specs.rules.Lines as P
use Rattle.miette_lines.specs.rules.Lines.{Line, IsCut}
use Rattle.miette_highlight.specs.rules.HighlighterCalls.{Call}
use Rattle.miette_style.specs.views.Tokens.{rows_tokens}
use Rattle.miette_labels.specs.rules.Labels.{DrawnLabel}
use Rattle.miette_snippet_rules.specs.rules.FoldedLabels.{LabelExtent, leaves_out}
use Rattle.miette_snippet_rules.specs.rules.Highlighting.{ArePieces, decoded_text, line_calls}
use Rattle.miette_snippet_rules.specs.rules.SnippetLayout.{line_or_break, left_out}
use Rattle.miette_snippet_folds.specs.declared.folds.LineStart.{LineStart}
use Rattle.miette_snippet_frames.specs.views.ContentsRows.{cells_in, text_in, texts_in}
use Rattle.miette_layout.proofs.ReadRows.{AreLinedBefore, AreLined}
use Rattle.miette_snippet_folds.proofs.GapLines.{IsBetween}
use Rattle.miette_snippet_folds.proofs.LeftOutGaps.{first_between}
use Rattle.miette_snippet_folds.proofs.Starts.{Begins, RunOf, run_of}
use Rattle.miette_snippet_rules.specs.rules.SnippetLayout.{snippet_context, rows_of_lines}
use Rattle.miette_snippet_rules.specs.rules.SnippetSettings.{SnippetSettings}

-- lines with numbers from this one on are left out
abbrev EachOut : (ℕ → Line → Bool) → ℕ → List Line → Type 0
EachOut out number [] = Unit {0}
EachOut out number (l ∷ ls) = (out number l ≡ true) × EachOut out (number + 1) ls

one_skipped : (out : ℕ → Line → Bool) (s : SnippetSettings) (w columns : ℕ) (drawn : List DrawnLabel) (start : ℕ)
    (bytes : List ℕ) (first : ℕ) (blank : Bool) (begun now : List Call → Type 0) (l : Line) (ls : List Line)
    (number : ℕ) (before page : Printout) →
    out number l ≡ true → ((calls : List Call) → now calls)
    → AreLinedBefore out true s w columns drawn start bytes first blank begun now (l ∷ ls) number before page →
    AreLinedBefore out true s w columns drawn start bytes first blank begun now ls (number + 1) before page
one_skipped out s w columns drawn start bytes first blank begun now l ls number before page o free h = λ more own.
    let none : ArePieces blank (decoded_text (text_in start bytes l)) [] =
    record { cut = λ some. absurd (some refl); none = λ b. refl } in
    let rest = h ([] ∷ more) (none, own) in (
      rest.0,
      rest.1,
      (λ later k. rest.2 later (free (line_calls (texts_in start bytes (l ∷ ls)) ([] ∷ more) ++ later))),
      ap (λ b. page ⊕ rows_tokens (line_or_break true b (snippet_context s w columns drawn (cells_in s start bytes)) l
          number []
          ++ rows_of_lines out b (snippet_context s w columns drawn (cells_in s start bytes)) (number + 1) more ls))
          (sym o) ∙ rest.3,
    )

each_skipped : (out : ℕ → Line → Bool) (s : SnippetSettings) (w columns : ℕ) (drawn : List DrawnLabel) (start : ℕ)
    (bytes : List ℕ) (first : ℕ) (blank : Bool) (begun now : List Call → Type 0) (run rest : List Line) (number : ℕ)
    (before page : Printout) →
    EachOut out number run → ((calls : List Call) → now calls)
    → AreLinedBefore out true s w columns drawn start bytes first blank begun now (run ++ rest) number before page →
    AreLinedBefore out true s w columns drawn start bytes first blank begun now rest (number + length run) before page
each_skipped out s w columns drawn start bytes first blank begun now [] rest number before page o free h =
    let sums : number ≡ number + 0 = omega arith in
    subst (λ (n : ℕ). AreLinedBefore out true s w columns drawn start bytes first blank begun now rest n before page)
    sums h
each_skipped out s w columns drawn start bytes first blank begun now (l ∷ run) rest number before page o free h =
    let sums : number + 1 + length run ≡ number + length (l ∷ run) = omega arith in
    subst (λ (n : ℕ). AreLinedBefore out true s w columns drawn start bytes first blank begun now rest n before page)
    sums
    (each_skipped out s w columns drawn start bytes first blank begun now run rest (number + 1) before page o.1 free
    (one_skipped out s w columns drawn start bytes first blank begun now l (run ++ rest) number before page o.0 free h))

-- the lines of a run are left out by their numbers
each_out : (s : SnippetSettings) (ahead : ℕ) (lines : List Line) (label_extents : List LabelExtent)
    (from to : LineStart)
    → ((k : ℕ) (other : Line) → IsBetween from to k other → leaves_out s.layout.label_lines lines label_extents k other
    ≡ true) →
    (run : List Line) (at k number : ℕ) → IsCut at run to.offset → from.offset ≤ at → from.place ≤ k → k + length run
    ≡ to.place → number ≡ ahead + k + 1 → EachOut (left_out s ahead lines label_extents) number run
each_out s ahead lines label_extents from to outs [] at k number cut low first size e = tt
each_out s ahead lines label_extents from to outs (l ∷ run) at k number cut low first size e =
    let same : number - (ahead + 1) ≡ k = omega (arith, e) in
    let own = first_between from to l run at k cut low first size in (
      ap (λ n. leaves_out s.layout.label_lines lines label_extents n l) same ∙ outs k l own,
      each_out s ahead lines label_extents from to outs run l.end (k + 1) (number + 1) cut.4 (omega (arith, low, cut.3))
          (omega (arith, first)) (omega (arith, size)) (omega (arith, e)),
    )

-- every line between two places is left out
abbrev pub AllOut : SnippetSettings → List LabelExtent → ℕ → List ℕ → LineStart → LineStart → Type 0
AllOut s label_extents start bytes near far = (k : ℕ) (other : Line) → IsBetween near far k other →
    leaves_out s.layout.label_lines (P.lines_from start bytes) label_extents k other ≡ true

run_skipped : (s : SnippetSettings) (label_extents : List LabelExtent) (w columns : ℕ) (drawn : List DrawnLabel)
    (start : ℕ)
    (bytes : List ℕ) (ahead first : ℕ) (blank : Bool) (begun now : List Call → Type 0) (near far : LineStart)
    (before page : Printout) →
    ((calls : List Call) → now calls) → Begins start bytes near.offset near.place
    → Begins start bytes far.offset far.place → near.offset ≤ far.offset →
    AllOut s label_extents start bytes near far →
    AreLined (left_out s ahead (P.lines_from start bytes) label_extents) true s w columns drawn start bytes first blank
    begun
    now (near.offset - start) (ahead + near.place + 1) before page →
    AreLined (left_out s ahead (P.lines_from start bytes) label_extents) true s w columns drawn start bytes first blank
    begun
    now (far.offset - start) (ahead + far.place + 1) before page
run_skipped s label_extents w columns drawn start bytes ahead first blank begun now near far before page free a b le
    outs h =
    let out : ℕ → Line → Bool = left_out s ahead (P.lines_from start bytes) label_extents in
    let r : RunOf start bytes near far = run_of start bytes near far a b le in
    let rest : List Line = P.lines_from far.offset (drop (far.offset - start) bytes) in
    let low : start + (near.offset - start) ≡ near.offset = omega (arith, a.low) in
    let high : far.offset ≡ start + (far.offset - start) = omega (arith, b.low) in
    let parts : P.lines_from (start + (near.offset - start)) (drop (near.offset - start) bytes) ≡ r.run ++ rest =
    ap (λ n. P.lines_from n (drop (near.offset - start) bytes)) low ∙ r.parts in
    let sums : ahead + near.place + 1 + length r.run ≡ ahead + far.place + 1 = omega (arith, r.size) in
    let each : EachOut out (ahead + near.place + 1) r.run =
    each_out s ahead (P.lines_from start bytes) label_extents near far outs r.run near.offset near.place
    (ahead + near.place + 1) r.cut (omega arith) (omega arith) r.size refl in
    let passed : AreLinedBefore out true s w columns drawn start bytes first blank begun now rest
    (ahead + near.place + 1 + length r.run) before page =
    each_skipped out s w columns drawn start bytes first blank begun now r.run rest (ahead + near.place + 1) before page
    each free
    (subst (λ (ls : List Line). AreLinedBefore out true s w columns drawn start bytes first blank begun now ls
    (ahead + near.place + 1) before page) parts h) in
    subst (λ (n : ℕ). AreLinedBefore out true s w columns drawn start bytes first blank begun now
    (P.lines_from n (drop (far.offset - start) bytes)) (ahead + far.place + 1) before page) high
    (subst (λ (n : ℕ). AreLinedBefore out true s w columns drawn start bytes first blank begun now rest n before page)
    sums passed)

-- the lines before the place are drawn to which a program goes on after a line
pub lines_run : (s : SnippetSettings) (label_extents : List LabelExtent) (left jumps : Bool) (w columns : ℕ)
    (drawn : List DrawnLabel) (start : ℕ) (bytes : List ℕ) (ahead first : ℕ) (blank : Bool)
    (begun now : List Call → Type 0) (near far : LineStart) (before page : Printout) →
    (jumps ≡ true → left ≡ true) → (jumps ≡ true → (calls : List Call) → now calls) → (jumps ≡ false → far ≡ near)
    → Begins start bytes near.offset near.place → Begins start bytes far.offset far.place → near.offset ≤ far.offset →
    AllOut s label_extents start bytes near far →
    AreLined (left_out s ahead (P.lines_from start bytes) label_extents) left s w columns drawn start bytes first blank
    begun
    now (near.offset - start) (ahead + near.place + 1) before page →
    AreLined (left_out s ahead (P.lines_from start bytes) label_extents) left s w columns drawn start bytes first blank
    begun
    now (far.offset - start) (ahead + far.place + 1) before page
lines_run s label_extents left true w columns drawn start bytes ahead first blank begun now near far before page gone
    free one
    a b le outs h =
    let out : ℕ → Line → Bool = left_out s ahead (P.lines_from start bytes) label_extents in
    subst (λ (g : Bool). AreLined out g s w columns drawn start bytes first blank begun now (far.offset - start)
    (ahead + far.place + 1) before page) (sym (gone refl))
    (run_skipped s label_extents w columns drawn start bytes ahead first blank begun now near far before page
    (free refl) a b
    le outs
    (subst (λ (g : Bool). AreLined out g s w columns drawn start bytes first blank begun now (near.offset - start)
    (ahead + near.place + 1) before page) (gone refl) h))
lines_run s label_extents left false w columns drawn start bytes ahead first blank begun now near far before page gone
    free
    one a b le outs h =
    let out : ℕ → Line → Bool = left_out s ahead (P.lines_from start bytes) label_extents in
    subst (λ (x : LineStart). AreLined out left s w columns drawn start bytes first blank begun now (x.offset - start)
    (ahead + x.place + 1) before page) (sym (one refl)) h
