-- A snippet's rows by the labels that may touch it are those by all labels.
use Rattle.miette_style.specs.views.Printouts.{Printout, ◌⊕◌}
use Rattle.std.proofs.Common.{ℕ, zero, suc, ◌+◌, ◌-◌, ◌≤◌, ◌≡◌, ◌⊎◌, inl, inr, ⊎_elim, Bool, true, false, not}
use Rattle.std.proofs.Common.{◌&&◌, ◌||◌, List, [], ◌∷◌, ◌++◌, length, map, drop, refl, sym, ap, ap₂, ◌∙◌, Option, Some}
use Rattle.std.proofs.Common.{None, arith}
use Rattle.std.specs.List.{list_any}
use Rattle.miette_lines.specs.rules.Lines as P
use Rattle.miette_lines.specs.rules.Lines.{Line, IsCut}
use Rattle.miette_lines.proofs.Cuts.{cut_from, cut_le}
use Rattle.miette_highlight.specs.rules.HighlighterCalls.{Call}
use Rattle.miette_style.specs.views.Tokens.{rows_tokens}
use Rattle.miette_labels.specs.rules.Answers.{Highlight, first_of}
use Rattle.miette_snippet_rules.specs.rules.FoldedLabels.{LabelExtent, hides, is_around, is_hidden, leaves_out}
use Rattle.miette_snippet_rules.specs.rules.FoldedLabels.{line_at, line_index_of}
use Rattle.miette_snippet_rules.specs.rules.SnippetSettings.{SnippetSettings}
use Rattle.miette_snippet_rules.specs.rules.SnippetLayout.{SnippetContext, left_out, line_or_break, rows_of_lines}
use Rattle.miette_snippet_frames.specs.views.ContentsRows.{PutsRows}
use Rattle.miette_snippet_folds.specs.declared.folds.LabelExtent.{LabelExtent as MadeExtent}
use Rattle.miette_snippet_folds.specs.views.ExtentIndex.{extent_view}
use Rattle.miette_snippet_folds.specs.views.ExtentIndexes.{AreAround}
use Rattle.miette_snippet_rules.proofs.NeverHidden.{no_line, none_hidden}

and_true : (b : Bool) → b ≡ (b && true)
and_true true = refl
and_true false = refl

any_alike : (line : Line) (xs : List LabelExtent) → list_any (is_around line) xs
    ≡ list_any (λ s. is_around line s && true) xs
any_alike line [] = refl
any_alike line (x ∷ xs) = ap₂ (λ a b. a || b) (and_true (is_around line x)) (any_alike line xs)

-- whether a line is hidden
hidden_alike : (limit : ℕ) (lines : List Line) (all some : List MadeExtent) (start end i : ℕ) (line : Line)
    → AreAround start end all some → start ≤ line.start → line.end ≤ end →
    is_hidden limit lines (map extent_view some) i line ≡ is_hidden limit lines (map extent_view all) i line
hidden_alike limit lines all some start end i line h low high =
    let shown : LabelExtent → Bool = λ s. not (hides limit (line_index_of lines s.first) (line_index_of lines s.last)
    s.around i)
    in
    let around : list_any (is_around line) (map extent_view some) ≡ list_any (is_around line) (map extent_view all) =
    any_alike line (map extent_view some) ∙ h line low high (λ s. true) ∙ sym (any_alike line (map extent_view all)) in
    ap₂ (λ a b. a && not b) around (h line low high shown)

-- a line by its number lies among the others, or there is none
line_within : (ls : List Line) (at to k : ℕ) → IsCut at ls to
    → ((at ≤ (line_at ls k).start) × ((line_at ls k).end ≤ to)) ⊎ (line_at ls k ≡ no_line)
line_within [] at to k cut = inr refl
line_within (l ∷ ls) at to zero cut = inl (omega (arith, cut.0), cut_le l.end ls to cut.4)
line_within (l ∷ ls) at to (suc k) cut =
    elim (line_within ls l.end to k cut.4) [
      | inl both ↦ inl (omega (arith, cut.3, both.0), both.1)
      | inr none ↦ inr none
    ]

hidden_at : (limit : ℕ) (lines : List Line) (all some : List MadeExtent) (start end i : ℕ)
    → AreAround start end all some → IsCut start lines end →
    is_hidden limit lines (map extent_view some) i (line_at lines i)
    ≡ is_hidden limit lines (map extent_view all) i (line_at lines i)
hidden_at limit lines all some start end i h cut =
    ⊎_elim {C = is_hidden limit lines (map extent_view some) i (line_at lines i)
    ≡ is_hidden limit lines (map extent_view all) i (line_at lines i)}
    (λ both. hidden_alike limit lines all some start end i (line_at lines i) h both.0 both.1)
    (λ none. ap (is_hidden limit lines (map extent_view some) i) none ∙ none_hidden limit lines (map extent_view some) i
    ∙ sym (ap (is_hidden limit lines (map extent_view all) i) none ∙ none_hidden limit lines (map extent_view all) i))
    (line_within lines start end i cut)

-- whether a line is left out
leaves_alike : (limit : Option ℕ) (lines : List Line) (all some : List MadeExtent) (start end i : ℕ) (line : Line)
    → AreAround start end all some → IsCut start lines end → start ≤ line.start → line.end ≤ end →
    leaves_out limit lines (map extent_view some) i line ≡ leaves_out limit lines (map extent_view all) i line
leaves_alike None lines all some start end i line h cut low high = refl
leaves_alike (Some limit) lines all some start end i line h cut low high =
    ap₂ (λ a b. a && b) (hidden_alike limit lines all some start end i line h low high)
    (ap₂ (λ a b. a || b) (hidden_at limit lines all some start end (i - 1) h cut)
    (hidden_at limit lines all some start end (i + 1) h cut))

-- rows of lines that are left out or not alike
rows_alike : (f g : ℕ → Line → Bool) (start end : ℕ) → ((k : ℕ) (line : Line) → start ≤ line.start → line.end ≤ end
    → f k line ≡ g k line) →
    (gap : Bool) (c : SnippetContext) (n : ℕ) (pieces : List (List Highlight)) (lines : List Line) (at to : ℕ)
    → IsCut at lines to → start ≤ at → to ≤ end →
    rows_of_lines f gap c n pieces lines ≡ rows_of_lines g gap c n pieces lines
rows_alike f g start end h gap c n pieces [] at to cut low high = refl
rows_alike f g start end h gap c n pieces (l ∷ ls) at to cut low high =
    let last : l.end ≤ to = cut_le l.end ls to cut.4 in
    ap (λ b. line_or_break gap b c l n (first_of pieces) ++ rows_of_lines f b c (n + 1) (drop 1 pieces) ls)
    (h n l (omega (arith, low, cut.0)) (omega (arith, last, high)))
    ∙ ap (λ rows. line_or_break gap (g n l) c l n (first_of pieces) ++ rows)
    (rows_alike f g start end h (g n l) c (n + 1) (drop 1 pieces) ls l.end to cut.4 (omega (arith, low, cut.3)) high)

-- the rows of a snippet's lines
pub rows_around : (s : SnippetSettings) (blank : Bool) (happen : List Call → Type 0) (start end before : ℕ)
    (bytes : List ℕ) (all some : List MadeExtent) (texts : List (List ℕ)) (c : SnippetContext) (p q : Printout) →
    end ≡ start + length bytes → AreAround start end all some →
    PutsRows blank happen texts (λ pieces. rows_of_lines (left_out s before (P.lines_from start bytes)
    (map extent_view some)) false c (before + 1) pieces (P.lines_from start bytes)) p q →
    PutsRows blank happen texts (λ pieces. rows_of_lines (left_out s before (P.lines_from start bytes)
    (map extent_view all)) false c (before + 1) pieces (P.lines_from start bytes)) p q
rows_around s blank happen start end before bytes all some texts c p q e around h =
    let lines : List Line = P.lines_from start bytes in
    record {
      pieces = h.pieces;
      are = h.are;
      calls = h.calls;
      is = h.is ∙ ap (λ rows. p ⊕ rows_tokens rows) (rows_alike (left_out s before lines (map extent_view some))
          (left_out s before lines (map extent_view all)) start end
          (λ k line low high. leaves_alike s.layout.label_lines lines all some start end (k - (before + 1)) line around
          (cut_from start bytes end e) low high)
          false c (before + 1) h.pieces lines start end (cut_from start bytes end e) (omega arith) (omega arith));
    }
