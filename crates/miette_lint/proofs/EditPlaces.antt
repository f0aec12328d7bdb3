-- Each edit that is proposed begins and ends beside a blank, or at the source's end.
use Rattle.std.proofs.Common.{◌≡◌, ℕ, ◌+◌, ◌-◌, ◌<◌, ◌≤◌, ◌⊎◌, true, false, cond, eqb, List, [], ◌∷◌, ◌++◌, length}
use Rattle.std.proofs.Common.{drop, get_or, reverse, refl, sym, ap, ◌∙◌, arith, subst, inl, inr}
use Rattle.std.specs.Prelude.{codes, is_none, slice_range, take_while}
use Rattle.std.specs.List.{AllByRecursion, flat_map, prefix_len}
use Rattle.std.proofs.lemmas.List.{get_or-drop, get_or-reverse, get_or-take, length-take-le}
use Rattle.std.proofs.lemmas.List.Folds.{length-prefix_len}
use Rattle.std.proofs.lemmas.List.Sums.{prefix_len-le-length, prefix_len_passes}
use Rattle.miette_lines.proofs.Cases.{by_cases}
use Rattle.miette_lines.specs.rules.Lines.{IsCut, Line, is_terminated, lines_of}
use Rattle.miette_lines.proofs.AreLines.{lines_are}
use Rattle.miette_lines.proofs.Cuts.{cut_le, lines_cut}
use Rattle.miette_lines.proofs.Parts.{part_length}
use Rattle.miette_fixes.specs.rules.Edits.{FixModel, Replacement}
use Rattle.miette_columns.specs.rules.Cells.{Cell}
use Rattle.miette_protocol.specs.views.Meaning.{Label}
use Rattle.miette_lint.specs.rules.FindingWithFixes.{FindingWithFixes, coded, coded_ending, coded_findings}
use Rattle.miette_lint.specs.rules.FindingWithFixes.{coded_overlong, coded_tab}
use Rattle.miette_lint.specs.rules.FindingWithFixes.{coded_trailing, line_coded}
use Rattle.miette_lint.specs.rules.Findings.{lint_cells_of, ending_blanks, is_blank, misplaced_tab, missing_terminator}
use Rattle.miette_lint.specs.rules.Findings.{overlong, tab_after_space, trailing_space}
use Rattle.miette_lint.specs.rules.Fixes.{blanks_fix, ending_fix, ending_of, line_fixes, proposal, proposals_of}
use Rattle.miette_lint.specs.rules.Fixes.{spaces_from, trailing_fix, trimmed}
use Rattle.miette_lint.proofs.CleanTexts.{ending_is, ending_le}
use Rattle.miette_lint.proofs.Proposed.{EndsLast, ends_last, ne_zero, some_blanks}

-- a place at a source's end, before a blank, or after one
abbrev pub IsBeside : List ℕ → ℕ → Type 0
IsBeside source at = (at ≡ length source) ⊎ (is_blank (get_or source at 0) ≡ true)
    ⊎ ((before : ℕ) × (at ≡ before + 1) × (is_blank (get_or source before 0) ≡ true))

pub record HasEnds (source : List ℕ) (edit : Replacement) : Type 0 where
  pub from : IsBeside source edit.span.offset
  pub to : IsBeside source (edit.span.offset + edit.span.len)
  pub within : edit.span.offset + edit.span.len ≤ length source

abbrev pub FixEnds : List ℕ → FixModel → Type 0
FixEnds source fix = AllByRecursion (HasEnds source) fix.edits

abbrev pub CodedEnds : List ℕ → FindingWithFixes → Type 0
CodedEnds source it = AllByRecursion (FixEnds source) it.fixes

all_joined : {X : Type 0} (P : X → Type 0) (xs ys : List X) → AllByRecursion P xs → AllByRecursion P ys
    → AllByRecursion P (xs ++ ys)
all_joined P [] ys h k = k
all_joined P (x ∷ xs) ys h k = (h.0, all_joined P xs ys h.1 k)

-- ---- a line's text

in_source : (source : List ℕ) (at end i : ℕ) → i < end - at
    → get_or (slice_range source at end) i 0 ≡ get_or source (at + i) 0
in_source source at end i lt = get_or-take (end - at) (drop at source) i 0 lt ∙ get_or-drop at source i 0

begin_blank : (source : List ℕ) (at end i : ℕ) → at ≤ end → end ≤ length source
    → i < length (take_while is_blank (trimmed (slice_range source at end)))
    → is_blank (get_or source (at + i) 0) ≡ true
begin_blank source at end i le within lt =
    let text : List ℕ = slice_range source at end in
    let kept : List ℕ = trimmed text in
    let some : ℕ = length text - ending_blanks text in
    let size : length text ≡ end - at = part_length source at end within in
    let kept_size : length kept ≡ some = length-take-le some text (omega arith) in
    let few : i < prefix_len is_blank kept = omega (arith, lt, length-prefix_len is_blank kept) in
    let most : prefix_len is_blank kept ≤ length kept = prefix_len-le-length is_blank kept in
    let same : get_or kept i 0 ≡ get_or source (at + i) 0 =
    get_or-take some text i 0 (omega (arith, few, most, kept_size))
    ∙ in_source source at end i (omega (arith, few, most, kept_size, size)) in
    ap is_blank (sym same) ∙ prefix_len_passes is_blank kept i 0 few

end_blank : (source : List ℕ) (at end j : ℕ) → at ≤ end → end ≤ length source
    → j < ending_blanks (slice_range source at end) → is_blank (get_or source (end - 1 - j) 0) ≡ true
end_blank source at end j le within lt =
    let text : List ℕ = slice_range source at end in
    let size : length text ≡ end - at = part_length source at end within in
    let most : ending_blanks text ≤ length text = ending_le text in
    let few : j < prefix_len is_blank (reverse text) = omega (arith, lt, ending_is text) in
    let i : ℕ = length text - 1 - j in
    let place : at + i ≡ end - 1 - j = omega (arith, size, most, lt, le) in
    let same : get_or (reverse text) j 0 ≡ get_or source (end - 1 - j) 0 =
    get_or-reverse text j 0 (omega (arith, most, lt))
    ∙ in_source source at end i (omega (arith, size, most, lt))
    ∙ ap (λ n. get_or source n 0) place in
    ap is_blank (sym same) ∙ prefix_len_passes is_blank (reverse text) j 0 few

-- ---- the fixes of a line

blanks_ends : (source : List ℕ) (at end : ℕ) → at ≤ end → end ≤ length source
    → AllByRecursion (FixEnds source) (blanks_fix at (take_while is_blank (trimmed (slice_range source at end))))
blanks_ends source at end le within =
    let text : List ℕ = slice_range source at end in
    let kept : List ℕ = trimmed text in
    let blanks : List ℕ = take_while is_blank kept in
    let m : ℕ = length blanks in
    let size : length text ≡ end - at = part_length source at end within in
    let kept_size : length kept ≡ length text - ending_blanks text =
    length-take-le (length text - ending_blanks text) text (omega arith) in
    let few : m ≤ length kept = omega (arith, length-prefix_len is_blank kept, prefix_len-le-length is_blank kept) in
    let P : List FixModel → Type 0 = AllByRecursion (FixEnds source) in
    let fixes : List FixModel = proposal (codes "indent by spaces") at m (spaces_from 0 blanks) ∷ [] in
    by_cases {C = P (blanks_fix at blanks)} (is_none (tab_after_space blanks))
    (λ t. subst (λ b. P (cond b [] fixes)) (sym t) tt)
    (λ f. let some : at < at + m = some_blanks at (at + m) blanks refl f in
    let zero : at + 0 ≡ at = omega arith in
    let first : is_blank (get_or source at 0) ≡ true =
    ap (λ n. is_blank (get_or source n 0)) (sym zero) ∙ begin_blank source at end 0 le within (omega (arith, some)) in
    let last : is_blank (get_or source (at + (m - 1)) 0) ≡ true =
    begin_blank source at end (m - 1) le within (omega (arith, some)) in
    let ends : HasEnds source (record { span = record { offset = at; len = m }; text = spaces_from 0 blanks })
    = record {
      from = inr (inl first);
      to = inr (inr (at + (m - 1), omega (arith, some), last));
      within = omega (arith, few, kept_size, size, within, le);
    } in
    subst (λ b. P (cond b [] fixes)) (sym f) ((ends, tt), tt))

trailing_ends : (source : List ℕ) (at end : ℕ) → at ≤ end → end ≤ length source
    → AllByRecursion (FixEnds source) (trailing_fix end (slice_range source at end))
trailing_ends source at end le within =
    let text : List ℕ = slice_range source at end in
    let k : ℕ = ending_blanks text in
    let size : length text ≡ end - at = part_length source at end within in
    let most : k ≤ length text = ending_le text in
    let P : List FixModel → Type 0 = AllByRecursion (FixEnds source) in
    let fixes : List FixModel = proposal (codes "delete trailing blanks") (end - k) k [] ∷ [] in
    by_cases {C = P (trailing_fix end text)} (eqb k 0)
    (λ t. subst (λ b. P (cond b [] fixes)) (sym t) tt)
    (λ f. let some : 0 < k = ne_zero k f in
    let start : end - 1 - (k - 1) ≡ end - k = omega (arith, some, size, most) in
    let stop : end - 1 - 0 ≡ end - 1 = omega arith in
    let first : is_blank (get_or source (end - k) 0) ≡ true =
    ap (λ n. is_blank (get_or source n 0)) (sym start) ∙ end_blank source at end (k - 1) le within (omega (arith, some))
    in
    let last : is_blank (get_or source (end - 1) 0) ≡ true =
    ap (λ n. is_blank (get_or source n 0)) (sym stop) ∙ end_blank source at end 0 le within some in
    let ends : HasEnds source (record { span = record { offset = end - k; len = k }; text = [] }) = record {
      from = inr (inl first);
      to = inr (inr (end - 1, omega (arith, some, size, most), last));
      within = omega (arith, size, most, within);
    } in
    subst (λ b. P (cond b [] fixes)) (sym f) ((ends, tt), tt))

ending_ends : (source ending : List ℕ) (l : Line) → (is_terminated l ≡ false → l.end ≡ length source)
    → AllByRecursion (FixEnds source) (ending_fix ending l)
ending_ends source ending l last =
    let P : List FixModel → Type 0 = AllByRecursion (FixEnds source) in
    let fixes : List FixModel = proposal (codes "end the last line") l.end 0 ending ∷ [] in
    by_cases {C = P (ending_fix ending l)} (is_terminated l)
    (λ t. subst (λ b. P (cond b [] fixes)) (sym t) tt)
    (λ f. let at : l.end ≡ length source = last f in
    let ends : HasEnds source (record { span = record { offset = l.end; len = 0 }; text = ending }) =
    record { from = inl at; to = inl (omega (arith, at)); within = omega (arith, at) } in
    subst (λ b. P (cond b [] fixes)) (sym f) ((ends, tt), tt))

line_ends : (source ending : List ℕ) (l : Line) → l.start ≤ l.text_end → l.text_end ≤ length source
    → (is_terminated l ≡ false → l.end ≡ length source)
    → AllByRecursion (FixEnds source) (line_fixes source ending l)
line_ends source ending l begins within last =
    let text : List ℕ = slice_range source l.start l.text_end in
    all_joined (FixEnds source) (blanks_fix l.start (take_while is_blank (trimmed text)))
    (trailing_fix l.text_end text ++ ending_fix ending l) (blanks_ends source l.start l.text_end begins within)
    (all_joined (FixEnds source) (trailing_fix l.text_end text) (ending_fix ending l)
    (trailing_ends source l.start l.text_end begins within) (ending_ends source ending l last))

-- ---- what is found in a line, with its fixes

coded_end : (source code : List ℕ) (fixes : List FixModel) (labels : List Label)
    → AllByRecursion (FixEnds source) fixes → AllByRecursion (CodedEnds source) (coded code fixes labels)
coded_end source code fixes [] h = tt
coded_end source code fixes (label ∷ labels) h = (h, tt)

line_coded_end : (source : List ℕ) (width : ℕ) (ending : List ℕ) (l : Line) → l.start ≤ l.text_end
    → l.text_end ≤ length source → (is_terminated l ≡ false → l.end ≡ length source)
    → AllByRecursion (CodedEnds source) (line_coded source width ending l)
line_coded_end source width ending l begins within last =
    let P : FindingWithFixes → Type 0 = CodedEnds source in
    let text : List ℕ = slice_range source l.start l.text_end in
    let cells : List Cell = lint_cells_of l.start text in
    let a : List FindingWithFixes = coded_trailing l.text_end text in
    let b : List FindingWithFixes = coded_tab l.start text in
    let c : List FindingWithFixes = coded_overlong width l.text_end cells in
    let d : List FindingWithFixes = coded_ending ending l cells in
    all_joined P a (b ++ (c ++ d))
    (coded_end source _ _ (trailing_space l.text_end text) (trailing_ends source l.start l.text_end begins within))
    (all_joined P b (c ++ d)
    (coded_end source _ _ (misplaced_tab l.start text) (blanks_ends source l.start l.text_end begins within))
    (all_joined P c d (coded_end source _ [] (overlong width l.text_end cells) tt)
    (coded_end source _ _ (missing_terminator l cells) (ending_ends source ending l last))))

-- ---- all lines

last_end : (at : ℕ) (ls : List Line) (to : ℕ) → ls ≡ [] → IsCut at ls to → at ≡ to
last_end at ls to e cut = subst (λ xs. IsCut at xs to) e cut

-- what holds of all that each line gives, if it holds of a line's in its source
abbrev OfLine : {X : Type 0} → (X → Type 0) → (Line → List X) → List ℕ → Line → Type 0
OfLine P f source l = l.start ≤ l.text_end → l.text_end ≤ length source
    → (is_terminated l ≡ false → l.end ≡ length source) → AllByRecursion P (f l)

lines_end : {X : Type 0} (P : X → Type 0) (f : Line → List X) (source : List ℕ)
    → ((l : Line) → OfLine P f source l) → (at : ℕ) (ls : List Line) → IsCut at ls (length source) → EndsLast ls
    → AllByRecursion P (flat_map f ls)
lines_end P f source one at [] cut last = tt
lines_end P f source one at (l ∷ ls) cut last =
    let end : l.end ≤ length source = cut_le l.end ls (length source) cut.4 in
    all_joined P (f l) (flat_map f ls)
    (one l (omega (arith, cut.0, cut.1)) (omega (arith, end, cut.2))
    (λ f. last_end l.end ls (length source) (last.0 f) cut.4))
    (lines_end P f source one l.end ls cut.4 last.1)

edits_end : (source : List ℕ) (fixes : List FixModel) → AllByRecursion (FixEnds source) fixes
    → AllByRecursion (HasEnds source) (flat_map (λ (fix : FixModel). fix.edits) fixes)
edits_end source [] h = tt
edits_end source (fix ∷ fixes) h =
    all_joined (HasEnds source) fix.edits (flat_map (λ (fix : FixModel). fix.edits) fixes) h.0
    (edits_end source fixes h.1)

pub proposals_end : (source : List ℕ)
    → AllByRecursion (HasEnds source) (flat_map (λ (fix : FixModel). fix.edits) (proposals_of source))
proposals_end source =
    edits_end source (proposals_of source)
    (lines_end (FixEnds source) (line_fixes source (ending_of source)) source (line_ends source (ending_of source)) 0
    (lines_of source) (lines_cut source) (ends_last 0 (lines_of source) source (lines_are source)))

pub findings_end : (source : List ℕ) (width : ℕ) → AllByRecursion (CodedEnds source) (coded_findings source width)
findings_end source width =
    lines_end (CodedEnds source) (line_coded source width (ending_of source)) source
    (line_coded_end source width (ending_of source)) 0 (lines_of source) (lines_cut source)
    (ends_last 0 (lines_of source) source (lines_are source))
