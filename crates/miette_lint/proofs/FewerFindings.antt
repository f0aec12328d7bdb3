-- No more is found in the fixed text of a source than in the source.
use Rattle.std.proofs.Common.{◌≡◌, ◌≢◌, ℕ, ◌+◌, ◌-◌, ◌≤◌, true, false, eqb, List, [], ◌∷◌, ◌++◌, length}
use Rattle.std.proofs.Common.{drop, map, refl, sym, ap, ◌∙◌, arith, subst, inl, inr}
use Rattle.std.specs.Prelude.{slice_index, slice_range, All}
use Rattle.std.specs.List.{AllByRecursion, flat_map}
use Rattle.std.proofs.lemmas.Bool.{eq-eqb, eqb-true}
use Rattle.std.proofs.lemmas.List.{length-append}
use Rattle.miette_lines.proofs.Cases.{by_cases}
use Rattle.miette_columns.specs.rules.Cells.{characters}
use Rattle.miette_lines.specs.rules.Lines.{CR, LF, Line, lines_from, lines_of}
use Rattle.miette_lines.specs.rules.Cutting.{IsTerminator}
use Rattle.miette_lines.proofs.Only.{first_line, made}
use Rattle.miette_protocol.specs.views.Meaning.{Label}
use Rattle.miette_lint.specs.rules.Findings.{lint_cells_of, findings_of, line_findings, misplaced_tab}
use Rattle.miette_lint.specs.rules.Findings.{missing_terminator}
use Rattle.miette_lint.specs.rules.Findings.{overlong, trailing_space}
use Rattle.miette_lint.specs.rules.Fixes.{ending_of, fixed_line_text, fixed_text, wide_line, wide_lines}
use Rattle.miette_lint.specs.rules.Combined.{mended_count}
use Rattle.miette_lint.proofs.FixedLines.{ending_well, fixed_clean, piece, pieces_joined, wholes}
use Rattle.miette_lint.proofs.Pieces.{BeginsByLF, IsEnding, IsText, IsWhole, Piece, cut_outs, ending_some, front_is}
use Rattle.miette_lint.proofs.Pieces.{joined, lf_first, rest_is}
use Rattle.miette_lint.proofs.WideTexts.{fixed_lighter, weighed, weight}

-- ---- the lines of pieces

abbrev weights : ℕ → List Piece → ℕ
weights width [] = 0
weights width (p ∷ ps) = weight width p.text + weights width ps

abbrev wide_count : List ℕ → ℕ → List Line → ℕ
wide_count source width ls = length (flat_map (wide_line source width) ls)

weight_of : (source : List ℕ) (width : ℕ) (l : Line) (text : List ℕ) → slice_range source l.start l.text_end ≡ text
    → length (wide_line source width l) ≡ weight width text
weight_of source width l text is =
    ap (λ t. length (overlong width l.text_end (lint_cells_of l.start t))) is
    ∙ weighed width l.text_end l.start 0 false (characters text)

-- so many lines at most are too wide in the rest of bytes
abbrev Few : List ℕ → ℕ → List ℕ → ℕ → Type 0
Few source width rest n = (to : ℕ) → drop to source ≡ rest → wide_count source width (lines_from to rest) ≤ n

-- bytes that begin with a line
step : (source : List ℕ) (width at : ℕ) (text end rest : List ℕ) (n : ℕ) → drop at source ≡ text ++ (end ++ rest)
    → All IsText text → IsEnding end → IsTerminator end rest → Few source width rest n
    → wide_count source width (lines_from at (text ++ (end ++ rest))) ≤ weight width text + n
step source width at text end rest n is plain ending ended later =
    let some = ending_some end ending in
    let l : Line = made at (at + length text) (at + (length text + length end)) in
    let own : slice_range source at (at + length text) ≡ text =
    front_is source at text (end ++ rest) (at + length text) is refl in
    let onwards : drop (at + length text) source ≡ end ++ rest =
    rest_is source at text (end ++ rest) (at + length text) is refl in
    let after : drop (at + (length text + length end)) source ≡ rest =
    rest_is source (at + length text) end rest (at + (length text + length end)) onwards (omega arith) in
    let first : length (wide_line source width l) ≡ weight width text = weight_of source width l text own in
    let others : wide_count source width (lines_from (at + (length text + length end)) rest) ≤ n =
    later (at + (length text + length end)) after in
    let all : wide_count source width (lines_from at (text ++ (end ++ rest)))
    ≡ length (wide_line source width l)
    + wide_count source width (lines_from (at + (length text + length end)) rest) =
    ap (wide_count source width) (first_line at text end rest plain ended (omega (arith, some)))
    ∙ length-append (wide_line source width l)
    (flat_map (wide_line source width) (lines_from (at + (length text + length end)) rest)) in
    omega (arith, all, first, others)

single : (source : List ℕ) (width at : ℕ) (p : Piece) (rest : List ℕ) (n : ℕ)
    → drop at source ≡ p.text ++ (p.ending ++ rest) → IsWhole p → slice_index rest 0 ≢ 10 → Few source width rest n
    → wide_count source width (lines_from at (p.text ++ (p.ending ++ rest))) ≤ weight width p.text + n
single source width at p rest n is h other later =
    let ended : IsTerminator p.ending rest = elim h.ended [
      | inl e ↦ inl e
      | inr e ↦ (elim e [
        | inl f ↦ inr (inl f)
        | inr f ↦ inr (inr (inl (f, other)))
      ])
    ] in
    step source width at p.text p.ending rest n is h.plain h.ended ended later

-- the CR of one piece and the LF of the next are one terminator
merged : (source : List ℕ) (width at : ℕ) (p q : Piece) (rest : List ℕ) (n : ℕ) → p.ending ≡ CR ∷ [] → BeginsByLF q
    → drop at source ≡ p.text ++ (p.ending ++ (q.text ++ (q.ending ++ rest))) → IsWhole p
    → Few source width rest n
    → wide_count source width (lines_from at (p.text ++ (p.ending ++ (q.text ++ (q.ending ++ rest)))))
    ≤ weight width p.text + n
merged source width at p q rest n e lf is h later =
    let same : p.text ++ (p.ending ++ (q.text ++ (q.ending ++ rest))) ≡ p.text ++ ((CR ∷ LF ∷ []) ++ rest) =
    ap (λ x. p.text ++ (x ++ (q.text ++ (q.ending ++ rest)))) e
    ∙ ap (λ x. p.text ++ (CR ∷ (x ++ (q.ending ++ rest)))) lf.none
    ∙ ap (λ x. p.text ++ (CR ∷ (x ++ rest))) lf.lf in
    subst (λ bs. wide_count source width (lines_from at bs) ≤ weight width p.text + n) (sym same)
    (step source width at p.text (CR ∷ LF ∷ []) rest n (is ∙ same) h.plain (inr (inl refl)) (inr (inl refl)) later)

before_lf : (source : List ℕ) (width at : ℕ) (p q : Piece) (rest : List ℕ) (n : ℕ)
    → drop at source ≡ p.text ++ (p.ending ++ (q.text ++ (q.ending ++ rest))) → IsWhole p → BeginsByLF q
    → Few source width (q.text ++ (q.ending ++ rest)) (weight width q.text + n) → Few source width rest n
    → wide_count source width (lines_from at (p.text ++ (p.ending ++ (q.text ++ (q.ending ++ rest)))))
    ≤ weight width p.text + (weight width q.text + n)
before_lf source width at p q rest n is h lf next later =
    let tail : List ℕ = q.text ++ (q.ending ++ rest) in
    let most : ℕ = weight width q.text + n in
    elim h.ended [
      | inl e ↦ step source width at p.text p.ending tail most is h.plain h.ended (inl e) next
      | inr e ↦ (elim e [
        | inl f ↦ step source width at p.text p.ending tail most is h.plain h.ended (inr (inl f)) next
        | inr f ↦ omega (arith, merged source width at p q rest n f lf is h later)
      ])
    ]

few_from : (source : List ℕ) (width : ℕ) (ps : List Piece) → AllByRecursion IsWhole ps
    → Few source width (joined ps) (weights width ps)
few_from source width [] h at is = omega arith
few_from source width (p ∷ []) h at is =
    single source width at p [] 0 is h.0 (λ e. absurd (omega (arith, e))) (λ to d. omega arith)
few_from source width (p ∷ q ∷ qs) h at is =
    let rest : List ℕ = joined (q ∷ qs) in
    by_cases
    {C = wide_count source width (lines_from at (joined (p ∷ q ∷ qs))) ≤ weights width (p ∷ q ∷ qs)}
    (eqb (slice_index rest 0) 10)
    (λ t. before_lf source width at p q (joined qs) (weights width qs) is h.0
    (lf_first q.text q.ending (joined qs) h.1.0.plain h.1.0.ended (eqb-true (slice_index rest 0) 10 t))
    (few_from source width (q ∷ qs) h.1) (few_from source width qs h.1.1))
    (λ f. single source width at p rest (weights width (q ∷ qs)) is h.0
    (λ e. let t : true ≡ false = sym (eq-eqb (slice_index rest 0) 10 e) ∙ f in absurd (cc))
    (few_from source width (q ∷ qs) h.1))

-- ---- the lines of a source

pieces_few : (source ending : List ℕ) (width : ℕ) (ls : List Line)
    → weights width (map (piece source ending) ls) ≤ wide_count source width ls
pieces_few source ending width [] = omega arith
pieces_few source ending width (l ∷ ls) =
    let text : List ℕ = slice_range source l.start l.text_end in
    let own : weight width (fixed_line_text text) ≤ weight width text = fixed_lighter width text in
    let is : length (wide_line source width l) ≡ weight width text = weight_of source width l text refl in
    let all : wide_count source width (l ∷ ls) ≡ length (wide_line source width l) + wide_count source width ls =
    length-append (wide_line source width l) (flat_map (wide_line source width) ls) in
    omega (arith, own, is, all, pieces_few source ending width ls)

-- lines that are too wide are findings
third_few : (a b c d : List Label) → length c ≤ length (a ++ (b ++ (c ++ d)))
third_few a b c d =
    omega (arith, length-append a (b ++ (c ++ d)), length-append b (c ++ d), length-append c d)

wide_few : (source : List ℕ) (width : ℕ) (ls : List Line)
    → wide_count source width ls ≤ length (flat_map (line_findings source width) ls)
wide_few source width [] = omega arith
wide_few source width (l ∷ ls) =
    let text : List ℕ = slice_range source l.start l.text_end in
    let own : length (wide_line source width l) ≤ length (line_findings source width l) =
    third_few (trailing_space l.text_end text) (misplaced_tab l.start text)
    (overlong width l.text_end (lint_cells_of l.start text)) (missing_terminator l (lint_cells_of l.start text)) in
    let wide : wide_count source width (l ∷ ls) ≡ length (wide_line source width l) + wide_count source width ls =
    length-append (wide_line source width l) (flat_map (wide_line source width) ls) in
    let all : length (flat_map (line_findings source width) (l ∷ ls)) ≡ length (line_findings source width l)
    + length (flat_map (line_findings source width) ls) =
    length-append (line_findings source width l) (flat_map (line_findings source width) ls) in
    omega (arith, own, wide, all, wide_few source width ls)

fixed_few : (source : List ℕ) (width : ℕ) → length (wide_lines (fixed_text source) width)
    ≤ length (wide_lines source width)
fixed_few source width =
    let ls : List Line = lines_of source in
    let ps : List Piece = map (piece source (ending_of source)) ls in
    let same : fixed_text source ≡ joined ps = pieces_joined source (ending_of source) ls in
    let whole : AllByRecursion IsWhole ps =
    wholes source (ending_of source) ls (ending_well source) (cut_outs source) in
    let few : length (wide_lines (joined ps) width) ≤ weights width ps = few_from (joined ps) width ps whole 0 refl in
    let is : length (wide_lines (fixed_text source) width) ≡ length (wide_lines (joined ps) width) =
    ap (λ t. length (wide_lines t width)) same in
    omega (arith, few, is, pieces_few source (ending_of source) width ls)

pub no_more_found : (source : List ℕ) (width : ℕ) → length (findings_of (fixed_text source) width)
    ≤ length (findings_of source width)
no_more_found source width =
    omega (
      arith,
      fixed_few source width,
      wide_few source width (lines_of source),
      ap length (fixed_clean source width),
    )

-- what is gone and what is left
pub mended_and_left : (source : List ℕ) (width : ℕ)
    → mended_count source width + length (findings_of (fixed_text source) width) ≡ length (findings_of source width)
unfolding mended_count
mended_and_left source width = omega (arith, no_more_found source width)

pub mended_is : (source : List ℕ) (width : ℕ) → length (findings_of source width)
    - length (findings_of (fixed_text source) width) ≡ mended_count source width
unfolding mended_count
mended_is source width = refl
