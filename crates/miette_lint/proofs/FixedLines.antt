-- The fixed text of a source has clean lines: nothing but lines that are too wide is found in it, and it stays.
use Rattle.std.proofs.Common.{◌≡◌, ℕ, ◌+◌, ◌-◌, true, cond, eqb, List, [], ◌∷◌, ◌++◌, length}
use Rattle.std.proofs.Common.{drop, map, Option, None, refl, sym, ap, ap₂, ◌∙◌, arith, subst, inl, append_assoc}
use Rattle.std.proofs.Common.{append-nil}
use Rattle.std.specs.Prelude.{codes, is_none, slice_range, take_while}
use Rattle.std.specs.List.{AllByRecursion, flat_map, last_or}
use Rattle.std.specs.Option.{option_map_or}
use Rattle.std.proofs.lemmas.Bool.{ltb-true}
use Rattle.std.proofs.lemmas.List.{drop_all}
use Rattle.std.proofs.lemmas.List.Folds.{drop_split}
use Rattle.miette_lines.proofs.Cases.{by_cases}
use Rattle.miette_lines.specs.rules.Lines.{IsCut, LF, Line, is_terminated, lines_of}
use Rattle.miette_lines.proofs.Cuts.{lines_cut}
use Rattle.miette_protocol.specs.views.Meaning.{Label}
use Rattle.miette_fixes.specs.rules.Edits.{FixModel}
use Rattle.miette_columns.specs.rules.Cells.{Cell}
use Rattle.miette_lint.specs.rules.Findings.{lint_cells_of, finding, findings_of, is_blank, line_findings}
use Rattle.miette_lint.specs.rules.Findings.{misplaced_tab}
use Rattle.miette_lint.specs.rules.Findings.{missing_terminator, overlong, text_findings}
use Rattle.miette_lint.specs.rules.Findings.{trailing_space}
use Rattle.miette_lint.specs.rules.Fixes.{blanks_fix, ending_fix, ending_of, first_ending, fixed_line, fixed_line_text}
use Rattle.miette_lint.specs.rules.Fixes.{fixed_text, line_fixes, proposal, proposals_of, spaces_from, terminator_or}
use Rattle.miette_lint.specs.rules.Fixes.{text_fixes, trailing_fix, trimmed, wide_line, wide_lines}
use Rattle.miette_lint.proofs.CleanTexts.{IsClean, clean_line, clean_stays, text_line, trimmed_same}
use Rattle.miette_lint.proofs.Pieces.{IsCleanLine, IsCutOut, IsEnding, IsWhole, Piece, clean_joined, cut_outs, joined}

-- ---- the pieces of the fixed text

abbrev pub piece : List ℕ → List ℕ → Line → Piece
piece source ending l = record {
  text = fixed_line_text (slice_range source l.start l.text_end);
  ending = terminator_or ending source l;
}

pub pieces_joined : (source ending : List ℕ) (ls : List Line) → flat_map (fixed_line source ending) ls
    ≡ joined (map (piece source ending) ls)
pieces_joined source ending [] = refl
pieces_joined source ending (l ∷ ls) =
    let text : List ℕ = fixed_line_text (slice_range source l.start l.text_end) in
    let end : List ℕ = terminator_or ending source l in
    append_assoc text end (flat_map (fixed_line source ending) ls)
    ∙ ap (λ r. text ++ (end ++ r)) (pieces_joined source ending ls)

pub ends_well : (source other : List ℕ) (l : Line) → IsEnding other → IsCutOut source l
    → IsEnding (terminator_or other source l)
ends_well source other l h cut =
    by_cases {C = IsEnding (terminator_or other source l)} (is_terminated l)
    (λ t. subst IsEnding (sym (ap (λ b. cond b (slice_range source l.text_end l.end) other) t))
    (cut.ended (ltb-true l.text_end l.end t)))
    (λ f. subst IsEnding (sym (ap (λ b. cond b (slice_range source l.text_end l.end) other) f)) h)

first_ends_well : (source : List ℕ) (ls : List Line) → AllByRecursion (IsCutOut source) ls
    → IsEnding (first_ending source ls)
first_ends_well source [] h = inl refl
first_ends_well source (l ∷ ls) h = ends_well source (LF ∷ []) l (inl refl) h.0

pub ending_well : (source : List ℕ) → IsEnding (ending_of source)
ending_well source = first_ends_well source (lines_of source) (cut_outs source)

pub wholes : (source ending : List ℕ) (ls : List Line) → IsEnding ending → AllByRecursion (IsCutOut source) ls
    → AllByRecursion IsWhole (map (piece source ending) ls)
wholes source ending [] e h = tt
wholes source ending (l ∷ ls) e h = (
  record {
    plain = text_line (slice_range source l.start l.text_end) h.0.plain;
    clean = clean_line (slice_range source l.start l.text_end);
    ended = ends_well source ending l e h.0;
  },
  wholes source ending ls e h.1,
)

clean_lines : (source : List ℕ) → AllByRecursion (IsCleanLine (fixed_text source)) (lines_of (fixed_text source))
clean_lines source =
    let ps : List Piece = map (piece source (ending_of source)) (lines_of source) in
    let same : fixed_text source ≡ joined ps = pieces_joined source (ending_of source) (lines_of source) in
    subst (λ t. AllByRecursion (IsCleanLine t) (lines_of t)) (sym same)
    (clean_joined ps (wholes source (ending_of source) (lines_of source) (ending_well source) (cut_outs source)))

-- ---- what is found in clean lines

only_wide : (w : ℕ) (l : Line) (text : List ℕ) (cells : List Cell) → IsClean text → is_terminated l ≡ true
    → text_findings w l text cells ≡ overlong w l.text_end cells
only_wide w l text cells clean ended =
    let wide : List Label = overlong w l.text_end cells in
    let a : trailing_space l.text_end text ≡ [] =
    ap (λ n. cond (eqb n 0) [] (finding (codes "trailing blanks") (l.text_end - n) l.text_end ∷ [])) clean.ends in
    let b : misplaced_tab l.start text ≡ [] =
    ap (λ (o : Option ℕ). option_map_or
    (λ at. finding (codes "tab after space") (l.start + at) (l.start + at + 1) ∷ []) o []) clean.begins in
    let c : missing_terminator l cells ≡ [] =
    ap (λ t. cond t [] (option_map_or (λ (c : Cell). finding (codes "no final terminator") c.start c.after ∷ [])
    (last_or None cells) [])) ended in
    ap (λ xs. xs ++ (misplaced_tab l.start text ++ (wide ++ missing_terminator l cells))) a
    ∙ ap (λ xs. xs ++ (wide ++ missing_terminator l cells)) b ∙ ap (λ xs. wide ++ xs) c ∙ append-nil wide

wide_from : (source : List ℕ) (width : ℕ) (ls : List Line) → AllByRecursion (IsCleanLine source) ls
    → flat_map (line_findings source width) ls ≡ flat_map (wide_line source width) ls
wide_from source width [] h = refl
wide_from source width (l ∷ ls) h =
    let text : List ℕ = slice_range source l.start l.text_end in
    ap₂ (λ (xs ys : List Label). xs ++ ys)
    (only_wide width l text (lint_cells_of l.start text) h.0.clean h.0.terminated)
    (wide_from source width ls h.1)

pub fixed_clean : (source : List ℕ) (width : ℕ) → findings_of (fixed_text source) width
    ≡ wide_lines (fixed_text source) width
fixed_clean source width = wide_from (fixed_text source) width (lines_of (fixed_text source)) (clean_lines source)

-- ---- clean lines stay

stays_from : (source ending : List ℕ) (at : ℕ) (ls : List Line) → IsCut at ls (length source)
    → AllByRecursion (IsCleanLine source) ls → flat_map (fixed_line source ending) ls ≡ drop at source
stays_from source ending at [] cut h = sym (drop_all at source (omega (arith, cut)))
stays_from source ending at (l ∷ ls) cut h =
    let text : List ℕ = slice_range source l.start l.text_end in
    let end : List ℕ = slice_range source l.text_end l.end in
    let same : fixed_line_text text ≡ text = clean_stays text h.0.clean in
    let ended : terminator_or ending source l ≡ end = ap (λ b. cond b end ending) h.0.terminated in
    let rest : flat_map (fixed_line source ending) ls ≡ drop l.end source =
    stays_from source ending l.end ls cut.4 h.1 in
    ap (λ x. (x ++ terminator_or ending source l) ++ flat_map (fixed_line source ending) ls) same
    ∙ ap (λ x. (text ++ x) ++ flat_map (fixed_line source ending) ls) ended
    ∙ ap (λ x. (text ++ end) ++ x) rest ∙ append_assoc text end (drop l.end source)
    ∙ ap (λ x. text ++ x) (sym (drop_split source l.text_end l.end cut.2))
    ∙ sym (drop_split source l.start l.text_end (omega (arith, cut.0, cut.1)))
    ∙ ap (λ k. drop k source) cut.0

pub fixed_again : (source : List ℕ) → fixed_text (fixed_text source) ≡ fixed_text source
fixed_again source =
    let text : List ℕ = fixed_text source in
    stays_from text (ending_of text) 0 (lines_of text) (lines_cut text) (clean_lines source)

-- ---- nothing is proposed for clean lines

none_proposed : (ending : List ℕ) (l : Line) (text : List ℕ) → IsClean text → is_terminated l ≡ true
    → text_fixes ending l text ≡ []
none_proposed ending l text clean ended =
    let blanks : List ℕ = take_while is_blank text in
    let made : List ℕ → FixModel =
    λ bs. proposal (codes "indent by spaces") l.start (length bs) (spaces_from 0 bs) in
    let a : blanks_fix l.start (take_while is_blank (trimmed text)) ≡ [] =
    ap (λ (x : List ℕ). blanks_fix l.start (take_while is_blank x)) (trimmed_same text clean.ends)
    ∙ ap (λ (o : Option ℕ). cond (is_none o) [] (made blanks ∷ [])) clean.begins in
    let b : trailing_fix l.text_end text ≡ [] =
    ap (λ n. cond (eqb n 0) [] (proposal (codes "delete trailing blanks") (l.text_end - n) n [] ∷ [])) clean.ends in
    let c : ending_fix ending l ≡ [] =
    ap (λ t. cond t [] (proposal (codes "end the last line") l.end 0 ending ∷ [])) ended in
    ap (λ (xs : List FixModel). xs ++ (trailing_fix l.text_end text ++ ending_fix ending l)) a
    ∙ ap (λ (xs : List FixModel). xs ++ ending_fix ending l) b ∙ c

none_from : (source ending : List ℕ) (ls : List Line) → AllByRecursion (IsCleanLine source) ls
    → flat_map (line_fixes source ending) ls ≡ []
none_from source ending [] h = refl
none_from source ending (l ∷ ls) h =
    ap (λ (xs : List FixModel). xs ++ flat_map (line_fixes source ending) ls)
    (none_proposed ending l (slice_range source l.start l.text_end) h.0.clean h.0.terminated)
    ∙ none_from source ending ls h.1

pub fixed_needs_nothing : (source : List ℕ) → proposals_of (fixed_text source) ≡ []
fixed_needs_nothing source =
    none_from (fixed_text source) (ending_of (fixed_text source)) (lines_of (fixed_text source)) (clean_lines source)
