-- Drafts that are made edit by edit are the joined edits.
use Rattle.std.proofs.Common.{◌≡◌, ℕ, true, false, List, [], ◌∷◌, ◌++◌, map, refl, sym, ap, ◌∙◌, append_assoc}
use Rattle.std.proofs.Common.{append-nil}
use Rattle.std.specs.Prelude.{slice_range}
use Rattle.miette_lines.proofs.Cases.{by_cases}
use Rattle.miette_fixes.specs.rules.Edits.{Replacement, end_of}
use Rattle.miette_positions.specs.declared.position.Stretch.{Stretch}
use Rattle.miette_sarif.specs.rules.Findings.{ReplacementValue}
use Rattle.miette_sarif.specs.rules.Proposals.{Joined, joined, joined_from, later_end, meets, replaced, text_between}
use Rattle.miette_sarif.specs.rules.Proposals.{widened}
use Rattle.miette_sarif.specs.steps.Drafts.{DraftValue, begun, drafts, drafts_from, finished, with_edit}

-- the text of edits up to the end of the last one, and that end
abbrev text_to : List ℕ → ℕ → List Replacement → List ℕ
text_to bytes at [] = []
text_to bytes at (e ∷ es) = slice_range bytes at e.span.offset ++ e.text ++ text_to bytes (end_of e) es

abbrev reached : ℕ → List Replacement → ℕ
reached at [] = at
reached at (e ∷ es) = reached (end_of e) es

abbrev draft : List ℕ → Joined → DraftValue
draft bytes j = record {
  deleted = j.deleted;
  text = text_to bytes j.deleted.start.offset j.edits;
  reached = reached j.deleted.start.offset j.edits;
}

text_split : (bytes : List ℕ) (at end : ℕ) (es : List Replacement)
    → text_to bytes at es ++ slice_range bytes (reached at es) end ≡ text_between bytes at end es
text_split bytes at end [] = refl
text_split bytes at end (e ∷ es) =
    append_assoc (slice_range bytes at e.span.offset ++ e.text) (text_to bytes (end_of e) es)
    (slice_range bytes (reached (end_of e) es) end)
    ∙ ap (λ l. (slice_range bytes at e.span.offset ++ e.text) ++ l) (text_split bytes (end_of e) end es)

text_more : (bytes : List ℕ) (at : ℕ) (es : List Replacement) (e : Replacement)
    → text_to bytes at (es ++ e ∷ [])
    ≡ text_to bytes at es ++ slice_range bytes (reached at es) e.span.offset ++ e.text
text_more bytes at [] e = append-nil (slice_range bytes at e.span.offset ++ e.text)
text_more bytes at (f ∷ es) e =
    ap (λ l. (slice_range bytes at f.span.offset ++ f.text) ++ l) (text_more bytes (end_of f) es e)
    ∙ simp append_assoc

reached_more : (at : ℕ) (es : List Replacement) (e : Replacement) → reached at (es ++ e ∷ []) ≡ end_of e
reached_more at [] e = refl
reached_more at (f ∷ es) e = reached_more (end_of f) es e

abbrev made : Stretch → List ℕ → ℕ → DraftValue
made s text end = record { deleted = s; text = text; reached = end }

one_begun : (bytes : List ℕ) (s : Stretch) (e : Replacement)
    → begun bytes s e ≡ draft bytes (record { deleted = s; edits = e ∷ [] })
one_begun bytes s e =
    ap (λ text. made s text (end_of e)) (sym (append-nil (slice_range bytes s.start.offset e.span.offset ++ e.text)))

abbrev more : Joined → Stretch → Replacement → Joined
more j s e = record { deleted = later_end j.deleted s; edits = j.edits ++ e ∷ [] }

one_more : (bytes : List ℕ) (s : Stretch) (j : Joined) (e : Replacement)
    → with_edit bytes s (draft bytes j) e ≡ draft bytes (more j s e)
one_more bytes s j e =
    ap (λ text. made (later_end j.deleted s) text (end_of e))
    (sym (text_more bytes j.deleted.start.offset j.edits e))
    ∙ ap (made (later_end j.deleted s) (text_to bytes j.deleted.start.offset (j.edits ++ e ∷ [])))
    (sym (reached_more j.deleted.start.offset j.edits e))

finish : (bytes : List ℕ) (j : Joined) → finished bytes (draft bytes j) ≡ replaced bytes j
finish bytes j =
    let it : List ℕ → ReplacementValue = λ text. record { deleted = j.deleted; text = text } in
    ap it (text_split bytes j.deleted.start.offset j.deleted.end.offset j.edits)

from_draft : (bytes : List ℕ) (j : Joined) (es : List Replacement)
    → map (finished bytes) (drafts_from bytes (draft bytes j) es) ≡ map (replaced bytes) (joined_from bytes j es)
from_draft bytes j [] = ap (λ r. r ∷ []) (finish bytes j)
from_draft bytes j (e ∷ es) =
    by_cases {C = map (finished bytes) (drafts_from bytes (draft bytes j) (e ∷ es))
    ≡ map (replaced bytes) (joined_from bytes j (e ∷ es))} (meets j.deleted (widened bytes e))
    (λ t. rw t (ap (λ d. map (finished bytes) (drafts_from bytes d es)) (one_more bytes (widened bytes e) j e)
    ∙ from_draft bytes (more j (widened bytes e) e) es))
    (λ f. rw f (ap (λ ds. finished bytes (draft bytes j) ∷ map (finished bytes) ds)
    (ap (λ d. drafts_from bytes d es) (one_begun bytes (widened bytes e) e))
    ∙ ap (λ r. r ∷ map (finished bytes) (drafts_from bytes (draft bytes (next e)) es)) (finish bytes j)
    ∙ ap (λ rs. replaced bytes j ∷ rs) (from_draft bytes (next e) es)))
  where
    next : Replacement → Joined
    next e = record { deleted = widened bytes e; edits = e ∷ [] }

pub drafts_are : (bytes : List ℕ) (es : List Replacement)
    → map (finished bytes) (drafts bytes es) ≡ map (replaced bytes) (joined bytes es)
drafts_are bytes [] = refl
drafts_are bytes (e ∷ es) =
    ap (λ d. map (finished bytes) (drafts_from bytes d es)) (one_begun bytes (widened bytes e) e)
    ∙ from_draft bytes (record { deleted = widened bytes e; edits = e ∷ [] }) es

-- one more edit: it is joined, or begins a draft of its own
pub draft_joined : (bytes : List ℕ) (done : List DraftValue) (d new : DraftValue) (e : Replacement)
    (es left : List Replacement) (s : Stretch) (all : List DraftValue) → es ≡ e ∷ left → s ≡ widened bytes e
    → meets d.deleted s ≡ true → new ≡ with_edit bytes s d e → done ++ drafts_from bytes d es ≡ all
    → done ++ drafts_from bytes new left ≡ all
draft_joined bytes done d new e es left s all more wide t is h =
    let met : meets d.deleted (widened bytes e) ≡ true = ap (meets d.deleted) (sym wide) ∙ t in
    let step : drafts_from bytes d (e ∷ left) ≡ drafts_from bytes (with_edit bytes (widened bytes e) d e) left =
    rw met refl in
    ap (λ x. done ++ drafts_from bytes x left) (is ∙ ap (λ x. with_edit bytes x d e) wide)
    ∙ ap (λ ds. done ++ ds) (sym step) ∙ ap (λ x. done ++ drafts_from bytes d x) (sym more) ∙ h

pub draft_next : (bytes : List ℕ) (done pushed : List DraftValue) (d new : DraftValue) (e : Replacement)
    (es left : List Replacement) (s : Stretch) (all : List DraftValue) → es ≡ e ∷ left → s ≡ widened bytes e
    → meets d.deleted s ≡ false → new ≡ begun bytes s e → pushed ≡ done ++ d ∷ []
    → done ++ drafts_from bytes d es ≡ all → pushed ++ drafts_from bytes new left ≡ all
draft_next bytes done pushed d new e es left s all more wide f is put h =
    let apart : meets d.deleted (widened bytes e) ≡ false = ap (meets d.deleted) (sym wide) ∙ f in
    let step : drafts_from bytes d (e ∷ left) ≡ d ∷ drafts_from bytes (begun bytes (widened bytes e) e) left =
    rw apart refl in
    ap (λ xs. xs ++ drafts_from bytes new left) put ∙ append_assoc done (d ∷ []) (drafts_from bytes new left)
    ∙ ap (λ x. done ++ d ∷ drafts_from bytes x left) (is ∙ ap (λ x. begun bytes x e) wide)
    ∙ ap (λ ds. done ++ ds) (sym step) ∙ ap (λ x. done ++ drafts_from bytes d x) (sym more) ∙ h
