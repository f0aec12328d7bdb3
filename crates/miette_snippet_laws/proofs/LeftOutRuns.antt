-- Inside a frame exactly the lines are left out that no label keeps: those that are in no context of a label as it is
-- folded, beside others of that kind.
use Rattle.std.proofs.Common.{ℕ, zero, suc, ◌+◌, ◌-◌, ◌<◌, ◌≤◌, ◌≡◌, max, Bool, true, false, cond, not, ◌&&◌, ◌||◌}
use Rattle.std.proofs.Common.{List}
use Rattle.std.proofs.Common.{[], ◌∷◌, length, map, Option, Some, None, refl, sym, ap, ap₂, ◌∙◌, ⊎_elim, arith}
use Rattle.std.specs.Prelude.{unwrap_or}
use Rattle.std.specs.List.{range_with_len, list_any, AllByRecursion}
use Rattle.std.proofs.lemmas.Bool.{and_left, cases_lt}
use Rattle.miette_lines.specs.rules.Lines.{Line, lines_of, line_of}
use Rattle.miette_lines.proofs.Cuts.{few_lines}
use Rattle.miette_protocol.specs.views.Meaning.{Label}
use Rattle.miette_protocol.specs.rules.Reading.{Source}
use Rattle.miette_labels.specs.rules.Around.{label_context}
use Rattle.miette_labels.specs.rules.Groups.{in_order}
use Rattle.miette_labels.proofs.OwnContexts.{own_ordered, order_any}
use Rattle.miette_snippet_rules.specs.rules.FoldedLabels.{LabelExtent, hides, is_hidden, last_byte, leaves_out}
use Rattle.miette_snippet_rules.specs.rules.FoldedLabels.{line_at, label_extent, extents_of_labels}
use Rattle.miette_snippet_rules.specs.rules.Numbers.{ranges}
use Rattle.miette_snippet_rules.specs.rules.SnippetSettings.{SnippetSettings}
use Rattle.miette_snippet_rules.specs.rules.SnippetLayout.{left_out}
use Rattle.miette_snippet_rules.specs.rules.Snippets as N
use Rattle.miette_snippet_rules.proofs.NeverHidden.{and_not, first_shown, no_line, none_hidden}
use Rattle.miette_snippet_laws.proofs.FoldedRuns.{all_covered, and_true, any_around, any_near, frame, none_first}
use Rattle.miette_snippet_laws.proofs.FoldedRuns.{none_past}
use Rattle.miette_snippet_laws.proofs.OwnGroups.{Around}
use Rattle.miette_snippet_laws.proofs.SnippetBodies.{KeepsAlike, LeaveAlike}
use Rattle.miette_snippet_laws.proofs.Stretches.{IsMaximal, range_same, each_run}

-- ---- lines with some numbers, by their places

mapped_at : (f : ℕ → Line) (low many j : ℕ) → j < many → line_at (map f (range_with_len low many)) j ≡ f (low + j)
mapped_at f low zero j lt = absurd (omega (arith, lt))
mapped_at f low (suc many) zero lt = let same : low ≡ low + 0 = omega arith in ap f same
mapped_at f low (suc many) (suc j) lt =
    let same : low + 1 + j ≡ low + suc j = omega arith in
    mapped_at f (low + 1) many j (omega (arith, lt)) ∙ ap f same

mapped_past : (f : ℕ → Line) (low many j : ℕ) → many ≤ j → line_at (map f (range_with_len low many)) j ≡ no_line
mapped_past f low zero j le = refl
mapped_past f low (suc many) zero le = absurd (omega (arith, le))
mapped_past f low (suc many) (suc j) le = mapped_past f (low + 1) many j (omega (arith, le))

-- ---- lines that are never hidden, by their numbers

any_shown : (limit context : ℕ) (bytes : List ℕ) (all labels : List Label) (k : ℕ)
    → ((label : Label) → not (hides limit (line_of bytes label.span.offset) (line_of bytes (last_byte bytes label.span))
    (label_context context all label) k) ≡ true) →
    list_any (λ label. N.is_in_folded_context limit (label_context context all label) bytes k label.span) labels
    ≡ list_any (λ label. N.is_in_context (label_context context all label) bytes k label.span) labels
any_shown limit context bytes all [] k h = refl
any_shown limit context bytes all (label ∷ labels) k h =
    let c : ℕ = label_context context all label in
    ap₂ (λ x y. x || y)
    (and_true (N.is_in_context c bytes k label.span) (not
    (hides limit (line_of bytes label.span.offset) (line_of bytes (last_byte bytes label.span)) c k)) (h label))
    (any_shown limit context bytes all labels k h)

never_hidden : (limit context : ℕ) (bytes : List ℕ) (labels : List Label) (k : ℕ)
    → ((label : Label) → not (hides limit (line_of bytes label.span.offset) (line_of bytes (last_byte bytes label.span))
    (label_context context labels label) k) ≡ true) → N.is_hidden limit context bytes labels k ≡ false
never_hidden limit context bytes labels k h =
    ap (λ b. N.is_context_line context bytes labels k && not b) (any_shown limit context bytes labels labels k h)
    ∙ and_not (N.is_context_line context bytes labels k)

pub first_number : (limit context : ℕ) (bytes : List ℕ) (labels : List Label)
    → N.is_hidden limit context bytes labels 0 ≡ false
first_number limit context bytes labels =
    never_hidden limit context bytes labels 0 (λ label. none_first limit (line_of bytes label.span.offset)
    (line_of bytes (last_byte bytes label.span)) (label_context context labels label) 0 (omega arith))

past_numbers : (limit context : ℕ) (bytes : List ℕ) (labels : List Label) (k : ℕ) → length (lines_of bytes) ≤ k
    → N.is_hidden limit context bytes labels k ≡ false
past_numbers limit context bytes labels k le =
    never_hidden limit context bytes labels k (λ label. none_past limit (line_of bytes label.span.offset)
    (line_of bytes (last_byte bytes label.span)) (label_context context labels label) k
    (omega (arith, le, few_lines bytes (last_byte bytes label.span))))

unshown : (limit context : ℕ) (bytes : List ℕ) (labels : List Label) (k : ℕ)
    → N.is_context_line context bytes labels k ≡ false → N.is_hidden limit context bytes labels k ≡ false
unshown limit context bytes labels k h =
    and_left (N.is_context_line context bytes labels k) (not (N.is_in_some_fold limit context bytes labels k)) h

-- ---- which lines of a run are hidden

-- a run of the lines of a source that are shown
record IsRun (context : ℕ) (source : Source) (labels : List Label) (low many : ℕ) : Type 0 where
  pub around : Around context labels labels
  pub some : 0 < length source.bytes
  pub whole : IsMaximal (N.is_context_line context source.bytes labels) (length (lines_of source.bytes)) low many

-- whether a line of a run is hidden by labels, by its place among the lines of the run
abbrev hidden_at : ℕ → ℕ → Source → List Label → ℕ → ℕ → ℕ → Bool
hidden_at limit context source labels low many j =
    is_hidden limit (frame source.bytes low many) (map (label_extent context source labels) labels) j
    (line_at (frame source.bytes low many) j)

own_hidden : (limit context : ℕ) (source : Source) (labels : List Label) (low many k : ℕ)
    → IsRun context source labels low many → low ≤ k → k < low + many →
    is_hidden limit (frame source.bytes low many) (map (label_extent context source labels) labels) (k + 1 - (low + 1))
    (line_at (lines_of source.bytes) k) ≡ N.is_hidden limit context source.bytes labels k
own_hidden limit context source labels low many k r le lt =
    ap₂ (λ x y. x && not y)
    (any_around context source labels labels k r.around r.some (omega (arith, r.whole.inside, lt)))
    (any_near limit context source labels labels (N.is_context_line context source.bytes labels) low many k r.around
    r.some
    r.whole (all_covered context source.bytes labels) le lt)

-- the line with a number in the run, which stands at a place of it
hidden_in : (limit context : ℕ) (source : Source) (labels : List Label) (low many k j : ℕ)
    → IsRun context source labels low many → low ≤ k → k < low + many → low + j ≡ k →
    hidden_at limit context source labels low many j ≡ N.is_hidden limit context source.bytes labels k
hidden_in limit context source labels low many k j r le lt e =
    let place : j ≡ k + 1 - (low + 1) = omega (arith, e) in
    let line : line_at (frame source.bytes low many) j ≡ line_at (lines_of source.bytes) k =
    mapped_at (line_at (lines_of source.bytes)) low many j (omega (arith, lt, e))
    ∙ ap (line_at (lines_of source.bytes)) e
    in
    ap₂ (is_hidden limit (frame source.bytes low many) (map (label_extent context source labels) labels)) place line
    ∙ own_hidden limit context source labels low many k r le lt

hidden_before : (limit context : ℕ) (source : Source) (labels : List Label) (low many k : ℕ)
    → IsRun context source labels low many → low ≤ k → k < low + many →
    hidden_at limit context source labels low many (k + 1 - (low + 1) - 1)
    ≡ N.is_hidden limit context source.bytes labels (k - 1)
hidden_before limit context source labels low many k r le lt =
    ⊎_elim {C = hidden_at limit context source labels low many (k + 1 - (low + 1) - 1)
    ≡ N.is_hidden limit context source.bytes labels (k - 1)}
    (λ inside. hidden_in limit context source labels low many (k - 1) (k + 1 - (low + 1) - 1) r (omega (arith, inside))
    (omega (arith, lt)) (omega (arith, inside)))
    (λ first.
    let none : k + 1 - (low + 1) - 1 ≡ 0 = omega (arith, first) in
    ap (hidden_at limit context source labels low many) none
    ∙ first_shown limit (frame source.bytes low many) (line_at (frame source.bytes low many) 0)
    (map (label_extent context source labels) labels)
    ∙ sym (before_run (omega (arith, le, first)))) (cases_lt low k)
  where
    before_run : k ≡ low → N.is_hidden limit context source.bytes labels (k - 1) ≡ false
    before_run e = ⊎_elim {C = N.is_hidden limit context source.bytes labels (k - 1) ≡ false}
        (λ some. unshown limit context source.bytes labels (k - 1)
        (ap (λ n. N.is_context_line context source.bytes labels (n - 1)) e ∙ r.whole.below (omega (arith, some, e))))
        (λ none. let zeroth : k - 1 ≡ 0 = omega (arith, none) in
        ap (N.is_hidden limit context source.bytes labels) zeroth
        ∙ first_number limit context source.bytes labels) (cases_lt 0 k)

hidden_after : (limit context : ℕ) (source : Source) (labels : List Label) (low many k : ℕ)
    → IsRun context source labels low many → low ≤ k → k < low + many →
    hidden_at limit context source labels low many (k + 1 - (low + 1) + 1)
    ≡ N.is_hidden limit context source.bytes labels (k + 1)
hidden_after limit context source labels low many k r le lt =
    ⊎_elim {C = hidden_at limit context source labels low many (k + 1 - (low + 1) + 1)
    ≡ N.is_hidden limit context source.bytes labels (k + 1)}
    (λ inside. hidden_in limit context source labels low many (k + 1) (k + 1 - (low + 1) + 1) r (omega (arith, le))
    inside
    (omega (arith, le)))
    (λ last.
    ap (is_hidden limit (frame source.bytes low many) (map (label_extent context source labels) labels)
    (k + 1 - (low + 1) + 1)) (mapped_past (line_at (lines_of source.bytes)) low many (k + 1 - (low + 1) + 1)
    (omega (arith, le, last)))
    ∙ none_hidden limit (frame source.bytes low many) (map (label_extent context source labels) labels)
    (k + 1 - (low + 1) + 1)
    ∙ sym (after_run (omega (arith, last, lt)))) (cases_lt (k + 1) (low + many))
  where
    after_run : k + 1 ≡ low + many → N.is_hidden limit context source.bytes labels (k + 1) ≡ false
    after_run e = ⊎_elim {C = N.is_hidden limit context source.bytes labels (k + 1) ≡ false}
        (λ there. unshown limit context source.bytes labels (k + 1)
        (ap (N.is_context_line context source.bytes labels) e ∙ r.whole.above (omega (arith, there, e))))
        (λ past. past_numbers limit context source.bytes labels (k + 1) past)
        (cases_lt (k + 1) (length (lines_of source.bytes)))

-- ---- what is left out of a run isn't kept

out_not_kept : (fold before after : Bool) → ((true && not fold) && (before || after))
    ≡ not (fold || ((true && not fold) && (not before && not after)))
out_not_kept true before after = refl
out_not_kept false true after = refl
out_not_kept false false true = refl
out_not_kept false false false = refl

leaves_alike : (limit : Option ℕ) (context : ℕ) (source : Source) (labels : List Label) (low many k : ℕ)
    → IsRun context source labels low many → low ≤ k → k < low + many →
    leaves_out limit (frame source.bytes low many) (extents_of_labels limit context source labels) (k + 1 - (low + 1))
    (line_at (lines_of source.bytes) k) ≡ not (N.is_kept limit context source.bytes labels k)
leaves_alike None context source labels low many k r le lt = ap not (sym (r.whole.all k le lt))
leaves_alike (Some limit) context source labels low many k r le lt =
    let bytes : List ℕ = source.bytes in
    let fold : Bool = N.is_in_some_fold limit context bytes labels k in
    let before : Bool = N.is_hidden limit context bytes labels (k - 1) in
    let after : Bool = N.is_hidden limit context bytes labels (k + 1) in
    let shown : N.is_context_line context bytes labels k ≡ true = r.whole.all k le lt in
    ap₂ (λ x y. x && y) (own_hidden limit context source labels low many k r le lt)
    (ap₂ (λ x y. x || y) (hidden_before limit context source labels low many k r le lt)
    (hidden_after limit context source labels low many k r le lt))
    ∙ ap (λ x. (x && not fold) && (before || after)) shown
    ∙ out_not_kept fold before after
    ∙ ap (λ x. not (fold || ((x && not fold) && (not before && not after)))) (sym shown)

-- ---- the order of labels changes nothing

pub any_ordered : (context : ℕ) (bytes : List ℕ) (labels : List Label) (k : ℕ)
    → N.is_context_line context bytes (in_order labels) k ≡ N.is_context_line context bytes labels k
any_ordered context bytes labels k =
    ap (λ own. list_any (λ l. N.is_in_context (unwrap_or l.context (cond own (max 1 context) context)) bytes k l.span)
    (in_order labels)) (own_ordered labels)
    ∙ order_any (λ l. N.is_in_context (label_context context labels l) bytes k l.span) labels

fold_ordered : (limit context : ℕ) (bytes : List ℕ) (labels : List Label) (k : ℕ)
    → N.is_in_some_fold limit context bytes (in_order labels) k ≡ N.is_in_some_fold limit context bytes labels k
fold_ordered limit context bytes labels k =
    ap (λ own. list_any (λ l. N.is_in_folded_context limit (unwrap_or l.context (cond own (max 1 context) context))
    bytes k l.span) (in_order labels)) (own_ordered labels)
    ∙ order_any (λ l. N.is_in_folded_context limit (label_context context labels l) bytes k l.span) labels

hidden_ordered : (limit context : ℕ) (bytes : List ℕ) (labels : List Label) (k : ℕ)
    → N.is_hidden limit context bytes (in_order labels) k ≡ N.is_hidden limit context bytes labels k
hidden_ordered limit context bytes labels k =
    ap₂ (λ x y. x && not y) (any_ordered context bytes labels k) (fold_ordered limit context bytes labels k)

pub kept_ordered : (limit : Option ℕ) (context : ℕ) (bytes : List ℕ) (labels : List Label) (k : ℕ)
    → N.is_kept limit context bytes (in_order labels) k ≡ N.is_kept limit context bytes labels k
kept_ordered None context bytes labels k = any_ordered context bytes labels k
kept_ordered (Some limit) context bytes labels k =
    ap₂ (λ x y. x || y) (fold_ordered limit context bytes labels k)
    (ap₂ (λ x y. x && y) (hidden_ordered limit context bytes labels k)
    (ap₂ (λ x y. not x && not y) (hidden_ordered limit context bytes labels (k - 1))
    (hidden_ordered limit context bytes labels (k + 1))))

-- ---- in each run of lines that are shown

pub runs_alike : (s : SnippetSettings) (context : ℕ) (source : Source) (labels : List Label)
    → Around context (in_order labels) (in_order labels) → 0 < length source.bytes →
    AllByRecursion (KeepsAlike s (extents_of_labels s.layout.label_lines context source (in_order labels)) source.bytes
    (N.is_kept s.layout.label_lines context source.bytes labels))
    (ranges (N.shown_numbers context source.bytes (in_order labels)))
runs_alike s context source labels h some =
    let bytes : List ℕ = source.bytes in
    let xs : List LabelExtent = extents_of_labels s.layout.label_lines context source (in_order labels) in
    let alike : ℕ → ℕ → Type 0 = λ low many. LeaveAlike (lines_of bytes)
    (left_out s low (map (line_at (lines_of bytes)) (range_with_len low many)) xs)
    (N.is_kept s.layout.label_lines context bytes labels) low many in
    each_run alike (N.is_context_line context bytes (in_order labels)) (length (lines_of bytes)) (λ low many m.
    λ k le lt. leaves_alike s.layout.label_lines context source (in_order labels) low many k
    (record { around = h; some = some; whole = m }) le lt
    ∙ ap not (kept_ordered s.layout.label_lines context bytes labels k))

-- a run without lines
pub none_alike : (s : SnippetSettings) (xs : List LabelExtent) (bytes : List ℕ) (kept : ℕ → Bool)
    → KeepsAlike s xs bytes kept []
none_alike s xs bytes kept = λ low many e. λ k le lt. absurd (omega (arith, le, lt, (range_same 0 0 low many e).0))
