-- On a line that no label keeps, no label begins or ends, so the labels on it run through it.
use Rattle.std.proofs.Common.{ℕ, ◌+◌, ◌-◌, ◌<◌, ◌≤◌, ◌≡◌, min, max, Bool, true, false, cond, eqb, ltb, leb, not, ◌&&◌}
use Rattle.std.proofs.Common.{List, [], ◌∷◌, length, Some, refl, sym, ap, ap₂, ◌∙◌, arith}
use Rattle.std.specs.List.{list_any, AllByRecursion}
use Rattle.std.proofs.lemmas.Bool.{eq-eqb, eqb-true, eqb-false, le-leb, ltb-true, lt-ltb, leb-true, leb-false}
use Rattle.std.proofs.lemmas.Bool.{and_parts, and_from, or_parts}
use Rattle.miette_lines.specs.rules.Lines.{Line, lines_of, line_of, line_start, line_end}
use Rattle.miette_protocol.specs.views.Meaning.{Label}
use Rattle.miette_protocol.specs.rules.Reading.{Span, reading_end}
use Rattle.miette_protocol.specs.rules.Context.{first_line, last_line}
use Rattle.miette_style.specs.declared.style.Style.{Style}
use Rattle.miette_labels.specs.rules.Around.{label_context}
use Rattle.miette_labels.specs.rules.Contexts as C
use Rattle.miette_labels.specs.rules.Labels.{DrawnLabel, drawn_label, drawn_from, reach, starts_on, ends_on}
use Rattle.miette_labels.specs.rules.Labels.{runs_through, is_multi_line, multi_line}
use Rattle.miette_snippet_rules.specs.rules.FoldedLabels.{last_byte, hides}
use Rattle.miette_snippet_rules.specs.rules.ShownLines.{line_at}
use Rattle.miette_snippet_rules.specs.rules.Snippets as N
use Rattle.miette_labels.specs.rules.Contexts.{end_of_span}
use Rattle.miette_lines.proofs.Cases.{by_cases}
use Rattle.miette_lines.proofs.Places.{line_of_mono, line_of_next, line_start_next}
use Rattle.miette_lines.proofs.Cuts.{line_of_there, nonempty, start_before_end}
use Rattle.miette_protocol.proofs.Wholes.{end-le-reading, offset-le-reading}
use Rattle.miette_snippet_laws.proofs.ReadLines.{end_at, start_at}
use Rattle.miette_snippet_laws.specs.laws.Folding.{IsInside}
use Rattle.miette_snippet_laws.proofs.FoldedRuns.{none_first, none_last}
use Rattle.miette_snippet_laws.proofs.OwnGroups.{Around}

-- ---- a label keeps the lines that it begins and ends on

in_folded : (limit c : ℕ) (bytes : List ℕ) (span : Span) (k : ℕ) → first_line bytes span c ≤ k → k
    ≤ last_line bytes span c →
    not (hides limit (line_of bytes span.offset) (line_of bytes (last_byte bytes span)) c k) ≡ true
    → N.is_in_folded_context limit c bytes k span ≡ true
in_folded limit c bytes span k from to shows =
    and_from (N.is_in_context c bytes k span) (not (hides limit (line_of bytes span.offset)
    (line_of bytes (last_byte bytes span)) c k))
    (and_from (leb (first_line bytes span c) k) (leb k (last_line bytes span c))
    (le-leb (first_line bytes span c) k from) (le-leb k (last_line bytes span c) to))
    shows

kept_begin : (limit c : ℕ) (bytes : List ℕ) (span : Span) (k : ℕ) → 1 ≤ c → k < length (lines_of bytes)
    → line_start bytes k ≤ span.offset → span.offset ≤ line_end bytes k →
    N.is_in_folded_context limit c bytes k span ≡ true
kept_begin limit c bytes span k one there from to =
    let low : k ≤ line_of bytes span.offset = omega (
      arith,
      line_of_there bytes k there,
      line_of_mono bytes (line_start bytes k) span.offset from,
    ) in
    let high : line_of bytes span.offset ≤ k + 1 = omega (
      arith,
      line_of_mono bytes span.offset (line_start bytes (k + 1)) (omega (arith, to, line_start_next bytes k)),
      line_of_next bytes k,
    ) in
    let reads : line_of bytes span.offset ≤ line_of bytes (reading_end bytes span) =
    line_of_mono bytes span.offset (reading_end bytes span) (offset-le-reading bytes span) in
    in_folded limit c bytes span k (omega (arith, high, one)) (omega (arith, low, reads))
    (none_first limit (line_of bytes span.offset) (line_of bytes (last_byte bytes span)) c k low)

kept_last : (limit c : ℕ) (bytes : List ℕ) (span : Span) (k : ℕ) → 1 ≤ c → k < length (lines_of bytes)
    → line_start bytes k ≤ last_byte bytes span → last_byte bytes span < line_end bytes k →
    N.is_in_folded_context limit c bytes k span ≡ true
kept_last limit c bytes span k one there from to =
    let last : ℕ = last_byte bytes span in
    let low : k ≤ line_of bytes last = omega (
      arith,
      line_of_there bytes k there,
      line_of_mono bytes (line_start bytes k) last from,
    ) in
    let high : line_of bytes last ≤ k + 1 = omega (
      arith,
      line_of_mono bytes last (line_start bytes (k + 1)) (omega (arith, to, line_start_next bytes k)),
      line_of_next bytes k,
    ) in
    let order : line_of bytes span.offset ≤ line_of bytes last = line_of_mono bytes span.offset last (omega arith) in
    let reads : line_of bytes last ≤ line_of bytes (reading_end bytes span) =
    line_of_mono bytes last (reading_end bytes span) (omega (arith, end-le-reading bytes span)) in
    in_folded limit c bytes span k (omega (arith, order, high, one)) (omega (arith, low, reads))
    (none_last limit (line_of bytes span.offset) (line_of bytes last) c k high one)

-- ---- labels as they are drawn

is_end : (a : Bool) (o n : ℕ) → (a && eqb o n) ≡ true → o ≡ n
is_end true o n e = eqb-true o n e
is_end false o n e = cc

-- a label that is drawn from a line on begins there, or at its end
at_or_end : (b : Bool) (o n from to : ℕ) → (b ≡ true → o ≡ n) → from ≤ cond b (n - 1) o → cond b (n - 1) o < to
    → (from ≤ o) × (o ≤ to)
at_or_end true o n from to h p q = let e : o ≡ n = h refl in (omega (arith, e, p), omega (arith, e, q))
at_or_end false o n from to h p q = (p, omega (arith, q))

abbrev reach_of : ℕ → ℕ → ℕ
reach_of start after = cond (eqb start after) (start + 1) after

reach_last : (o m : ℕ) → reach_of o (max o m) ≡ max o (m - 1) + 1
reach_last o m =
    by_cases {C = reach_of o (max o m) ≡ max o (m - 1) + 1} (eqb o (max o m))
    (λ t. rw t (omega (arith, eqb-true o (max o m) t))) (λ f. rw f (omega (arith, eqb-false o (max o m) f)))

reach_end : (m : ℕ) → reach_of m m ≡ m + 1
reach_end m = let e : eqb m m ≡ true = eq-eqb m m refl in rw e refl

kept_reach : (b : Bool) (limit c : ℕ) (bytes : List ℕ) (span : Span) (k : ℕ) → 1 ≤ c → k < length (lines_of bytes)
    → (b ≡ true → span.offset ≡ length bytes) →
    line_start bytes k < reach_of (cond b (length bytes - 1) span.offset)
    (cond b (length bytes - 1) (max span.offset (min (C.end_of_span span) (length bytes)))) →
    reach_of (cond b (length bytes - 1) span.offset) (cond b (length bytes - 1)
    (max span.offset (min (C.end_of_span span) (length bytes)))) ≤ line_end bytes k →
    N.is_in_folded_context limit c bytes k span ≡ true
kept_reach true limit c bytes span k one there h from to =
    let n : ℕ = length bytes in
    let e : span.offset ≡ n = h refl in
    kept_begin limit c bytes span k one there (omega (arith, e, start_before_end bytes k there))
    (omega (arith, e, reach_end (n - 1), to))
kept_reach false limit c bytes span k one there h from to =
    let last : reach_of span.offset (max span.offset (min (C.end_of_span span) (length bytes))) ≡ last_byte bytes span
    + 1 = reach_last span.offset (min (C.end_of_span span) (length bytes)) in
    kept_last limit c bytes span k one there (omega (arith, last, from)) (omega (arith, last, to))

no_start : (ends : Bool) (styles : List Style) (limit c : ℕ) (bytes : List ℕ) (i : ℕ) (label : Label) (k : ℕ) → 1 ≤ c
    → k < length (lines_of bytes) → N.is_in_folded_context limit c bytes k label.span ≡ false →
    starts_on (line_at (lines_of bytes) k) (drawn_label ends styles (length bytes) i label) ≡ false
no_start ends styles limit c bytes i label k one there off =
    let n : ℕ = length bytes in
    let line : Line = line_at (lines_of bytes) k in
    let d : DrawnLabel = drawn_label ends styles n i label in
    by_cases {C = starts_on line d ≡ false} (starts_on line d)
    (λ t. absurd (let both = and_parts (leb line.start d.start) (ltb d.start line.end) t in
    let from : line_start bytes k ≤ d.start = omega (arith, start_at bytes k there, leb-true line.start d.start both.0)
    in
    let to : d.start < line_end bytes k = omega (
      arith,
      end_at bytes k there,
      ltb-true d.start line.end both.1,
    ) in
    let at = at_or_end (ends && eqb label.span.offset n) label.span.offset n (line_start bytes k)
    (line_end bytes k) (is_end ends label.span.offset n) from to in
    let yes : N.is_in_folded_context limit c bytes k label.span ≡ true =
    kept_begin limit c bytes label.span k one there at.0 at.1 in cc (yes, off)))
    (λ f. f)

no_end : (ends : Bool) (styles : List Style) (limit c : ℕ) (bytes : List ℕ) (i : ℕ) (label : Label) (k : ℕ) → 1 ≤ c → k
    < length (lines_of bytes) → N.is_in_folded_context limit c bytes k label.span ≡ false →
    ends_on (line_at (lines_of bytes) k) (drawn_label ends styles (length bytes) i label) ≡ false
no_end ends styles limit c bytes i label k one there off =
    let n : ℕ = length bytes in
    let line : Line = line_at (lines_of bytes) k in
    let d : DrawnLabel = drawn_label ends styles n i label in
    by_cases {C = ends_on line d ≡ false} (ends_on line d)
    (λ t. absurd (let both = and_parts (ltb line.start (reach d)) (leb (reach d) line.end) t in
    let from : line_start bytes k < reach d = omega
    (arith, start_at bytes k there, ltb-true line.start (reach d) both.0) in
    let to : reach d ≤ line_end bytes k = omega (
      arith,
      end_at bytes k there,
      leb-true (reach d) line.end both.1,
    ) in
    let yes : N.is_in_folded_context limit c bytes k label.span ≡ true =
    kept_reach (ends && eqb label.span.offset n) limit c bytes label.span k one there
    (is_end ends label.span.offset n) from to in cc (yes, off)))
    (λ f. f)

all_inside : (ends : Bool) (styles : List Style) (limit context : ℕ) (bytes : List ℕ) (all labels : List Label)
    (i k : ℕ) → Around context all labels → k < length (lines_of bytes) →
    list_any (λ label. N.is_in_folded_context limit (label_context context all label) bytes k label.span) labels ≡ false
    →
    AllByRecursion (IsInside (line_at (lines_of bytes) k)) (drawn_from ends styles (length bytes) i labels)
all_inside ends styles limit context bytes all [] i k h there off = tt
all_inside ends styles limit context bytes all (label ∷ labels) i k h there off =
    let c : ℕ = label_context context all label in
    let both = or_parts (N.is_in_folded_context limit c bytes k label.span)
    (list_any (λ l. N.is_in_folded_context limit (label_context context all l) bytes k l.span) labels) off in (
      (
        no_start ends styles limit c bytes i label k h.0 there both.0,
        no_end ends styles limit c bytes i label k h.0 there both.0,
      ),
      all_inside ends styles limit context bytes all labels (i + 1) k h.1 there both.1,
    )

pub left_out_inside : (ends : Bool) (styles : List Style) (limit context : ℕ) (bytes : List ℕ) (labels : List Label)
    (k : ℕ) → Around context labels labels → k < length (lines_of bytes) → N.is_kept (Some limit) context bytes labels k
    ≡ false →
    AllByRecursion (IsInside (line_at (lines_of bytes) k)) (drawn_from ends styles (length bytes) 0 labels)
left_out_inside ends styles limit context bytes labels k h lt off =
    all_inside ends styles limit context bytes labels labels 0 k h lt
    (or_parts (N.is_in_some_fold limit context bytes labels k) (N.is_alone limit context bytes labels k) off).0

-- ---- the labels on two such lines that follow each other

both_ways : (x y : Bool) → (x ≡ true → y ≡ true) → (y ≡ true → x ≡ true) → x ≡ y
both_ways true y h k = sym (h refl)
both_ways false true h k = k refl
both_ways false false h k = refl

-- a line, and the one after it
record Follow (a b : Line) : Type 0 where
  pub here : a.start ≤ a.end
  pub next : a.end ≡ b.start
  pub there : b.start ≤ b.end

goes_on : (a b : Line) (label : DrawnLabel) → Follow a b → IsInside b label → runs_through a label ≡ true
    → runs_through b label ≡ true
goes_on a b label f k t =
    let both = and_parts (ltb label.start a.start) (ltb a.end (reach label)) t in
    let in_b : b.start < reach label = omega (arith, f.next, ltb-true a.end (reach label) both.1) in
    by_cases {C = runs_through b label ≡ true} (leb (reach label) b.end)
    (λ u. absurd (let yes : ends_on b label ≡ true = and_from (ltb b.start (reach label)) (leb (reach label) b.end)
    (lt-ltb b.start (reach label) in_b) u in cc (yes, k.1)))
    (λ u. and_from (ltb label.start b.start) (ltb b.end (reach label))
    (lt-ltb label.start b.start (omega (arith, f.here, f.next, ltb-true label.start a.start both.0)))
    (lt-ltb b.end (reach label) (omega (arith, leb-false (reach label) b.end u))))

came_on : (a b : Line) (label : DrawnLabel) → Follow a b → IsInside a label → runs_through b label ≡ true
    → runs_through a label ≡ true
came_on a b label f k t =
    let both = and_parts (ltb label.start b.start) (ltb b.end (reach label)) t in
    let in_a : label.start < a.end = omega (arith, f.next, ltb-true label.start b.start both.0) in
    by_cases {C = runs_through a label ≡ true} (leb a.start label.start)
    (λ u. absurd (let yes : starts_on a label ≡ true = and_from (leb a.start label.start) (ltb label.start a.end) u
    (lt-ltb label.start a.end in_a) in cc (yes, k.0)))
    (λ u. and_from (ltb label.start a.start) (ltb a.end (reach label))
    (lt-ltb label.start a.start (omega (arith, leb-false a.start label.start u)))
    (lt-ltb a.end (reach label) (omega (arith, f.next, f.there, ltb-true b.end (reach label) both.1))))

through_only : (line : Line) (label : DrawnLabel) → IsInside line label → is_multi_line line label
    ≡ (runs_through line label && true)
through_only line label h = rw (h.0, h.1) refl

same_one : (a b : Line) (label : DrawnLabel) → Follow a b → IsInside a label → IsInside b label → is_multi_line a label
    ≡ is_multi_line b label
same_one a b label f h k =
    through_only a label h ∙ ap (λ x. x && true) (both_ways (runs_through a label) (runs_through b label)
    (goes_on a b label f k) (came_on a b label f h)) ∙ sym (through_only b label k)

same_multi : (a b : Line) (labels : List DrawnLabel) → Follow a b → AllByRecursion (IsInside a) labels
    → AllByRecursion (IsInside b) labels → multi_line a labels ≡ multi_line b labels
same_multi a b [] f h k = refl
same_multi a b (label ∷ labels) f h k = ap₂ (λ x xs. cond x (label ∷ xs) xs) (same_one a b label f h.0 k.0)
    (same_multi a b labels f h.1 k.1)

follows : (bytes : List ℕ) (k : ℕ) → k + 1 < length (lines_of bytes)
    → Follow (line_at (lines_of bytes) k) (line_at (lines_of bytes) (k + 1))
follows bytes k there =
    let before : k < length (lines_of bytes) = omega (arith, there) in
    record {
      here = omega (arith, start_at bytes k before, end_at bytes k before, nonempty bytes k before);
      next = end_at bytes k before ∙ sym (line_start_next bytes k) ∙ sym (start_at bytes (k + 1) there);
      there = omega (
        arith,
        start_at bytes (k + 1) there,
        end_at bytes (k + 1) there,
        nonempty bytes (k + 1) there,
      );
    }

pub left_out_same : (ends : Bool) (styles : List Style) (limit context : ℕ) (bytes : List ℕ) (labels : List Label)
    (k : ℕ) → Around context labels labels → k + 1 < length (lines_of bytes) →
    N.is_kept (Some limit) context bytes labels k ≡ false → N.is_kept (Some limit) context bytes labels (k + 1) ≡ false
    →
    multi_line (line_at (lines_of bytes) k) (drawn_from ends styles (length bytes) 0 labels)
    ≡ multi_line (line_at (lines_of bytes) (k + 1)) (drawn_from ends styles (length bytes) 0 labels)
left_out_same ends styles limit context bytes labels k h lt off next =
    same_multi (line_at (lines_of bytes) k) (line_at (lines_of bytes) (k + 1))
    (drawn_from ends styles (length bytes) 0 labels) (follows bytes k lt)
    (left_out_inside ends styles limit context bytes labels k h (omega (arith, lt)) off)
    (left_out_inside ends styles limit context bytes labels (k + 1) h lt next)
