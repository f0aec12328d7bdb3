-- A read tells where the source ends: its contents have bytes before its label and none from there on just where the
-- label begins at the end of a source that isn't empty, with a line of context.
use Rattle.std.proofs.Common.{ℕ, zero, suc, ◌<◌, ◌≤◌, ◌≡◌, inl, inr, max, Bool, true, false, cond, eqb, ltb}
use Rattle.std.proofs.Common.{◌&&◌, ◌||◌, Option, Some, None, List, [], ◌∷◌, length, map, refl, sym, ap, ◌∙◌}
use Rattle.std.proofs.Common.{subst, arith, All}
use Rattle.std.specs.Prelude.{unwrap_or}
use Rattle.std.specs.List.{list_any}
use Rattle.std.proofs.lemmas.Bool.{eqb-true, eqb-false, eq-eqb, ne_eqb, lt-ltb, le-ltb, and_left, and_right}
use Rattle.std.proofs.lemmas.Bool.{and_from, cases_lt}
use Rattle.miette_lines.specs.rules.Lines.{line_of, line_end}
use Rattle.miette_protocol.specs.views.Meaning.{Label}
use Rattle.miette_protocol.specs.rules.Reading.{Span, Source, reading_end}
use Rattle.miette_protocol.specs.rules.Context.{first_line, last_line}
use Rattle.miette_labels.specs.declared.reading.ReadLabel.{ReadLabel}
use Rattle.miette_labels.specs.rules.Around.{has_own_context, label_context, group_context}
use Rattle.miette_labels.specs.rules.Contexts.{contents, end_of_span}
use Rattle.miette_labels.specs.rules.Groups.{in_order}
use Rattle.miette_labels.specs.rules.Labels.{shows_end, some_shows_end}
use Rattle.miette_labels.specs.views.ProgramLabels.{label_at}
use Rattle.miette_labels.specs.views.Reads.{IsRead}
use Rattle.miette_labels.specs.views.Placing.{reads_before, source_end_from_reads}
use Rattle.miette_lines.proofs.Cases.{by_cases}
use Rattle.miette_lines.proofs.Places.{line_end_after, line_end_beyond, line_end_le, line_of_mono}
use Rattle.miette_lines.proofs.Places.{line_start_next}
use Rattle.miette_lines.proofs.Cuts.{start_before_end}
use Rattle.miette_protocol.proofs.Wholes.{data_are, offset-le-reading, start_is}
use Rattle.miette_labels.proofs.OwnContexts.{own_ordered}
use Rattle.miette_labels.proofs.RefusedLabel.{read_of}
use Rattle.miette_labels.proofs.LabelEnds.{end_told}
use Rattle.miette_protocol.proofs.Wholes.{first-lt}

-- ---- one read

abbrev pub only_before : ℕ → Source → Span → Bool
only_before c source span = ltb (contents c source span).span.offset span.offset
    && eqb (end_of_span (contents c source span).span) span.offset

abbrev pub ends_there : ℕ → ℕ → ℕ → Bool
ends_there n offset c = ltb 0 n && (eqb offset n && ltb 0 c)

some_tells : (c : ℕ) (source : Source) (span : Span) → 1 ≤ c → 0 < length source.bytes → span.offset
    ≤ length source.bytes → only_before c source span ≡ ends_there (length source.bytes) span.offset c
some_tells c source span one some le =
    let bytes : List ℕ = source.bytes in
    let n : ℕ = length bytes in
    let from : ℕ = (contents c source span).span.offset in
    let to : ℕ = end_of_span (contents c source span).span in
    let end : to ≡ line_end bytes (last_line bytes span c) = data_are bytes span c c one one
    ∙ line_start_next bytes (last_line bytes span c) in
    let order : line_of bytes span.offset ≤ last_line bytes span c =
    omega (arith, line_of_mono bytes span.offset (reading_end bytes span) (offset-le-reading bytes span)) in
    by_cases {C = only_before c source span ≡ ends_there n span.offset c} (eqb span.offset n)
    (λ t. let is : span.offset ≡ n = eqb-true span.offset n t in
    let before : from < span.offset = omega (
      arith,
      is,
      start_is bytes span c one,
      start_before_end bytes (first_line bytes span c) (first-lt c bytes span one some),
    ) in
    let at : to ≡ span.offset = omega (
      arith,
      is,
      end,
      line_end_le bytes (last_line bytes span c),
      line_end_after bytes span.offset (last_line bytes span c) le order,
    ) in
    and_from _ _ (lt-ltb _ _ before) (eq-eqb _ _ at)
    ∙ sym (and_from _ _ (lt-ltb 0 n some) (and_from _ _ t (lt-ltb 0 c one))))
    (λ f. let lt : span.offset < n = omega (arith, le, eqb-false span.offset n f) in
    let past : eqb to span.offset ≡ false = ne_eqb to span.offset (λ e. omega (
      arith,
      e,
      end,
      line_end_beyond bytes span.offset (last_line bytes span c) lt order,
    )) in
    and_right (ltb from span.offset) _ past ∙ sym (and_right (ltb 0 n) _ (and_left _ (ltb 0 c) f)))

none_tells : (c : ℕ) (source : Source) (span : Span) → span.offset ≤ length source.bytes → (length source.bytes ≡ 0)
    → only_before c source span ≡ ends_there (length source.bytes) span.offset c
none_tells c source span le none =
    and_left _ _ (le-ltb (contents c source span).span.offset span.offset (omega (arith, le, none)))
    ∙ sym (and_left _ _ (le-ltb 0 (length source.bytes) (omega (arith, none))))

pub tells : (c : ℕ) (source : Source) (span : Span) → span.offset ≤ length source.bytes → only_before c source span
    ≡ ends_there (length source.bytes) span.offset c
tells zero source span le =
    and_left _ _ (le-ltb span.offset span.offset (omega arith))
    ∙ sym (and_right (ltb 0 (length source.bytes)) _ (and_right (eqb span.offset (length source.bytes)) false refl))
tells (suc c) source span le =
    elim (cases_lt 0 (length source.bytes)) [
      | inl some ↦ some_tells (suc c) source span (omega arith) some le
      | inr none ↦ none_tells (suc c) source span le (omega (arith, none))
    ]

read_tells : (context : ℕ) (source : Source) (labels : List Label) (r : ReadLabel) → IsRead context source labels r →
    reads_before r ≡ shows_end (length source.bytes) (label_context context labels (read_of labels r))
    (read_of labels r)
read_tells context source labels r h =
    let l : Label = label_at labels r.index in
    ap (λ s. ltb r.contents.span.offset s.offset && eqb (end_of_span r.contents.span) s.offset) h.span
    ∙ ap (λ it. ltb it.span.offset l.span.offset && eqb (end_of_span it.span) l.span.offset) h.contents_are
    ∙ tells (label_context context labels l) source l.span
    (subst (λ (s : Span). s.offset ≤ length source.bytes) h.span h.accepted.begins)

-- ---- all reads

at_end : (n lines : ℕ) (l : Label) → shows_end n lines l ≡ true → l.span.offset ≡ n
at_end n lines l h =
    by_cases {C = l.span.offset ≡ n} (eqb l.span.offset n) (λ t. eqb-true l.span.offset n t)
    (λ f. let no : shows_end n lines l ≡ false = and_right (ltb 0 n) _ (and_left _ (ltb 0 lines) f) in let k : true
    ≡ false = sym h ∙ no in cc)

told_all : (context : ℕ) (source : Source) (labels : List Label) (rs : List ReadLabel)
    → All (IsRead context source labels) rs →
    source_end_from_reads rs ≡ end_told (list_any (λ l. shows_end (length source.bytes) (label_context context labels l)
    l)
    (map (read_of labels) rs)) (length source.bytes)
told_all context source labels [] h = refl
told_all context source labels (r ∷ rs) h =
    let n : ℕ = length source.bytes in
    let l : Label = label_at labels r.index in
    let own : IsRead context source labels r = h 0 r (omega arith) in
    let same : reads_before r ≡ shows_end n (label_context context labels l) l = read_tells context source labels r own
    in
    let later = told_all context source labels rs (λ k d lt. h (suc k) d (omega arith)) in
    by_cases {C = source_end_from_reads (r ∷ rs) ≡ end_told (list_any (λ l. shows_end n (label_context context labels l)
    l)
    (map (read_of labels) (r ∷ rs))) n} (reads_before r)
    (λ t. let u : shows_end n (label_context context labels l) l ≡ true = sym same ∙ t in
    let is : r.span.offset ≡ n = ap (λ (s : Span). s.offset) own.span ∙ at_end n (label_context context labels l) l u in
    rw (t, u) (ap Some is))
    (λ f. let u : shows_end n (label_context context labels l) l ≡ false = sym same ∙ f in rw (f, u) later)

-- the labels by offset, with the lines of context with which their groups are read

pub any_same : (p q : Label → Bool) → ((l : Label) → p l ≡ q l) → (ls : List Label) → list_any p ls ≡ list_any q ls
any_same p q same [] = refl
any_same p q same (l ∷ ls) = ap (λ b. b || list_any p ls) (same l) ∙ ap (λ b. q l || b) (any_same p q same ls)

around_group : (own : Bool) (context : ℕ) (number : Option ℕ) →
    ltb 0 (unwrap_or number (cond own (max 1 (cond own 0 context)) (cond own 0 context)))
    ≡ ltb 0 (unwrap_or number (cond own (max 1 context) context))
around_group false context number = refl
around_group true context None = sym (lt-ltb 0 (max 1 context) (omega arith))
around_group true context (Some k) = refl

pub shows_around : (context n : ℕ) (ls : List Label) → some_shows_end (group_context context ls) n ls
    ≡ some_shows_end context n ls
shows_around context n ls =
    any_same (λ l. shows_end n (label_context (group_context context ls) ls l) l)
    (λ l. shows_end n (label_context context ls l) l)
    (λ l. ap (λ b. ltb 0 n && (eqb l.span.offset n && b)) (around_group (has_own_context ls) context l.context)) ls

wanted_told : (wanted shows : Bool) (n : ℕ) → cond wanted (end_told shows n) None ≡ end_told (wanted && shows) n
wanted_told true shows n = refl
wanted_told false shows n = refl

-- where the end is wanted, the reads tell it just where the labels at the end are drawn
pub told_is : (wanted : Bool) (context : ℕ) (source : Source) (labels : List Label) (rs : List ReadLabel)
    → All (IsRead context source labels) rs → map (read_of labels) rs ≡ in_order labels →
    cond wanted (source_end_from_reads rs) None
    ≡ end_told (wanted && some_shows_end context (length source.bytes) (in_order labels)) (length source.bytes)
told_is wanted context source labels rs h order =
    let n : ℕ = length source.bytes in
    ap (λ e. cond wanted e None) (told_all context source labels rs h)
    ∙ ap (λ ls. cond wanted (end_told (list_any (λ l. shows_end n (label_context context labels l) l) ls) n) None) order
    ∙ ap (λ own. cond wanted (end_told (list_any (λ l. shows_end n
    (unwrap_or l.context (cond own (max 1 context) context)) l) (in_order labels)) n) None)
    (sym (own_ordered labels))
    ∙ wanted_told wanted (some_shows_end context n (in_order labels)) n
