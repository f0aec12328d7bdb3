-- Which lines of a run labels hide, and that its first line and its last one are kept.
use Rattle.std.proofs.Common.{ℕ, zero, suc, ◌+◌, ◌-◌, ◌<◌, ◌≤◌, ◌≡◌, ◌⊎◌, inl, inr, min, Bool, true, false}
use Rattle.std.proofs.Common.{ltb, leb, not, ◌&&◌, ◌||◌, List, [], ◌∷◌, length, map, Option, Some, None, refl, sym, ap}
use Rattle.std.proofs.Common.{ap₂, ◌∙◌, ⊎_elim, arith}
use Rattle.std.specs.Prelude.{slice_range}
use Rattle.std.specs.List.{range_with_len, list_any, AllByRecursion}
use Rattle.std.proofs.lemmas.Bool.{lt-ltb, le-ltb, le-leb, lt-leb, leb-true, cases_lt}
use Rattle.std.proofs.lemmas.Bool.{and_parts, and_from, or_left, or_right}
use Rattle.std.proofs.Math.Bool.{and_comm}
use Rattle.miette_lines.specs.rules.Lines.{Line, lines_from, lines_of, line_of, line_start, line_end}
use Rattle.miette_protocol.specs.views.Meaning.{Label}
use Rattle.miette_protocol.specs.rules.Reading.{Span, Source, reading_end}
use Rattle.miette_protocol.specs.rules.Context.{first_line, last_line}
use Rattle.miette_labels.specs.rules.Around.{label_context}
use Rattle.miette_snippet_rules.specs.rules.FoldedLabels.{LabelExtent, label_extent, last_byte, hides, line_index_of}
use Rattle.miette_snippet_rules.specs.rules.FoldedLabels.{is_around}
use Rattle.miette_snippet_rules.specs.rules.FoldedLabels.{is_in_fold}
use Rattle.miette_snippet_rules.specs.rules.Numbers.{ranges}
use Rattle.miette_snippet_rules.specs.rules.ShownLines.{line_at}
use Rattle.miette_snippet_rules.specs.rules.Snippets as N
use Rattle.miette_lines.proofs.Cases.{by_cases}
use Rattle.miette_lines.proofs.Places.{line_end_mono, line_of_all, line_of_mono, line_of_next, line_of_within}
use Rattle.miette_lines.proofs.Places.{line_start_mono, line_start_next}
use Rattle.miette_lines.proofs.Cuts.{few_lines, line_of_there, lines_before, nonempty}
use Rattle.miette_lines.proofs.Only.{lines_between}
use Rattle.miette_lines.proofs.Parts.{part_place, start_whole}
use Rattle.miette_protocol.proofs.Wholes.{data_are, end-le-reading, first-le-last, start_is}
use Rattle.miette_protocol.proofs.Wholes.{first-lt}
use Rattle.miette_snippet_laws.proofs.ReadLines.{end_at, middle_lines, start_at}
use Rattle.miette_snippet_laws.specs.laws.Folding.{FitsIn, EndsPass}
use Rattle.miette_snippet_laws.proofs.Stretches.{IsMaximal, each_numbers}
use Rattle.miette_snippet_laws.proofs.OwnGroups.{Around}
use Rattle.miette_snippet_laws.proofs.SnippetBodies.{last_of-range}

-- ---- the places of offsets among the lines of a frame

-- the lines with these numbers
abbrev pub frame : List ℕ → ℕ → ℕ → List Line
frame bytes low many = map (line_at (lines_of bytes)) (range_with_len low many)

place_is : (bytes : List ℕ) (low many o : ℕ) → low + many ≤ length (lines_of bytes)
    → line_index_of (frame bytes low many) o
    ≡ min many (line_of bytes o - low)
place_is bytes low zero o le = omega arith
place_is bytes low (suc many) o le =
    let from : ℕ = line_start bytes low in
    let to : ℕ = line_start bytes (low + suc many) in
    let numbers : min (low + suc many) (length (lines_of bytes)) - low ≡ suc many = omega (arith, le) in
    let own : lines_from from (slice_range bytes from to) ≡ frame bytes low (suc many) =
    lines_between bytes low (low + suc many) (omega arith)
    ∙ middle_lines (lines_of bytes) low (low + suc many) (omega (arith, le))
    ∙ ap (λ n. frame bytes low n) numbers in
    let order : from ≤ to = line_start_mono bytes low (low + suc many) (omega arith) in
    let next : low + many + 1 ≡ low + suc many = omega arith in
    let last : line_of bytes to ≡ min (low + many + 1) (line_of bytes (length bytes)) =
    ap (λ k. line_of bytes (line_start bytes k)) (sym next) ∙ line_of_next bytes (low + many) in
    omega (
      arith,
      ap (λ ls. line_index_of ls o) own,
      part_place bytes from to o order (start_whole bytes (low + suc many)),
      line_of_within bytes from to o order,
      line_of_there bytes low (omega (arith, le)),
      lines_before bytes (low + many) (omega (arith, le)),
      last,
      line_of_all bytes o,
    )

-- ---- contexts by offsets, and by numbers of lines

begins_before : (bytes : List ℕ) (k a : ℕ) → a < length (lines_of bytes) → ltb (line_start bytes a) (line_end bytes k)
    ≡ leb a k
begins_before bytes k a there = ⊎_elim {C = ltb (line_start bytes a) (line_end bytes k) ≡ leb a k}
    (λ lt. le-ltb (line_start bytes a) (line_end bytes k) (omega (
      arith,
      line_start_next bytes k,
      line_start_mono bytes (k + 1) a (omega (arith, lt)),
    )) ∙ sym (lt-leb a k lt))
    (λ ge. lt-ltb (line_start bytes a) (line_end bytes k) (omega (
      arith,
      nonempty bytes a there,
      line_end_mono bytes a k ge,
    )) ∙ sym (le-leb a k ge)) (cases_lt k a)

-- a line has a byte of a label's context where its number lies in it
around_is : (context : ℕ) (source : Source) (all : List Label) (label : Label) (k : ℕ) → 1
    ≤ label_context context all label → 0 < length source.bytes → k < length (lines_of source.bytes) →
    is_around (line_at (lines_of source.bytes) k) (label_extent context source all label)
    ≡ N.is_in_context (label_context context all label) source.bytes k label.span
around_is context source all label k one some there =
    let c : ℕ = label_context context all label in
    let bytes : List ℕ = source.bytes in
    let low : ℕ = first_line bytes label.span c in
    let high : ℕ = last_line bytes label.span c in
    let lt : low < length (lines_of bytes) = first-lt c bytes label.span one some in
    let x : LabelExtent = label_extent context source all label in
    let from : x.from ≡ line_start bytes low = start_is bytes label.span c one in
    let until : x.until ≡ line_end bytes high = omega (
      arith,
      from,
      data_are bytes label.span c c one one,
      line_start_next bytes high,
      nonempty bytes low lt,
      line_end_mono bytes low high (first-le-last bytes label.span c c),
    ) in
    ap₂ (λ a b. ltb a b && ltb x.from (line_at (lines_of bytes) k).end) (start_at bytes k there) until
    ∙ ap₂ (λ a b. ltb (line_start bytes k) (line_end bytes high) && ltb a b) from (end_at bytes k there)
    ∙ ap₂ (λ a b. a && b) (begins_before bytes high k there) (begins_before bytes k low lt)
    ∙ and_comm (leb k high) (leb low k)

-- ---- a label whose context meets a run lies in it

-- the numbers that a label's first byte and its last one have
record AreIn (low many first last : ℕ) : Type 0 where
  pub begins : low ≤ first
  pub order : first ≤ last
  pub ends : last ≤ low + many

-- the lines of a context all pass
abbrev pub Covers : (ℕ → Bool) → ℕ → ℕ → List ℕ → Span → Type 0
Covers p to c bytes span = (k : ℕ) → k < to → first_line bytes span c ≤ k → k ≤ last_line bytes span c → p k ≡ true

lies_in : (p : ℕ → Bool) (c : ℕ) (bytes : List ℕ) (span : Span) (low many k : ℕ)
    → IsMaximal p (length (lines_of bytes)) low many → Covers p (length (lines_of bytes)) c bytes span →
    low ≤ k → k < low + many → first_line bytes span c ≤ k → k ≤ last_line bytes span c →
    AreIn low many (line_of bytes span.offset) (line_of bytes (last_byte bytes span))
lies_in p c bytes span low many k m covers le lt from to =
    let reads : line_of bytes (last_byte bytes span) ≤ line_of bytes (reading_end bytes span) =
    line_of_mono bytes (last_byte bytes span) (reading_end bytes span) (omega (arith, end-le-reading bytes span)) in
    record {
      begins = ⊎_elim {C = low ≤ line_of bytes span.offset}
          (λ out. absurd (let passes : p (low - 1) ≡ true = covers (low - 1) (omega (arith, m.inside, le, lt, out))
          (omega (arith, out)) (omega (arith, le, to)) in
          let fails : p (low - 1) ≡ false = m.below (omega (arith, out)) in cc (passes, fails)))
          (λ ok. omega (arith, ok)) (cases_lt (first_line bytes span c) low);
      order = line_of_mono bytes span.offset (last_byte bytes span) (omega arith);
      ends = ⊎_elim {C = line_of bytes (last_byte bytes span) ≤ low + many}
          (λ out. ⊎_elim {C = line_of bytes (last_byte bytes span) ≤ low + many}
          (λ there. absurd (let passes : p (low + many) ≡ true =
          covers (low + many) there (omega (arith, from, lt)) (omega (arith, out, reads)) in
          let fails : p (low + many) ≡ false = m.above there in cc (passes, fails)))
          (λ past. omega (arith, past, few_lines bytes (last_byte bytes span)))
          (cases_lt (low + many) (length (lines_of bytes))))
          (λ ok. ok) (cases_lt (low + many) (line_of bytes (last_byte bytes span)));
    }

-- ---- what a label hides

hides_same : (limit c low many first last i k a b : ℕ) → AreIn low many first last → low ≤ k → a
    ≡ min many (first - low) → b ≡ min many (last - low) → i ≡ k - low →
    hides limit a b c i ≡ hides limit first last c k
hides_same limit c low many first last i k a b h le ea eb ei =
    let long : b - a ≡ last - first = omega (arith, h.begins, h.order, h.ends, ea, eb) in
    let above : i - a ≡ k - first = omega (arith, h.begins, h.order, h.ends, ea, ei, le) in
    let below : b - i ≡ last - k = omega (arith, h.begins, h.order, h.ends, eb, ei, le) in
    ap (λ x. leb limit x && (ltb c (i - a) && ltb c (b - i))) long
    ∙ ap₂ (λ x y. leb limit (last - first) && (ltb c x && ltb c y)) above below

near_by : (b x y : Bool) → (b ≡ true → x ≡ y) → (b && not x) ≡ (b && not y)
near_by true x y h = ap not (h refl)
near_by false x y h = refl

-- in a run of lines a label is near a line where the line lies in its context as it is folded
near_is : (limit context : ℕ) (source : Source) (all : List Label) (label : Label) (p : ℕ → Bool) (low many k : ℕ) → 1
    ≤ label_context context all label → 0 < length source.bytes →
    IsMaximal p (length (lines_of source.bytes)) low many → Covers p (length (lines_of source.bytes))
    (label_context context all label) source.bytes label.span → low ≤ k → k < low + many →
    is_in_fold limit (frame source.bytes low many) (k + 1 - (low + 1)) (line_at (lines_of source.bytes) k)
    (label_extent context source all label)
    ≡ N.is_in_folded_context limit (label_context context all label) source.bytes k label.span
near_is limit context source all label p low many k one some m covers le lt =
    let c : ℕ = label_context context all label in
    let bytes : List ℕ = source.bytes in
    let x : LabelExtent = label_extent context source all label in
    let i : ℕ = k + 1 - (low + 1) in
    let here : List Line = frame bytes low many in
    ap (λ b. b && not (hides limit (line_index_of here x.first) (line_index_of here x.last) c i))
    (around_is context source all label k one some (omega (arith, m.inside, lt)))
    ∙ near_by (N.is_in_context c bytes k label.span) (hides limit (line_index_of here x.first)
    (line_index_of here x.last) c
    i)
    (hides limit (line_of bytes label.span.offset) (line_of bytes (last_byte bytes label.span)) c k)
    (λ passes.
    let both = and_parts (leb (first_line bytes label.span c) k) (leb k (last_line bytes label.span c))
    passes in
    let inside : AreIn low many (line_of bytes label.span.offset)
    (line_of bytes (last_byte bytes label.span)) =
    lies_in p c bytes label.span low many k m covers le lt (leb-true (first_line bytes label.span c) k both.0)
    (leb-true k (last_line bytes label.span c) both.1) in
    hides_same limit c low many (line_of bytes label.span.offset)
    (line_of bytes (last_byte bytes label.span)) i k (line_index_of here x.first) (line_index_of here x.last)
    inside le
    (place_is bytes low many x.first m.inside) (place_is bytes low many x.last m.inside) (omega arith))

pub any_around : (context : ℕ) (source : Source) (all labels : List Label) (k : ℕ) → Around context all labels → 0
    < length source.bytes → k < length (lines_of source.bytes) →
    list_any (is_around (line_at (lines_of source.bytes) k)) (map (label_extent context source all) labels)
    ≡ list_any (λ label. N.is_in_context (label_context context all label) source.bytes k label.span) labels
any_around context source all [] k h some there = refl
any_around context source all (label ∷ labels) k h some there =
    ap₂ (λ x y. x || y) (around_is context source all label k h.0 some there)
    (any_around context source all labels k h.1 some there)

-- the lines of each label's context pass
abbrev pub AllCovered : (ℕ → Bool) → ℕ → List ℕ → List Label → List Label → Type 0
AllCovered p context bytes all labels = AllByRecursion
    (λ label. Covers p (length (lines_of bytes)) (label_context context all label) bytes label.span) labels

pub any_near : (limit context : ℕ) (source : Source) (all labels : List Label) (p : ℕ → Bool) (low many k : ℕ)
    → Around context all labels → 0 < length source.bytes →
    IsMaximal p (length (lines_of source.bytes)) low many → AllCovered p context source.bytes all labels → low ≤ k → k
    < low + many →
    list_any (is_in_fold limit (frame source.bytes low many) (k + 1 - (low + 1)) (line_at (lines_of source.bytes) k))
    (map (label_extent context source all) labels)
    ≡ list_any (λ label. N.is_in_folded_context limit (label_context context all label) source.bytes k label.span)
    labels
any_near limit context source all [] p low many k h some m covers le lt = refl
any_near limit context source all (label ∷ labels) p low many k h some m covers le lt =
    ap₂ (λ x y. x || y) (near_is limit context source all label p low many k h.0 some m covers.0 le lt)
    (any_near limit context source all labels p low many k h.1 some m covers.1 le lt)

-- a label's context is shown
covered : (P' : Label → ℕ → Bool) (q : ℕ → Bool) (to : ℕ) (labels : List Label)
    → ((k : ℕ) → list_any (λ label. P' label k) labels ≡ true → q k ≡ true) →
    AllByRecursion (λ label. (k : ℕ) → P' label k ≡ true → q k ≡ true) labels
covered P' q to [] h = tt
covered P' q to (label ∷ labels) h = (
  (λ k t. h k (or_left (P' label k) (list_any (λ l. P' l k) labels) t)),
  covered P' q to labels (λ k t. h k (or_right (P' label k) (list_any (λ l. P' l k) labels) t)),
)

each_label : (A B : Label → Type 0) (labels : List Label) → ((label : Label) → A label → B label)
    → AllByRecursion A labels → AllByRecursion B labels
each_label A B [] f h = tt
each_label A B (label ∷ labels) f h = (f label h.0, each_label A B labels f h.1)

pub all_covered : (context : ℕ) (bytes : List ℕ) (labels : List Label)
    → AllCovered (N.is_context_line context bytes labels) context bytes labels labels
all_covered context bytes labels =
    each_label (λ label. (k : ℕ) → N.is_in_context (label_context context labels label) bytes k label.span ≡ true
    → N.is_context_line context bytes labels k ≡ true)
    (λ label. Covers (N.is_context_line context bytes labels) (length (lines_of bytes))
    (label_context context labels label)
    bytes
    label.span) labels
    (λ label h. λ k lt from to. h k (and_from (leb (first_line bytes label.span (label_context context labels label)) k)
    (leb k (last_line bytes label.span (label_context context labels label)))
    (le-leb (first_line bytes label.span (label_context context labels label)) k from)
    (le-leb k (last_line bytes label.span (label_context context labels label)) to)))
    (covered (λ label k. N.is_in_context (label_context context labels label) bytes k label.span)
    (N.is_context_line context bytes labels) (length (lines_of bytes)) labels (λ k t. t))

-- ---- the first line of a run, and its last one, are kept

any_to : (A : Label → Type 0) (q r : Label → Bool) (labels : List Label) → AllByRecursion A labels
    → ((label : Label) → A label → q label ≡ true → r label ≡ true) → list_any q labels ≡ true → list_any r labels
    ≡ true
any_to A q r [] h f e = e
any_to A q r (label ∷ labels) h f e =
    by_cases {C = list_any r (label ∷ labels) ≡ true} (q label)
    (λ t. or_left (r label) (list_any r labels) (f label h.0 t))
    (λ g. or_right (r label) (list_any r labels) (any_to A q r labels h.1 f (rw g at e)))

-- a label with a line of context or more, whose context passes a test
record IsCovered (p : ℕ → Bool) (context : ℕ) (bytes : List ℕ) (all : List Label) (label : Label) : Type 0 where
  pub one : 1 ≤ label_context context all label
  pub covers : Covers p (length (lines_of bytes)) (label_context context all label) bytes label.span

both_covered : (p : ℕ → Bool) (context : ℕ) (bytes : List ℕ) (all labels : List Label) → Around context all labels
    → AllCovered p context bytes all labels → AllByRecursion (IsCovered p context bytes all) labels
both_covered p context bytes all [] h k = tt
both_covered p context bytes all (label ∷ labels) h k =
    (record { one = h.0; covers = k.0 }, both_covered p context bytes all labels h.1 k.1)

pub none_first : (limit first last c k : ℕ) → k ≤ first → not (hides limit first last c k) ≡ true
none_first limit first last c k le =
    let none : k - first ≡ 0 = omega (arith, le) in
    let no_more : ltb c (k - first) ≡ false = ap (ltb c) none ∙ le-ltb c 0 (omega arith) in
    rw no_more (not_right (leb limit (last - first)))
  where
    not_right : (b : Bool) → not (b && false) ≡ true
    not_right true = refl
    not_right false = refl

not_all : (b d : Bool) → not (b && (d && false)) ≡ true
not_all true true = refl
not_all true false = refl
not_all false d = refl

pub none_past : (limit first last c k : ℕ) → last ≤ k → not (hides limit first last c k) ≡ true
none_past limit first last c k le =
    let none : last - k ≡ 0 = omega (arith, le) in
    let no_more : ltb c (last - k) ≡ false = ap (ltb c) none ∙ le-ltb c 0 (omega arith) in
    rw no_more (not_all (leb limit (last - first)) (ltb c (k - first)))

pub none_last : (limit first last c k : ℕ) → last ≤ k + 1 → 1 ≤ c → not (hides limit first last c k) ≡ true
none_last limit first last c k le one =
    let no_more : ltb c (last - k) ≡ false = le-ltb c (last - k) (omega (arith, le, one)) in
    rw no_more (not_all (leb limit (last - first)) (ltb c (k - first)))

-- a label keeps the first line of a run that its context meets there, and the last one
keeps_end : (limit context : ℕ) (bytes : List ℕ) (all : List Label) (label : Label) (p : ℕ → Bool) (low many k : ℕ)
    → IsMaximal p (length (lines_of bytes)) low many → (k ≡ low) ⊎ (k + 1 ≡ low + many) → low ≤ k → k < low + many →
    IsCovered p context bytes all label → N.is_in_context (label_context context all label) bytes k label.span ≡ true
    → N.is_in_folded_context limit (label_context context all label) bytes k label.span ≡ true
keeps_end limit context bytes all label p low many k m at le lt h t =
    let c : ℕ = label_context context all label in
    let first : ℕ = line_of bytes label.span.offset in
    let last : ℕ = line_of bytes (last_byte bytes label.span) in
    let both = and_parts (leb (first_line bytes label.span c) k) (leb k (last_line bytes label.span c))
    t in
    let inside : AreIn low many (line_of bytes label.span.offset)
    (line_of bytes (last_byte bytes label.span)) =
    lies_in p c bytes label.span low many k m h.covers le lt (leb-true (first_line bytes label.span c) k both.0)
    (leb-true k (last_line bytes label.span c) both.1) in
    let begins : low ≤ first = inside.begins in
    let ends : last ≤ low + many = inside.ends in
    let shows : not (hides limit first last c k) ≡ true =
    ⊎_elim {C = not (hides limit first last c k) ≡ true} (λ e. none_first limit first last c k
    (omega (arith, e, begins))) (λ e. none_last limit first last c k (omega (arith, e, ends)) h.one) at in
    and_from (N.is_in_context c bytes k label.span) (not (hides limit first last c k)) t shows

end_kept : (limit : Option ℕ) (context : ℕ) (bytes : List ℕ) (labels : List Label) (low many k : ℕ)
    → Around context labels labels → IsMaximal (N.is_context_line context bytes labels) (length (lines_of bytes)) low
    many →
    (k ≡ low) ⊎ (k + 1 ≡ low + many) → low ≤ k → k < low + many → N.is_kept limit context bytes labels k ≡ true
end_kept None context bytes labels low many k h m at le lt = m.all k le lt
end_kept (Some limit) context bytes labels low many k h m at le lt =
    or_left (N.is_in_some_fold limit context bytes labels k) (N.is_alone limit context bytes labels k)
    (any_to (IsCovered (N.is_context_line context bytes labels) context bytes labels)
    (λ label. N.is_in_context (label_context context labels label) bytes k label.span)
    (λ label. N.is_in_folded_context limit (label_context context labels label) bytes k label.span) labels
    (both_covered (N.is_context_line context bytes labels) context bytes labels labels h
    (all_covered context bytes labels))
    (λ label own t. keeps_end limit context bytes labels label (N.is_context_line context bytes labels) low many k m at
    le lt
    own t) (m.all k le lt))

-- of each maximal run of the lines that are shown
ends_of : (limit : Option ℕ) (context : ℕ) (bytes : List ℕ) (labels : List Label) (low many : ℕ)
    → Around context labels labels → IsMaximal (N.is_context_line context bytes labels) (length (lines_of bytes)) low
    many →
    EndsPass (N.is_kept limit context bytes labels) (range_with_len low many)
ends_of limit context bytes labels low zero h m = absurd (omega (arith, m.some))
ends_of limit context bytes labels low (suc many) h m = (
  end_kept limit context bytes labels low (suc many) low h m (inl refl) (omega arith) (omega arith),
  ap (N.is_kept limit context bytes labels) (last_of-range low many)
      ∙ end_kept limit context bytes labels low (suc many) (low + many) h m (inr (omega arith)) (omega arith)
      (omega arith),
)

pub ranges_end_kept : (limit : Option ℕ) (context : ℕ) (bytes : List ℕ) (labels : List Label)
    → Around context labels labels → AllByRecursion (EndsPass (N.is_kept limit context bytes labels))
    (ranges (N.shown_numbers context bytes labels))
ranges_end_kept limit context bytes labels h =
    each_numbers (EndsPass (N.is_kept limit context bytes labels)) (N.is_context_line context bytes labels)
    (length (lines_of bytes)) (λ low many m. ends_of limit context bytes labels low many h m)

-- ---- where no label has more lines than it is folded to

none_hidden : (limit first last c k : ℕ) → last - first + 1 ≤ limit → not (hides limit first last c k) ≡ true
none_hidden limit first last c k le =
    let no_more : leb limit (last - first) ≡ false = lt-leb limit (last - first) (omega (arith, le)) in
    rw no_more refl

pub and_true : (b x : Bool) → x ≡ true → (b && x) ≡ b
and_true true x h = h
and_true false x h = refl

any_unfolded : (limit context : ℕ) (bytes : List ℕ) (all labels : List Label) (k : ℕ)
    → AllByRecursion (FitsIn limit bytes) labels →
    list_any (λ label. N.is_in_folded_context limit (label_context context all label) bytes k label.span) labels
    ≡ list_any (λ label. N.is_in_context (label_context context all label) bytes k label.span) labels
any_unfolded limit context bytes all [] k h = refl
any_unfolded limit context bytes all (label ∷ labels) k h =
    let c : ℕ = label_context context all label in
    ap₂ (λ x y. x || y)
    (and_true (N.is_in_context c bytes k label.span) (not
    (hides limit (line_of bytes label.span.offset) (line_of bytes (last_byte bytes label.span)) c k))
    (none_hidden limit (line_of bytes label.span.offset) (line_of bytes (last_byte bytes label.span)) c k h.0))
    (any_unfolded limit context bytes all labels k h.1)

kept_shown : (shown beside : Bool) → (shown || ((shown && not shown) && beside)) ≡ shown
kept_shown true beside = refl
kept_shown false beside = refl

-- all shown lines are kept
pub all_kept : (limit context : ℕ) (bytes : List ℕ) (labels : List Label) (k : ℕ)
    → AllByRecursion (FitsIn limit bytes) labels → N.is_kept (Some limit) context bytes labels k
    ≡ N.is_kept None context bytes labels k
all_kept limit context bytes labels k h =
    let shown : Bool = N.is_context_line context bytes labels k in
    let beside : Bool = not (N.is_hidden limit context bytes labels (k - 1))
    && not (N.is_hidden limit context bytes labels (k + 1)) in
    ap (λ fold. fold || ((shown && not fold) && beside)) (any_unfolded limit context bytes labels labels k h)
    ∙ kept_shown shown beside
