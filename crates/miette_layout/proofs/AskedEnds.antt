-- Whether labels at a source's end ask for its last line, as a read at their greatest offset tells; and what is printed
-- with the lines of context that they ask for.
use Rattle.std.proofs.Common.{ℕ, ◌+◌, ◌-◌, ◌<◌, ◌≤◌, ◌≡◌, inl, inr, max, Bool, true, false, cond, eqb, ltb, not, ◌&&◌}
use Rattle.std.proofs.Common.{◌||◌, Option, Some, None, List, [], ◌∷◌, length, get_or, drop, refl, sym, ap, ap₂, ◌∙◌}
use Rattle.std.proofs.Common.{subst, arith}
use Rattle.std.specs.Prelude.{unwrap_or}
use Rattle.std.specs.List.{list_any}
use Rattle.std.specs.Option.{option_map}
use Rattle.std.proofs.lemmas.Bool.{eqb-true, eqb-false, eq-eqb, ne_eqb, lt-ltb, le-ltb, cases_lt}
use Rattle.std.proofs.lemmas.Bool.{and_left, and_right, or_from, or_left}
use Rattle.std.proofs.lemmas.List.{at_drop_more}
use Rattle.miette_lines.proofs.Cases.{by_cases}
use Rattle.miette_protocol.specs.views.Meaning.{Label}
use Rattle.miette_protocol.specs.rules.Outcome.{IsReadError}
use Rattle.miette_protocol.specs.rules.Reading.{Contents, IsInBounds, Source, Span}
use Rattle.miette_protocol.specs.declared.error.MietteError.{MietteError}
use Rattle.miette_protocol.specs.declared.error.MietteError.TheVariants as errors
use Rattle.miette_labels.specs.rules.Answers.{Answers}
use Rattle.miette_labels.specs.rules.Around.{has_own_context, label_context}
use Rattle.miette_labels.specs.rules.Contexts.{contents}
use Rattle.miette_labels.specs.rules.Groups.{in_order, first_refusal}
use Rattle.miette_labels.specs.rules.Labels.{is_at_end, shows_end, some_shows_end}
use Rattle.miette_style.specs.rules.Rows.{Row}
use Rattle.miette_style.specs.views.Printouts.{Printout, ◌⊕◌}
use Rattle.miette_style.specs.views.Tokens.{rows_tokens}
use Rattle.miette_snippet_rules.specs.declared.options.LayoutOptions.{LayoutOptions}
use Rattle.miette_snippet_rules.specs.rules.Frames.{refused_row}
use Rattle.miette_snippet_rules.specs.rules.SnippetSettings.{SnippetSettings}
use Rattle.miette_snippet_rules.specs.rules.SnippetLayout.{asks_for_end, end_lines, rows_unless}
use Rattle.miette_labels.proofs.SourceEnd.{any_same, tells}
use Rattle.miette_layout.specs.views.PrintedSnippets.{GivesAround, MayGive, SnippetPrinting}
use Rattle.miette_layout.specs.views.SourceEnds.{AreEndLines, AsksForEnd, TellsEnd, asks_at, last_offset}

-- ---- the greatest offset

pub last_more : (labels : List Label) (i last at : ℕ) (d : Label) → i < length labels → at
    ≡ (get_or labels i d).span.offset → max last (last_offset (drop i labels)) ≡ last_offset labels
    → max (max at last) (last_offset (drop (i + 1) labels)) ≡ last_offset labels
last_more labels i last at d lt is h =
    omega (arith, is, h, at_drop_more last_offset labels i d lt)

-- ---- a read at an offset

and_true : (b : Bool) → (b && true) ≡ b
and_true true = refl
and_true false = refl

same_end : (from len offset : ℕ) → (ltb 0 (offset - from) && eqb (offset - from) len)
    ≡ (ltb from offset && eqb (from + len) offset)
same_end from len offset = elim (cases_lt from offset) [
  | inl lt ↦ ap (λ b. b && eqb (offset - from) len) (lt-ltb 0 (offset - from) (omega (arith, lt)))
      ∙ by_cases {C = eqb (offset - from) len ≡ eqb (from + len) offset} (eqb (from + len) offset)
      (λ t. eq-eqb (offset - from) len (omega (arith, eqb-true (from + len) offset t)) ∙ sym t)
      (λ f. ne_eqb (offset - from) len (λ e. eqb-false (from + len) offset f (omega (arith, lt, e))) ∙ sym f)
      ∙ sym (ap (λ b. b && eqb (from + len) offset) (lt-ltb from offset lt))
  | inr le ↦ and_left _ _ (le-ltb 0 (offset - from) (omega (arith, le)))
      ∙ sym (and_left _ _ (le-ltb from offset le))
]

-- its contents tell whether the source ends there
told_there : (source : Source) (offset before len : ℕ) (held : Contents) → offset ≤ length source.bytes
    → held ≡ contents 1 source (record { offset = offset; len = 0 }) → before ≡ offset - held.span.offset
    → len ≡ held.span.len → TellsEnd source offset (ltb 0 before && eqb before len)
told_there source offset before len held le is from much = record {
  fails = false;
  always = λ a. refl;
  is = ap₂ (λ x y. ltb 0 x && eqb x y) from much ∙ same_end held.span.offset held.span.len offset
      ∙ ap (λ it. ltb it.span.offset offset && eqb (it.span.offset + it.span.len) offset) is
      ∙ tells 1 source (record { offset = offset; len = 0 }) le
      ∙ ap (λ b. ltb 0 (length source.bytes) && b) (and_true (eqb offset (length source.bytes)));
}

-- they have bytes before it
pub told_after : (source : Source) (offset before len : ℕ) (held : Contents) → offset ≤ length source.bytes
    → held ≡ contents 1 source (record { offset = offset; len = 0 }) → before ≡ offset - held.span.offset
    → len ≡ held.span.len → 0 < before → TellsEnd source offset (eqb before len)
told_after source offset before len held le is from much some =
    subst (λ (b : Bool). TellsEnd source offset b) (ap (λ b. b && eqb before len) (lt-ltb 0 before some))
    (told_there source offset before len held le is from much)

-- they have none before it
pub told_first : (source : Source) (offset before : ℕ) (held : Contents) → offset ≤ length source.bytes
    → held ≡ contents 1 source (record { offset = offset; len = 0 }) → before ≡ offset - held.span.offset
    → before ≤ 0 → TellsEnd source offset (ltb 0 before)
told_first source offset before held le is from none =
    let first : ltb 0 before ≡ false = le-ltb 0 before none in
    subst (λ (b : Bool). TellsEnd source offset b) (and_left _ (eqb before held.span.len) first ∙ sym first)
    (told_there source offset before held.span.len held le is from refl)

-- a read that fails tells of no end
pub told_nothing : (source : Source) (offset : ℕ) → source.always_reads ≡ false → TellsEnd source offset false
told_nothing source offset fails = record { fails = true; always = λ a. cc; is = refl }

-- one that isn't accepted is after the end
pub told_beyond : (source : Source) (offset : ℕ) → length source.bytes < offset → TellsEnd source offset false
told_beyond source offset lt = record {
  fails = false;
  always = λ a. refl;
  is = sym (and_right (ltb 0 (length source.bytes)) _ (ne_eqb offset (length source.bytes)
      (λ e. omega (arith, e, lt))));
}

-- a read there that is refused
pub refused_there : (source : Source) (offset : ℕ) (span : Span) (e : MietteError) → span
    ≡ record { offset = offset; len = 0 } → IsReadError source span e → TellsEnd source offset false
refused_there source offset span (errors.IoError x) is h = told_nothing source offset h
refused_there source offset span errors.OutOfBounds is h =
    elim (cases_lt (length source.bytes) offset) [
      | inl lt ↦ told_beyond source offset lt
      | inr le ↦ absurd (h (subst (λ (s : Span). IsInBounds source.bytes s) (sym is)
          (record { begins = le; ends = omega (arith, le) })))
    ]

-- ---- all labels

past_max : (n a m : ℕ) → a ≤ n → ltb n m ≡ ltb n (max a m)
past_max n a m le = elim (cases_lt n m) [
  | inl less ↦ lt-ltb n m less ∙ sym (lt-ltb n (max a m) (omega (arith, less)))
  | inr more ↦ le-ltb n m more ∙ sym (le-ltb n (max a m) (omega (arith, le, more)))
]

beyond_max : (n a m : ℕ) → (ltb n a || ltb n m) ≡ ltb n (max a m)
beyond_max n a m = elim (cases_lt n a) [
  | inl lt ↦ or_left _ _ (lt-ltb n a lt) ∙ sym (lt-ltb n (max a m) (omega (arith, lt)))
  | inr le ↦ ap (λ b. b || ltb n m) (le-ltb n a le) ∙ past_max n a m le
]

any_beyond : (n : ℕ) (labels : List Label) → list_any (λ l. ltb n l.span.offset) labels ≡ ltb n (last_offset labels)
any_beyond n [] = sym (le-ltb n 0 (omega arith))
any_beyond n (l ∷ ls) = ap (λ b. ltb n l.span.offset || b) (any_beyond n ls)
    ∙ beyond_max n l.span.offset (last_offset ls)

none_at : (n : ℕ) (more : Label → Bool) (labels : List Label) → last_offset labels < n
    → list_any (λ l. ltb 0 n && (is_at_end n l && more l)) labels ≡ false
none_at n more [] lt = refl
none_at n more (l ∷ ls) lt = or_from _ _
    (and_right (ltb 0 n) _ (and_left _ (more l) (ne_eqb l.span.offset n (λ e. omega (arith, e, lt)))))
    (none_at n more ls (omega (arith, lt)))

any_and : (b : Bool) (p : Label → Bool) (labels : List Label) → list_any (λ l. b && p l) labels
    ≡ (b && list_any p labels)
any_and true p labels = refl
any_and false p [] = refl
any_and false p (l ∷ ls) = any_and false p ls

around_one : (own : Bool) (number : Option ℕ) → ltb 0 (unwrap_or number (cond own (max 1 1) 1))
    ≡ ltb 0 (unwrap_or number 1)
around_one true number = refl
around_one false number = refl

some_at : (n : ℕ) (labels : List Label) → some_shows_end 1 n labels ≡ (ltb 0 n && list_any (asks_at n) labels)
some_at n labels =
    any_same (λ l. shows_end n (label_context 1 labels l) l) (λ l. ltb 0 n && asks_at n l)
    (λ l. ap (λ b. ltb 0 n && (is_at_end n l && b)) (around_one (has_own_context labels) l.context)) labels
    ∙ any_and (ltb 0 n) (asks_at n) labels

asked_here : (n last : ℕ) (labels : List Label) → last ≡ n
    → ((ltb 0 n && eqb last n) && list_any (asks_at last) labels) ≡ some_shows_end 1 n labels
asked_here n last labels is =
    ap₂ (λ b k. (ltb 0 n && b) && list_any (asks_at k) labels) (eq-eqb last n is) is
    ∙ ap (λ b. b && list_any (asks_at n) labels) (and_true (ltb 0 n)) ∙ sym (some_at n labels)

asked : (n : ℕ) (labels : List Label) → ((ltb 0 n && eqb (last_offset labels) n)
    && list_any (asks_at (last_offset labels)) labels) ≡ asks_for_end n labels
asked n labels =
    let last : ℕ = last_offset labels in
    elim (cases_lt n last) [
      | inl lt ↦ and_left _ _ (and_right (ltb 0 n) _ (ne_eqb last n (λ e. omega (arith, e, lt))))
          ∙ sym (and_right (some_shows_end 1 n labels) _ (ap not (any_beyond n labels ∙ lt-ltb n last lt)))
      | inr le ↦ elim (cases_lt last n) [
        | inl lt ↦ and_left _ _ (and_right (ltb 0 n) _ (ne_eqb last n (λ e. omega (arith, e, lt))))
            ∙ sym (and_left _ _ (none_at n (λ l. ltb 0 (label_context 1 labels l)) labels lt))
        | inr ge ↦ asked_here n last labels (omega (arith, le, ge))
            ∙ sym (ap (λ b. some_shows_end 1 n labels && not b) (any_beyond n labels ∙ le-ltb n last le)
            ∙ and_true (some_shows_end 1 n labels))
      ]
    ]

under : (fails x y z : Bool) → (x && y) ≡ z → ((not fails && x) && y) ≡ (not fails && z)
under true x y z e = refl
under false x y z e = e

both_told : (source : Source) (labels : List Label) (last : ℕ) (ends : Bool) → last ≡ last_offset labels
    → TellsEnd source last ends → AsksForEnd source labels (ends && list_any (asks_at last) labels)
both_told source labels last ends at h =
    let n : ℕ = length source.bytes in record {
      fails = h.fails;
      always = h.always;
      is = ap (λ b. b && list_any (asks_at last) labels) h.is
          ∙ under h.fails (ltb 0 n && eqb last n) (list_any (asks_at last) labels) (asks_for_end n labels)
          (ap (λ k. (ltb 0 n && eqb k n) && list_any (asks_at k) labels) at ∙ asked n labels);
    }

-- the source isn't known to end at the greatest offset
pub none_told : (source : Source) (labels : List Label) (last : ℕ) (ends : Bool) → last ≡ last_offset labels
    → TellsEnd source last ends → ends ≡ false → AsksForEnd source labels false
none_told source labels last ends at h isnt =
    subst (λ (b : Bool). AsksForEnd source labels b) (and_left ends (list_any (asks_at last) labels) isnt)
    (both_told source labels last ends at h)

-- it ends there
pub asks_told : (source : Source) (labels : List Label) (last : ℕ) (ends asks : Bool) → last ≡ last_offset labels
    → TellsEnd source last ends → ends ≡ true → asks ≡ list_any (asks_at last) labels → AsksForEnd source labels asks
asks_told source labels last ends asks at h does is =
    subst (λ (b : Bool). AsksForEnd source labels b)
    (ap (λ b. b && list_any (asks_at last) labels) does ∙ sym is) (both_told source labels last ends at h)

-- ---- the lines of context

pub lines_unwanted : (layout : LayoutOptions) (source : Source) (labels : List Label) → layout.end_labels ≡ false
    → AreEndLines layout source labels layout.context_lines
lines_unwanted layout source labels unset = record {
  fails = false;
  always = λ a. refl;
  is = sym (ap (λ b. cond b (max 1 layout.context_lines) layout.context_lines) (and_left layout.end_labels
      (not false && asks_for_end (length source.bytes) labels) unset));
}

same_lines : (asks : Bool) (context : ℕ) → 0 < context → context ≡ cond asks (max 1 context) context
same_lines true context some = omega (arith, some)
same_lines false context some = refl

pub lines_there : (layout : LayoutOptions) (source : Source) (labels : List Label) → 0 < layout.context_lines
    → AreEndLines layout source labels layout.context_lines
lines_there layout source labels some = record {
  fails = false;
  always = λ a. refl;
  is = same_lines (layout.end_labels && (not false && asks_for_end (length source.bytes) labels)) layout.context_lines
      some;
}

pub lines_asked : (layout : LayoutOptions) (source : Source) (labels : List Label) (asks : Bool)
    → layout.end_labels ≡ true → layout.context_lines ≤ 0 → AsksForEnd source labels asks
    → AreEndLines layout source labels (cond asks 1 0)
lines_asked layout source labels asks wanted none told =
    let found : Bool = not told.fails && asks_for_end (length source.bytes) labels in
    let zero : 0 ≡ layout.context_lines = omega (arith, none) in record {
      fails = told.fails;
      always = told.always;
      is = ap (λ b. cond b 1 0) told.is ∙ ap (λ k. cond found (max 1 k) k) zero
          ∙ ap (λ b. cond (b && found) (max 1 layout.context_lines) layout.context_lines) (sym wanted);
    }

-- ---- what is printed

-- the rows with given lines of context don't depend on the answer for the source's end
ends_aside : (s : SnippetSettings) (source : Source) (labels : List Label) (a : Answers) (fails : Bool)
    (refused : Option Row) → rows_unless s source labels (record a { end_fails = fails }) refused
    ≡ rows_unless s source labels a refused
ends_aside s source labels a fails (Some row) = refl
ends_aside s source labels a fails None = refl

-- the settings with `lines` lines of context
abbrev pub with_lines : ℕ → SnippetSettings → SnippetSettings
with_lines lines s = record s { layout = record s.layout { context_lines = lines } }

given_around : (by : SnippetPrinting) (source : Source) (labels : List Label) (fails : Bool) (before : Printout)
    (page : Option Printout) → (source.always_reads ≡ true → fails ≡ false)
    → GivesAround (record by { settings = with_lines (end_lines by.settings.layout fails source labels) by.settings })
    source labels before page → MayGive by source labels before page
given_around by source labels fails before page always g =
    let s : SnippetSettings = with_lines (end_lines by.settings.layout fails source labels) by.settings in
    record {
      answers = record g.answers { end_fails = fails };
      always = λ a. record {
        end = always a;
        labels = (g.always a).labels;
        joins = (g.always a).joins;
        places = (g.always a).places;
      };
      pieces = g.pieces;
      plain = g.plain;
      calls = g.calls;
      is = g.is ∙ ap (option_map (λ rows. before ⊕ rows_tokens rows)) (sym (ends_aside s source (in_order labels)
          g.answers fails (option_map (refused_row s) (first_refusal source.bytes g.answers.label_fails
          (in_order labels)))));
    }

pub given_asked : (by : SnippetPrinting) (source : Source) (labels : List Label) (lines : ℕ) (before : Printout)
    (page : Option Printout) → AreEndLines by.settings.layout source labels lines
    → GivesAround (record by { settings = with_lines lines by.settings }) source labels before page
    → MayGive by source labels before page
given_asked by source labels lines before page h g =
    given_around by source labels h.fails before page h.always
    (subst (λ k. GivesAround (record by { settings = with_lines k by.settings }) source labels before page) h.is g)
