-- Where labels at the end of a source are drawn and one of them is there, its last line is shown and they are drawn
-- after it, with whatever lines of context.
use Rattle.std.proofs.Common.{ℕ, ◌-◌, ◌<◌, ◌≤◌, ◌≡◌, inl, inr, max, Bool, true, false, cond, ltb, not, ◌&&◌}
use Rattle.std.proofs.Common.{Option, Some, None, List, [], ◌∷◌, length, refl, sym, ap, ◌∙◌, arith}
use Rattle.std.specs.Prelude.{unwrap_or}
use Rattle.std.specs.List.{list_any}
use Rattle.std.proofs.lemmas.Bool.{and_from, and_parts, eqb-true, le-leb, le-ltb, lt-ltb, ltb-true, or_cases, or_from}
use Rattle.std.proofs.lemmas.Bool.{or_left, or_right}
use Rattle.miette_lines.proofs.Cases.{by_cases}
use Rattle.miette_lines.specs.rules.Lines.{line_of, lines_of}
use Rattle.miette_lines.proofs.Cuts.{few_lines, lines_before, some_line}
use Rattle.miette_lines.proofs.Places.{line_of_mono}
use Rattle.miette_protocol.specs.views.Meaning.{Label}
use Rattle.miette_protocol.specs.rules.Context.{first_line, last_line}
use Rattle.miette_protocol.specs.rules.Reading.{Source, Span, reading_end}
use Rattle.miette_protocol.proofs.Wholes.{offset-le-reading}
use Rattle.miette_labels.specs.rules.Around.{has_own_context, label_context}
use Rattle.miette_labels.specs.rules.Groups.{AreInBounds, in_order}
use Rattle.miette_labels.specs.rules.Labels.{is_at_end, shows_end, some_shows_end}
use Rattle.miette_snippet_rules.specs.rules.SnippetLayout.{asks_for_end}
use Rattle.miette_snippet_rules.specs.rules.Snippets.{is_in_context, is_context_line}
use Rattle.miette_labels.proofs.SourceEnd.{shows_around}
use Rattle.miette_snippet_laws.specs.laws.Ends.{draws_ends}
use Rattle.miette_snippet_laws.proofs.EndLabels.{shows_ordered}
use Rattle.miette_graphical_rules.specs.rules.GraphicalSettings.{GraphicalSettings}
use Rattle.miette_graphical_rules.specs.laws.SnippetTheorems.{EndIsShown, EndsAfter, context_around, group_settings}

-- ---- one label, with more lines or fewer

around_some : (own : Bool) (context : ℕ) → 1 ≤ context → ltb 0 (cond own (max 1 context) context) ≡ true
around_some true context one = lt-ltb 0 (max 1 context) (omega (arith, one))
around_some false context one = lt-ltb 0 context (omega (arith, one))

around_more : (context : ℕ) (own : Bool) (number : Option ℕ) → 1 ≤ context →
    ltb 0 (unwrap_or number (cond own (max 1 1) 1)) ≡ true
    → ltb 0 (unwrap_or number (cond own (max 1 context) context)) ≡ true
around_more context own None one h = around_some own context one
around_more context own (Some k) one h = h

around_fewer : (context : ℕ) (own : Bool) (number : Option ℕ) →
    ltb 0 (unwrap_or number (cond own (max 1 context) context)) ≡ true
    → ltb 0 (unwrap_or number (cond own (max 1 1) 1)) ≡ true
around_fewer context own None h = around_some own 1 (omega arith)
around_fewer context own (Some k) h = h

-- what a label at the end has that shows the last line
pub record ShowsLast (n lines : ℕ) (label : Label) : Type 0 where
  pub some : 0 < n
  pub at : label.span.offset ≡ n
  pub around : ltb 0 lines ≡ true

shows_last : (n lines : ℕ) (label : Label) → shows_end n lines label ≡ true → ShowsLast n lines label
shows_last n lines label h =
    let p = and_parts (ltb 0 n) (is_at_end n label && ltb 0 lines) h in
    let q = and_parts (is_at_end n label) (ltb 0 lines) p.1 in
    record { some = ltb-true 0 n p.0; at = eqb-true label.span.offset n q.0; around = q.1 }

same_end : (n lines more : ℕ) (label : Label) → (ltb 0 lines ≡ true → ltb 0 more ≡ true)
    → shows_end n lines label ≡ true → shows_end n more label ≡ true
same_end n lines more label f h =
    let p = and_parts (ltb 0 n) (is_at_end n label && ltb 0 lines) h in
    let q = and_parts (is_at_end n label) (ltb 0 lines) p.1 in
    and_from _ _ p.0 (and_from _ _ q.0 (f q.1))

-- ---- one of some labels

any_more : (p q : Label → Bool) → ((l : Label) → p l ≡ true → q l ≡ true) → (labels : List Label)
    → list_any p labels ≡ true → list_any q labels ≡ true
any_more p q f [] h = h
any_more p q f (l ∷ ls) h = elim (or_cases (p l) (list_any p ls) h) [
  | inl here ↦ or_left _ _ (f l here)
  | inr later ↦ or_right _ _ (any_more p q f ls later)
]

some_more : (n context : ℕ) (labels : List Label) → 1 ≤ context → some_shows_end 1 n labels ≡ true
    → some_shows_end context n labels ≡ true
some_more n context labels one h =
    any_more (λ l. shows_end n (label_context 1 labels l) l) (λ l. shows_end n (label_context context labels l) l)
    (λ l. same_end n (label_context 1 labels l) (label_context context labels l) l
    (around_more context (has_own_context labels) l.context one)) labels h

pub none_fewer : (n context : ℕ) (labels : List Label) → some_shows_end 1 n labels ≡ false
    → some_shows_end context n labels ≡ false
none_fewer n context labels h =
    by_cases {C = some_shows_end context n labels ≡ false} (some_shows_end context n labels)
    (λ t. let one : some_shows_end 1 n labels ≡ true =
    any_more (λ l. shows_end n (label_context context labels l) l) (λ l. shows_end n (label_context 1 labels l) l)
    (λ l. same_end n (label_context context labels l) (label_context 1 labels l) l
    (around_fewer context (has_own_context labels) l.context)) labels t in
    let never : true ≡ false = sym one ∙ h in cc)
    (λ f. f)

-- ---- the last line is in the context of a label at the end

in_context : (bytes : List ℕ) (span : Span) (context : ℕ) → 1 ≤ context → span.offset ≡ length bytes
    → 0 < length bytes → is_in_context context bytes (length (lines_of bytes) - 1) span ≡ true
in_context bytes span context one at some =
    let last : ℕ = length (lines_of bytes) - 1 in
    let there : 0 < length (lines_of bytes) = some_line bytes some in
    let after : last ≤ line_of bytes (length bytes) = lines_before bytes last (omega (arith, there)) in
    let before : line_of bytes span.offset ≤ length (lines_of bytes) = few_lines bytes span.offset in
    let read : line_of bytes span.offset ≤ line_of bytes (reading_end bytes span) =
    line_of_mono bytes span.offset (reading_end bytes span) (offset-le-reading bytes span) in
    let here : line_of bytes span.offset ≡ line_of bytes (length bytes) = ap (line_of bytes) at in
    and_from _ _
    (le-leb (first_line bytes span context) last (omega (arith, one, before, there)))
    (le-leb last (last_line bytes span context) (omega (arith, after, read, here)))

last_shown : (bytes : List ℕ) (context : ℕ) (labels : List Label) → 1 ≤ context
    → some_shows_end 1 (length bytes) labels ≡ true
    → is_context_line context bytes labels (length (lines_of bytes) - 1) ≡ true
last_shown bytes context labels one h =
    let n : ℕ = length bytes in
    any_more (λ l. shows_end n (label_context 1 labels l) l)
    (λ l. is_in_context (label_context context labels l) bytes (length (lines_of bytes) - 1) l.span)
    (λ l shows. let own : ShowsLast n (label_context 1 labels l) l = shows_last n (label_context 1 labels l) l shows in
    let lines : 0 < label_context context labels l = ltb-true 0 (label_context context labels l)
    (around_more context (has_own_context labels) l.context one own.around) in
    in_context bytes l.span (label_context context labels l) (omega (arith, lines)) own.at own.some) labels h

-- ---- there is a line of context

none_beyond : (bytes : List ℕ) (labels : List Label) → AreInBounds bytes labels
    → list_any (λ l. ltb (length bytes) l.span.offset) labels ≡ false
none_beyond bytes [] h = refl
none_beyond bytes (l ∷ ls) h =
    or_from _ _ (le-ltb (length bytes) l.span.offset h.0.begins) (none_beyond bytes ls h.1)

context_some : (s : GraphicalSettings) (source : Source) (labels : List Label) → AreInBounds source.bytes labels
    → s.layout.end_labels ≡ true → some_shows_end 1 (length source.bytes) labels ≡ true
    → 1 ≤ context_around s source labels
context_some s source labels h wanted shows =
    let n : ℕ = length source.bytes in
    let asks : asks_for_end n labels ≡ true =
    and_from _ _ shows (ap not (none_beyond source.bytes labels h)) in
    let both : (s.layout.end_labels && (not false && asks_for_end n labels)) ≡ true = and_from _ _ wanted asks in
    let lines : context_around s source labels ≡ max 1 s.layout.context_lines =
    ap (λ b. cond b (max 1 s.layout.context_lines) s.layout.context_lines) both in
    omega (arith, lines)

pub end_shown : (s : GraphicalSettings) (source : Source) (labels : List Label)
    → (draws_ends (group_settings s source labels) (length source.bytes) (in_order labels) ≡ true
    → EndsAfter s source labels) → EndIsShown s source labels
end_shown s source labels after reads accepted asks =
    let n : ℕ = length source.bytes in
    let context : ℕ = context_around s source labels in
    let p = and_parts s.layout.end_labels (some_shows_end 1 n labels) asks in
    let one : 1 ≤ context = context_some s source labels accepted p.0 p.1 in (
      last_shown source.bytes context labels one p.1,
      after (and_from _ _ p.0 (shows_around context n (in_order labels) ∙ shows_ordered context n labels
          ∙ some_more n context labels one p.1)),
    )

-- ---- where none asks for it, the lines of context are those that are set

set_lines : (wanted asks more : Bool) (context : ℕ) → asks ≡ false
    → cond (wanted && (asks && more)) (max 1 context) context ≡ context
set_lines true asks more context none = ap (λ b. cond (b && more) (max 1 context) context) none
set_lines false asks more context none = refl

pub context_set : (s : GraphicalSettings) (source : Source) (labels : List Label)
    → some_shows_end 1 (length source.bytes) labels ≡ false → context_around s source labels ≡ s.layout.context_lines
context_set s source labels none =
    set_lines s.layout.end_labels (some_shows_end 1 (length source.bytes) labels)
    (not (list_any (λ l. ltb (length source.bytes) l.span.offset) labels)) s.layout.context_lines none
