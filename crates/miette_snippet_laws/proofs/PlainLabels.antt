-- Labels in plain: which lie on a line, where their marks are, and how wide a gutter is, doesn't change.
use Rattle.std.proofs.Common.{◌≡◌, ℕ, suc, ◌+◌, Bool, true, false, if◌then◌else◌, ◌==◌, List, [], ◌∷◌, map, length, max}
use Rattle.std.proofs.Common.{refl, ap, ap₂, ◌∙◌, chars, Option, Some, None, IfSome}
use Rattle.std.specs.List.{AllByRecursion, filter}
use Rattle.miette_lines.specs.rules.Lines.{Line}
use Rattle.miette_protocol.specs.views.Meaning.{Label}
use Rattle.miette_style.specs.declared.style.Style.{Style}
use Rattle.std.specs.Prelude.{nat_le}
use Rattle.miette_snippet_laws.specs.laws.Clean.{IsClean, IsCleanText, IsCleanLabel}
use Rattle.miette_snippet_laws.specs.laws.PlainStyles.{AreAllPlain}
use Rattle.miette_snippet_rules.specs.rules.Gutters.{most_labels, gutter_columns}
use Rattle.miette_labels.specs.rules.Labels.{DrawnLabel, parts_of, drawn_label, drawn_from, multi_line}
use Rattle.miette_labels.specs.rules.Labels.{is_multi_line}
use Rattle.miette_snippet_rules.specs.rules.Underlines.{MeasuredText, Underline, underlines_from, marks, underline_from}
use Rattle.miette_snippet_rules.specs.rules.Underlines.{underline_until, underline_pointer}
use Rattle.miette_labels.specs.rules.Groups.{put_label, in_order}
use Rattle.miette_snippet_laws.proofs.CleanTexts.{clean_parts}
use Rattle.miette_lines.proofs.Cases.{by_cases}
use Rattle.miette_snippet_laws.proofs.PlainStyles.{plain_at}
use Rattle.miette_snippet_laws.proofs.PlainRows.{plain_label, plain_mark, HasCleanParts, IsCleanMark}

-- a filter that styles don't matter to
pub filter_plain : (p : DrawnLabel → Bool) → ((label : DrawnLabel) → p (plain_label label) ≡ p label)
    → (labels : List DrawnLabel) → filter p (map plain_label labels) ≡ map plain_label (filter p labels)
filter_plain p same [] = refl
filter_plain p same (label ∷ labels) =
    by_cases {C = filter p (map plain_label (label ∷ labels)) ≡ map plain_label (filter p (label ∷ labels))} (p label)
    (λ t. let u : p (plain_label label) ≡ true = same label ∙ t in
    rw (u, t) (ap (λ r. plain_label label ∷ r) (filter_plain p same labels)))
    (λ g. let u : p (plain_label label) ≡ false = same label ∙ g in rw (u, g) (filter_plain p same labels))

all_if : {A : Type 0} (Q : A → Type 0) (b : Bool) (xs ys : List A) → AllByRecursion Q xs → AllByRecursion Q ys
    → AllByRecursion Q (if b then xs else ys)
all_if Q true xs ys h k = h
all_if Q false xs ys h k = k

pub all_filter : {A : Type 0} (Q : A → Type 0) (p : A → Bool) (xs : List A) → AllByRecursion Q xs
    → AllByRecursion Q (filter p xs)
all_filter Q p [] h = tt
all_filter Q p (x ∷ xs) h = all_if Q (p x) (x ∷ filter p xs) (filter p xs) (h.0, all_filter Q p xs h.1)
    (all_filter Q p xs h.1)

-- ---- marks

underlines_from-plain : (text : MeasuredText) (reached : ℕ) (labels : List DrawnLabel)
    → underlines_from text reached (map plain_label labels) ≡ map plain_mark (underlines_from text reached labels)
underlines_from-plain text reached [] = refl
underlines_from-plain text reached (label ∷ labels) =
    let mark : Underline = record {
      from = underline_from text reached label;
      until = underline_until text reached label;
      pointer =
          underline_pointer text reached label;
      label = label;
    } in
    ap (λ r. plain_mark mark ∷ r) (underlines_from-plain text (underline_until text reached label) labels)

pub marks_plain : (text : MeasuredText) (labels : List DrawnLabel) → marks text (map plain_label labels)
    ≡ map plain_mark (marks text labels)
marks_plain text labels = underlines_from-plain text 0 labels

underlines_from-clean : (text : MeasuredText) (reached : ℕ) (labels : List DrawnLabel)
    → AllByRecursion HasCleanParts labels
    → AllByRecursion IsCleanMark (underlines_from text reached labels)
underlines_from-clean text reached [] h = tt
underlines_from-clean text reached (label ∷ labels) h = (
  h.0,
  underlines_from-clean text (underline_until text reached label) labels h.1,
)

pub marks_clean : (text : MeasuredText) (labels : List DrawnLabel) → AllByRecursion HasCleanParts labels
    → AllByRecursion IsCleanMark (marks text labels)
marks_clean text labels h = underlines_from-clean text 0 labels h

-- ---- gutters

length_plain : (labels : List DrawnLabel) → length (map plain_label labels) ≡ length labels
length_plain [] = refl
length_plain (label ∷ labels) = ap suc (length_plain labels)

most_plain : (labels : List DrawnLabel) (lines : List Line) → most_labels (map plain_label labels) lines
    ≡ most_labels labels lines
most_plain labels [] = refl
most_plain labels (line ∷ lines) =
    ap₂ max (ap length (filter_plain (is_multi_line line) (λ label. refl) labels)
    ∙ length_plain (multi_line line labels)) (most_plain labels lines)

pub gutter_plain : (labels : List DrawnLabel) (lines : List Line) → gutter_columns (map plain_label labels) lines
    ≡ gutter_columns labels lines
gutter_plain labels lines = ap (λ most. if most == 0 then 0 else most + 3) (most_plain labels lines)

-- ---- labels as they are drawn

pub drawn_plain : (hs : List Style) → AreAllPlain hs → (ends : Bool) (styles : List Style) (n i : ℕ)
    (labels : List Label) → drawn_from ends hs n i labels ≡ map plain_label (drawn_from ends styles n i labels)
drawn_plain hs are_plain ends styles n i [] = refl
drawn_plain hs are_plain ends styles n i (label ∷ labels) =
    ap₂ (λ (style : Style) r. record (drawn_label ends styles n i label) { style = style } ∷ r)
    (plain_at hs i are_plain)
    (drawn_plain hs are_plain ends styles n (i + 1) labels)

text_clean : (text : Option (List ℕ)) → IfSome text IsCleanText → AllByRecursion IsClean (parts_of text)
text_clean None h = tt
text_clean (Some text) h = clean_parts (chars text) h

pub drawn_clean : (ends : Bool) (styles : List Style) (n i : ℕ) (labels : List Label)
    → AllByRecursion IsCleanLabel labels → AllByRecursion HasCleanParts (drawn_from ends styles n i labels)
drawn_clean ends styles n i [] h = tt
drawn_clean ends styles n i (label ∷ labels) h = (
  text_clean label.text h.0,
  drawn_clean ends styles n (i + 1) labels h.1,
)

-- ---- labels in order

put_clean : (label : Label) (labels : List Label) → IsCleanLabel label → AllByRecursion IsCleanLabel labels
    → AllByRecursion IsCleanLabel (put_label label labels)
put_clean label [] h k = (h, tt)
put_clean label (next ∷ labels) h k =
    all_if IsCleanLabel (nat_le label.span.offset next.span.offset) (label ∷ next ∷ labels)
    (next ∷ put_label label labels) (h, k) (k.0, put_clean label labels h k.1)

pub ordered_clean : (labels : List Label) → AllByRecursion IsCleanLabel labels
    → AllByRecursion IsCleanLabel (in_order labels)
ordered_clean [] h = tt
ordered_clean (label ∷ labels) h = put_clean label (in_order labels) h.0 (ordered_clean labels h.1)
