-- Texts of whole rows, and parts of texts that begin at the beginning of a row.
use Rattle.std.proofs.Common.{◌≡◌, inl, inr, ℕ, Bool, List, [], ◌∷◌, ◌++◌, refl, sym, ap, ◌∙◌, subst, append_assoc}
use Rattle.std.proofs.Common.{append-nil, chars, Option, Some, None, encode_utf8_all, arith}
use Rattle.std.specs.List.{Contains}
use Rattle.std.proofs.lemmas.Str.{encode_ascii, encodes-append}
use Rattle.miette_runs.specs.rules.Runs.{Fragment, print}
use Rattle.miette_protocol.specs.declared.protocol.Severity.{Severity}
use Rattle.miette_tree.specs.rules.Diagnosis.{Diagnosis}
use Rattle.miette_graphical_rules.specs.rules.DiagnosticText.{ShownFix, fix_text, fixes_text, help_text, line_feed}
use Rattle.miette_graphical_rules.specs.rules.DiagnosticText.{message_text, rows_text, under_arrow}
use Rattle.miette_graphical_rules.specs.rules.Indents.{arrow_indent, bar_indent, fix_indent, further_fix_indent}
use Rattle.miette_graphical_rules.specs.rules.Indents.{further_help_indent, help_indent}
use Rattle.miette_graphical_rules.specs.rules.Indents.{icon_indent, stem_indent, wrapped_under}
use Rattle.miette_graphical_rules.specs.rules.GraphicalSettings.{GraphicalSettings}
use Rattle.miette_graphical_rules.specs.rules.Text.{body_over, cause_texts}
use Rattle.miette_lines.specs.rules.Lists.{is_nil}
use Rattle.miette_graphical_rules.specs.laws.HeldRows.{EndsRow, StartsRowIn}
use Rattle.miette_graphical_rules.proofs.Paths.{first_or_later, none}

-- ---- whole rows

-- what ends with a line feed
abbrev pub IsEnded : List ℕ → Type 0
IsEnded text = (before : List ℕ) × (text ≡ before ++ line_feed)

pub ended-after : (x y : List ℕ) → IsEnded y → IsEnded (x ++ y)
ended-after x y h = (x ++ h.0, ap (λ t. x ++ t) h.1 ∙ sym (append_assoc x h.0 line_feed))

pub ended-rows : (x y : List ℕ) → IsEnded x → EndsRow y → IsEnded (x ++ y)
ended-rows x y h k = elim k [
  | inl none ↦ (h.0, ap (λ t. x ++ t) none ∙ append-nil x ∙ h.1)
  | inr e ↦ ended-after x y e
]

pub rows-after : (x y : List ℕ) → EndsRow x → EndsRow y → EndsRow (x ++ y)
rows-after x y h k = elim h [
  | inl none ↦ subst EndsRow (sym (ap (λ t. t ++ y) none)) k
  | inr e ↦ inr (ended-rows x y e k)
]

-- ---- the parts of a report

pub arrow-ended : (s : GraphicalSettings) (outer : Option Severity) (is_last : Bool) (text : List ℕ)
    → IsEnded (under_arrow s outer is_last text)
arrow-ended s outer is_last text = (
  wrapped_under s (arrow_indent s outer is_last) (stem_indent s outer is_last) text,
  refl,
)

pub message-ended : (s : GraphicalSettings) (m : Diagnosis) → IsEnded (message_text s m)
message-ended s m = (wrapped_under s (icon_indent s m.severity) (bar_indent s m.severity) (chars m.message), refl)

pub help-rows : (s : GraphicalSettings) (help : Option (List ℕ)) → EndsRow (help_text s help)
help-rows s None = inl refl
help-rows s (Some help) = inr (wrapped_under s (help_indent s) further_help_indent (chars help), refl)

pub drawn-rows : (rows : List (List Fragment)) → EndsRow (rows_text rows)
drawn-rows [] = inl refl
drawn-rows (row ∷ rows) = inr (ended-rows (print row ++ line_feed) (rows_text rows) (print row, refl) (drawn-rows rows))

pub fixes-rows : (s : GraphicalSettings) (fixes : List ShownFix) → EndsRow (fixes_text s fixes)
fixes-rows s [] = inl refl
fixes-rows s (fix ∷ fixes) =
    let message = wrapped_under s (fix_indent s) further_fix_indent (chars fix.message) in
    inr (ended-rows (fix_text s fix) (fixes_text s fixes)
    (ended-rows (message ++ line_feed) (rows_text fix.rows) (message, refl) (drawn-rows fix.rows))
    (fixes-rows s fixes))

pub texts-rows : (s : GraphicalSettings) (outer : Option Severity) (xs : List (List ℕ))
    → EndsRow (cause_texts s outer xs)
texts-rows s outer [] = inl refl
texts-rows s outer (x ∷ xs) =
    inr (ended-rows (under_arrow s outer (is_nil xs) (chars x)) (cause_texts s outer xs)
    (arrow-ended s outer (is_nil xs) (chars x)) (texts-rows s outer xs))

-- what stands in front of a body belongs to its first row
grouped : (x a b c d : List ℕ) → x ++ (a ++ b ++ c ++ d) ≡ (x ++ a) ++ b ++ c ++ d
grouped x a b c d =
    sym (append_assoc x (a ++ b ++ c) d)
    ∙ ap (λ t. t ++ d) (sym (append_assoc x (a ++ b) c)
    ∙ ap (λ t. t ++ c) (sym (append_assoc x a b)))

pub body-grouped : (x : List ℕ) (s : GraphicalSettings) (m : Diagnosis) (drawn causes related : List ℕ)
    → x ++ body_over s m drawn causes related ≡ (x ++ message_text s m) ++ causes ++ drawn ++ related
body-grouped x s m drawn causes related = grouped x (message_text s m) causes drawn related

pub above-ended : (x : List ℕ) (s : GraphicalSettings) (m : Diagnosis) → IsEnded (x ++ message_text s m)
above-ended x s m = ended-after x (message_text s m) (message-ended s m)

pub drawn-ended : (x : List ℕ) (s : GraphicalSettings) (m : Diagnosis) (drawn causes : List ℕ) → EndsRow drawn
    → EndsRow causes
    → IsEnded ((x ++ message_text s m) ++ causes ++ drawn)
drawn-ended x s m drawn causes d h =
    let above = x ++ message_text s m in
    ended-rows (above ++ causes) drawn (ended-rows above causes (above-ended x s m) h) d

pub body-ended : (x : List ℕ) (s : GraphicalSettings) (m : Diagnosis) (drawn causes related : List ℕ) → EndsRow drawn
    → EndsRow causes → EndsRow related → IsEnded (x ++ body_over s m drawn causes related)
body-ended x s m drawn causes related d h r =
    subst IsEnded (sym (body-grouped x s m drawn causes related))
    (ended-rows ((x ++ message_text s m) ++ causes ++ drawn) related (drawn-ended x s m drawn causes d h) r)

-- ---- parts of texts

pub whole-stands : (text : List ℕ) → StartsRowIn text text
whole-stands text = record { front = []; back = []; whole = sym (append-nil text); begins = inl refl }

pub here-stands : (part back : List ℕ) → StartsRowIn part (part ++ back)
here-stands part back = record { front = []; back = back; whole = refl; begins = inl refl }

pub ahead-stands : (x part text : List ℕ) → EndsRow x → StartsRowIn part text → StartsRowIn part (x ++ text)
ahead-stands x part text h k = record {
  front = x ++ k.front;
  back = k.back;
  whole = ap (λ t. x ++ t) k.whole ∙ sym (append_assoc x (k.front ++ part) k.back)
      ∙ ap (λ t. t ++ k.back) (sym (append_assoc x k.front part));
  begins = rows-after x k.front h k.begins;
}

pub after-stands : (y part text : List ℕ) → StartsRowIn part text → StartsRowIn part (text ++ y)
after-stands y part text k = record {
  front = k.front;
  back = k.back ++ y;
  whole = ap (λ t. t ++ y) k.whole ∙ append_assoc (k.front ++ part) k.back y;
  begins = k.begins;
}

pub within-stands : (part text outer : List ℕ) → StartsRowIn part text → StartsRowIn text outer → StartsRowIn part outer
within-stands part text outer h k = subst (StartsRowIn part) (sym k.whole)
    (after-stands k.back part (k.front ++ text) (ahead-stands k.front part text k.begins h))

-- a row among rows
pub row-stands : (rows : List (List Fragment)) (row : List Fragment) → Contains rows row
    → StartsRowIn (print row ++ line_feed) (rows_text rows)
row-stands [] row h = absurd (none row h)
row-stands (q ∷ rows) row h =
    let first = print q ++ line_feed in
    elim (first_or_later q rows row h) [
      | inl same ↦ subst (λ r. StartsRowIn (print r ++ line_feed) (rows_text (q ∷ rows))) same
          (here-stands first (rows_text rows))
      | inr there ↦ ahead-stands first (print row ++ line_feed) (rows_text rows) (inr (print q, refl))
          (row-stands rows row there)
    ]

-- a fix among fixes, and a row of it
pub fix-stands : (s : GraphicalSettings) (fixes : List ShownFix) (fix : ShownFix) → Contains fixes fix
    → StartsRowIn (fix_text s fix) (fixes_text s fixes)
fix-stands s [] fix h = absurd (none fix h)
fix-stands s (q ∷ fixes) fix h =
    let message = wrapped_under s (fix_indent s) further_fix_indent (chars q.message) in
    let ended : IsEnded (fix_text s q) =
    ended-rows (message ++ line_feed) (rows_text q.rows) (message, refl) (drawn-rows q.rows) in
    elim (first_or_later q fixes fix h) [
      | inl same ↦ subst (λ f. StartsRowIn (fix_text s f) (fixes_text s (q ∷ fixes))) same
          (here-stands (fix_text s q) (fixes_text s fixes))
      | inr there ↦ ahead-stands (fix_text s q) (fix_text s fix) (fixes_text s fixes) (inr ended)
          (fix-stands s fixes fix there)
    ]

pub fix-row-stands : (s : GraphicalSettings) (fix : ShownFix) (row : List Fragment) → Contains fix.rows row
    → StartsRowIn (print row ++ line_feed) (fix_text s fix)
fix-row-stands s fix row h =
    let message = wrapped_under s (fix_indent s) further_fix_indent (chars fix.message) in
    ahead-stands (message ++ line_feed) (print row ++ line_feed) (rows_text fix.rows) (inr (message, refl))
    (row-stands fix.rows row h)

-- ---- in bytes

fed-bytes : encode_utf8_all line_feed ≡ line_feed
fed-bytes = ap (λ bs. bs ++ []) (encode_ascii 10 (omega arith))

ended-bytes : (text : List ℕ) → EndsRow text → EndsRow (encode_utf8_all text)
ended-bytes text h = elim h [
  | inl none ↦ inl (ap encode_utf8_all none)
  | inr e ↦ inr (
    encode_utf8_all e.0,
    ap encode_utf8_all e.1 ∙ encodes-append e.0 line_feed ∙ ap (λ bs. encode_utf8_all e.0 ++ bs) fed-bytes,
  )
]

pub bytes-stand : (part text : List ℕ) → StartsRowIn part text → StartsRowIn (encode_utf8_all part)
    (encode_utf8_all text)
bytes-stand part text k = record {
  front = encode_utf8_all k.front;
  back = encode_utf8_all k.back;
  whole = ap encode_utf8_all k.whole ∙ encodes-append (k.front ++ part) k.back
      ∙ ap (λ bs. bs ++ encode_utf8_all k.back) (encodes-append k.front part);
  begins = ended-bytes k.front k.begins;
}
