-- Labels of one list that don't overlap on a single line.
use Rattle.std.specs.Prelude.{◌≡◌, ◌⊎◌, ◌+◌, ◌<◌, ◌≤◌, ℕ, List, [], ◌∷◌, true, ⊤}
use Rattle.std.specs.List.{AllByRecursion}
use Rattle.miette_protocol.specs.views.Meaning.{Label}
use Rattle.miette_read.specs.rules.Places.{ByteRange, on_one_line}
use Rattle.miette_tree.specs.rules.Diagnosis.{Section}

abbrev pub span_range : Label → ByteRange
span_range l = record { start = l.span.offset; end = l.span.offset + l.span.len }

-- A label covers its bytes. An empty label covers the byte at its offset.
abbrev pub Covers : Label → ℕ → Type 0
Covers l k = (k ≡ l.span.offset) ⊎ ((l.span.offset ≤ k) × (k < l.span.offset + l.span.len))

abbrev pub IsOnOneLine : List ℕ → Label → Type 0
IsOnOneLine bytes l = on_one_line bytes (span_range l) ≡ true

-- If each label is on one line, no byte is covered by both.
abbrev pub IsApart : List ℕ → Label → Label → Type 0
IsApart bytes a b = IsOnOneLine bytes a → IsOnOneLine bytes b → (k : ℕ) → Covers a k → Covers b k → ⊥

-- Each label is apart from every later one.
abbrev pub AreApart : List ℕ → List Label → Type 0
AreApart bytes [] = ⊤
AreApart bytes (l ∷ ls) = AllByRecursion (IsApart bytes l) ls × AreApart bytes ls

abbrev pub IsApartList : Section → Type 0
IsApartList list = AreApart list.source.bytes list.labels
