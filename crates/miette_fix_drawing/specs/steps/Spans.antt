-- Spans in order.
use Rattle.std.specs.Prelude.{ℕ, ◌+◌, ◌≤◌, List, [], ◌∷◌}
use Rattle.miette_protocol.specs.rules.Reading.{Span}

-- from an offset on, each begins where the previous one ends or later
abbrev pub AreApartFrom : ℕ → List Span → Type 0
AreApartFrom at [] = Unit {0}
AreApartFrom at (span ∷ spans) = (at ≤ span.offset) × AreApartFrom (span.offset + span.len) spans

abbrev pub AreApart : List Span → Type 0
AreApart spans = AreApartFrom 0 spans
