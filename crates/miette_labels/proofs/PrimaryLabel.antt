-- The label that a frame points to.
use Rattle.std.proofs.Common.{ℕ, zero, suc, ◌+◌, ◌-◌, ◌<◌, ◌≤◌, ◌≡◌, Bool, true, false, leb, ltb, List, [], ◌∷◌, length}
use Rattle.std.proofs.Common.{take, drop, get_or, Option, Some, None, refl, sym, arith, unwrap_or}
use Rattle.std.proofs.lemmas.Bool.Decides.{nat_tests}
use Rattle.miette_protocol.specs.rules.Reading.{Span}
use Rattle.miette_labels.specs.declared.reading.ReadLabel.{ReadLabel}
use Rattle.miette_labels.specs.rules.Contexts.{end_of_span}
use Rattle.miette_labels.specs.views.Primary.{end_within, lies_within, chosen_label}
use Rattle.miette_lines.proofs.Cases.{by_cases}

pub lt_not : (a b : ℕ) → ltb a b ≡ true → leb b a ≡ false
lt_not a b h = grind (arith, nat_tests)

pub later_not : (a b n : ℕ) → leb a n ≡ false → a ≤ b → leb b n ≡ false
later_not a b n h le = grind (arith, nat_tests)

-- a label that begins before a span lies outside of it, and so does one that begins after its end
pub begins_before : (own : Bool) (group span : Span) → ltb span.offset group.offset ≡ true → lies_within own group span
    ≡ false
begins_before own group span h = rw (lt_not span.offset group.offset h) refl

pub ends_after : (own : Bool) (span : Span) → span.offset ≤ end_within own span
ends_after true span = omega arith
ends_after false span = omega arith

pub begins_after : (own : Bool) (group span : Span) → leb span.offset (end_of_span group) ≡ false
    → lies_within own group span ≡ false
begins_after own group span h =
    let f : leb (end_within own span) (end_of_span group) ≡ false =
    later_not span.offset (end_within own span) (end_of_span group) h (ends_after own span) in
    by_cases {C = lies_within own group span ≡ false} (leb group.offset span.offset) (λ t. rw (t, f) refl)
    (λ g. rw g refl)

abbrev pub IsOutside : Bool → Span → ReadLabel → Type 0
IsOutside own group read = lies_within own group read.span ≡ false

pub none_chosen : (own : Bool) (group : Span) (first : Option Span) (reads : List ReadLabel)
    → ((j : ℕ) (d : ReadLabel) → j < length reads → IsOutside own group (get_or reads j d))
    → chosen_label own group first reads ≡ first
none_chosen own group first [] h = refl
none_chosen own group first (r ∷ rs) h = rw (h 0 r (omega arith))
    (none_chosen own group first rs (λ j d lt. h (suc j) d (omega (arith, lt))))

pub front_chosen : (own : Bool) (group : Span) (first : Option Span) (n : ℕ) (reads : List ReadLabel)
    → ((j : ℕ) (d : ReadLabel) → n ≤ j → j < length reads → IsOutside own group (get_or reads j d)) →
    chosen_label own group first (take n reads) ≡ chosen_label own group first reads
front_chosen own group first zero reads h = sym (none_chosen own group first reads (λ j d lt. h j d (omega arith) lt))
front_chosen own group first (suc n) [] h = refl
front_chosen own group first (suc n) (r ∷ rs) h =
    let later : (j : ℕ) (d : ReadLabel) → n ≤ j → j < length rs → IsOutside own group (get_or rs j d) =
    λ j d le lt. h (suc j) d (omega (arith, le)) (omega (arith, lt)) in
    by_cases {C = chosen_label own group first (r ∷ take n rs) ≡ chosen_label own group first (r ∷ rs)}
    (lies_within own group r.span)
    (λ t. by_cases {C = chosen_label own group first (r ∷ take n rs) ≡ chosen_label own group first (r ∷ rs)} r.primary
    (λ u. rw (t, u) refl)
    (λ g. rw (t, g) (front_chosen own group (Some (unwrap_or first r.span)) n rs later)))
    (λ f. rw f (front_chosen own group first n rs later))

pub between_chosen : (own : Bool) (group : Span) (first : Option Span) (m n : ℕ) (reads : List ReadLabel)
    → ((j : ℕ) (d : ReadLabel) → j < m → j < length reads → IsOutside own group (get_or reads j d)) →
    ((j : ℕ) (d : ReadLabel) → m + n ≤ j → j < length reads → IsOutside own group (get_or reads j d))
    → chosen_label own group first (take n (drop m reads)) ≡ chosen_label own group first reads
between_chosen own group first zero n reads low high =
    front_chosen own group first n reads (λ j d le lt. high j d (omega (arith, le)) lt)
between_chosen own group first (suc m) n [] low high =
    front_chosen own group first n [] (λ j d le lt. absurd (omega (arith, lt)))
between_chosen own group first (suc m) n (r ∷ rs) low high =
    rw (low 0 r (omega arith) (omega arith))
    (between_chosen own group first m n rs (λ j d lm lt. low (suc j) d (omega (arith, lm)) (omega (arith, lt)))
    (λ j d le lt. high (suc j) d (omega (arith, le)) (omega (arith, lt))))

-- the labels from the first one that doesn't begin before a span, up to the first one that begins after its end
pub near_chosen : (own : Bool) (group : Span) (a b m : ℕ) (reads : List ReadLabel) → m ≤ a → m ≤ b → b ≤ length reads
    → ((j : ℕ) (d : ReadLabel) → j < a → ltb (get_or reads j d).span.offset group.offset ≡ true) →
    ((j : ℕ) (d : ReadLabel) → b ≤ j → j < length reads → leb (get_or reads j d).span.offset (end_of_span group)
    ≡ false) → chosen_label own group None (take (b - m) (drop m reads)) ≡ chosen_label own group None reads
near_chosen own group a b m reads ma mb bl low high =
    between_chosen own group None m (b - m) reads
    (λ j d lm lt. begins_before own group (get_or reads j d).span (low j d (omega (arith, lm, ma))))
    (λ j d le lt. begins_after own group (get_or reads j d).span (high j d (omega (arith, le, mb)) lt))
