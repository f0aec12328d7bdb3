-- Each line on which a label lies is in its context, and so is shown.
use Rattle.std.proofs.Common.{◌≡◌, ◌≤◌, ◌<◌, ◌+◌, ℕ, zero, suc, List, [], ◌∷◌, Bool, true, false, ◌||◌, cond, length}
use Rattle.std.proofs.Common.{refl, sym, ap, subst, ◌∙◌, arith, rules, inl, inr}
use Rattle.std.specs.List.{AllByRecursion, Contains, filter, list_any, range_with_len}
use Rattle.std.proofs.lemmas.Bool.{cases_lt}
use Rattle.miette_protocol.specs.rules.Reading.{Span, reading_end}
use Rattle.miette_protocol.specs.views.Meaning.{Label}
use Rattle.miette_lines.specs.rules.Lines.{line_of, lines_of}
use Rattle.miette_labels.specs.rules.Around.{label_context}
use Rattle.miette_snippet_rules.specs.rules.Snippets.{is_in_context, is_context_line, shown_numbers}
use Rattle.miette_graphical_rules.specs.laws.ShownLabelLines.{HasItsLines}

contains_after : (b : Bool) (a : ℕ) (xs : List ℕ) (k : ℕ) → Contains xs k → Contains (cond b (a ∷ xs) xs) k
contains_after true a xs k c = (suc c.0, omega (arith, c.1), c.2)
contains_after false a xs k c = c

-- a number of a range that passes a test is among those that do
passing : (test : ℕ → Bool) (a n k : ℕ) → a ≤ k → k < a + n → test k ≡ true
    → Contains (filter test (range_with_len a n)) k
passing test a zero k from until is = absurd (omega arith)
passing test a (suc n) k from until is =
    let rest = filter test (range_with_len (a + 1) n) in
    elim (cases_lt a k) [
      | inl further ↦ contains_after (test a) a rest k (passing test (a + 1) n k (omega arith) (omega arith) is)
      | inr here ↦
          let same : k ≡ a = omega arith in
          subst (λ x. Contains (cond (test x) (x ∷ rest) rest) k) same
          (subst (λ b. Contains (cond b (k ∷ rest) rest) k) (sym is) (0, omega arith, refl))
    ]

or_true : (b : Bool) → (b || true) ≡ true
or_true true = refl
or_true false = refl

module _ (context : ℕ) (bytes : List ℕ) (labels : List Label) where
  abbrev test : ℕ → Label → Bool
  test k label = is_in_context (label_context context labels label) bytes k label.span

  own : (n k : ℕ) (span : Span) → line_of bytes span.offset ≤ k → k ≤ line_of bytes (reading_end bytes span)
      → is_in_context n bytes k span ≡ true
  own n k span from until = search rules

  each_own : (ls : List Label) → ((k : ℕ) → list_any (test k) ls ≡ true → is_context_line context bytes labels k ≡ true)
      → AllByRecursion (HasItsLines bytes (shown_numbers context bytes labels)) ls
  each_own [] shows = tt
  each_own (l ∷ ls) shows = (
    λ k from until there.
        let is : test k l ≡ true = own (label_context context labels l) k l.span from until in
        passing (is_context_line context bytes labels) 0 (length (lines_of bytes)) k (omega arith) (omega arith)
        (shows k (ap (λ b. b || list_any (test k) ls) is)),
    each_own ls (λ k any. shows k (ap (λ b. test k l || b) any ∙ or_true (test k l))),
  )

  pub labels_have_lines : AllByRecursion (HasItsLines bytes (shown_numbers context bytes labels)) labels
  labels_have_lines = each_own labels (λ k any. any)
