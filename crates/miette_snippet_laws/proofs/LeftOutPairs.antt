-- No line is left out alone.
use Rattle.std.proofs.Common.{ℕ, ◌+◌, ◌-◌, ◌≡◌, Bool, true, false, not, ◌&&◌, ◌||◌, List, Some, refl, sym, ap, ◌∙◌}
use Rattle.std.proofs.Common.{⊎_elim, arith}
use Rattle.std.proofs.lemmas.Bool.{and_from, and_parts, and_right, cases_lt, not-true, or_from, or_left, or_parts}
use Rattle.std.proofs.lemmas.Bool.{or_right}
use Rattle.miette_lines.proofs.Cases.{by_cases}
use Rattle.miette_protocol.specs.views.Meaning.{Label}
use Rattle.miette_snippet_rules.specs.rules.Snippets as N
use Rattle.miette_snippet_laws.proofs.LeftOutRuns.{first_number}

none_of : (a b : Bool) → (a || b) ≡ true → (not a && not b) ≡ false
none_of true b h = refl
none_of false b h = ap not h

other_of : (a b : Bool) → (not a && not b) ≡ false → a ≡ false → b ≡ true
other_of true b h none = absurd (cc)
other_of false true h none = refl
other_of false false h none = let wrong : true ≡ false = h in absurd (cc)

-- a hidden line beside another one
pub left_beside : (limit context : ℕ) (bytes : List ℕ) (labels : List Label) (k : ℕ)
    → N.is_hidden limit context bytes labels k ≡ true
    → (N.is_hidden limit context bytes labels (k - 1) || N.is_hidden limit context bytes labels (k + 1)) ≡ true
    → N.is_left_out (Some limit) context bytes labels k ≡ true
left_beside limit context bytes labels k own beside =
    let shown : Bool = N.is_context_line context bytes labels k in
    let fold : Bool = N.is_in_some_fold limit context bytes labels k in
    let before : Bool = N.is_hidden limit context bytes labels (k - 1) in
    let after : Bool = N.is_hidden limit context bytes labels (k + 1) in
    let parts = and_parts shown (not fold) own in
    let far : fold ≡ false = not-true fold parts.1 in
    let alone : N.is_alone limit context bytes labels k ≡ false =
    and_right (N.is_hidden limit context bytes labels k) (not before && not after) (none_of before after beside) in
    and_from shown (not (N.is_kept (Some limit) context bytes labels k)) parts.0
    (ap not (or_from fold (N.is_alone limit context bytes labels k) far alone))

pub left_pairs : (limit context : ℕ) (bytes : List ℕ) (labels : List Label) (k : ℕ)
    → N.is_left_out (Some limit) context bytes labels k ≡ true
    → (N.is_left_out (Some limit) context bytes labels (k - 1) || N.is_left_out (Some limit) context bytes labels
    (k + 1))
    ≡ true
left_pairs limit context bytes labels k out =
    let shown : Bool = N.is_context_line context bytes labels k in
    let fold : Bool = N.is_in_some_fold limit context bytes labels k in
    let hidden : ℕ → Bool = N.is_hidden limit context bytes labels in
    let left : ℕ → Bool = N.is_left_out (Some limit) context bytes labels in
    let kept : Bool = N.is_kept (Some limit) context bytes labels k in
    let both = and_parts shown (not kept) out in
    let none = or_parts fold (N.is_alone limit context bytes labels k) (not-true kept both.1) in
    let own : hidden k ≡ true = and_from shown (not fold) both.0 (ap not none.0) in
    let sides : (not (hidden (k - 1)) && not (hidden (k + 1))) ≡ false =
    sym (ap (λ b. b && (not (hidden (k - 1)) && not (hidden (k + 1)))) own) ∙ none.1 in
    by_cases {C = (left (k - 1) || left (k + 1)) ≡ true} (hidden (k - 1))
    (λ before. or_left (left (k - 1)) (left (k + 1)) (⊎_elim {C = left (k - 1) ≡ true}
    (λ some.
    let next : k - 1 + 1 ≡ k = omega (arith, some) in
    left_beside limit context bytes labels (k - 1) before (or_right (hidden (k - 1 - 1)) (hidden (k - 1 + 1))
    (ap hidden next ∙ own)))
    (λ first.
    let zeroth : k - 1 ≡ 0 = omega (arith, first) in
    let never : hidden (k - 1) ≡ false = ap hidden zeroth ∙ first_number limit context bytes labels in
    absurd (cc (before, never))) (cases_lt 0 k)))
    (λ apart.
    let last : k + 1 - 1 ≡ k = omega arith in
    or_right (left (k - 1)) (left (k + 1)) (left_beside limit context bytes labels (k + 1)
    (other_of (hidden (k - 1)) (hidden (k + 1)) sides apart)
    (or_left (hidden (k + 1 - 1)) (hidden (k + 1 + 1)) (ap hidden last ∙ own))))
