-- Where no listed answer fails: every group is read, and the groups are those where none is listed.
use Rattle.std.proofs.Common.{ℕ, ◌≡◌, Bool, false, if◌then◌else◌, List, [], ◌∷◌, refl, ap, ap₂, ◌∙◌, drop}
use Rattle.std.proofs.lemmas.Bool.{and_right}
use Rattle.miette_protocol.specs.views.Meaning.{Label}
use Rattle.miette_protocol.specs.rules.Reading.{Source, Span}
use Rattle.miette_labels.specs.rules.Answers.{next_answer, NoneFails}
use Rattle.miette_labels.specs.rules.Around.{has_own_context}
use Rattle.miette_labels.specs.rules.Groups.{joins_before, joined_span, groups_from, groups_answered, own_groups}
use Rattle.miette_labels.specs.rules.Groups.{groups_of, spans_of, some_fails, groups_fail}

pub next_none : (fails : List Bool) → NoneFails fails → next_answer fails ≡ false
next_none [] h = refl
next_none (f ∷ fails) h = h.0

pub later_none : (fails : List Bool) → NoneFails fails → NoneFails (drop 1 fails)
later_none [] h = tt
later_none (f ∷ fails) h = h.1

pub some_none : (fails : List Bool) (groups : List Span) → NoneFails fails → some_fails fails groups ≡ false
some_none fails [] h = refl
some_none fails (group ∷ groups) h =
    let next : next_answer fails ≡ false = next_none fails h in
    rw next (some_none (drop 1 fails) groups (later_none fails h))

pub none_unread : (context : ℕ) (source : Source) (fails : List Bool) (labels : List Label) → NoneFails fails
    → groups_fail context source fails labels ≡ false
none_unread context source fails labels none = and_right (has_own_context labels)
    (some_fails fails (groups_of context source fails labels))
    (some_none fails (groups_of context source fails labels) none)

groups_none : (context : ℕ) (source : Source) (before : Span) (fails : List Bool) (spans : List Span) → NoneFails fails
    →
    groups_from context source before fails spans ≡ groups_from context source before [] spans
groups_none context source before fails [] h = refl
groups_none context source before fails (span ∷ spans) h =
    ap (λ b. if joins_before context source before span then
    (if b then before ∷ groups_from context source span (drop 1 fails) spans
    else groups_from context source (joined_span before span) (drop 1 fails) spans)
    else before ∷ groups_from context source span fails spans) (next_none fails h)
    ∙ ap₂ (λ x y. if joins_before context source before span then x else before ∷ y)
    (groups_none context source (joined_span before span) (drop 1 fails) spans (later_none fails h))
    (groups_none context source span fails spans h)

answered_none : (context : ℕ) (source : Source) (fails : List Bool) (spans : List Span) → NoneFails fails →
    groups_answered context source fails spans ≡ groups_answered context source [] spans
answered_none context source fails [] h = refl
answered_none context source fails (span ∷ spans) h = groups_none context source span fails spans h

pub grouped_none : (context : ℕ) (source : Source) (fails : List Bool) (labels : List Label) → NoneFails fails →
    groups_of context source fails labels ≡ groups_of context source [] labels
grouped_none context source fails labels h =
    ap (λ gs. if has_own_context labels then own_groups context source labels else gs)
    (answered_none context source fails (spans_of labels) h)
