-- What is drawn in rows, in a text that holds it under one arrow.
use Rattle.std.proofs.Common.{◌≡◌, ℕ, inl, inr, true, false, ◌&&◌, List, [], ◌∷◌, ◌++◌, refl, sym, ap, ◌∙◌}
use Rattle.std.proofs.Common.{append_assoc, subst}
use Rattle.miette_runs.specs.rules.Colours.{is_colour}
use Rattle.miette_runs.specs.rules.Cutting.{only_feeds}
use Rattle.miette_runs.specs.rules.Sequences.{Token, Character, Sequence, is_line_feed, tokens}
use Rattle.miette_graphical_laws.specs.laws.Arrows.{DrawnRowsStand, rows_under}
use Rattle.miette_graphical_laws.specs.laws.FittingRows.{fed_rows}
use Rattle.miette_graphical_rules.specs.laws.HeldRows.{Arrow, EndsRow, HoldsUnder, StartsRowIn, cut_text}
use Rattle.miette_graphical_rules.specs.rules.DiagnosticText.{line_feed, under_arrow}
use Rattle.miette_graphical_rules.specs.rules.GraphicalSettings.{GraphicalSettings}
use Rattle.miette_graphical_laws.proofs.Arrows.{inner-stand}
use Rattle.miette_text.proofs.Feeds.{seen-after, tokens-fed}
use Rattle.miette_graphical_rules.proofs.Rows.{IsEnded, ended-rows, within-stands}

-- ---- rows one after the other

pub fed-append : (xs ys : List (List ℕ)) → fed_rows (xs ++ ys) ≡ fed_rows xs ++ fed_rows ys
fed-append [] ys = refl
fed-append (x ∷ xs) ys = ap (λ t. x ++ 10 ∷ t) (fed-append xs ys)
    ∙ sym (append_assoc x (10 ∷ fed_rows xs) (fed_rows ys))

pub fed-ends : (rows : List (List ℕ)) → EndsRow (fed_rows rows)
fed-ends [] = inl refl
fed-ends (row ∷ rows) =
    inr (subst IsEnded (append_assoc row line_feed (fed_rows rows))
    (ended-rows (row ++ line_feed) (fed_rows rows) (row, refl) (fed-ends rows)))

-- ---- something is to be seen

abbrev pub IsSeen : List ℕ → Type 0
IsSeen text = only_feeds (tokens text) ≡ false

feeds-front : (us vs : List Token) → only_feeds us ≡ false → only_feeds (us ++ vs) ≡ false
feeds-front [] vs h = absurd (cc)
feeds-front (Character c ∷ us) vs h = elim (is_line_feed c) as (λ b. (b && only_feeds us) ≡ false
    → (b && only_feeds (us ++ vs)) ≡ false) [ true ↦ λ k. feeds-front us vs k | false ↦ λ k. refl ] h
feeds-front (Sequence s ∷ us) vs h = elim (is_colour s) as (λ b. (b && only_feeds us) ≡ false
    → (b && only_feeds (us ++ vs)) ≡ false) [ true ↦ λ k. feeds-front us vs k | false ↦ λ k. refl ] h

feeds-fed : (us : List Token) → only_feeds (us ++ Character 10 ∷ []) ≡ only_feeds us
feeds-fed [] = refl
feeds-fed (Character c ∷ us) = ap (λ b. is_line_feed c && b) (feeds-fed us)
feeds-fed (Sequence s ∷ us) = ap (λ b. is_colour s && b) (feeds-fed us)

pub seen-before : (x : List ℕ) → IsSeen (x ++ line_feed) → IsSeen x
seen-before x h = sym (ap only_feeds (tokens-fed x []) ∙ feeds-fed (tokens x)) ∙ h

pub seen-below : (front x : List ℕ) → EndsRow front → IsSeen x → IsSeen (front ++ x)
seen-below front x h k = elim h [
  | inl none ↦ subst IsSeen (sym (ap (λ t. t ++ x) none)) k
  | inr e ↦ subst IsSeen (sym (ap (λ t. t ++ x) e.1 ∙ append_assoc e.0 line_feed x)) (seen-after e.0 x k)
]

pub seen-above : (x y : List ℕ) → EndsRow x → IsSeen x → IsSeen (x ++ y)
seen-above x y h k = elim h [
  | inl none ↦ (let not : true ≡ false = sym (ap (λ t. only_feeds (tokens t)) none) ∙ k in absurd (cc))
  | inr e ↦ subst IsSeen (sym (ap (λ t. t ++ y) e.1 ∙ append_assoc e.0 line_feed y))
      (ap only_feeds (tokens-fed e.0 y)
      ∙ feeds-front (tokens e.0) (Character 10 ∷ tokens y) (seen-before e.0 (subst IsSeen e.1 k)))
]

-- ---- what is drawn

pub grouped : (f x l r b o : List ℕ) → f ++ (x ++ l ++ r ++ b) ++ o ≡ (f ++ x) ++ l ++ r ++ (b ++ o)
grouped f x l r b o =
    ap (λ t. t ++ o) (sym (append_assoc f (x ++ l ++ r) b)
    ∙ ap (λ t. t ++ b) (sym (append_assoc f (x ++ l) r) ∙ ap (λ t. t ++ r) (sym (append_assoc f x l))))
    ∙ append_assoc ((f ++ x) ++ l ++ r) b o

pub drawn-stand : (s : GraphicalSettings) (arrow : Arrow) (drawn : GraphicalSettings → List ℕ) (text : List ℕ)
    → s.wrapping.wrap_lines ≡ true → HoldsUnder (arrow ∷ []) s drawn text → DrawnRowsStand s arrow drawn text
drawn-stand s arrow drawn text w held above rows below same h k fit =
    let own = held.2 in
    let shown = rows_under s arrow.outer arrow.is_last rows in
    let lower = fed_rows below in
    elim (fed-ends above) [
      | inl none ↦ (let not : true ≡ false = sym (ap (λ t. only_feeds (tokens t)) none) ∙ h in absurd (cc))
      | inr e ↦ (let front = own.front ++ e.0 in
          let back = lower ++ own.back in
          let parts : fed_rows (above ++ rows ++ below) ≡ e.0 ++ line_feed ++ fed_rows rows ++ lower =
          fed-append (above ++ rows) below ∙ ap (λ t. t ++ lower) (fed-append above rows
          ∙ ap (λ t. t ++ fed_rows rows) e.1) in
          let split : held.0 ≡ front ++ line_feed ++ fed_rows rows ++ back =
          own.whole ∙ ap (λ t. own.front ++ t ++ own.back) (same ∙ parts)
          ∙ grouped own.front e.0 line_feed (fed_rows rows) lower own.back in
          let seen : IsSeen front = seen-below own.front e.0 own.begins (seen-before e.0 (subst IsSeen e.1 h)) in
          within-stands shown (under_arrow s arrow.outer arrow.is_last (cut_text arrow held.0)) text
          (subst (λ t. StartsRowIn shown (under_arrow s arrow.outer arrow.is_last (cut_text arrow t))) (sym split)
          (inner-stand s arrow front back rows w seen
          (λ r. seen-above lower own.back (fed-ends below) (k r)) fit)) held.1)
    ]
