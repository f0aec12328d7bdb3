-- The rows of rustc's help: a message, and behind it what is proposed.
use Rattle.std.proofs.Common.{◌≡◌, ◌⊎◌, ℕ, List, [], ◌∷◌, ◌++◌, Option, Some, None, codes, sym, ap, subst}
use Rattle.std.proofs.Common.{◌∙◌, append_assoc, append-nil, inl, inr}
use Rattle.std.specs.List.{fold}
use Rattle.miette_read.specs.rules.Kept.{IsPart, IsPartOf}
use Rattle.miette_read.specs.rules.RustcReport.{quoted, with_further, with_texts}
use Rattle.miette_read.specs.laws.RustcTexts.{IsBefore, IsBeforeIn}
use Rattle.miette_read.specs.laws.Shown.{IsRowIn, IsRowOf}
use Rattle.miette_read.proofs.Holding.{Has, Is}
use Rattle.miette_read.proofs.KeptRows.{part_within}

-- ---- what stands in front

-- further texts stand behind what is there
further_after : (row more : List ℕ) (ts : List (List ℕ))
    → (rest : List ℕ) × (fold with_further (row ++ more) ts ≡ row ++ (more ++ rest))
further_after row more [] = ([], ap (λ t. row ++ t) (sym (append-nil more)))
further_after row more (t ∷ ts) =
    let new = codes ", " ++ quoted t in
    let next = further_after row (more ++ new) ts in (
      new ++ next.0,
      ap (λ r. fold with_further r ts) (append_assoc row more new) ∙ next.1
          ∙ ap (λ r. row ++ r) (append_assoc more new next.0),
    )

before_by : (text : List ℕ) (t : List ℕ) (ts : List (List ℕ)) (help : List ℕ)
    → IsRowOf (with_texts text (t ∷ ts)) help → IsBefore text help
before_by text t ts help h =
    let first = codes ": " ++ quoted t in
    let more = further_after text first ts in (
      h.0,
      ((t ++ codes "`") ++ more.0) ++ h.1,
      h.2 ∙ ap (λ r. h.0 ++ (r ++ h.1)) more.1 ∙ ap (λ r. h.0 ++ r) (append_assoc text (first ++ more.0) h.1),
      h.3,
    )

pub row_told : (text : List ℕ) (ts : List (List ℕ)) (help : Option (List ℕ)) → IsRowIn (with_texts text ts) help
    → IsRowIn text help ⊎ IsBeforeIn text help
row_told text ts None h = absurd h
row_told text [] (Some help) h = inl h
row_told text (t ∷ ts) (Some help) h = inr (before_by text t ts help h)

-- ---- what is proposed

part_more : (part row more : List ℕ) → IsPart part row → IsPart part (row ++ more)
part_more part row more h = (
  h.0,
  h.1 ++ more,
  ap (λ t. t ++ more) h.2 ∙ append_assoc h.0 (part ++ h.1) more ∙ ap (λ t. h.0 ++ t) (append_assoc part h.1 more),
)

part_last : (part row front : List ℕ) → IsPart part (row ++ (front ++ part))
part_last part row front = (
  row ++ front,
  [],
  sym (append_assoc row front part) ∙ ap (λ t. (row ++ front) ++ t) (sym (append-nil part)),
)

further_kept : (part row : List ℕ) (ts : List (List ℕ)) → IsPart part row → IsPart part (fold with_further row ts)
further_kept part row [] h = h
further_kept part row (t ∷ ts) h =
    further_kept part (with_further row t) ts (part_more part row (codes ", " ++ quoted t) h)

further_there : (text row : List ℕ) (ts : List (List ℕ)) → Has (Is text) ts
    → IsPart (quoted text) (fold with_further row ts)
further_there text row [] h = absurd h
further_there text row (t ∷ ts) (inl is) =
    further_kept (quoted text) (with_further row t) ts
    (subst (λ (k : List ℕ). IsPart (quoted text) (with_further row k)) (sym is)
    (part_last (quoted text) row (codes ", ")))
further_there text row (t ∷ ts) (inr h) = further_there text (with_further row t) ts h

pub text_there : (text row : List ℕ) (ts : List (List ℕ)) → Has (Is text) ts → IsPart (quoted text) (with_texts row ts)
text_there text row [] h = absurd h
text_there text row (t ∷ ts) (inl is) =
    further_kept (quoted text) (row ++ (codes ": " ++ quoted t)) ts
    (subst (λ (k : List ℕ). IsPart (quoted text) (row ++ (codes ": " ++ quoted k))) (sym is)
    (part_last (quoted text) row (codes ": ")))
text_there text row (t ∷ ts) (inr h) = further_there text (row ++ (codes ": " ++ quoted t)) ts h

pub row_part : (part row : List ℕ) (help : Option (List ℕ)) → IsPart part row → IsRowIn row help → IsPartOf part help
row_part part row None h k = absurd k
row_part part row (Some help) h k = part_within part row help h (k.0, k.1, k.2)
