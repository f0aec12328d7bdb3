-- What the layer of texts promises of deleting colours: the clauses of its laws, gathered.
use Rattle.std.proofs.Common.{◌≡◌, ℕ, true, List, [], ◌∷◌, ◌++◌, map, refl, ap, ◌∙◌, sym, subst}
use Rattle.miette_runs.specs.rules.Sequences.{tokens, erase}
use Rattle.miette_text.specs.laws.Tame.{IsTame, AllTame}
use Rattle.miette_style.specs.rules.Escapes.{no_escape}
use Rattle.miette_text.specs.rules.ColouredTexts as coloured
use Rattle.miette_runs.specs.rules.Runs.{Fragment, Styled, HaveNoEscape, made_plain, print}
use Rattle.miette_style.specs.rules.Styles.{plain}
use Rattle.miette_runs.specs.rules.Cutting.{trim_leading_feeds, trim_trailing_feeds}
use Rattle.miette_text.specs.rules.Wrapping.{WrapPlan, wrapped_text}
use Rattle.miette_runs.specs.rules.Cells.{printed_columns}

pub record TextLaws : Type 0 where
  pub wrapped-tame : (p : WrapPlan (List ℕ)) (text : List ℕ) → AllTame p text → IsTame (wrapped_text p text)
  pub erase-wrapped : (p : WrapPlan (List ℕ)) (text : List ℕ) → AllTame p text → erase (wrapped_text p text)
      ≡ wrapped_text (coloured.plain_plan p) (erase text)
  pub append-tame : (x y : List ℕ) → IsTame x → IsTame y → IsTame (x ++ y)
  pub erase-append : (x y : List ℕ) → IsTame x → IsTame y → erase (x ++ y) ≡ erase x ++ erase y
  pub leading-tame : (text : List ℕ) → IsTame text → IsTame (trim_leading_feeds text)
  pub leading-erase : (text : List ℕ) → IsTame text → erase (trim_leading_feeds text) ≡ trim_leading_feeds (erase text)
  pub trailing-tame : (text : List ℕ) → IsTame text → IsTame (trim_trailing_feeds text)
  pub trailing-erase : (text : List ℕ) → IsTame text → erase (trim_trailing_feeds text)
      ≡ trim_trailing_feeds (erase text)
  pub print-tame : (runs : List Fragment) → HaveNoEscape runs → IsTame (print runs)
  pub print-erase : (runs : List Fragment) → HaveNoEscape runs → erase (print runs) ≡ print (map made_plain runs)
  pub erase-columns : (text : List ℕ) → IsTame text → printed_columns (tokens (erase text))
      ≡ printed_columns (tokens text)

-- a text that holds no escape is that of one plain run
plain-printed : (text : List ℕ) → print (Styled plain text ∷ []) ≡ text
plain-printed [] = refl
plain-printed (c ∷ text) = append_nil (c ∷ text) where
  append_nil : (xs : List ℕ) → xs ++ [] ≡ xs
  append_nil [] = refl
  append_nil (x ∷ xs) = ap (λ l. x ∷ l) (append_nil xs)

pub plain-tame : TextLaws → (text : List ℕ) → no_escape text ≡ true → IsTame text
plain-tame laws text h = subst IsTame (plain-printed text) (laws.print-tame (Styled plain text ∷ []) (h, tt))

pub plain-erase : TextLaws → (text : List ℕ) → no_escape text ≡ true → erase text ≡ text
plain-erase laws text h =
    ap erase (sym (plain-printed text)) ∙ laws.print-erase (Styled plain text ∷ []) (h, tt) ∙ plain-printed text
