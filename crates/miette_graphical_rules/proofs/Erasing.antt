-- Texts that are tame, and the same texts without their colours.
use Rattle.std.proofs.Common.{◌≡◌, ℕ, ◌-◌, Bool, true, false, List, [], ◌∷◌, ◌++◌, map, refl, sym, ap, ap₂, ◌∙◌}
use Rattle.std.proofs.Common.{if◌then◌else◌}
use Rattle.miette_text.specs.views.Plans.{cuts_hyphens}
use Rattle.miette_runs.specs.rules.Sequences.{tokens, erase}
use Rattle.miette_text.specs.laws.Tame.{IsTame, AllTame}
use Rattle.miette_runs.specs.rules.Runs.{Fragment, HaveNoEscape, made_plain, print}
use Rattle.miette_runs.specs.rules.Cutting.{trim_leading_feeds, trim_trailing_feeds}
use Rattle.miette_text.specs.rules.Wrapping.{WrapPlan, wrapped_text}
use Rattle.miette_runs.specs.rules.Cells.{printed_columns}
use Rattle.miette_graphical_rules.proofs.TextLaws.{TextLaws, plain-tame, plain-erase}
use Rattle.miette_graphical_rules.specs.rules.GraphicalSettings.{GraphicalSettings}
use Rattle.miette_snippet_laws.specs.laws.Clean.{IsClean}
use Rattle.miette_graphical_rules.specs.laws.Clean.{HaveNoEscapes}
use Rattle.miette_graphical_rules.specs.laws.PlainTexts.{restyled}
use Rattle.miette_style.specs.rules.Themes.{Styles}
use Rattle.miette_graphical_rules.specs.rules.Indents.{wrapped_under}
use Rattle.miette_graphical_rules.specs.rules.DiagnosticText.{rows_text, line_feed}
use Rattle.miette_graphical_rules.specs.rules.Text.{only_if}

-- The first text is tame, and the second is what it is without its colours.
pub record ErasesTo (x y : List ℕ) : Type 0 where
  pub tame : IsTame x
  pub same : erase x ≡ y

-- The first runs hold no escape, and the second are the same in plain styles.
pub record AreInPlain (xs ys : List Fragment) : Type 0 where
  pub clean : HaveNoEscape xs
  pub same : map made_plain xs ≡ ys

pub erases-to : {x y z : List ℕ} → ErasesTo x y → y ≡ z → ErasesTo x z
erases-to h e = record { tame = h.tame; same = h.same ∙ e }

module _ (laws : TextLaws) where
  pub erases-append : (x y u v : List ℕ) → ErasesTo x y → ErasesTo u v → ErasesTo (x ++ u) (y ++ v)
  erases-append x y u v h k = record {
    tame = laws.append-tame x u h.tame k.tame;
    same =
        laws.erase-append x u h.tame k.tame ∙ ap₂ (λ a b. a ++ b) h.same k.same;
  }

  pub erases-clean : (x : List ℕ) → IsClean x → ErasesTo x x
  erases-clean x h = record { tame = plain-tame laws x h; same = plain-erase laws x h }

  pub erases-print : (xs ys : List Fragment) → AreInPlain xs ys → ErasesTo (print xs) (print ys)
  erases-print xs ys h = record {
    tame = laws.print-tame xs h.clean;
    same = laws.print-erase xs h.clean
        ∙ ap print h.same;
  }

  pub erases-leading : (x y : List ℕ) → ErasesTo x y → ErasesTo (trim_leading_feeds x) (trim_leading_feeds y)
  erases-leading x y h = record {
    tame = laws.leading-tame x h.tame;
    same = laws.leading-erase x h.tame
        ∙ ap trim_leading_feeds h.same;
  }

  pub erases-trailing : (x y : List ℕ) → ErasesTo x y → ErasesTo (trim_trailing_feeds x) (trim_trailing_feeds y)
  erases-trailing x y h = record {
    tame = laws.trailing-tame x h.tame;
    same = laws.trailing-erase x h.tame
        ∙ ap trim_trailing_feeds h.same;
  }

  pub erases-if : (b : Bool) (x y u v : List ℕ) → ErasesTo x y → ErasesTo u v
      → ErasesTo (if b then x else u) (if b then y else v)
  erases-if true x y u v h k = h
  erases-if false x y u v h k = k

  pub erases-only_if : (b : Bool) (x y : List ℕ) → ErasesTo x y → ErasesTo (only_if b x) (only_if b y)
  erases-only_if true x y h = h
  erases-only_if false x y h = erases-clean [] refl

  abbrev plan : GraphicalSettings → List ℕ → List ℕ → WrapPlan (List ℕ)
  plan s first further = record {
    room = s.width - 2;
    first = first;
    further = further;
    break_words = s.wrapping.break_words;
    wrap_lines =
        s.wrapping.wrap_lines;
    separator = s.wrapping.word_separator;
    split_hyphens = cuts_hyphens s.wrapping.word_splitter;
  }

  pub erases-under : (s : GraphicalSettings) (styles : Styles) (f f2 g g2 : List Fragment) (x y : List ℕ)
      → AreInPlain f f2 →
      AreInPlain g g2 → ErasesTo x y → ErasesTo (wrapped_under s f g x) (wrapped_under (restyled s styles) f2 g2 y)
  erases-under s styles f f2 g g2 x y a b h =
      let p = erases-print f f2 a in
      let q = erases-print g g2 b in
      let all : AllTame (plan s (print f) (print g)) x = record { first = p.tame; further = q.tame; inner = h.tame } in
      record {
        tame = laws.wrapped-tame (plan s (print f) (print g)) x all;
        same =
            laws.erase-wrapped (plan s (print f) (print g)) x all
            ∙ ap (λ t. wrapped_text (plan s t (erase (print g))) (erase x)) p.same
            ∙ ap (λ t. wrapped_text (plan s (print f2) t) (erase x)) q.same
            ∙ ap (λ t. wrapped_text (plan s (print f2) (print g2)) t) h.same;
      }

  -- Colours have no columns.
  pub columns-plain : (xs ys : List Fragment) → AreInPlain xs ys → printed_columns (tokens (print ys))
      ≡ printed_columns (tokens (print xs))
  columns-plain xs ys h =
      let p = erases-print xs ys h in
      ap (λ t. printed_columns (tokens t)) (sym p.same) ∙ laws.erase-columns (print xs) p.tame

  pub erases-feed : ErasesTo line_feed line_feed
  erases-feed = erases-clean line_feed refl

  pub erases-rows : (rs : List (List Fragment)) → HaveNoEscapes rs
      → ErasesTo (rows_text rs) (rows_text (map (map made_plain) rs))
  erases-rows [] h = erases-clean [] refl
  erases-rows (r ∷ rs) h =
      erases-append (print r ++ line_feed) (print (map made_plain r) ++ line_feed) (rows_text rs)
      (rows_text (map (map made_plain) rs))
      (erases-append (print r) (print (map made_plain r)) line_feed line_feed
      (erases-print r (map made_plain r) (record { clean = h.0; same = refl })) erases-feed)
      (erases-rows rs h.1)
