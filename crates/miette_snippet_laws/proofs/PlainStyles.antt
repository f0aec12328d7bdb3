-- Plain styles.
use Rattle.std.proofs.Common.{◌≡◌, ℕ, zero, suc, ◌%◌, length, List, [], ◌∷◌, refl, ap₂, ◌∙◌}
use Rattle.std.specs.Prelude.{slice_index_or}
use Rattle.miette_labels.specs.rules.Labels.{style_at}
use Rattle.miette_style.specs.declared.style.Style.{Style}
use Rattle.miette_style.specs.rules.Styles.{plain}
use Rattle.miette_style.specs.rules.Themes.{Styles, no_styles}
use Rattle.miette_snippet_laws.specs.laws.PlainStyles.{AreAllPlain, ArePlain}

-- of which the labels take these highlights in turn
abbrev pub plain_styles : List Style → Styles
plain_styles highlights = record no_styles { highlights = highlights }

pub are_plain_styles : (s : Styles) → ArePlain s → s ≡ plain_styles s.highlights
are_plain_styles s h =
    ap₂ (λ (x y : Style). record s { error = x; warning = y }) h.error h.warning
    ∙ ap₂ (λ (x y : Style). record (plain_styles s.highlights) { advice = x; help = y; link = s.link; linum = s.linum })
    h.advice h.help
    ∙ ap₂ (λ (x y : Style). record (plain_styles s.highlights) { link = x; linum = y }) h.link h.linum

pub plain_styles_are_plain : (hs : List Style) → AreAllPlain hs → ArePlain (plain_styles hs)
plain_styles_are_plain hs h = record {
  error = refl;
  warning = refl;
  advice = refl;
  help = refl;
  link = refl;
  linum = refl;
  highlights = h;
}

pub none_are_plain : ArePlain no_styles
none_are_plain = plain_styles_are_plain (plain ∷ []) (refl, tt)

index_plain : (hs : List Style) (k : ℕ) → AreAllPlain hs → slice_index_or hs k plain ≡ plain
index_plain [] k h = refl
index_plain (style ∷ hs) zero h = h.0
index_plain (style ∷ hs) (suc k) h = index_plain hs k h.1

-- the style of a label
pub plain_at : (hs : List Style) (i : ℕ) → AreAllPlain hs → style_at hs i ≡ plain
plain_at [] i h = refl
plain_at (style ∷ hs) i h = index_plain (style ∷ hs) (i % length (style ∷ hs)) h
