-- The shipped themes are one column wide and hold no escape.
use Rattle.std.proofs.Common.{◌≡◌, inl, inr, Bool, true, false, ◌&&◌, if◌then◌else◌, option_map}
use Rattle.std.proofs.Common.{string_bytes, codes, refl, ap, ◌∙◌}
use Rattle.std.specs.Str.{chars}
use Rattle.unicode_width.proofs.Computing.{unicode_width}
use Rattle.miette_style.specs.declared.theme.Terminal.{Terminal}
use Rattle.miette_style.specs.rules.Escapes.{is_escape, no_escape}
use Rattle.miette_style.specs.rules.Themes.{Characters, Theme, ansi_styles, ascii_characters, emoji_characters}
use Rattle.miette_style.specs.rules.Themes.{no_styles, refuses_colours, terminal_theme, unicode_characters}
use Rattle.miette_columns.specs.rules.Widths.{width_of}
use Rattle.miette_snippet_laws.specs.laws.Clean.{IsClean}
use Rattle.miette_graphical_rules.specs.laws.Clean.{AreCleanCharacters, AreCleanSettings}
use Rattle.miette_graphical_rules.specs.laws.CharacterSets.{AreNarrow, AreShipped}
use Rattle.miette_graphical_rules.specs.rules.GraphicalSettings.{default_settings}

-- what each table has, the shipped characters have
pub shipped : {X : Type 0} (c : Characters) → AreShipped c → (f : Characters → X) (x : X) → f unicode_characters ≡ x
    → f emoji_characters ≡ x → f ascii_characters ≡ x → f c ≡ x
shipped c h f x unicode emoji ascii = elim h [
  | inl same ↦ ap f same ∙ unicode
  | inr other ↦ elim other [ inl same ↦ ap f same ∙ emoji | inr same ↦ ap f same ∙ ascii ]
]

pub shipped_narrow : (c : Characters) → AreShipped c → AreNarrow width_of c
unfolding unicode_width
shipped_narrow c h = record {
  hbar = shipped c h (λ c. width_of c.hbar) 1 refl refl refl;
  vbar = shipped c h (λ c. width_of c.vbar) 1 refl refl refl;
  vbar_break = shipped c h (λ c. width_of c.vbar_break) 1 refl refl refl;
  uarrow = shipped c h (λ c. width_of c.uarrow) 1 refl refl refl;
  rarrow = shipped c h (λ c. width_of c.rarrow) 1 refl refl refl;
  ltop = shipped c h (λ c. width_of c.ltop) 1 refl refl refl;
  lbot = shipped c h (λ c. width_of c.lbot) 1 refl refl refl;
  lcross = shipped c h (λ c. width_of c.lcross) 1 refl refl refl;
  rcross = shipped c h (λ c. width_of c.rcross) 1 refl refl refl;
  underbar = shipped c h (λ c. width_of c.underbar) 1 refl refl refl;
  underline = shipped c h (λ c. width_of c.underline) 1 refl refl refl;
}

pub shipped_clean : (c : Characters) → AreShipped c → AreCleanCharacters c
shipped_clean c h =
    record {
      drawings = record {
        hbar = shipped c h (λ c. is_escape c.hbar) false refl refl refl;
        vbar = shipped c h (λ c. is_escape c.vbar) false refl refl refl;
        vbar_break = shipped c h (λ c. is_escape c.vbar_break) false refl refl refl;
        uarrow = shipped c h (λ c. is_escape c.uarrow) false refl refl refl;
        rarrow = shipped c h (λ c. is_escape c.rarrow) false refl refl refl;
        ltop = shipped c h (λ c. is_escape c.ltop) false refl refl refl;
        lbot = shipped c h (λ c. is_escape c.lbot) false refl refl refl;
        lcross = shipped c h (λ c. is_escape c.lcross) false refl refl refl;
        rcross = shipped c h (λ c. is_escape c.rcross) false refl refl refl;
        underbar = shipped c h (λ c. is_escape c.underbar) false refl refl refl;
        underline = shipped c h (λ c. is_escape c.underline) false refl refl refl;
      };
      error = shipped c h (λ c. no_escape c.error) true refl refl refl;
      warning = shipped c h (λ c. no_escape c.warning) true refl refl refl;
      advice = shipped c h (λ c. no_escape c.advice) true refl refl refl;
    }

link_clean : IsClean (chars (codes "(link)"))
unfolding chars
link_clean = refl

pub default_clean : (theme : Theme) → AreShipped theme.characters → AreCleanSettings (default_settings theme)
default_clean theme h = (shipped_clean theme.characters h, link_clean, tt)

either : (b : Bool) (t u : Theme) → AreShipped t.characters → AreShipped u.characters
    → AreShipped (if b then t else u).characters
either true t u h k = h
either false t u h k = k

pub terminal_shipped : (t : Terminal) → AreShipped (terminal_theme t).characters
terminal_shipped t =
    let drawn : Theme = record {
      characters = unicode_characters;
      styles =
          if refuses_colours (option_map string_bytes t.no_color) then no_styles else ansi_styles;
    } in
    let typed : Theme = record { characters = ascii_characters; styles = no_styles } in
    either (t.stdout_terminal && t.stderr_terminal) drawn typed (inl refl) (inr (inr refl))
