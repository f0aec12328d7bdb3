-- Themes: the characters and styles of a graphical report.
use Rattle.std.specs.Prelude.{ℕ, Bool, List, [], ◌∷◌, Option, Some, None, true, false, ◌&&◌, if◌then◌else◌, not, chars}
use Rattle.std.specs.Prelude.{codes, string_bytes}
use Rattle.std.specs.Option.{option_map}
use Rattle.std.specs.Str.{bytes_eq}
use Rattle.miette_style.specs.rules.Styles.{plain, coloured_style}
use Rattle.miette_style.specs.declared.style.Color.TheVariants.{Red, Green, Yellow, Magenta, Cyan, Rgb}
use Rattle.miette_style.specs.declared.style.Style.{Style}
use Rattle.miette_style.specs.declared.theme.GraphicalTheme.{GraphicalTheme}
use Rattle.miette_style.specs.declared.theme.Terminal.{Terminal}
use Rattle.miette_style.specs.declared.theme.ThemeCharacters.{ThemeCharacters}
use Rattle.miette_style.specs.declared.theme.ThemeStyles.{ThemeStyles}

-- The characters of a graphical report, as codes. An icon is a list of codes.
pub record Characters : Type 0 where
  pub hbar : ℕ
  pub vbar : ℕ
  pub xbar : ℕ
  pub vbar_break : ℕ
  pub uarrow : ℕ
  pub rarrow : ℕ
  pub ltop : ℕ
  pub mtop : ℕ
  pub rtop : ℕ
  pub lbot : ℕ
  pub rbot : ℕ
  pub mbot : ℕ
  pub lbox : ℕ
  pub rbox : ℕ
  pub lcross : ℕ
  pub rcross : ℕ
  pub underbar : ℕ
  pub underline : ℕ
  pub error : List ℕ
  pub warning : List ℕ
  pub advice : List ℕ

-- The styles of a report. Labels, sorted by offset, take the highlights in turn.
pub record Styles : Type 0 where
  pub error : Style
  pub warning : Style
  pub advice : Style
  pub help : Style
  pub link : Style
  pub linum : Style
  pub highlights : List Style

pub record Theme : Type 0 where
  pub characters : Characters
  pub styles : Styles

abbrev pub characters_of : ThemeCharacters → Characters
characters_of c = record {
  hbar = c.hbar;
  vbar = c.vbar;
  xbar = c.xbar;
  vbar_break = c.vbar_break;
  uarrow = c.uarrow;
  rarrow = c.rarrow;
  ltop = c.ltop;
  mtop = c.mtop;
  rtop = c.rtop;
  lbot = c.lbot;
  rbot = c.rbot;
  mbot = c.mbot;
  lbox = c.lbox;
  rbox = c.rbox;
  lcross = c.lcross;
  rcross = c.rcross;
  underbar = c.underbar;
  underline = c.underline;
  error = chars (string_bytes c.error);
  warning = chars (string_bytes c.warning);
  advice = chars (string_bytes c.advice);
}

abbrev pub styles_of : ThemeStyles → Styles
styles_of s = record {
  error = s.error;
  warning = s.warning;
  advice = s.advice;
  help = s.help;
  link = s.link;
  linum = s.linum;
  highlights = s.highlights.items;
}

abbrev pub theme_of : GraphicalTheme → Theme
theme_of t = record { characters = characters_of t.characters; styles = styles_of t.styles }

abbrev pub unicode_characters : Characters
unicode_characters = record {
  hbar = 0x2500;  -- ─
  vbar = 0x2502;  -- │
  xbar = 0x253C;  -- ┼
  vbar_break = 0xB7;  -- ·
  uarrow = 0x25B2;  -- ▲
  rarrow = 0x25B6;  -- ▶
  ltop = 0x256D;  -- ╭
  mtop = 0x252C;  -- ┬
  rtop = 0x256E;  -- ╮
  lbot = 0x2570;  -- ╰
  rbot = 0x256F;  -- ╯
  mbot = 0x2534;  -- ┴
  lbox = 91;  -- [
  rbox = 93;  -- ]
  lcross = 0x251C;  -- ├
  rcross = 0x2524;  -- ┤
  underbar = 0x252C;  -- ┬
  underline = 0x2500;  -- ─
  error = 0xD7 ∷ [];  -- ×
  warning = 0x26A0 ∷ [];  -- ⚠
  advice = 0x261E ∷ [];  -- ☞
}

-- Unicode lines and arrows, with emoji as icons
abbrev pub emoji_characters : Characters
emoji_characters = record unicode_characters {
  error = 0x1F4A5 ∷ [];  -- an explosion
  warning = 0x26A0 ∷ 0xFE0F ∷ [];  -- a warning sign, and what makes a picture of it
  advice = 0x1F4A1 ∷ [];  -- a light bulb
}

abbrev pub ascii_characters : Characters
ascii_characters = record {
  hbar = 45;  -- -
  vbar = 124;  -- |
  xbar = 43;  -- +
  vbar_break = 58;  -- :
  uarrow = 94;  -- ^
  rarrow = 62;  -- >
  ltop = 44;  -- ,
  mtop = 118;  -- v
  rtop = 46;  -- .
  lbot = 96;  -- `
  rbot = 39;  -- '
  mbot = 94;  -- ^
  lbox = 91;  -- [
  rbox = 93;  -- ]
  lcross = 124;  -- |
  rcross = 124;  -- |
  underbar = 124;  -- |
  underline = 94;  -- ^
  error = codes "x";
  warning = codes "!";
  advice = codes ">";
}

-- the terminal's own colours
abbrev pub ansi_styles : Styles
ansi_styles = record {
  error = coloured_style Red;
  warning = coloured_style Yellow;
  advice = coloured_style Cyan;
  help = coloured_style Cyan;
  link = record (coloured_style Cyan) { bold = true; underline = true };
  linum = record plain { dimmed = true };
  highlights = record (coloured_style Magenta) { bold = true }
      ∷ record (coloured_style Yellow) { bold = true }
      ∷ record (coloured_style Green) { bold = true }
      ∷ [];
}

-- RGB colours
abbrev pub rgb_styles : Styles
rgb_styles = record {
  error = coloured_style (Rgb 255 30 30);
  warning = coloured_style (Rgb 244 191 117);
  advice = coloured_style (Rgb 106 159 181);
  help = coloured_style (Rgb 106 159 181);
  link = record (coloured_style (Rgb 92 157 255)) { bold = true; underline = true };
  linum = record plain { dimmed = true };
  highlights = coloured_style (Rgb 246 87 248) ∷ coloured_style (Rgb 30 201 212) ∷ coloured_style (Rgb 145 246 111)
      ∷ [];
}

abbrev pub no_styles : Styles
no_styles = record {
  error = plain;
  warning = plain;
  advice = plain;
  help = plain;
  link = plain;
  linum = plain;
  highlights = plain ∷ [];
}

-- the variable is set, and not to `0`
abbrev pub refuses_colours : Option (List ℕ) → Bool
refuses_colours None = false
refuses_colours (Some text) = not (bytes_eq text (codes "0"))

-- ASCII if the text may go somewhere else than to a terminal; no colours there, or if they are turned off
abbrev pub terminal_theme : Terminal → Theme
terminal_theme t =
    if t.stdout_terminal && t.stderr_terminal then
    record {
      characters = unicode_characters;
      styles = if refuses_colours (option_map string_bytes t.no_color) then no_styles else ansi_styles;
    }
    else
    record { characters = ascii_characters; styles = no_styles }
