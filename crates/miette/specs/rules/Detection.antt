-- Detection of a terminal, from variables and from which streams go to one. If several cases apply, the first one
-- counts.
use Rattle.std.specs.Prelude.{◌≡◌, ℕ, ◌<◌, ◌≤◌, ◌^◌, ◌⊎◌, ◌||◌, ◌&&◌, Bool, true, false, not, List, Option, None, Some}
use Rattle.std.specs.Prelude.{is_some, if◌then◌else◌, nat_eq, option_map, codes, string_bytes, String}
use Rattle.std.specs.List.{ends_with}
use Rattle.std.specs.Option.{option_or}
use Rattle.std.specs.Str.{bytes_eq}
use Rattle.std.specs.declared.alloc.Global.{Global}
use Rattle.std.specs.Str.Parse.{IsNumeral, digits_value}
use Rattle.miette_style.specs.rules.Themes.{refuses_colours}
use Rattle.miette_style.specs.declared.theme.Terminal.{Terminal}
use Rattle.miette.specs.declared.terminal.Stream.{Stream}
use Rattle.miette.specs.declared.terminal.Stream.TheVariants.{Stdout, Stderr}
use Rattle.miette.specs.declared.terminal.Variables.{Variables}

-- ---- where the variables come from

-- each variable is a possible answer of the system
pub record AreLookedUp (may_be : List ℕ → Option (List ℕ) → Type 0) (v : Variables) : Type 0 where
  pub force_color : may_be (codes "FORCE_COLOR") (option_map string_bytes v.force_color)
  pub no_color : may_be (codes "NO_COLOR") (option_map string_bytes v.no_color)
  pub clicolor : may_be (codes "CLICOLOR") (option_map string_bytes v.clicolor)
  pub colorterm : may_be (codes "COLORTERM") (option_map string_bytes v.colorterm)
  pub term : may_be (codes "TERM") (option_map string_bytes v.term)
  pub term_program : may_be (codes "TERM_PROGRAM") (option_map string_bytes v.term_program)
  pub vte_version : may_be (codes "VTE_VERSION") (option_map string_bytes v.vte_version)
  pub konsole_version : may_be (codes "KONSOLE_VERSION") (option_map string_bytes v.konsole_version)
  pub wt_session : may_be (codes "WT_SESSION") (option_map string_bytes v.wt_session)
  pub lc_all : may_be (codes "LC_ALL") (option_map string_bytes v.lc_all)
  pub lc_ctype : may_be (codes "LC_CTYPE") (option_map string_bytes v.lc_ctype)
  pub lang : may_be (codes "LANG") (option_map string_bytes v.lang)
  pub columns : may_be (codes "COLUMNS") (option_map string_bytes v.columns)
  pub no_graphics : may_be (codes "NO_GRAPHICS") (option_map string_bytes v.no_graphics)

-- the same, and so is whether each stream goes to a terminal
abbrev pub IsToldBy : (List ℕ → Option (List ℕ) → Type 0) → (Stream → Bool → Type 0) → Variables → Type 0
IsToldBy variables terminals v =
    AreLookedUp variables v × terminals Stdout v.stdout_terminal × terminals Stderr v.stderr_terminal

-- ---- single variables

-- a variable is set to this text
abbrev pub is_set_to : Option (String Global) → List ℕ → Bool
is_set_to None wanted = false
is_set_to (Some text) wanted = bytes_eq (string_bytes text) wanted

abbrev pub goes_to_terminal : Variables → Stream → Bool
goes_to_terminal v Stdout = v.stdout_terminal
goes_to_terminal v Stderr = v.stderr_terminal

-- ---- colours: none, some, or 16 million

-- the colors that `FORCE_COLOR` asks for
abbrev pub forced_colours : List ℕ → Option Bool
forced_colours text = if bytes_eq text (codes "0") || bytes_eq text (codes "false") then None
    else Some (bytes_eq text (codes "3"))

-- a terminal without a kind, or a dumb one, has no colors
abbrev pub is_dumb : Option (String Global) → Bool
is_dumb None = true
is_dumb (Some text) = bytes_eq (string_bytes text) (codes "dumb")

abbrev pub lacks_colours : Variables → Stream → Bool
lacks_colours v stream =
    refuses_colours (option_map string_bytes v.no_color) || not (goes_to_terminal v stream)
    || is_set_to v.clicolor (codes "0") || is_dumb v.term

abbrev pub has_many_colours : Variables → Bool
has_many_colours v = is_set_to v.colorterm (codes "truecolor") || is_set_to v.colorterm (codes "24bit")

-- the colors if none are forced
abbrev pub own_colours : Variables → Stream → Option Bool
own_colours v stream = if lacks_colours v stream then None else Some (has_many_colours v)

abbrev pub colours_for : Option (String Global) → Option Bool → Option Bool
colours_for None own = own
colours_for (Some forced) own = forced_colours (string_bytes forced)

abbrev pub colours_of : Variables → Stream → Option Bool
colours_of v stream = colours_for v.force_color (own_colours v stream)

-- ---- characters of Unicode

abbrev pub names_utf8 : List ℕ → Bool
names_utf8 text =
    ends_with nat_eq text (codes "UTF-8") || ends_with nat_eq text (codes "utf-8")
    || ends_with nat_eq text (codes "UTF8") || ends_with nat_eq text (codes "utf8")

abbrev pub is_utf8_locale : Option (String Global) → Bool
is_utf8_locale None = false
is_utf8_locale (Some text) = names_utf8 (string_bytes text)

-- the locale decides, except that the Linux console, which has few glyphs, gets ASCII
abbrev pub draws_unicode : Variables → Bool
draws_unicode v = not (is_set_to v.term (codes "linux"))
    && is_utf8_locale (option_or v.lc_all (option_or v.lc_ctype v.lang))

-- ---- links

abbrev pub is_linking_program : Option (String Global) → Bool
is_linking_program name =
    is_set_to name (codes "iTerm.app") || is_set_to name (codes "WezTerm") || is_set_to name (codes "vscode")
    || is_set_to name (codes "Hyper") || is_set_to name (codes "ghostty") || is_set_to name (codes "zed")

abbrev pub is_linking_kind : Option (String Global) → Bool
is_linking_kind kind =
    is_set_to kind (codes "xterm-kitty") || is_set_to kind (codes "alacritty") || is_set_to kind (codes "xterm-ghostty")

abbrev pub shows_links : Variables → Stream → Bool
shows_links v stream =
    goes_to_terminal v stream
    && (is_linking_program v.term_program || is_linking_kind v.term
    || is_some v.vte_version || is_some v.konsole_version || is_some v.wt_session)

-- ---- the width

-- the number that the text states in digits, from 1 and below 2 ^ 64; none for any other text
abbrev pub IsWidth : Option (List ℕ) → Option ℕ → Type 0
IsWidth None width = width ≡ None
IsWidth (Some text) (Some width) = (0 < width) × IsNumeral 10 text × (digits_value 10 text < 2 ^ 64)
    × (width ≡ digits_value 10 text)
IsWidth (Some text) None = IsNumeral 10 text → (digits_value 10 text ≡ 0) ⊎ (2 ^ 64 ≤ digits_value 10 text)

-- ---- all of it

pub record IsDetected (v : Variables) (stream : Stream) (it : Terminal) : Type 0 where
  pub width : IsWidth (option_map string_bytes v.columns) it.width
  pub color : it.color ≡ colours_of v stream
  pub unicode : it.unicode ≡ draws_unicode v
  pub hyperlinks : it.hyperlinks ≡ shows_links v stream
  pub stdout_terminal : it.stdout_terminal ≡ v.stdout_terminal
  pub stderr_terminal : it.stderr_terminal ≡ v.stderr_terminal
  pub no_graphics : it.no_graphics ≡ v.no_graphics
  pub no_color : it.no_color ≡ v.no_color
