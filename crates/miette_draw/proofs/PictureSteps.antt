-- Steps of making a picture.
use Rattle.std.proofs.Common.{◌≡◌, ℕ, Bool, List, [], ◌++◌, Option, Result, true, false, IfOk}
use Rattle.std.proofs.Common.{refl, sym, ◌∙◌, ap, ap₂, subst, encode_utf8_all, string_bytes, String}
use Rattle.miette_protocol.specs.views.Meaning.{Meaning}
use Rattle.miette_tree.specs.rules.Tree.{Tree}
use Rattle.miette_tree.proofs.Readings.{none_further}
use Rattle.miette_style.specs.rules.Themes.{no_styles, theme_of, unicode_characters}
use Rattle.miette_style.specs.declared.theme.GraphicalTheme.{GraphicalTheme}
use Rattle.miette_graphical_rules.specs.rules.Answers.{unlisted}
use Rattle.miette_graphical_rules.specs.rules.PrintedDiagnostics.{all_read, diagnostics_of, labels_read}
use Rattle.miette_graphical_rules.proofs.Lists.{labels_of_all}
use Rattle.miette_graphical_rules.specs.views.HandlerState.{HandlerState, draws_plain, without_highlighter}
use Rattle.miette_graphical_rules.specs.rules.Snippets.{whole_drawing}
use Rattle.miette_graphical_rules.specs.rules.Text.{report_text}
use Rattle.miette_graphical_rules.proofs.AlwaysRead.{printed-reads}
use Rattle.miette_draw.specs.rules.Pictures.{draw_settings, over_input, settings_in, IsPicture, IsReadWhole}

-- what the handler is made with
pub plain-settings : {H : Type 0} (limit : Option ℕ) (theme : GraphicalTheme) (made : HandlerState H) → theme_of theme
    ≡ record { characters = unicode_characters; styles = no_styles }
    → made ≡ without_highlighter (settings_in (theme_of theme) limit) → made ≡ without_highlighter (draw_settings limit)
plain-settings limit theme made is m = m ∙ ap (λ t. without_highlighter (settings_in t limit)) is

reads-whole : {H : Type 0} (limit : Option ℕ) (theme : GraphicalTheme) (h : HandlerState H) (t : Tree) → h
    ≡ without_highlighter (draw_settings limit) → IsReadWhole limit t → all_read (diagnostics_of h.settings t) ≡ true
reads-whole limit theme h t same reads = ap (λ u. all_read (diagnostics_of u.settings t)) same ∙ reads

pub pictured : {H : Type 0} (limit : Option ℕ) (is_blank : H → Bool) (theme : GraphicalTheme) (h : HandlerState H)
    (t : Tree) (old new : List ℕ) → theme_of theme ≡ record { characters = unicode_characters; styles = no_styles }
    → h ≡ without_highlighter (draw_settings limit) → old ≡ []
    → (draws_plain is_blank h ≡ true → all_read (diagnostics_of h.settings t) ≡ true → new ≡ old
    ++ encode_utf8_all (report_text whole_drawing h.settings t unlisted))
    → IsReadWhole limit t → IsPicture limit t new
pictured limit is_blank theme h t old new is same none only reads =
    only (ap (draws_plain is_blank) same) (reads-whole limit theme h t same reads)
    ∙ ap₂ (λ o u. o ++ encode_utf8_all (report_text whole_drawing u.settings t unlisted)) none same

pub unrefused : {H : Type 0} (limit : Option ℕ) (theme : GraphicalTheme) (h : HandlerState H) (t : Tree) → h
    ≡ without_highlighter (draw_settings limit)
    → labels_read (diagnostics_of h.settings t) ≡ false → IsReadWhole limit t → ⊥
unrefused limit theme h t same refused reads =
    let k : true ≡ false =
    sym (labels_of_all (diagnostics_of h.settings t) (reads-whole limit theme h t same reads)) ∙ refused in cc

-- of a diagnostic over an input every label is read
pub reads-over : (limit : Option ℕ) (t : Tree) (name : List ℕ) (m : Meaning) (input : List ℕ) → t
    ≡ over_input name m input → IsReadWhole limit t
reads-over limit t name m input same = ap (λ u. all_read (diagnostics_of (draw_settings limit) u)) same
    ∙ printed-reads (draw_settings limit) (over_input name m input) (refl, tt, tt, none_further)

pub over-same : {E Z : Type 0} (limit : Option ℕ) (r : Result (String Z) E) (name : List ℕ) (m n : Meaning)
    (input : List ℕ) → m ≡ n → IfOk r (λ text. IsPicture limit (over_input name m input) (string_bytes text))
    → IfOk r (λ text. IsPicture limit (over_input name n input) (string_bytes text))
over-same limit r name m n input same is = subst (λ v. IfOk r
    (λ text. IsPicture limit (over_input name v input) (string_bytes text))) same is

pub IfOk-same : {E Z : Type 0} (limit : Option ℕ) (r : Result (String Z) E) (t u : Tree) → t ≡ u
    → IfOk r (λ text. IsPicture limit t (string_bytes text)) → IfOk r (λ text. IsPicture limit u (string_bytes text))
IfOk-same limit r t u same is = subst (λ v. IfOk r (λ text. IsPicture limit v (string_bytes text))) same is
