-- The parts of a diagnostic's text, without their colours.
use Rattle.std.proofs.Common.{◌≡◌, ℕ, ◌-◌, Bool, true, false, List, [], ◌∷◌, ◌++◌, refl, sym, ap, ap₂, ◌∙◌, chars}
use Rattle.std.proofs.Common.{Option, Some, None, IfSome}
use Rattle.miette_lines.specs.rules.Lists.{is_nil}
use Rattle.miette_runs.specs.rules.Runs.{Fragment, Styled, print}
use Rattle.miette_style.specs.rules.Styles.{plain}
use Rattle.miette_tree.specs.rules.Diagnosis.{Diagnosis}
use Rattle.miette_protocol.specs.rules.Reading.{Source}
use Rattle.miette_protocol.specs.declared.protocol.Severity.{Severity}
use Rattle.miette_protocol.specs.declared.protocol.Severity.TheVariants.{Advice, Warning, Error}
use Rattle.miette_graphical_rules.specs.rules.GraphicalSettings.{GraphicalSettings, icon, icon_in, style_in}
use Rattle.miette_graphical_rules.specs.declared.settings.UrlMode.{UrlMode}
use Rattle.miette_graphical_rules.specs.declared.settings.UrlMode.TheVariants.{Links, Text, Hidden}
use Rattle.miette_graphical_rules.specs.rules.GraphicalSettings.{severity_style}
use Rattle.miette_style.specs.rules.Themes.{Characters}
use Rattle.miette_style.specs.declared.style.Style.{Style}
use Rattle.miette_graphical_rules.proofs.TextLaws.{TextLaws}
use Rattle.miette_graphical_rules.specs.rules.Answers.{DiagnosticAnswer}
use Rattle.miette_graphical_rules.specs.rules.Indents.{bare_text, spaces, wrapped_under, icon_indent, bar_indent}
use Rattle.miette_graphical_rules.specs.rules.Indents.{arrow_text}
use Rattle.miette_graphical_rules.specs.rules.Indents.{stem_text, arrow_indent, stem_indent, help_indent}
use Rattle.miette_graphical_rules.specs.rules.Indents.{further_help_indent}
use Rattle.miette_graphical_rules.specs.rules.Indents.{fix_indent, footer_indent, further_fix_indent, narrow_settings}
use Rattle.miette_graphical_rules.specs.rules.DiagnosticText.{footer_of, line_feed, header, header_by, message_text}
use Rattle.miette_graphical_rules.specs.rules.DiagnosticText.{help_text, footer_text, under_arrow, header_or_end}
use Rattle.miette_graphical_rules.specs.rules.DiagnosticText.{title_text}
use Rattle.miette_graphical_rules.specs.rules.DiagnosticText.{Drawing, ShownFix, fix_text, fixes_text, rows_text}
use Rattle.miette_tree.specs.rules.DiagnosticParts.{severity_title}
use Rattle.miette_graphical_rules.specs.rules.Text.{cause_texts, inner_text, body_over, drawn_text}
use Rattle.miette_tree.specs.rules.Tree.{effective}
use Rattle.std.specs.List.{AllByRecursion}
use Rattle.miette_snippet_laws.specs.laws.Clean.{IsClean, IsCleanText, IsCleanSource}
use Rattle.miette_snippet_laws.specs.laws.PlainStyles.{AreAllPlain}
use Rattle.miette_snippet_laws.proofs.PlainStyles.{plain_styles_are_plain, plain_styles}
use Rattle.miette_snippet_laws.proofs.CleanTexts.{clean_cons, clean_append}
use Rattle.miette_graphical_rules.specs.laws.Clean.{AreCleanCharacters, AreCleanSettings, IsCleanMeaning}
use Rattle.miette_graphical_rules.specs.laws.PlainTexts.{AreDrawings, ArePlainFixes, IsCleanShown, IsPlainFix, restyled}
use Rattle.miette_graphical_rules.specs.laws.PlainTexts.{unhighlighted}
use Rattle.miette_graphical_rules.proofs.Erasing.{ErasesTo, AreInPlain, erases-to, erases-append, erases-clean}
use Rattle.miette_graphical_rules.proofs.Erasing.{erases-print, erases-leading, erases-under, erases-feed, erases-rows}
use Rattle.miette_graphical_rules.proofs.Erasing.{columns-plain}

-- in plain styles with these highlights
abbrev pub plain_with : List Style → GraphicalSettings → GraphicalSettings
plain_with hs s = restyled s (plain_styles hs)

module _ (laws : TextLaws) (hs : List Style) (are_plain : AreAllPlain hs) where
  -- ---- styles and characters

  style-plain : (v : Option Severity) → plain ≡ style_in (plain_styles hs) v
  style-plain None = refl
  style-plain (Some Error) = refl
  style-plain (Some Warning) = refl
  style-plain (Some Advice) = refl

  icon-clean : (c : Characters) (v : Option Severity) → AreCleanCharacters c → IsClean (icon_in c v)
  icon-clean c None h = h.error
  icon-clean c (Some Error) h = h.error
  icon-clean c (Some Warning) h = h.warning
  icon-clean c (Some Advice) h = h.advice

  arrow-clean : (s : GraphicalSettings) (b : Bool) → AreCleanSettings s → IsClean (arrow_text s b)
  arrow-clean s true h = let k = h.0.drawings in
      clean_cons s.theme.characters.lbot (s.theme.characters.hbar ∷ s.theme.characters.rarrow ∷ spaces 1) k.lbot
      (clean_cons s.theme.characters.hbar (s.theme.characters.rarrow ∷ spaces 1) k.hbar
      (clean_cons s.theme.characters.rarrow (spaces 1) k.rarrow refl))
  arrow-clean s false h = let k = h.0.drawings in
      clean_cons s.theme.characters.lcross (s.theme.characters.hbar ∷ s.theme.characters.rarrow ∷ spaces 1) k.lcross
      (clean_cons s.theme.characters.hbar (s.theme.characters.rarrow ∷ spaces 1) k.hbar
      (clean_cons s.theme.characters.rarrow (spaces 1) k.rarrow refl))

  stem-clean : (s : GraphicalSettings) (b : Bool) → AreCleanSettings s → IsClean (stem_text s b)
  stem-clean s true h = refl
  stem-clean s false h = let k = h.0.drawings in clean_cons s.theme.characters.vbar (spaces 3) k.vbar refl

  -- ---- indents

  plain-icon : (s : GraphicalSettings) (v : Option Severity) → AreCleanSettings s
      → AreInPlain (icon_indent s v) (icon_indent (plain_with hs s) v)
  plain-icon s v h = record {
    clean = (refl, (icon-clean s.theme.characters v h.0, (refl, tt)));
    same = ap (λ st. bare_text (spaces 2) ∷ Styled st (icon s v) ∷ bare_text (spaces 1) ∷ [])
        (style-plain v);
  }

  plain-bar : (s : GraphicalSettings) (v : Option Severity) → AreCleanSettings s
      → AreInPlain (bar_indent s v) (bar_indent (plain_with hs s) v)
  plain-bar s v h = let k = h.0.drawings in record {
    clean = (refl, (clean_cons s.theme.characters.vbar [] k.vbar refl, (refl, tt)));
    same = ap (λ st. bare_text (spaces 2) ∷ Styled st (s.theme.characters.vbar ∷ []) ∷ bare_text (spaces 1) ∷ [])
        (style-plain v);
  }

  -- what an arrow draws is the same in all styles
  arrow-same : (s : GraphicalSettings) (b : Bool) → arrow_text s b ≡ arrow_text (plain_with hs s) b
  arrow-same s true = refl
  arrow-same s false = refl

  stem-same : (s : GraphicalSettings) (b : Bool) → stem_text s b ≡ stem_text (plain_with hs s) b
  stem-same s true = refl
  stem-same s false = refl

  plain-arrow : (s : GraphicalSettings) (v : Option Severity) (b : Bool) → AreCleanSettings s
      → AreInPlain (arrow_indent s v b) (arrow_indent (plain_with hs s) v b)
  plain-arrow s v b h = record {
    clean = (arrow-clean s b h, tt);
    same = ap₂ (λ st t. Styled st t ∷ []) (style-plain v) (arrow-same s b);
  }

  plain-stem : (s : GraphicalSettings) (v : Option Severity) (b : Bool) → AreCleanSettings s
      → AreInPlain (stem_indent s v b) (stem_indent (plain_with hs s) v b)
  plain-stem s v b h = record {
    clean = (stem-clean s b h, tt);
    same = ap₂ (λ st t. Styled st t ∷ []) (style-plain v) (stem-same s b);
  }

  -- Colours change no inner width.
  pub narrowed-plain : (s : GraphicalSettings) (v : Option Severity) (b : Bool) → AreCleanSettings s
      → plain_with hs (narrow_settings s v b) ≡ narrow_settings (plain_with hs s) v b
  narrowed-plain s v b h = ap (λ n. record (plain_with hs s) { width = s.width - n })
      (sym (columns-plain laws (stem_indent s v b) (stem_indent (plain_with hs s) v b) (plain-stem s v b h)))

  -- ---- header

  plain-header_by : (u : UrlMode) (s : GraphicalSettings) (v : Option Severity) (url code : Option (List ℕ))
      → AreCleanSettings s
      → IfSome url IsCleanText → IfSome code IsCleanText →
      AreInPlain (header_by u s (severity_style s v) url code) (header_by u (plain_with hs s) plain url code)
  plain-header_by Links s v (Some url) (Some code) h k j =
      record { clean = (k, (clean_append (chars code) (32 ∷ []) j refl, (h.1, (tt, (refl, tt))))); same = refl }
  plain-header_by Links s v (Some url) None h k j = record { clean = (k, (h.1, (tt, (refl, tt)))); same = refl }
  plain-header_by Links s v None (Some code) h k j = record { clean = (j, (refl, tt)); same = refl }
  plain-header_by Links s v None None h k j = record { clean = tt; same = refl }
  plain-header_by Text s v (Some url) (Some code) h k j =
      record { clean = (j, (refl, (k, (refl, (refl, tt))))); same = refl }
  plain-header_by Text s v (Some url) None h k j = record { clean = tt; same = refl }
  plain-header_by Text s v None (Some code) h k j = record { clean = (j, (refl, tt)); same = refl }
  plain-header_by Text s v None None h k j = record { clean = tt; same = refl }
  plain-header_by Hidden s v url (Some code) h k j = record { clean = (j, (refl, tt)); same = refl }
  plain-header_by Hidden s v url None h k j = record { clean = tt; same = refl }

  plain-header : (s : GraphicalSettings) (m : Diagnosis) → AreCleanSettings s → IsCleanMeaning m
      → AreInPlain (header s m) (header (plain_with hs s) m)
  plain-header s m h k =
      let p = plain-header_by s.urls s m.severity m.url m.code h k.url k.code in
      record {
        clean = p.clean;
        same = p.same ∙ ap (λ st. header_by s.urls (plain_with hs s) st m.url m.code)
            (style-plain m.severity);
      }

  plain-or_end : (xs ys : List Fragment) → AreInPlain xs ys → AreInPlain (header_or_end xs) (header_or_end ys)
  plain-or_end [] ys h = record { clean = (refl, tt); same = ap header_or_end h.same }
  plain-or_end (x ∷ xs) ys h = record { clean = h.clean; same = ap header_or_end h.same }

  -- ---- message, help, footer

  pub erases-header : (s : GraphicalSettings) (m : Diagnosis) → AreCleanSettings s → IsCleanMeaning m
      → ErasesTo (print (header s m)) (print (header (plain_with hs s) m))
  erases-header s m h k = erases-print laws (header s m) (header (plain_with hs s) m) (plain-header s m h k)

  title-clean : (v : Option Severity) → IsClean (severity_title v)
  title-clean None = refl
  title-clean (Some Error) = refl
  title-clean (Some Warning) = refl
  title-clean (Some Advice) = refl

  pub erases-title : (s : GraphicalSettings) (m : Diagnosis) → AreCleanSettings s → IsCleanMeaning m
      → ErasesTo (title_text s m) (title_text (plain_with hs s) m)
  erases-title s m h k =
      erases-append laws (line_feed ++ severity_title m.severity) (line_feed ++ severity_title m.severity)
      (print (header_or_end (header s m))) (print (header_or_end (header (plain_with hs s) m)))
      (erases-clean laws (line_feed ++ severity_title m.severity) (title-clean m.severity))
      (erases-print laws (header_or_end (header s m)) (header_or_end (header (plain_with hs s) m))
      (plain-or_end (header s m) (header (plain_with hs s) m) (plain-header s m h k)))

  erases-line : (x y : List ℕ) → ErasesTo x y → ErasesTo (x ++ line_feed) (y ++ line_feed)
  erases-line x y h = erases-append laws x y line_feed line_feed h (erases-feed laws)

  erases-message : (s : GraphicalSettings) (m : Diagnosis) → AreCleanSettings s → IsCleanMeaning m
      → ErasesTo (message_text s m) (message_text (plain_with hs s) m)
  erases-message s m h k =
      erases-line (wrapped_under s (icon_indent s m.severity) (bar_indent s m.severity) (chars m.message))
      (wrapped_under (plain_with hs s) (icon_indent (plain_with hs s) m.severity)
      (bar_indent (plain_with hs s) m.severity) (chars m.message))
      (erases-under laws s (plain_styles hs) (icon_indent s m.severity) (icon_indent (plain_with hs s) m.severity)
      (bar_indent s m.severity) (bar_indent (plain_with hs s) m.severity) (chars m.message) (chars m.message)
      (plain-icon s m.severity h) (plain-bar s m.severity h) (erases-clean laws (chars m.message) k.message))

  plain-help : (s : GraphicalSettings) → AreCleanSettings s → AreInPlain (help_indent s) (help_indent (plain_with hs s))
  plain-help s h = record { clean = (refl, tt); same = refl }

  plain-spaces : AreInPlain further_help_indent further_help_indent
  plain-spaces = record { clean = (refl, tt); same = refl }

  plain-footer : AreInPlain footer_indent footer_indent
  plain-footer = record { clean = (refl, tt); same = refl }

  erases-help : (s : GraphicalSettings) (help : Option (List ℕ)) → AreCleanSettings s → IfSome help IsCleanText
      → ErasesTo (help_text s help) (help_text (plain_with hs s) help)
  erases-help s None h k = erases-clean laws [] refl
  erases-help s (Some help) h k =
      erases-line (wrapped_under s (help_indent s) further_help_indent (chars help))
      (wrapped_under (plain_with hs s) (help_indent (plain_with hs s)) further_help_indent (chars help))
      (erases-under laws s (plain_styles hs) (help_indent s) (help_indent (plain_with hs s)) further_help_indent
      further_help_indent (chars help) (chars help) (plain-help s h) plain-spaces (erases-clean laws (chars help) k))

  plain-fix : (s : GraphicalSettings) → AreCleanSettings s → AreInPlain (fix_indent s) (fix_indent (plain_with hs s))
  plain-fix s h = record { clean = (refl, tt); same = refl }

  plain-fix-spaces : AreInPlain further_fix_indent further_fix_indent
  plain-fix-spaces = record { clean = (refl, tt); same = refl }

  erases-fix : (s : GraphicalSettings) (fix fix2 : ShownFix) → AreCleanSettings s → IsCleanShown fix
      → IsPlainFix fix2 fix
      → ErasesTo (fix_text s fix) (fix_text (plain_with hs s) fix2)
  erases-fix s fix fix2 h k j =
      let message = wrapped_under s (fix_indent s) further_fix_indent (chars fix.message) in
      let other = wrapped_under (plain_with hs s) (fix_indent (plain_with hs s)) further_fix_indent
      (chars fix2.message) in
      erases-append laws (message ++ line_feed) (other ++ line_feed) (rows_text fix.rows) (rows_text fix2.rows)
      (erases-line message other
      (erases-under laws s (plain_styles hs) (fix_indent s) (fix_indent (plain_with hs s)) further_fix_indent
      further_fix_indent (chars fix.message) (chars fix2.message) (plain-fix s h) plain-fix-spaces
      (erases-to (erases-clean laws (chars fix.message) k.message) (ap chars (sym j.message)))))
      (erases-to (erases-rows laws fix.rows k.rows) (sym j.rows))

  erases-fixes : (s : GraphicalSettings) (fixes fixes2 : List ShownFix) → AreCleanSettings s
      → AllByRecursion IsCleanShown fixes
      → ArePlainFixes fixes2 fixes → ErasesTo (fixes_text s fixes) (fixes_text (plain_with hs s) fixes2)
  erases-fixes s [] [] h k j = erases-clean laws [] refl
  erases-fixes s [] (fix2 ∷ fixes2) h k j = absurd j
  erases-fixes s (fix ∷ fixes) [] h k j = absurd j
  erases-fixes s (fix ∷ fixes) (fix2 ∷ fixes2) h k j =
      erases-append laws (fix_text s fix) (fix_text (plain_with hs s) fix2) (fixes_text s fixes)
      (fixes_text (plain_with hs s) fixes2) (erases-fix s fix fix2 h k.0 j.0) (erases-fixes s fixes fixes2 h k.1 j.1)

  erases-footer_of : (s : GraphicalSettings) (footer : Option (List ℕ)) → IfSome footer IsClean
      → ErasesTo (footer_of s footer) (footer_of (plain_with hs s) footer)
  erases-footer_of s None k = erases-clean laws [] refl
  erases-footer_of s (Some footer) k =
      erases-line (line_feed ++ wrapped_under s footer_indent footer_indent footer)
      (line_feed ++ wrapped_under (plain_with hs s) footer_indent footer_indent footer)
      (erases-append laws line_feed line_feed (wrapped_under s footer_indent footer_indent footer)
      (wrapped_under (plain_with hs s) footer_indent footer_indent footer) (erases-feed laws)
      (erases-under laws s (plain_styles hs) footer_indent footer_indent footer_indent footer_indent footer footer
      plain-footer plain-footer (erases-clean laws footer k)))

  pub erases-footer : (s : GraphicalSettings) → AreCleanSettings s → ErasesTo (footer_text s)
      (footer_text (plain_with hs s))
  erases-footer s h = erases-footer_of s s.footer h.2

  -- ---- causes

  pub erases-under_arrow : (s : GraphicalSettings) (v : Option Severity) (b : Bool) (x y : List ℕ) → AreCleanSettings s
      → ErasesTo x y → ErasesTo (under_arrow s v b x) (under_arrow (plain_with hs s) v b y)
  erases-under_arrow s v b x y h k =
      erases-line (wrapped_under s (arrow_indent s v b) (stem_indent s v b) x)
      (wrapped_under (plain_with hs s) (arrow_indent (plain_with hs s) v b) (stem_indent (plain_with hs s) v b) y)
      (erases-under laws s (plain_styles hs) (arrow_indent s v b) (arrow_indent (plain_with hs s) v b)
      (stem_indent s v b) (stem_indent (plain_with hs s) v b) x y (plain-arrow s v b h) (plain-stem s v b h) k)

  pub erases-cause_texts : (s : GraphicalSettings) (v : Option Severity) (ts : List (List ℕ)) → AreCleanSettings s
      → AllByRecursion IsCleanText ts → ErasesTo (cause_texts s v ts) (cause_texts (plain_with hs s) v ts)
  erases-cause_texts s v [] h k = erases-clean laws [] refl
  erases-cause_texts s v (t ∷ ts) h k =
      erases-append laws (under_arrow s v (is_nil ts) (chars t)) (under_arrow (plain_with hs s) v (is_nil ts) (chars t))
      (cause_texts s v ts) (cause_texts (plain_with hs s) v ts)
      (erases-under_arrow s v (is_nil ts) (chars t) (chars t) h (erases-clean laws (chars t) k.0))
      (erases-cause_texts s v ts h k.1)

  -- ---- snippets, and a diagnostic's text

  pub effective-clean : (own inherited : Option Source) → IfSome own IsCleanSource → IfSome inherited IsCleanSource
      → IfSome (effective own inherited) IsCleanSource
  effective-clean None inherited h k = k
  effective-clean (Some s) inherited h k = h

  -- the rows of snippets, help, and fixes
  erases-drawn : (drawing : Drawing) → AreDrawings drawing
      → (s : GraphicalSettings) (m : Diagnosis) (source : Option Source) (a : DiagnosticAnswer) → AreCleanSettings s
      → IsCleanMeaning m
      → IfSome source IsCleanSource →
      ErasesTo (drawn_text drawing s m source a) (drawn_text drawing (plain_with hs s) m source (unhighlighted a))
  erases-drawn drawing law s m source a h k j =
      let rs = drawing.rows s source m a in
      let rs2 = drawing.rows (plain_with hs s) source m (unhighlighted a) in
      let plain_ones = plain_styles_are_plain hs are_plain in
      let snippets : ErasesTo (rows_text rs) (rows_text rs2) =
      erases-to (erases-rows laws rs (law.snippets.clean s source m a h j k))
      (sym (law.snippets.plain s (plain_styles hs) source m a plain_ones)) in
      erases-append laws (rows_text rs ++ help_text s m.help) (rows_text rs2 ++ help_text (plain_with hs s) m.help)
      (fixes_text s (drawing.fixes s source m a))
      (fixes_text (plain_with hs s) (drawing.fixes (plain_with hs s) source m (unhighlighted a)))
      (erases-append laws (rows_text rs) (rows_text rs2) (help_text s m.help) (help_text (plain_with hs s) m.help)
      snippets (erases-help s m.help h k.help))
      (erases-fixes s (drawing.fixes s source m a) (drawing.fixes (plain_with hs s) source m (unhighlighted a)) h
      (law.clean s source m a h j k) (law.plain s (plain_styles hs) source m a plain_ones))

  pub erases-body : (drawing : Drawing) → AreDrawings drawing
      → (s : GraphicalSettings) (m : Diagnosis) (source : Option Source) (a : DiagnosticAnswer)
      (causes causes2 related related2 : List ℕ)
      →
      AreCleanSettings s → IsCleanMeaning m → IfSome source IsCleanSource → ErasesTo causes causes2
      → ErasesTo related related2 →
      ErasesTo (body_over s m (drawn_text drawing s m source a) causes related)
      (body_over (plain_with hs s) m (drawn_text drawing (plain_with hs s) m source (unhighlighted a)) causes2
      related2)
  erases-body drawing law s m source a causes causes2 related related2 h k j p q =
      let own = drawn_text drawing s m source a in
      let own2 = drawn_text drawing (plain_with hs s) m source (unhighlighted a) in
      let one = erases-append laws (message_text s m) (message_text (plain_with hs s) m) causes causes2
      (erases-message s m h k) p in
      let two = erases-append laws (message_text s m ++ causes) (message_text (plain_with hs s) m ++ causes2) own own2
      one (erases-drawn drawing law s m source a h k j) in
      erases-append laws (message_text s m ++ causes ++ own) (message_text (plain_with hs s) m ++ causes2 ++ own2)
      related related2 two q

  pub erases-inner : (drawing : Drawing) → AreDrawings drawing
      → (s : GraphicalSettings) (m : Diagnosis) (source : Option Source) (a : DiagnosticAnswer)
      (related related2 : List ℕ) →
      AreCleanSettings s → IsCleanMeaning m → IfSome source IsCleanSource → ErasesTo related related2 →
      ErasesTo (inner_text drawing s m source a related)
      (inner_text drawing (plain_with hs s) m source (unhighlighted a) related2)
  erases-inner drawing law s m source a related related2 h k j q =
      erases-leading laws (print (header s m) ++ body_over s m (drawn_text drawing s m source a) [] related)
      (print (header (plain_with hs s) m) ++ body_over (plain_with hs s) m
      (drawn_text drawing (plain_with hs s) m source (unhighlighted a)) [] related2)
      (erases-append laws (print (header s m)) (print (header (plain_with hs s) m))
      (body_over s m (drawn_text drawing s m source a) [] related)
      (body_over (plain_with hs s) m (drawn_text drawing (plain_with hs s) m source (unhighlighted a)) [] related2)
      (erases-header s m h k) (erases-body drawing law s m source a [] [] related related2 h k j
      (erases-clean laws [] refl)
      q))
