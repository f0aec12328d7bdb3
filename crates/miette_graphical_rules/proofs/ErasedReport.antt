-- A whole report without its colours, by induction over the tree.
use Rattle.std.proofs.Common.{◌≡◌, ℕ, Bool, List, [], ◌++◌, refl, sym, ap, ap₂, ◌∙◌, subst, Option, IfSome}
use Rattle.std.proofs.Common.{if◌then◌else◌}
use Rattle.miette_runs.specs.rules.Runs.{print}
use Rattle.miette_runs.specs.rules.Cutting.{trim_trailing_feeds}
use Rattle.miette_tree.specs.rules.Diagnosis.{Diagnosis}
use Rattle.miette_protocol.specs.rules.Reading.{Source}
use Rattle.miette_tree.specs.rules.Tree.{Tree, tree, Cause, diagnostic, texts, Trees, no_trees, more_trees}
use Rattle.miette_protocol.specs.declared.protocol.Severity.{Severity}
use Rattle.miette_graphical_rules.proofs.TextLaws.{TextLaws}
use Rattle.miette_graphical_rules.specs.rules.GraphicalSettings.{GraphicalSettings}
use Rattle.miette_graphical_rules.specs.rules.Answers.{DiagnosticAnswer, Answers, RelatedAnswers, own_answer}
use Rattle.miette_graphical_rules.specs.rules.Answers.{cause_answers}
use Rattle.miette_graphical_rules.specs.rules.Answers.{related_answers, first_answers, later_answers}
use Rattle.miette_graphical_rules.specs.rules.Indents.{narrow_settings}
use Rattle.miette_graphical_rules.specs.rules.DiagnosticText.{Drawing, header, footer_text, under_arrow, title_text}
use Rattle.miette_graphical_rules.specs.rules.Text.{ends_there, are_last, only_if, inner_text, causes_text, body_over}
use Rattle.miette_graphical_rules.specs.rules.Text.{drawn_text}
use Rattle.miette_graphical_rules.specs.rules.Text.{related_text, report_text}
use Rattle.miette_tree.specs.rules.Tree.{effective}
use Rattle.miette_snippet_laws.specs.laws.Clean.{IsCleanSource}
use Rattle.miette_snippet_laws.specs.laws.PlainStyles.{AreAllPlain, ArePlain}
use Rattle.miette_snippet_laws.proofs.PlainStyles.{are_plain_styles}
use Rattle.miette_style.specs.declared.style.Style.{Style}
use Rattle.miette_style.specs.rules.Themes.{Styles}
use Rattle.miette_graphical_rules.specs.laws.Clean.{AreCleanSettings, IsCleanMeaning, IsCleanTree, IsCleanCause}
use Rattle.miette_graphical_rules.specs.laws.Clean.{AreCleanTrees}
use Rattle.miette_graphical_rules.specs.laws.PlainTexts.{restyled, unhighlighted, unhighlighted_answers}
use Rattle.miette_graphical_rules.specs.laws.PlainTexts.{unhighlighted_related_answers}
use Rattle.miette_graphical_rules.specs.laws.PlainTexts.{AreDrawings}
use Rattle.miette_graphical_rules.proofs.Unhighlighted.{own-unhighlighted, cause-unhighlighted, related-unhighlighted}
use Rattle.miette_graphical_rules.proofs.Unhighlighted.{first-unhighlighted, later-unhighlighted}
use Rattle.miette_graphical_rules.proofs.Erasing.{ErasesTo, erases-to, erases-append, erases-trailing, erases-if}
use Rattle.miette_graphical_rules.proofs.Erasing.{erases-only_if, erases-clean}
use Rattle.miette_graphical_rules.proofs.ErasedParts.{plain_with, narrowed-plain, erases-header, erases-title}
use Rattle.miette_graphical_rules.proofs.ErasedParts.{erases-footer, erases-under_arrow, erases-cause_texts}
use Rattle.miette_graphical_rules.proofs.ErasedParts.{effective-clean, erases-body, erases-inner}

module _ (laws : TextLaws) (hs : List Style) (are_plain : AreAllPlain hs) where
  -- ---- what stands under an arrow

  module _ (drawing : Drawing) (law : AreDrawings drawing) where
    -- an inner report, whose related reports are already known
    inner : (s : GraphicalSettings) (v : Option Severity) (b : Bool) (m : Diagnosis) (source : Option Source)
        (a : Answers)
        (related : GraphicalSettings → RelatedAnswers → List ℕ) →
        AreCleanSettings s → IsCleanMeaning m → IfSome source IsCleanSource →
        ErasesTo (related (narrow_settings s v b) (related_answers a))
        (related (plain_with hs (narrow_settings s v b)) (unhighlighted_related_answers (related_answers a))) →
        ErasesTo (inner_text drawing (narrow_settings s v b) m source (own_answer a)
        (related (narrow_settings s v b) (related_answers a)))
        (inner_text drawing (narrow_settings (plain_with hs s) v b) m source (own_answer (unhighlighted_answers a))
        (related (narrow_settings (plain_with hs s) v b) (related_answers (unhighlighted_answers a))))
    inner s v b m source a related h k j q =
        erases-to
        (erases-inner laws hs are_plain drawing law (narrow_settings s v b) m source (own_answer a)
        (related (narrow_settings s v b) (related_answers a))
        (related (plain_with hs (narrow_settings s v b)) (unhighlighted_related_answers (related_answers a))) h k j q)
        (ap (λ n. inner_text drawing n m source (unhighlighted (own_answer a))
        (related n (unhighlighted_related_answers (related_answers a)))) (narrowed-plain laws hs are_plain s v b h)
        ∙ ap₂ (λ o r. inner_text drawing (narrow_settings (plain_with hs s) v b) m source o
        (related (narrow_settings (plain_with hs s) v b) r)) (own-unhighlighted a) (related-unhighlighted a))

  -- ---- what is printed without colours, over the answers without pieces

  report-end : (drawing : Drawing) (s : GraphicalSettings) (m : Diagnosis) (own : Option Source) (c : Cause) (r : Trees)
      (a : Answers) →
      print (header (plain_with hs s) m)
      ++ body_over (plain_with hs s) m (drawn_text drawing (plain_with hs s) m own (unhighlighted (own_answer a)))
      (only_if s.cause_chain (causes_text drawing (plain_with hs s) m.severity own c
      (unhighlighted_answers (cause_answers a))))
      (related_text drawing (plain_with hs s) m.severity own r (unhighlighted_related_answers (related_answers a)))
      ++ footer_text (plain_with hs s)
      ≡ report_text drawing (plain_with hs s) (tree m own c r) (unhighlighted_answers a)
  report-end drawing s m own c r a =
      let f = λ (o : DiagnosticAnswer) (below : Answers) (beside : RelatedAnswers).
      print (header (plain_with hs s) m)
      ++ body_over (plain_with hs s) m (drawn_text drawing (plain_with hs s) m own o) (only_if s.cause_chain
      (causes_text drawing (plain_with hs s) m.severity own c below))
      (related_text drawing (plain_with hs s) m.severity own r beside)
      ++ footer_text (plain_with hs s) in
      ap₂ (λ o below. f o below (unhighlighted_related_answers (related_answers a))) (own-unhighlighted a)
      (cause-unhighlighted a)
      ∙ ap (f (own_answer (unhighlighted_answers a)) (cause_answers (unhighlighted_answers a)))
      (related-unhighlighted a)

  module _ (drawing : Drawing) (s : GraphicalSettings) (m : Diagnosis) (outer : Option Severity)
      (own inherited : Option Source)
      (c : Cause) (r ts : Trees) where
    -- related reports, by the answers of the first one's snippets, of its causes, of its related reports, of all of it,
    -- and of the later ones
    abbrev related_by : DiagnosticAnswer → Answers → RelatedAnswers → Answers → RelatedAnswers → List ℕ
    related_by drawn below beside nested later =
        let source = effective own inherited in
        let n = narrow_settings s outer (are_last ts) in
        (if s.related_as_nested then
        under_arrow s outer (are_last ts)
        (trim_trailing_feeds (inner_text drawing n m source (own_answer nested)
        (related_text drawing n m.severity source r (related_answers nested))))
        else title_text s m ++ body_over s m (drawn_text drawing s m source drawn)
        (causes_text drawing s m.severity source c below) (related_text drawing s m.severity source r beside))
        ++ related_text drawing s outer inherited ts later

    related-end : (more : RelatedAnswers) →
        related_by (unhighlighted (own_answer (first_answers more)))
        (unhighlighted_answers (cause_answers (first_answers more)))
        (unhighlighted_related_answers (related_answers (first_answers more)))
        (unhighlighted_answers (first_answers more)) (unhighlighted_related_answers (later_answers more))
        ≡ related_text drawing s outer inherited (more_trees (tree m own c r) ts) (unhighlighted_related_answers more)
    related-end more =
        let a = first_answers more in
        let answers = unhighlighted_answers a in
        let later = unhighlighted_related_answers (later_answers more) in
        ap₂ (λ drawn below. related_by drawn below (unhighlighted_related_answers (related_answers a)) answers later)
        (own-unhighlighted a) (cause-unhighlighted a)
        ∙ ap (λ beside. related_by (own_answer answers) (cause_answers answers) beside answers later)
        (related-unhighlighted a)
        ∙ ap₂ (λ b l. related_by (own_answer b) (cause_answers b) (related_answers b) b l) (first-unhighlighted more)
        (later-unhighlighted more)

  -- ---- the induction

  mutual
    erases-causes : (drawing : Drawing) → AreDrawings drawing
        → (s : GraphicalSettings) (outer : Option Severity) (inherited : Option Source) (c : Cause) (a : Answers) →
        AreCleanSettings s → IfSome inherited IsCleanSource → IsCleanCause c →
        ErasesTo (causes_text drawing s outer inherited c a) (causes_text drawing (plain_with hs s) outer inherited c
        (unhighlighted_answers a))
    erases-causes drawing law s outer inherited (texts ts) a h j k = erases-cause_texts laws hs are_plain s outer ts h k
    erases-causes drawing law s outer inherited (diagnostic (tree m own c r)) a h j k =
        let source = effective own inherited in
        let clean = effective-clean laws hs are_plain own inherited k.1 j in
        let b = ends_there c in
        erases-append laws _ _ _ _
        (erases-under_arrow laws hs are_plain s outer b _ _ h
        (inner drawing law s outer b m source a (λ n d. related_text drawing n m.severity source r d) h k.0 clean
        (erases-related drawing law (narrow_settings s outer b) m.severity source r (related_answers a) h clean k.3)))
        (erases-to (erases-causes drawing law s outer inherited c (cause_answers a) h j k.2)
        (ap (causes_text drawing (plain_with hs s) outer inherited c) (cause-unhighlighted a)))

    erases-related : (drawing : Drawing) → AreDrawings drawing
        → (s : GraphicalSettings) (outer : Option Severity) (inherited : Option Source) (ts : Trees)
        (more : RelatedAnswers) →
        AreCleanSettings s → IfSome inherited IsCleanSource → AreCleanTrees ts →
        ErasesTo (related_text drawing s outer inherited ts more)
        (related_text drawing (plain_with hs s) outer inherited ts (unhighlighted_related_answers more))
    erases-related drawing law s outer inherited no_trees more h j k = erases-clean laws [] refl
    erases-related drawing law s outer inherited (more_trees (tree m own c r) ts) more h j k =
        let source = effective own inherited in
        let t = k.0 in
        let clean = effective-clean laws hs are_plain own inherited t.1 j in
        let b = are_last ts in
        let a = first_answers more in
        erases-to
        (erases-append laws _ _ _ _
        (erases-if laws s.related_as_nested _ _ _ _
        (erases-under_arrow laws hs are_plain s outer b _ _ h
        (erases-trailing laws _ _
        (inner drawing law s outer b m source a (λ n d. related_text drawing n m.severity source r d) h t.0 clean
        (erases-related drawing law (narrow_settings s outer b) m.severity source r (related_answers a) h clean t.3))))
        (erases-append laws _ _ _ _
        (erases-title laws hs are_plain s m h t.0)
        (erases-body laws hs are_plain drawing law s m source (own_answer a) _ _ _ _ h t.0 clean
        (erases-causes drawing law s m.severity source c (cause_answers a) h clean t.2)
        (erases-related drawing law s m.severity source r (related_answers a) h clean t.3))))
        (erases-related drawing law s outer inherited ts (later_answers more) h j k.1))
        (related-end drawing (plain_with hs s) m outer own inherited c r ts more)

  erases-report : (drawing : Drawing) → AreDrawings drawing → (s : GraphicalSettings) (t : Tree) (a : Answers) →
      AreCleanSettings s → IsCleanTree t →
      ErasesTo (report_text drawing s t a) (report_text drawing (plain_with hs s) t (unhighlighted_answers a))
  erases-report drawing law s (tree m own c r) a h k =
      erases-to
      (erases-append laws _ _ _ _
      (erases-append laws _ _ _ _
      (erases-header laws hs are_plain s m h k.0)
      (erases-body laws hs are_plain drawing law s m own (own_answer a) _ _ _ _ h k.0 k.1
      (erases-only_if laws s.cause_chain _ _ (erases-causes drawing law s m.severity own c (cause_answers a) h k.1 k.2))
      (erases-related drawing law s m.severity own r (related_answers a) h k.1 k.3)))
      (erases-footer laws hs are_plain s h))
      (report-end drawing s m own c r a)

-- in any plain styles
pub erases-plain : TextLaws → (drawing : Drawing) → AreDrawings drawing
    → (s : GraphicalSettings) (styles : Styles) (t : Tree)
    (a : Answers) → AreCleanSettings s → IsCleanTree t → ArePlain styles →
    ErasesTo (report_text drawing s t a) (report_text drawing (restyled s styles) t (unhighlighted_answers a))
erases-plain laws drawing law s styles t a h k are_plain =
    subst (λ u. ErasesTo (report_text drawing s t a) (report_text drawing (restyled s u) t (unhighlighted_answers a)))
    (sym (are_plain_styles styles are_plain))
    (erases-report laws styles.highlights are_plain.highlights drawing law s t a h k)
