-- A report's text holds the snippets and the fixes of each diagnostic that it prints.
use Rattle.std.proofs.Common.{◌≡◌, ℕ, zero, suc, inl, inr, Bool, true, false, if◌then◌else◌, List, [], ◌∷◌, ◌++◌}
use Rattle.std.proofs.Common.{Option, Some, None, refl, sym, ap, ◌∙◌, subst, encode_utf8_all}
use Rattle.std.proofs.lemmas.Option.{same_Some}
use Rattle.miette_runs.specs.rules.Runs.{print}
use Rattle.miette_protocol.specs.declared.protocol.Severity.{Severity}
use Rattle.miette_protocol.specs.rules.Reading.{Source}
use Rattle.miette_tree.specs.rules.Diagnosis.{Diagnosis}
use Rattle.miette_tree.specs.rules.Tree.{effective, Tree, tree, Cause, diagnostic, texts, Trees, no_trees, more_trees}
use Rattle.miette_tree.specs.rules.Tree.{source_of}
use Rattle.miette_graphical_rules.specs.rules.Answers.{DiagnosticAnswer, Answers, RelatedAnswers, own_answer}
use Rattle.miette_graphical_rules.specs.rules.Answers.{cause_answers}
use Rattle.miette_graphical_rules.specs.rules.Answers.{related_answers, first_answers, later_answers}
use Rattle.miette_graphical_rules.specs.rules.DiagnosticText.{Drawing, fix_text, fixes_text, footer_text, header}
use Rattle.miette_graphical_rules.specs.rules.DiagnosticText.{help_text}
use Rattle.miette_graphical_rules.specs.rules.DiagnosticText.{line_feed}
use Rattle.miette_graphical_rules.specs.rules.DiagnosticText.{message_text, rows_text, title_text, under_arrow}
use Rattle.miette_graphical_rules.specs.rules.Indents.{narrow_settings}
use Rattle.miette_graphical_rules.specs.rules.PossibleAnswers.{IsTextOf}
use Rattle.miette_graphical_rules.specs.rules.PrintedDiagnostics.{PrintedDiagnostic, over}
use Rattle.miette_graphical_rules.specs.rules.GraphicalSettings.{GraphicalSettings}
use Rattle.miette_graphical_rules.specs.rules.Text.{are_last, body_over, causes_text, drawn_text, ends_there}
use Rattle.miette_graphical_rules.specs.rules.Text.{only_if, related_text, report_text}
use Rattle.miette_graphical_rules.specs.laws.Alike.{answer_at, numbered_answers}
use Rattle.miette_graphical_rules.specs.laws.HeldRows.{Arrow, EndsRow, HoldsRows, HoldsSnippets, HoldsUnder}
use Rattle.miette_graphical_rules.specs.laws.HeldRows.{IsHoldingText}
use Rattle.miette_graphical_rules.specs.laws.HeldRows.{HoldsFixRows, HoldsFixes, StartsRowIn, arrows_at, cause_arrows}
use Rattle.miette_graphical_rules.specs.laws.HeldRows.{cut_text}
use Rattle.miette_graphical_rules.specs.laws.HeldRows.{fixes_text_at}
use Rattle.miette_graphical_rules.specs.laws.HeldRows.{related_arrows, snippet_rows_at, snippets_text_at}
use Rattle.miette_graphical_rules.specs.laws.Paths.{Step, to_cause, to_related, at_cause, at_related, printed_at}
use Rattle.miette_graphical_rules.proofs.Rows.{IsEnded, above-ended, after-stands, ahead-stands, arrow-ended}
use Rattle.miette_graphical_rules.proofs.Rows.{body-ended}
use Rattle.miette_graphical_rules.proofs.Rows.{body-grouped, bytes-stand, drawn-ended, drawn-rows, ended-rows}
use Rattle.miette_graphical_rules.proofs.Rows.{fixes-rows}
use Rattle.miette_graphical_rules.proofs.Rows.{help-rows, here-stands, row-stands, rows-after, texts-rows, whole-stands}
use Rattle.miette_graphical_rules.proofs.Rows.{fix-row-stands, fix-stands, within-stands}

-- ---- what a part holds, the whole holds

-- what is drawn, in settings
abbrev Drawn : Type 0
Drawn = GraphicalSettings → List ℕ

ahead : (arrows : List Arrow) (s : GraphicalSettings) (drawn : Drawn) (x text : List ℕ) → EndsRow x
    → HoldsUnder arrows s drawn text → HoldsUnder arrows s drawn (x ++ text)
ahead [] s drawn x text h k = ahead-stands x (drawn s) text h k
ahead (arrow ∷ arrows) s drawn x text h k = (
  k.0,
  ahead-stands x (under_arrow s arrow.outer arrow.is_last (cut_text arrow k.0)) text h k.1,
  k.2,
)

holds_after : (arrows : List Arrow) (s : GraphicalSettings) (drawn : Drawn) (y text : List ℕ)
    → HoldsUnder arrows s drawn text
    → HoldsUnder arrows s drawn (text ++ y)
holds_after [] s drawn y text k = after-stands y (drawn s) text k
holds_after (arrow ∷ arrows) s drawn y text k = (
  k.0,
  after-stands y (under_arrow s arrow.outer arrow.is_last (cut_text arrow k.0)) text k.1,
  k.2,
)

-- ---- in a body, below whatever text

drawn_below : (x : List ℕ) (s : GraphicalSettings) (m : Diagnosis) (drawn causes related : List ℕ) → EndsRow causes
    → StartsRowIn drawn (x ++ body_over s m drawn causes related)
drawn_below x s m drawn causes related h =
    let above = (x ++ message_text s m) ++ causes in
    subst (StartsRowIn drawn) (sym (body-grouped x s m drawn causes related))
    (after-stands related drawn (above ++ drawn)
    (ahead-stands above drawn drawn
    (inr (ended-rows (x ++ message_text s m) causes (above-ended x s m) h)) (whole-stands drawn)))

causes_below : (arrows : List Arrow) (s : GraphicalSettings) (at : Drawn) (x : List ℕ) (m : Diagnosis)
    (drawn causes related : List ℕ) → HoldsUnder arrows s at causes
    → HoldsUnder arrows s at (x ++ body_over s m drawn causes related)
causes_below arrows s at x m drawn causes related k =
    let above = x ++ message_text s m in
    subst (HoldsUnder arrows s at) (sym (body-grouped x s m drawn causes related))
    (holds_after arrows s at related (above ++ causes ++ drawn)
    (holds_after arrows s at drawn (above ++ causes) (ahead arrows s at above causes (inr (above-ended x s m)) k)))

related_below : (arrows : List Arrow) (s : GraphicalSettings) (at : Drawn) (x : List ℕ) (m : Diagnosis)
    (drawn causes related : List ℕ) → EndsRow drawn → EndsRow causes → HoldsUnder arrows s at related
    → HoldsUnder arrows s at (x ++ body_over s m drawn causes related)
related_below arrows s at x m drawn causes related d h k =
    subst (HoldsUnder arrows s at) (sym (body-grouped x s m drawn causes related))
    (ahead arrows s at ((x ++ message_text s m) ++ causes ++ drawn) related
    (inr (drawn-ended x s m drawn causes d h)) k)

-- what stands in what is drawn
within : (arrows : List Arrow) (s : GraphicalSettings) (part drawn : Drawn) (text : List ℕ)
    → ((u : GraphicalSettings) → StartsRowIn (part u) (drawn u)) → HoldsUnder arrows s drawn text
    → HoldsUnder arrows s part text
within [] s part drawn text h k = within-stands (part s) (drawn s) text (h s) k
within (arrow ∷ arrows) s part drawn text h k = (
  k.0,
  k.1,
  within arrows (narrow_settings s arrow.outer arrow.is_last) part drawn k.0 h k.2,
)

-- one of two texts
chosen : (P : List ℕ → Type 0) (b : Bool) (x y : List ℕ) → b ≡ true → P x → P (if b then x else y)
chosen P true x y e h = h
chosen P false x y e h = absurd (cc)

other : (P : List ℕ → Type 0) (b : Bool) (x y : List ℕ) → b ≡ false → P y → P (if b then x else y)
other P true x y e h = absurd (cc)
other P false x y e h = h

either : (P : List ℕ → Type 0) (b : Bool) (x y : List ℕ) → P x → P y → P (if b then x else y)
either P true x y h k = h
either P false x y h k = k

module _ (drawing : Drawing) where
  -- what is drawn of a printed diagnostic, under an answer and in whatever settings
  abbrev whole_at : PrintedDiagnostic → DiagnosticAnswer → GraphicalSettings → List ℕ
  whole_at p answer s = drawn_text drawing s p.meaning p.source answer

  -- ---- the texts that a report is made of

  -- an inner report, with the line feeds at its ends
  abbrev uncut : GraphicalSettings → Diagnosis → Option Source → DiagnosticAnswer → List ℕ → List ℕ
  uncut s m source a related = print (header s m) ++ body_over s m (drawn_text drawing s m source a) [] related

  abbrev cause_arrow : Option Severity → Cause → Arrow
  cause_arrow outer c = record { outer = outer; is_last = ends_there c; is_related = false }

  abbrev related_arrow : Option Severity → Trees → Arrow
  related_arrow outer ts = record { outer = outer; is_last = are_last ts; is_related = true }

  -- under its arrow
  abbrev under : GraphicalSettings → Arrow → Diagnosis → Option Source → DiagnosticAnswer → List ℕ → List ℕ
  under s arrow m source a related =
      under_arrow s arrow.outer arrow.is_last (cut_text arrow (uncut (narrow_settings s arrow.outer arrow.is_last) m
      source a related))

  -- the related reports of what is under an arrow
  abbrev related_under : GraphicalSettings → Arrow → Diagnosis → Option Source → Trees → Answers → List ℕ
  related_under s arrow m source r a =
      related_text drawing (narrow_settings s arrow.outer arrow.is_last) m.severity source r (related_answers a)

  abbrev first_cause : GraphicalSettings → Option Severity → Option Source → Tree → Answers → List ℕ
  first_cause s outer source (tree m own c r) a =
      under s (cause_arrow outer c) m source (own_answer a) (related_under s (cause_arrow outer c) m source r a)

  abbrev sibling : GraphicalSettings → Option Source → Tree → Answers → List ℕ
  sibling s source (tree m own c r) a =
      title_text s m ++ body_over s m (drawn_text drawing s m source (own_answer a))
      (causes_text drawing s m.severity source c (cause_answers a))
      (related_text drawing s m.severity source r (related_answers a))

  abbrev first_related : GraphicalSettings → Arrow → Option Source → Tree → Answers → List ℕ
  first_related s arrow source (tree m own c r) a =
      if s.related_as_nested then
      under s arrow m source (own_answer a) (related_under s arrow m source r a)
      else sibling s source (tree m own c r) a

  -- ---- they are whole rows

  under-ended : (s : GraphicalSettings) (arrow : Arrow) (m : Diagnosis) (source : Option Source) (a : DiagnosticAnswer)
      (related : List ℕ)
      → IsEnded (under s arrow m source a related)
  under-ended s arrow m source a related =
      arrow-ended s arrow.outer arrow.is_last
      (cut_text arrow (uncut (narrow_settings s arrow.outer arrow.is_last) m source a related))

  text-rows : (s : GraphicalSettings) (m : Diagnosis) (source : Option Source) (a : DiagnosticAnswer)
      → EndsRow (drawn_text drawing s m source a)
  text-rows s m source a =
      let rows = rows_text (drawing.rows s source m a) in
      let fixes = fixes_text s (drawing.fixes s source m a) in
      rows-after (rows ++ help_text s m.help) fixes
      (rows-after rows (help_text s m.help) (drawn-rows (drawing.rows s source m a)) (help-rows s m.help))
      (fixes-rows s (drawing.fixes s source m a))

  mutual
    causes-rows : (s : GraphicalSettings) (outer : Option Severity) (inherited : Option Source) (c : Cause)
        (a : Answers)
        → EndsRow (causes_text drawing s outer inherited c a)
    causes-rows s outer inherited (texts ts) a = texts-rows s outer ts
    causes-rows s outer inherited (diagnostic (tree m own c r)) a =
        inr (ended-rows (first_cause s outer (effective own inherited) (tree m own c r) a)
        (causes_text drawing s outer inherited c (cause_answers a))
        (under-ended s (cause_arrow outer c) m (effective own inherited) (own_answer a)
        (related_under s (cause_arrow outer c) m (effective own inherited) r a))
        (causes-rows s outer inherited c (cause_answers a)))

    first-ended : (s : GraphicalSettings) (arrow : Arrow) (source : Option Source) (t : Tree) (a : Answers)
        → IsEnded (first_related s arrow source t a)
    first-ended s arrow source (tree m own c r) a =
        either IsEnded s.related_as_nested (under s arrow m source (own_answer a) (related_under s arrow m source r a))
        (sibling s source (tree m own c r) a)
        (under-ended s arrow m source (own_answer a) (related_under s arrow m source r a))
        (body-ended (title_text s m) s m (drawn_text drawing s m source (own_answer a))
        (causes_text drawing s m.severity source c (cause_answers a))
        (related_text drawing s m.severity source r (related_answers a))
        (text-rows s m source (own_answer a))
        (causes-rows s m.severity source c (cause_answers a))
        (related-rows s m.severity source r (related_answers a)))

    related-rows : (s : GraphicalSettings) (outer : Option Severity) (inherited : Option Source) (ts : Trees)
        (more : RelatedAnswers) → EndsRow (related_text drawing s outer inherited ts more)
    related-rows s outer inherited no_trees more = inl refl
    related-rows s outer inherited (more_trees (tree m own c r) ts) more =
        inr (ended-rows (first_related s (related_arrow outer ts) (effective own inherited) (tree m own c r)
        (first_answers more))
        (related_text drawing s outer inherited ts (later_answers more))
        (first-ended s (related_arrow outer ts) (effective own inherited) (tree m own c r) (first_answers more))
        (related-rows s outer inherited ts (later_answers more)))

  -- ---- under an arrow

  own_under : (s : GraphicalSettings) (arrow : Arrow) (m : Diagnosis) (source : Option Source) (a : DiagnosticAnswer)
      (related : List ℕ)
      → HoldsUnder (arrow ∷ []) s (whole_at (over source m) a) (under s arrow m source a related)
  own_under s arrow m source a related =
      let n = narrow_settings s arrow.outer arrow.is_last in (
        uncut n m source a related,
        whole-stands (under s arrow m source a related),
        drawn_below (print (header n m)) n m (drawn_text drawing n m source a) [] related (inl refl),
      )

  more_under : (s : GraphicalSettings) (arrow : Arrow) (arrows : List Arrow) (at : Drawn) (m : Diagnosis)
      (source : Option Source)
      (a : DiagnosticAnswer) (related : List ℕ) →
      HoldsUnder arrows (narrow_settings s arrow.outer arrow.is_last) at related
      → HoldsUnder (arrow ∷ arrows) s at (under s arrow m source a related)
  more_under s arrow arrows at m source a related k =
      let n = narrow_settings s arrow.outer arrow.is_last in (
        uncut n m source a related,
        whole-stands (under s arrow m source a related),
        related_below arrows n at (print (header n m)) m (drawn_text drawing n m source a) [] related
            (text-rows n m source a) (inl refl) k,
      )

  -- ---- at each path

  mutual
    causes_hold : (s : GraphicalSettings) (outer : Option Severity) (inherited : Option Source) (c : Cause)
        (a : Answers)
        (nested : Bool) → s.related_as_nested ≡ nested → (path : List Step) (p : PrintedDiagnostic) →
        at_cause nested inherited c path ≡ Some p →
        HoldsUnder (cause_arrows nested outer c path) s (whole_at p (answer_at a path))
        (causes_text drawing s outer inherited c a)
    causes_hold s outer inherited (texts ts) a nested w path p h = absurd (cc)
    causes_hold s outer inherited (diagnostic (tree m own c r)) a nested w [] p h =
        let source = effective own inherited in
        let arrow = cause_arrow outer c in
        subst (λ q. HoldsUnder (arrow ∷ []) s (whole_at q (own_answer a))
        (causes_text drawing s outer inherited (diagnostic (tree m own c r)) a)) (same_Some _ _ h)
        (holds_after (arrow ∷ []) s (whole_at (over source m) (own_answer a))
        (causes_text drawing s outer inherited c (cause_answers a)) (first_cause s outer source (tree m own c r) a)
        (own_under s arrow m source (own_answer a) (related_under s arrow m source r a)))
    causes_hold s outer inherited (diagnostic (tree m own c r)) a nested w (to_cause ∷ path) p h =
        ahead (cause_arrows nested outer c path) s (whole_at p (answer_at (cause_answers a) path))
        (first_cause s outer (effective own inherited) (tree m own c r) a)
        (causes_text drawing s outer inherited c (cause_answers a))
        (inr (under-ended s (cause_arrow outer c) m (effective own inherited) (own_answer a)
        (related_under s (cause_arrow outer c) m (effective own inherited) r a)))
        (causes_hold s outer inherited c (cause_answers a) nested w path p h)
    causes_hold s outer inherited (diagnostic (tree m own c r)) a nested w (to_related k ∷ path) p h =
        let source = effective own inherited in
        let arrow = cause_arrow outer c in
        let below = related_arrows nested m.severity r k path in
        let at = whole_at p (answer_at (numbered_answers (related_answers a) k) path) in
        holds_after (arrow ∷ below) s at (causes_text drawing s outer inherited c (cause_answers a))
        (first_cause s outer source (tree m own c r) a)
        (more_under s arrow below at m source (own_answer a) (related_under s arrow m source r a)
        (related_hold (narrow_settings s outer (ends_there c)) m.severity source r (related_answers a) nested w k path p
        h))

    related_hold : (s : GraphicalSettings) (outer : Option Severity) (inherited : Option Source) (ts : Trees)
        (more : RelatedAnswers) (nested : Bool) → s.related_as_nested ≡ nested → (k : ℕ) (path : List Step)
        (p : PrintedDiagnostic) → at_related nested inherited ts k path ≡ Some p →
        HoldsUnder (related_arrows nested outer ts k path) s
        (whole_at p (answer_at (numbered_answers more k) path)) (related_text drawing s outer inherited ts more)
    related_hold s outer inherited no_trees more nested w k path p h = absurd (cc)
    related_hold s outer inherited (more_trees (tree m own c r) ts) more nested w (suc k) path p h =
        ahead (related_arrows nested outer ts k path) s
        (whole_at p (answer_at (numbered_answers (later_answers more) k) path))
        (first_related s (related_arrow outer ts) (effective own inherited) (tree m own c r) (first_answers more))
        (related_text drawing s outer inherited ts (later_answers more))
        (inr (first-ended s (related_arrow outer ts) (effective own inherited) (tree m own c r) (first_answers more)))
        (related_hold s outer inherited ts (later_answers more) nested w k path p h)
    related_hold s outer inherited (more_trees (tree m own c r) ts) more nested w zero path p h =
        holds_after (related_arrows nested outer (more_trees (tree m own c r) ts) zero path) s
        (whole_at p (answer_at (first_answers more) path))
        (related_text drawing s outer inherited ts (later_answers more))
        (first_related s (related_arrow outer ts) (effective own inherited) (tree m own c r) (first_answers more))
        (first_holds s outer inherited (tree m own c r) ts (first_answers more) nested w path p h)

    -- the first of them
    first_holds : (s : GraphicalSettings) (outer : Option Severity) (inherited : Option Source) (t : Tree) (ts : Trees)
        (a : Answers) (nested : Bool) → s.related_as_nested ≡ nested → (path : List Step) (p : PrintedDiagnostic) →
        at_related nested inherited (more_trees t ts) zero path ≡ Some p →
        HoldsUnder (related_arrows nested outer (more_trees t ts) zero path) s (whole_at p (answer_at a path))
        (first_related s (related_arrow outer ts) (effective (source_of t) inherited) t a)
    first_holds s outer inherited (tree m own c r) ts a true w [] p h =
        let source = effective own inherited in
        let arrow = related_arrow outer ts in
        subst (λ q. HoldsUnder (arrow ∷ []) s (whole_at q (own_answer a))
        (first_related s arrow source (tree m own c r) a)) (same_Some _ _ h)
        (chosen (HoldsUnder (arrow ∷ []) s (whole_at (over source m) (own_answer a))) s.related_as_nested
        (under s arrow m source (own_answer a) (related_under s arrow m source r a))
        (sibling s source (tree m own c r) a) w
        (own_under s arrow m source (own_answer a) (related_under s arrow m source r a)))
    first_holds s outer inherited (tree m own c r) ts a true w (to_cause ∷ path) p h = absurd (cc)
    first_holds s outer inherited (tree m own c r) ts a true w (to_related k ∷ path) p h =
        let source = effective own inherited in
        let arrow = related_arrow outer ts in
        let below = related_arrows true m.severity r k path in
        let at = whole_at p (answer_at (numbered_answers (related_answers a) k) path) in
        chosen (HoldsUnder (arrow ∷ below) s at) s.related_as_nested
        (under s arrow m source (own_answer a) (related_under s arrow m source r a))
        (sibling s source (tree m own c r) a) w
        (more_under s arrow below at m source (own_answer a) (related_under s arrow m source r a)
        (related_hold (narrow_settings s outer (are_last ts)) m.severity source r (related_answers a) true w k path p
        h))
    first_holds s outer inherited (tree m own c r) ts a false w [] p h =
        let source = effective own inherited in
        let arrow = related_arrow outer ts in
        subst (λ q. StartsRowIn (whole_at q (own_answer a) s) (first_related s arrow source (tree m own c r) a))
        (same_Some _ _ h)
        (other (StartsRowIn (whole_at (over source m) (own_answer a) s)) s.related_as_nested
        (under s arrow m source (own_answer a) (related_under s arrow m source r a))
        (sibling s source (tree m own c r) a) w
        (drawn_below (title_text s m) s m (drawn_text drawing s m source (own_answer a))
        (causes_text drawing s m.severity source c (cause_answers a))
        (related_text drawing s m.severity source r (related_answers a))
        (causes-rows s m.severity source c (cause_answers a))))
    first_holds s outer inherited (tree m own c r) ts a false w (to_cause ∷ path) p h =
        let source = effective own inherited in
        let arrow = related_arrow outer ts in
        let arrows = cause_arrows false m.severity c path in
        let at = whole_at p (answer_at (cause_answers a) path) in
        other (HoldsUnder arrows s at) s.related_as_nested
        (under s arrow m source (own_answer a) (related_under s arrow m source r a))
        (sibling s source (tree m own c r) a) w
        (causes_below arrows s at (title_text s m) m (drawn_text drawing s m source (own_answer a))
        (causes_text drawing s m.severity source c (cause_answers a))
        (related_text drawing s m.severity source r (related_answers a))
        (causes_hold s m.severity source c (cause_answers a) false w path p h))
    first_holds s outer inherited (tree m own c r) ts a false w (to_related k ∷ path) p h =
        let source = effective own inherited in
        let arrow = related_arrow outer ts in
        let arrows = related_arrows false m.severity r k path in
        let at = whole_at p (answer_at (numbered_answers (related_answers a) k) path) in
        other (HoldsUnder arrows s at) s.related_as_nested
        (under s arrow m source (own_answer a) (related_under s arrow m source r a))
        (sibling s source (tree m own c r) a) w
        (related_below arrows s at (title_text s m) m (drawn_text drawing s m source (own_answer a))
        (causes_text drawing s m.severity source c (cause_answers a))
        (related_text drawing s m.severity source r (related_answers a)) (text-rows s m source (own_answer a))
        (causes-rows s m.severity source c (cause_answers a))
        (related_hold s m.severity source r (related_answers a) false w k path p h))

  -- ---- the whole report

  root_causes_hold : (chain : Bool) (s : GraphicalSettings) (m : Diagnosis) (own : Option Source) (c : Cause)
      (a : Answers)
      (path : List Step) (p : PrintedDiagnostic) →
      (if chain then at_cause s.related_as_nested own c path else None) ≡ Some p →
      HoldsUnder (cause_arrows s.related_as_nested m.severity c path) s (whole_at p (answer_at a path))
      (only_if chain (causes_text drawing s m.severity own c a))
  root_causes_hold true s m own c a path p h = causes_hold s m.severity own c a s.related_as_nested refl path p h
  root_causes_hold false s m own c a path p h = absurd (cc)

  root-rows : (chain : Bool) (s : GraphicalSettings) (m : Diagnosis) (own : Option Source) (c : Cause) (a : Answers)
      → EndsRow (only_if chain (causes_text drawing s m.severity own c a))
  root-rows true s m own c a = causes-rows s m.severity own c a
  root-rows false s m own c a = inl refl

  report_holds : (s : GraphicalSettings) (t : Tree) (a : Answers) (path : List Step) (p : PrintedDiagnostic)
      → printed_at s t path ≡ Some p
      → HoldsUnder (arrows_at s t path) s (whole_at p (answer_at a path)) (report_text drawing s t a)
  report_holds s (tree m own c r) a [] p h =
      let drawn = drawn_text drawing s m own (own_answer a) in
      let causes = only_if s.cause_chain (causes_text drawing s m.severity own c (cause_answers a)) in
      let related = related_text drawing s m.severity own r (related_answers a) in
      subst (λ q. StartsRowIn (whole_at q (own_answer a) s) (report_text drawing s (tree m own c r) a))
      (same_Some _ _ h)
      (after-stands (footer_text s) drawn (print (header s m) ++ body_over s m drawn causes related)
      (drawn_below (print (header s m)) s m drawn causes related
      (root-rows s.cause_chain s m own c (cause_answers a))))
  report_holds s (tree m own c r) a (to_cause ∷ path) p h =
      let drawn = drawn_text drawing s m own (own_answer a) in
      let causes = only_if s.cause_chain (causes_text drawing s m.severity own c (cause_answers a)) in
      let related = related_text drawing s m.severity own r (related_answers a) in
      let arrows = cause_arrows s.related_as_nested m.severity c path in
      let at = whole_at p (answer_at (cause_answers a) path) in
      holds_after arrows s at (footer_text s) (print (header s m) ++ body_over s m drawn causes related)
      (causes_below arrows s at (print (header s m)) m drawn causes related
      (root_causes_hold s.cause_chain s m own c (cause_answers a) path p h))
  report_holds s (tree m own c r) a (to_related k ∷ path) p h =
      let drawn = drawn_text drawing s m own (own_answer a) in
      let causes = only_if s.cause_chain (causes_text drawing s m.severity own c (cause_answers a)) in
      let related = related_text drawing s m.severity own r (related_answers a) in
      let arrows = related_arrows s.related_as_nested m.severity r k path in
      let at = whole_at p (answer_at (numbered_answers (related_answers a) k) path) in
      holds_after arrows s at (footer_text s) (print (header s m) ++ body_over s m drawn causes related)
      (related_below arrows s at (print (header s m)) m drawn causes related (text-rows s m own (own_answer a))
      (root-rows s.cause_chain s m own c (cause_answers a))
      (related_hold s m.severity own r (related_answers a) s.related_as_nested refl k path p h))

  -- the snippets are a part of what is drawn, and so are the fixes
  pub snippets_hold : (s : GraphicalSettings) (t : Tree) (a : Answers)
      → HoldsSnippets drawing s t a (report_text drawing s t a)
  snippets_hold s t a path p found =
      let answer = answer_at a path in
      within (arrows_at s t path) s (snippets_text_at drawing p answer) (whole_at p answer) (report_text drawing s t a)
      (λ u. after-stands (fixes_text_at drawing p answer u) (snippets_text_at drawing p answer u)
      (snippets_text_at drawing p answer u ++ help_text u p.meaning.help)
      (here-stands (snippets_text_at drawing p answer u) (help_text u p.meaning.help)))
      (report_holds s t a path p found)

  pub fixes_hold : (s : GraphicalSettings) (t : Tree) (a : Answers) → HoldsFixes drawing s t a
      (report_text drawing s t a)
  fixes_hold s t a path p found =
      let answer = answer_at a path in
      within (arrows_at s t path) s (fixes_text_at drawing p answer) (whole_at p answer) (report_text drawing s t a)
      (λ u. ahead-stands (snippets_text_at drawing p answer u ++ help_text u p.meaning.help)
      (fixes_text_at drawing p answer u)
      (fixes_text_at drawing p answer u)
      (rows-after (snippets_text_at drawing p answer u) (help_text u p.meaning.help)
      (drawn-rows (snippet_rows_at drawing p answer u))
      (help-rows u p.meaning.help)) (whole-stands (fixes_text_at drawing p answer u)))
      (report_holds s t a path p found)

  pub rows_hold : (s : GraphicalSettings) (t : Tree) (a : Answers)
      → HoldsRows drawing s t a (encode_utf8_all (report_text drawing s t a))
  rows_hold s t a path p found none row there =
      let own = snippet_rows_at drawing p (answer_at a path) s in
      let whole : StartsRowIn (snippets_text_at drawing p (answer_at a path) s) (report_text drawing s t a) =
      subst (λ arrows. HoldsUnder arrows s (snippets_text_at drawing p (answer_at a path)) (report_text drawing s t a))
      none
      (snippets_hold s t a path p found) in
      bytes-stand (print row ++ line_feed) (report_text drawing s t a)
      (within-stands (print row ++ line_feed) (snippets_text_at drawing p (answer_at a path) s)
      (report_text drawing s t a)
      (row-stands own row there) whole)

  pub fix_rows_hold : (s : GraphicalSettings) (t : Tree) (a : Answers)
      → HoldsFixRows drawing s t a (encode_utf8_all (report_text drawing s t a))
  fix_rows_hold s t a path p found none fix row there in_it =
      let answer = answer_at a path in
      let fixes = drawing.fixes s p.source p.meaning answer in
      let whole : StartsRowIn (fixes_text_at drawing p answer s) (report_text drawing s t a) =
      subst (λ arrows. HoldsUnder arrows s (fixes_text_at drawing p answer) (report_text drawing s t a)) none
      (fixes_hold s t a path p found) in
      bytes-stand (print row ++ line_feed) (report_text drawing s t a)
      (within-stands (print row ++ line_feed) (fixes_text_at drawing p answer s) (report_text drawing s t a)
      (within-stands (print row ++ line_feed) (fix_text s fix) (fixes_text s fixes) (fix-row-stands s fix row in_it)
      (fix-stands s fixes fix there)) whole)

  -- of each text that may be printed
  pub text_holds : (s : GraphicalSettings) (blank : Bool) (t : Tree) (bytes : List ℕ) → IsTextOf drawing s blank t bytes
      → IsHoldingText drawing s blank t bytes
  text_holds s blank t bytes printed =
      let is : bytes ≡ encode_utf8_all (report_text drawing s t printed.1.0) = printed.2 ∙ ap encode_utf8_all
      printed.1.2
      in record {
        answers = printed.1.0;
        are = printed.1.1;
        text = is;
        holds = snippets_hold s t printed.1.0;
        fixes = fixes_hold s t printed.1.0;
        rows_stand = subst (HoldsRows drawing s t printed.1.0) (sym is) (rows_hold s t printed.1.0);
        fix_rows_stand = subst (HoldsFixRows drawing s t printed.1.0) (sym is) (fix_rows_hold s t printed.1.0);
      }
