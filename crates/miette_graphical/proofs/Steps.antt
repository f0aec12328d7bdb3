-- Printing a report, step by step: the answers of a whole are put together from those of its parts.
use Rattle.std.proofs.Common.{◌≡◌, ◌≤◌, ◌<◌, Bool, true, false, ◌&&◌, List, [], ◌∷◌, ◌++◌, ℕ, length, map, drop, take}
use Rattle.std.proofs.Common.{◌-◌, get_or, refl, sym, subst, ap, ap₂, ◌∙◌, append_assoc, append-nil, arith, Option}
use Rattle.std.proofs.Common.{MatchBool, if◌then◌else◌}
use Rattle.std.proofs.lemmas.List.{take_rest}
use Rattle.miette_runs.specs.rules.Cutting.{trim_leading_feeds, trim_trailing_feeds}
use Rattle.miette_runs.specs.rules.Runs.{print}
use Rattle.miette_tree.specs.rules.Diagnosis.{Diagnosis}
use Rattle.miette_protocol.specs.rules.Reading.{Source}
use Rattle.miette_tree.specs.rules.Tree.{Tree, tree, Cause, diagnostic, texts, Trees, no_trees, more_trees, head}
use Rattle.miette_tree.specs.rules.Tree.{source_of, cause_of, related_of, trees}
use Rattle.miette_protocol.specs.declared.protocol.Severity.{Severity}
use Rattle.miette_graphical_rules.specs.rules.GraphicalSettings.{GraphicalSettings}
use Rattle.miette_graphical_rules.specs.rules.Answers.{Answers, unlisted, listed, no_more, and_more, own_answer}
use Rattle.miette_graphical_rules.specs.rules.Answers.{cause_answers, related_answers}
use Rattle.miette_graphical_rules.specs.rules.Indents.{narrow_settings}
use Rattle.miette_graphical_rules.specs.rules.DiagnosticText.{fixes_text, under_arrow, header, message_text}
use Rattle.miette_graphical_rules.specs.rules.DiagnosticText.{help_text, footer_text, title_text}
use Rattle.miette_graphical_rules.specs.rules.Sources.{sources_of, sources_read}
use Rattle.miette_graphical_rules.specs.rules.Text.{cause_texts, ends_there, are_last, body_over, inner_over}
use Rattle.miette_graphical_rules.specs.rules.Text.{drawn_text}
use Rattle.miette_graphical_rules.specs.rules.Text.{inner_text, causes_text, related_text, only_if}
use Rattle.miette_tree.specs.rules.Tree.{effective}
use Rattle.miette_snippet_rules.specs.rules.SnippetSettings as snippets
use Rattle.miette_graphical_rules.specs.rules.PrintedDiagnostics.{labels_read, over, diagnostics_of, printed_causes}
use Rattle.miette_graphical_rules.specs.rules.PrintedDiagnostics.{printed_related}
use Rattle.miette_graphical_rules.specs.rules.Snippets.{drawn_fix, snippet_settings, whole_drawing}
use Rattle.miette_graphical.proofs.DrawnRows.{nothing_is}
use Rattle.miette_graphical_rules.proofs.Lists.{first_fails, later_fails}
use Rattle.miette_graphical_rules.proofs.Outermost.{report_over}
use Rattle.miette_tree.specs.views.Handler.{AppendsOne}
use Rattle.miette_graphical_rules.specs.rules.PossibleAnswers.{IsAnswer, AreCauseAnswers, AreRelatedAnswers}
use Rattle.miette_graphical.specs.views.Painting.{KeepsPainter, Paints, Printing, PrintsOnly, printing, settings_of}
use Rattle.miette_graphical.specs.declared.painter.Painter.{Painter}
use Rattle.miette_snippet_rules.specs.rules.Highlighting.{follows, leaves_plain}
use Rattle.miette_graphical.proofs.Painted.{keeps_on, only_kept, paints_after, paints_before}
use Rattle.miette_graphical_rules.specs.rules.Calls.{own_calls, cause_calls, related_calls}
use Rattle.miette_graphical.specs.views.PartTexts.{AppendsFixes, AreRowsDrawn, IsDiagnosticBody}
use Rattle.miette_graphical.specs.views.PartTexts.{AreCauses, AreRelated, IsInner, IsSibling, IsOneCause}
use Rattle.miette_graphical.specs.views.PartTexts.{IsNested, IsOneRelated, AreRootCauses, IsBodyAndRelated, IsOutermost}
use Rattle.miette_graphical_rules.specs.steps.PrintedParts.{printed_inner, printed_sibling, printed_one}
use Rattle.miette_graphical_rules.specs.steps.PrintedParts.{printed_root_causes}
use Rattle.miette_highlight.specs.rules.HighlighterCalls.{Call, Leads}

pub not_last : {R : Type 0} (value : R → Tree) (rs : List R) → 1 ≤ length rs → false ≡ are_last (trees (map value rs))
not_last value [] h = absurd (omega arith)
not_last value (r ∷ rs) h = refl

pub first_and_more : {R : Type 0} (value : R → Tree) (rs : List R) (d : R) → 1 ≤ length rs →
    more_trees (value (get_or rs 0 d)) (trees (map value (take (length rs - 1) (drop 1 rs)))) ≡ trees (map value rs)
first_and_more value [] d h = absurd (omega arith)
first_and_more value (r ∷ rs) d h = ap (λ t. more_trees (value r) (trees (map value t))) (take_rest (r ∷ rs) 1)

-- ---- where nothing is listed, nothing failed

mutual
  causes-unlisted : (l : snippets.SnippetSettings) (blank : Bool) (inherited : Option Source) (c : Cause)
      → AreCauseAnswers l blank inherited c unlisted
  causes-unlisted l blank inherited (texts ts) = tt
  causes-unlisted l blank inherited (diagnostic (tree m own c r)) = (
    nothing_is l blank (effective own inherited) m,
    related-unlisted l blank (effective own inherited) r,
    causes-unlisted l blank inherited c,
  )

  related-unlisted : (l : snippets.SnippetSettings) (blank : Bool) (inherited : Option Source) (ts : Trees)
      → AreRelatedAnswers l blank inherited ts no_more
  related-unlisted l blank inherited no_trees = tt
  related-unlisted l blank inherited (more_trees (tree m own c r) ts) = (
    nothing_is l blank (effective own inherited) m,
    causes-unlisted l blank (effective own inherited) c,
    related-unlisted l blank (effective own inherited) r,
    related-unlisted l blank inherited ts,
  )

-- ---- calls

pub leads_none : (a : List Call → Type 0) → Leads a [] a
leads_none a = λ later h. h

pub leads_on : (a b c : List Call → Type 0) (xs ys : List Call) → Leads a xs b → Leads b ys c → Leads a (xs ++ ys) c
leads_on a b c xs ys h k = λ later n. subst a (sym (append_assoc xs ys later)) (h (ys ++ later) (k later n))

-- ---- texts

pub causes_none : (s : GraphicalSettings) (blank : Bool) (now : List Call → Type 0)
    (outer : Option Severity) (inherited : Option Source) (ts : List (List ℕ)) (text : List ℕ) →
    text ≡ causes_text whole_drawing s outer inherited (texts ts) unlisted
    → AreCauses outer inherited (texts ts) (printing s blank now now) text
causes_none s blank now outer inherited ts text e = (unlisted, tt, leads_none now, e)

pub cause_step : (s : GraphicalSettings) (blank : Bool) (begun mid now : List Call → Type 0)
    (outer : Option Severity) (inherited : Option Source) (t : Tree) (one more : List ℕ) →
    IsOneCause outer inherited t (printing s blank begun mid) one
    → AreCauses outer inherited (cause_of t) (printing s blank mid now) more →
    AreCauses outer inherited (diagnostic t) (printing s blank begun now) (one ++ more)
cause_step s blank begun mid now outer inherited (tree m own c r) one more p q = (
  listed p.1.0 q.0 p.1.1,
  (p.1.2, p.1.3, q.1),
  leads_on begun mid now (own_calls s.layout (effective own inherited) m p.1.0
      ++ related_calls s.layout s.related_as_nested (effective own inherited) r p.1.1)
      (cause_calls s.layout s.related_as_nested inherited c q.0) p.1.4 q.2,
  ap₂ (λ x y. x ++ y) (p.2 ∙ ap (under_arrow s outer (ends_there c)) p.1.5) q.3,
)

pub none_related : {R : Type 0} (s : GraphicalSettings) (blank : Bool) (now : List Call → Type 0)
    (outer : Option Severity) (inherited : Option Source) (value : R → Tree) (rs : List R) (text : List ℕ) →
    length rs < 1 → text ≡ [] → AreRelated outer inherited (trees (map value rs)) (printing s blank now now) text
none_related s blank now outer inherited value [] text h e = (no_more, tt, leads_none now, e)
none_related s blank now outer inherited value (r ∷ rs) text h e = absurd (omega arith)

-- the texts of what stands below a tree's causes
abbrev pub below_drawn : (by : Printing)
    (source : Option Source) (t : Tree) (text : List ℕ) → IsBodyAndRelated source t by text → List ℕ
below_drawn by source t text p = drawn_text whole_drawing by.settings (head t) source p.0

abbrev pub below_related : (by : Printing)
    (source : Option Source) (t : Tree) (text : List ℕ) → IsBodyAndRelated source t by text → List ℕ
below_related by source t text p = related_text whole_drawing by.settings (head t).severity source (related_of t) p.1

pub inner_step : (by : Printing)
    (source : Option Source) (t : Tree) (text : List ℕ) (p : IsBodyAndRelated source t by text) →
    IsInner source t by (inner_over by.settings (head t) (below_drawn by source t text p)
    (below_related by source t text p))
inner_step by source (tree m own c r) text p = (p.0, p.1, p.2, p.3, p.4, refl)

pub sibling_step : (s : GraphicalSettings) (blank : Bool) (begun mid now : List Call → Type 0)
    (source : Option Source) (t : Tree) (causes text : List ℕ) →
    AreCauses (head t).severity source (cause_of t) (printing s blank begun mid) causes
    → (p : IsBodyAndRelated source t (printing s blank mid now) text) →
    IsSibling source t (printing s blank begun now)
    (title_text s (head t) ++ body_over s (head t) (below_drawn (printing s blank mid now) source t
    text p) causes (below_related (printing s blank mid now) source t text p))
sibling_step s blank begun mid now source (tree m own c r) causes text q p = (
  p.0,
  q.0,
  p.1,
  p.2,
  q.1,
  p.3,
  leads_on begun mid now (cause_calls s.layout s.related_as_nested source c q.0)
      (own_calls s.layout source m p.0 ++ related_calls s.layout s.related_as_nested source
      r p.1) q.2 p.4,
  ap (λ x. title_text s m ++ body_over s m (drawn_text whole_drawing s m source p.0) x
      (related_text whole_drawing s m.severity source r p.1)) q.3,
)

-- one of several related reports, with its answers in one
one_by : (by : Printing) (outer : Option Severity)
    (source : Option Source) (last : Bool) (m : Diagnosis) (own : Option Source) (c : Cause) (r : Trees) (text : List ℕ)
    (nested : Bool) →
    MatchBool nested (IsNested outer last source (tree m own c r) by text)
    (IsSibling source (tree m own c r) by text) →
    (a : Answers) × IsAnswer (snippet_settings by.settings) by.blank source m (own_answer a)
    × AreCauseAnswers (snippet_settings by.settings) by.blank source c (cause_answers a)
    × AreRelatedAnswers (snippet_settings by.settings) by.blank source r (related_answers a)
    × by.happen ((if nested then [] else cause_calls by.settings.layout by.settings.related_as_nested
    source c (cause_answers a))
    ++ (own_calls by.settings.layout source m (own_answer a)
    ++ related_calls by.settings.layout by.settings.related_as_nested source r
    (related_answers a)))
    × (text ≡ (if nested then
    under_arrow by.settings outer last (trim_trailing_feeds
    (inner_text whole_drawing (narrow_settings by.settings outer last)
    m source (own_answer a)
    (related_text whole_drawing (narrow_settings by.settings outer last) m.severity source r (related_answers a))))
    else title_text by.settings m ++ body_over by.settings m
    (drawn_text whole_drawing by.settings m source (own_answer a))
    (causes_text whole_drawing by.settings m.severity source c (cause_answers a))
    (related_text whole_drawing by.settings m.severity source r (related_answers a))))
one_by by outer source last m own c r text true p = (
  listed p.1.0 unlisted p.1.1,
  p.1.2,
  causes-unlisted (snippet_settings by.settings) by.blank source c,
  p.1.3,
  p.1.4,
  p.2
      ∙ ap (λ x. under_arrow by.settings outer last (trim_trailing_feeds x)) p.1.5,
)
one_by by outer source last m own c r text false p = (listed p.0 p.1 p.2, p.3, p.4, p.5, p.6, p.7)

pub related_step : (s : GraphicalSettings) (blank : Bool) (begun mid now : List Call → Type 0)
    (outer : Option Severity) (inherited : Option Source) (t : Tree) (ts : Trees) (one more : List ℕ) →
    IsOneRelated outer (are_last ts) (effective (source_of t) inherited) t (printing s blank begun mid)
    one → AreRelated outer inherited ts (printing s blank mid now) more →
    AreRelated outer inherited (more_trees t ts) (printing s blank begun now) (one ++ more)
related_step s blank begun mid now outer inherited (tree m own c r) ts one more p q =
    let source = effective own inherited in
    let k = one_by (printing s blank begun mid) outer source (are_last ts) m own c r one
    s.related_as_nested p in
    let calls : List Call = (if s.related_as_nested then []
    else cause_calls s.layout s.related_as_nested source c (cause_answers k.0))
    ++ (own_calls s.layout source m (own_answer k.0)
    ++ related_calls s.layout s.related_as_nested source r
    (related_answers k.0)) in (
      and_more k.0 q.0,
      (k.1, k.2, k.3, q.1),
      leads_on begun mid now calls
          (related_calls s.layout s.related_as_nested inherited ts q.0) k.4 q.2,
      ap₂ (λ x y. x ++ y) k.5 q.3,
    )

root_by : (by : Printing) (m : Diagnosis)
    (own : Option Source) (c : Cause) (causes : List ℕ) (chain : Bool) →
    MatchBool chain (AreCauses m.severity own c by causes) (by.happen [] × (causes ≡ [])) →
    (a : Answers) × (chain ≡ true → AreCauseAnswers (snippet_settings by.settings) by.blank own c a)
    × by.happen (if chain then cause_calls by.settings.layout by.settings.related_as_nested own c a
    else [])
    × (causes ≡ only_if chain (causes_text whole_drawing by.settings m.severity own c a))
root_by by m own c causes true p = (p.0, λ h. p.1, p.2, p.3)
root_by by m own c causes false p = (
  unlisted,
  λ h. causes-unlisted (snippet_settings by.settings) by.blank own c,
  p.0,
  p.1,
)

pub root_step : (s : GraphicalSettings) (blank : Bool) (begun mid now : List Call → Type 0) (t : Tree)
    (causes text : List ℕ) →
    AreRootCauses t (printing s blank begun mid) causes
    → (p : IsBodyAndRelated (source_of t) t (printing s blank mid now) text) →
    IsOutermost t (printing s blank begun now)
    (report_over s (head t) (below_drawn (printing s blank mid now) (source_of t) t text p) causes
    (below_related (printing s blank mid now) (source_of t) t text p))
root_step s blank begun mid now (tree m own c r) causes text q p =
    let b = root_by (printing s blank begun mid) m own c causes s.cause_chain q in (
      listed p.0 b.0 p.1,
      (p.2, b.1, p.3),
      leads_on begun mid now (if s.cause_chain then cause_calls s.layout s.related_as_nested own c b.0
          else [])
          (own_calls s.layout own m p.0 ++ related_calls s.layout s.related_as_nested own r
          p.1) b.2 p.4,
      ap (λ x. report_over s m (drawn_text whole_drawing s m own p.0) x
          (related_text whole_drawing s m.severity own r p.1)) b.3,
    )

-- ---- texts that are appended

-- one text after another
pub added_after : (old mid new first more : List ℕ) → mid ≡ old ++ first → new ≡ mid ++ more
    → new ≡ old ++ (first ++ more)
added_after old mid new first more p q = q ∙ ap (λ x. x ++ more) p ∙ append_assoc old first more

pub nothing_after : (P : List ℕ → Type 0) (old : List ℕ) → P [] → AppendsOne P old old
nothing_after P old p = record { text = []; is_given = p; appended = sym (append-nil old) }

pub cause_texts_after : (s : GraphicalSettings) (blank : Bool) (now : List Call → Type 0)
    (outer : Option Severity) (inherited : Option Source) (ts : List (List ℕ)) (old new : List ℕ) →
    new ≡ old ++ cause_texts s outer ts → AppendsOne (AreCauses outer inherited (texts ts) (printing s blank now now))
    old new
cause_texts_after s blank now outer inherited ts old new e =
    record {
      text = cause_texts s outer ts;
      is_given = causes_none s blank now outer inherited ts
          (cause_texts s outer ts) refl;
      appended = e;
    }

pub no_related_after : {R : Type 0} (s : GraphicalSettings) (blank : Bool) (now : List Call → Type 0)
    (outer : Option Severity) (inherited : Option Source) (value : R → Tree) (rs : List R) (old : List ℕ) →
    length rs < 1 → AppendsOne (AreRelated outer inherited (trees (map value rs)) (printing s blank now now)) old old
no_related_after s blank now outer inherited value rs old h =
    nothing_after (AreRelated outer inherited (trees (map value rs)) (printing s blank now now)) old
    (none_related s blank now outer inherited value rs [] h refl)

-- the rows of snippets, help, and fixes
pub own_after : {H : Type 0} (is_blank : H → Bool) (may_follow : H → List Call → Type 0) (source : Option Source)
    (m : Diagnosis) (old drawn helped new : Painter H) →
    Paints is_blank may_follow (AreRowsDrawn source m) old drawn → KeepsPainter is_blank old drawn
    → helped.out ≡ drawn.out ++ help_text (settings_of drawn) m.help → PrintsOnly drawn helped →
    AppendsFixes (settings_of helped) source m.fixes helped.out new.out → PrintsOnly helped new
    → Paints is_blank may_follow (IsDiagnosticBody source m) old new
own_after is_blank may_follow source m old drawn helped new p kept e only fixes last =
    let s = settings_of old in
    let help = help_text s m.help in
    let own = p.is_given in
    let shown = fixes_text s (map (drawn_fix s source fixes.fails) m.fixes) in
    let after : drawn.highlighter ≡ new.highlighter = sym (last.1 ∙ only.1) in record {
      text = p.text ++ help ++ shown;
      is_given = (
        record { sources = own.0; fixes_fail = fixes.fails },
        record { sources = own.1; fixes = fixes.possible },
        subst (λ h. Leads (follows may_follow old.highlighter.now)
            (own_calls s.layout source m (record { sources = own.0; fixes_fail = fixes.fails }))
            (follows may_follow h.now)) after own.2,
        ap (λ x. x ++ help ++ shown) own.3,
      );
      appended = added_after old.out helped.out new.out (p.text ++ help) shown
          (added_after old.out drawn.out helped.out p.text help p.appended
          (subst (λ s. helped.out ≡ drawn.out ++ help_text s m.help) kept.0 e))
          (subst (λ s. new.out ≡ helped.out ++ fixes_text s (map (drawn_fix s source fixes.fails) m.fixes))
          (only.0 ∙ kept.0) fixes.appended);
    }

-- what is drawn, and related reports
pub below_after : {H : Type 0} (is_blank : H → Bool) (may_follow : H → List Call → Type 0) (source : Option Source)
    (t : Tree) (old drawn new : Painter H) →
    Paints is_blank may_follow (IsDiagnosticBody source (head t)) old drawn → KeepsPainter is_blank old drawn →
    Paints is_blank may_follow (AreRelated (head t).severity source (related_of t)) drawn new
    → Paints is_blank may_follow (IsBodyAndRelated source t) old new
below_after is_blank may_follow source t old drawn new p kept r =
    let s = settings_of old in
    let q = paints_after is_blank may_follow (AreRelated (head t).severity source (related_of t)) old drawn drawn new
    kept (refl, refl) r in
    let own = p.is_given in
    let more = q.is_given in record {
      text = p.text ++ q.text;
      is_given = (
        own.0,
        more.0,
        own.1,
        more.1,
        leads_on (follows may_follow old.highlighter.now) (follows may_follow drawn.highlighter.now)
            (follows may_follow new.highlighter.now) (own_calls s.layout source (head t) own.0)
            (related_calls s.layout s.related_as_nested source (related_of t) more.0) own.2 more.2,
        ap₂ (λ x y. x ++ y) own.3 more.3,
      );
      appended = added_after old.out drawn.out new.out p.text q.text p.appended q.appended;
    }

-- message, causes, and what stands below them
body_after : (s : GraphicalSettings) (m : Diagnosis) (old told caused new drawn causes related below : List ℕ) → told
    ≡ old
    ++ message_text s m → caused ≡ told ++ causes → new ≡ caused ++ below →
    below ≡ drawn ++ related → new ≡ old ++ body_over s m drawn causes related
body_after s m old told caused new drawn causes related below p q r e =
    added_after old caused new (message_text s m ++ causes) below
    (added_after old told caused (message_text s m) causes p q) r
    ∙ ap (λ x. old ++ x) (ap (λ x. message_text s m ++ causes ++ x) e
    ∙ sym (append_assoc (message_text s m ++ causes) drawn related))

pub inner_whole : (by : Printing)
    (source : Option Source) (t : Tree) (old headed told new text : List ℕ) →
    old ≡ [] → headed ≡ old ++ print (header by.settings (head t)) → told ≡ headed ++ message_text by.settings (head t)
    → AppendsOne (IsBodyAndRelated source t by) told new →
    text ≡ trim_leading_feeds new → IsInner source t by text
inner_whole by source t old headed told new text n h m p e =
    let drawn = below_drawn by source t p.text p.is_given in
    let related = below_related by source t p.text p.is_given in
    let body : new ≡ headed ++ body_over by.settings (head t) drawn [] related =
    body_after by.settings (head t) headed told told new drawn [] related p.text m (sym (append-nil told)) p.appended
    p.is_given.5 in
    subst (λ x. IsInner source t by x)
    (sym (e ∙ ap trim_leading_feeds (body ∙ ap (λ x. x ++ body_over by.settings (head t) drawn [] related)
    (h ∙ ap (λ x. x ++ print (header by.settings (head t))) n))))
    (inner_step by source t p.text p.is_given)

-- title, message, causes, and what stands below them
pub sibling_after : {H : Type 0} (is_blank : H → Bool) (may_follow : H → List Call → Type 0) (source : Option Source)
    (t : Tree) (old told caused new : Painter H) →
    told.out ≡ (old.out ++ title_text (settings_of old) (head t)) ++ message_text (settings_of old) (head t)
    → PrintsOnly old told →
    Paints is_blank may_follow (AreCauses (head t).severity source (cause_of t)) told caused
    → KeepsPainter is_blank told caused
    → Paints is_blank may_follow (IsBodyAndRelated source t) caused new
    → Paints is_blank may_follow (IsSibling source t) old new
sibling_after is_blank may_follow source t old told caused new e only causes kept below =
    let s = settings_of old in
    let blank = leaves_plain is_blank old.highlighter.now in
    let by = printing s blank (follows may_follow caused.highlighter.now) (follows may_follow new.highlighter.now) in
    let titled = old.out ++ title_text s (head t) in
    let c = paints_after is_blank may_follow (AreCauses (head t).severity source (cause_of t)) old old told caused
    (refl, refl, refl) only causes in
    let p = paints_after is_blank may_follow (IsBodyAndRelated source t) old caused caused new
    (keeps_on is_blank old told caused (only_kept is_blank old told only) kept) (refl, refl) below in
    let drawn = below_drawn by source t p.text p.is_given in
    let related = below_related by source t p.text p.is_given in record {
      text = title_text s (head t) ++ body_over s (head t) drawn c.text related;
      is_given = sibling_step s blank (follows may_follow old.highlighter.now) (follows may_follow caused.highlighter.now)
          (follows may_follow new.highlighter.now) source t c.text p.text c.is_given p.is_given;
      appended = added_after old.out titled new.out (title_text s (head t)) (body_over s (head t) drawn c.text related)
          refl (body_after s (head t) titled told.out caused.out new.out drawn c.text related p.text e c.appended
          p.appended p.is_given.5);
    }

-- header, message, causes, what stands below them, and the footer
pub report_whole : {H : Type 0} (is_blank : H → Bool) (may_follow : H → List Call → Type 0) (t : Tree)
    (old told caused drawn new : Painter H) →
    told.out ≡ (old.out ++ print (header (settings_of old) (head t))) ++ message_text (settings_of old) (head t)
    → PrintsOnly old told →
    Paints is_blank may_follow (AreRootCauses t) told caused → KeepsPainter is_blank told caused
    → Paints is_blank may_follow (IsBodyAndRelated (source_of t) t) caused drawn → KeepsPainter is_blank caused drawn →
    new.out ≡ drawn.out ++ footer_text (settings_of drawn) → PrintsOnly drawn new
    → Paints is_blank may_follow (IsOutermost t) old new
report_whole is_blank may_follow t old told caused drawn new e only causes kept below later f last =
    let s = settings_of old in
    let blank = leaves_plain is_blank old.highlighter.now in
    let by = printing s blank (follows may_follow caused.highlighter.now) (follows may_follow drawn.highlighter.now) in
    let headed = old.out ++ print (header s (head t)) in
    let c = paints_after is_blank may_follow (AreRootCauses t) old old told caused
    (refl, refl, refl) only causes in
    let known = keeps_on is_blank old told caused (only_kept is_blank old told only) kept in
    let p = paints_after is_blank may_follow (IsBodyAndRelated (source_of t) t) old caused caused drawn known
    (refl, refl) below
    in
    let own = below_drawn by (source_of t) t p.text p.is_given in
    let related = below_related by (source_of t) t p.text p.is_given in
    let body : drawn.out ≡ headed ++ body_over s (head t) own c.text related =
    body_after s (head t) headed told.out caused.out drawn.out own c.text related p.text e c.appended p.appended
    p.is_given.5 in
    paints_before is_blank may_follow (IsOutermost t) old drawn new last (record {
      text = report_over s (head t) own c.text related;
      is_given = root_step s blank (follows may_follow old.highlighter.now) (follows may_follow caused.highlighter.now)
          (follows may_follow drawn.highlighter.now) t c.text p.text c.is_given p.is_given;
      appended = added_after old.out drawn.out new.out
          (print (header s (head t)) ++ body_over s (head t) own c.text related)
          (footer_text s)
          (added_after old.out headed drawn.out (print (header s (head t))) (body_over s (head t) own c.text related)
          refl body)
          (subst (λ s. new.out ≡ drawn.out ++ footer_text s)
          (keeps_on is_blank old caused drawn known later).0 f);
    })

-- ---- refusals

pub one_cause_fails : (nested : Bool) (inherited : Option Source) (t : Tree)
    → labels_read (printed_inner nested (effective (source_of t) inherited) t) ≡ false →
    labels_read (printed_causes nested inherited (diagnostic t)) ≡ false
one_cause_fails nested inherited (tree m own c r) h = first_fails
    (printed_inner nested (effective own inherited) (tree m own c r)) (printed_causes nested inherited c) h

pub later_cause_fails : (nested : Bool) (inherited : Option Source) (t : Tree)
    → labels_read (printed_causes nested inherited (cause_of t)) ≡ false →
    labels_read (printed_causes nested inherited (diagnostic t)) ≡ false
later_cause_fails nested inherited (tree m own c r) h =
    later_fails (printed_inner nested (effective own inherited) (tree m own c r)) (printed_causes nested inherited c) h

pub inner_related_fail : (nested : Bool) (source : Option Source) (t : Tree)
    → labels_read (printed_related nested source (related_of t)) ≡ false →
    labels_read (printed_inner nested source t) ≡ false
inner_related_fail nested source (tree m own c r) h = later_fails (over source m ∷ []) (printed_related nested source r)
    h

and_later : (a b c : Bool) → (b ≡ false → c ≡ false) → (a && b) ≡ false → (a && c) ≡ false
and_later true b c f h = f h
and_later false b c f h = refl

pub inner_rows_fail : (nested : Bool) (source : Option Source) (t : Tree)
    → sources_read (sources_of source (head t)) ≡ false → labels_read (printed_inner nested source t) ≡ false
inner_rows_fail nested source (tree m own c r) h = ap (λ b. b && labels_read (printed_related nested source r)) h

pub sibling_below_fails : (nested : Bool) (source : Option Source) (t : Tree) → labels_read
    (printed_inner nested source t)
    ≡ false → labels_read (printed_sibling nested source t) ≡ false
sibling_below_fails nested source (tree m own c r) h =
    and_later (sources_read (sources_of source m)) (labels_read (printed_related nested source r))
    (labels_read (printed_causes nested source c ++ printed_related nested source r))
    (later_fails (printed_causes nested source c) (printed_related nested source r)) h

pub root_below_fails : (s : GraphicalSettings) (t : Tree) → labels_read (printed_inner s.related_as_nested (source_of t)
    t) ≡
    false
    → labels_read (diagnostics_of s t) ≡ false
root_below_fails s (tree m own c r) h =
    let causes = printed_root_causes s.cause_chain s.related_as_nested (tree m own c r) in
    and_later (sources_read (sources_of own m)) (labels_read (printed_related s.related_as_nested own r))
    (labels_read (causes ++ printed_related s.related_as_nested own r))
    (later_fails causes (printed_related s.related_as_nested own r)) h

pub sibling_causes_fail : (nested : Bool) (source : Option Source) (t : Tree)
    → labels_read (printed_causes nested source (cause_of t)) ≡ false →
    labels_read (printed_sibling nested source t) ≡ false
sibling_causes_fail nested source (tree m own c r) h =
    later_fails (over source m ∷ []) (printed_causes nested source c ++ printed_related nested source r)
    (first_fails (printed_causes nested source c) (printed_related nested source r) h)

pub one_related_fails : (nested : Bool) (inherited : Option Source) (t : Tree) (ts : Trees)
    → labels_read (printed_one nested (effective (source_of t) inherited) t) ≡ false →
    labels_read (printed_related nested inherited (more_trees t ts)) ≡ false
one_related_fails true inherited (tree m own c r) ts h =
    first_fails (printed_inner true (effective own inherited) (tree m own c r)) (printed_related true inherited ts) h
one_related_fails false inherited (tree m own c r) ts h =
    first_fails (printed_sibling false (effective own inherited) (tree m own c r)) (printed_related false inherited ts)
    h

pub later_related_fails : (nested : Bool) (inherited : Option Source) (t : Tree) (ts : Trees)
    → labels_read (printed_related nested inherited ts) ≡ false →
    labels_read (printed_related nested inherited (more_trees t ts)) ≡ false
later_related_fails true inherited (tree m own c r) ts h =
    later_fails (printed_inner true (effective own inherited) (tree m own c r)) (printed_related true inherited ts) h
later_related_fails false inherited (tree m own c r) ts h =
    later_fails (printed_sibling false (effective own inherited) (tree m own c r)) (printed_related false inherited ts)
    h

pub root_causes_fail : (s : GraphicalSettings) (t : Tree) → labels_read (printed_root_causes s.cause_chain
    s.related_as_nested t)
    ≡ false
    → labels_read (diagnostics_of s t) ≡ false
root_causes_fail s (tree m own c r) h =
    later_fails (over own m ∷ []) (printed_root_causes s.cause_chain s.related_as_nested (tree m own c r)
    ++ printed_related s.related_as_nested own r)
    (first_fails (printed_root_causes s.cause_chain s.related_as_nested (tree m own c r))
    (printed_related s.related_as_nested own r) h)
