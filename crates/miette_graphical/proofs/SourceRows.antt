-- Printing the snippets over several sources, one after the other.
use Rattle.std.proofs.Common.{◌≡◌, ◌≤◌, Bool, false, ◌&&◌, List, [], ◌∷◌, ◌++◌, drop, length, refl, sym, ap, ap₂, ◌∙◌}
use Rattle.std.proofs.Common.{◌-◌, ◌<◌, ◌||◌, Some, arith, get_or, map, take}
use Rattle.std.specs.List.{list_any}
use Rattle.std.proofs.lemmas.List.{take_rest}
use Rattle.miette_tree.specs.rules.Diagnosis.{Section}
use Rattle.std.proofs.Math.Bool.{and-false}
use Rattle.miette_highlight.specs.rules.HighlighterCalls.{Call}
use Rattle.miette_snippet_rules.specs.rules.Highlighting.{follows, leaves_plain}
use Rattle.miette_tree.specs.rules.Reads.{always_reads}
use Rattle.miette_graphical.specs.declared.painter.Painter.{Painter}
use Rattle.miette_graphical_rules.specs.rules.Answers.{SourceAnswers}
use Rattle.miette_graphical_rules.specs.rules.Calls.{calls_over, source_calls}
use Rattle.miette_graphical_rules.specs.rules.DiagnosticText.{rows_text}
use Rattle.miette_graphical_rules.specs.rules.PossibleAnswers.{AreAnswersOver}
use Rattle.miette_graphical_rules.specs.rules.GraphicalSettings.{GraphicalSettings}
use Rattle.miette_graphical_rules.specs.rules.Snippets.{rows_over, snippet_settings, source_rows}
use Rattle.miette_graphical_rules.specs.rules.Sources.{LabelledSource, after_labels, further_sources, is_labelled}
use Rattle.miette_graphical_rules.specs.rules.Sources.{labelled, some_further, sources_read}
use Rattle.miette_graphical.specs.views.PartTexts.{AreSourcesDrawn, IsSourceDrawn}
use Rattle.miette_graphical.specs.views.Painting.{KeepsPainter, Paints, settings_of}
use Rattle.miette_graphical.proofs.Painted.{paints_after}
use Rattle.miette_graphical.proofs.Remaining.{Chain, Left, all_printed, one_printed}
use Rattle.miette_graphical_rules.proofs.RowTexts.{rows-appended}
use Rattle.miette_graphical.proofs.Steps.{added_after, leads_none, leads_on, nothing_after}

-- sources that are left, and the settings in which the labels over the first of them are drawn
pub record SourcesLeft : Type 0 where
  pub settings : GraphicalSettings
  pub sources : List LabelledSource

abbrev pub left_in : GraphicalSettings → List LabelledSource → SourcesLeft
left_in s sources = record { settings = s; sources = sources }

abbrev pub sources_left : GraphicalSettings → Bool → Chain SourcesLeft SourceAnswers
sources_left s blank = record {
  are = λ left. AreAnswersOver (snippet_settings left.settings) blank left.sources;
  calls = λ left. calls_over left.settings.layout left.sources;
  shows = λ left a. rows_text (rows_over left.settings left.sources a);
  reads = λ left. sources_read left.sources;
  size = λ left. length left.sources;
}

later_fails : (it : LabelledSource) (more : List LabelledSource) → sources_read more ≡ false
    → sources_read (it ∷ more) ≡ false
later_fails it more h = ap (λ b. always_reads it.source it.labels && b) h ∙ and-false (always_reads it.source it.labels)

pub first_fails : (it : LabelledSource) (more : List LabelledSource) → always_reads it.source it.labels ≡ false
    → sources_read (it ∷ more) ≡ false
first_fails it more h = ap (λ b. b && sources_read more) h

-- further sources, of which the first and the others are told apart
pub further_parts : {R : Type 0} (value : R → Section) (rs : List R) (d : R) → 1 ≤ length rs →
    further_sources (map value rs)
    ≡ labelled (Some (value (get_or rs 0 d)).source) (value (get_or rs 0 d)).labels
    ∷ further_sources (map value (take (length rs - 1) (drop 1 rs)))
further_parts value [] d h = absurd (omega arith)
further_parts value (r ∷ rs) d h =
    ap (λ t. labelled (Some (value r).source) (value r).labels ∷ further_sources (map value t))
    (sym (take_rest (r ∷ rs) 1))

pub no_further : {R : Type 0} (value : R → Section) (rs : List R) → length rs < 1
    → further_sources (map value rs) ≡ []
no_further value [] h = refl
no_further value (r ∷ rs) h = absurd (omega arith)

-- one that has a label
pub some_mapped : {R : Type 0} (value : R → Section) (rs : List R)
    → list_any (λ it. is_labelled (value it)) rs ≡ some_further (map value rs)
some_mapped value [] = refl
some_mapped value (r ∷ rs) = ap (λ b. is_labelled (value r) || b) (some_mapped value rs)

-- the first one is printed
pub source_printed : {H : Type 0} (is_blank : H → Bool) (may_follow : H → List Call → Type 0)
    (old now new : Painter H) (all : SourcesLeft) (s : GraphicalSettings) (it : LabelledSource)
    (more : List LabelledSource) →
    Left is_blank may_follow sources_left old now all (left_in s (it ∷ more))
    → Paints is_blank may_follow (IsSourceDrawn s it) now new → KeepsPainter is_blank now new →
    Left is_blank may_follow sources_left old new all (left_in (after_labels (length it.labels) s) more)
source_printed is_blank may_follow old now new all s it more r p keeps =
    let k = sources_left (settings_of old) (leaves_plain is_blank old.highlighter.now) in
    let rest = left_in (after_labels (length it.labels) s) more in
    let begun : List Call → Type 0 = follows may_follow now.highlighter.now in
    let next : List Call → Type 0 = follows may_follow new.highlighter.now in
    let one = paints_after is_blank may_follow (IsSourceDrawn s it) old now now new r.1 (refl, refl) p in
    let given = one.is_given in
    one_printed is_blank may_follow sources_left old now new all (left_in s (it ∷ more)) rest one.text r keeps
    one.appended
    (λ a h. (
      given.0 ∷ a,
      (given.1, h),
      leads_on begun next (λ later. next (k.calls rest a ++ later))
          (source_calls s.layout it.source it.labels given.0) (k.calls rest a) given.2 (λ later n. n),
      ap (λ x. x ++ k.shows rest a) given.3
          ∙ sym (rows-appended (source_rows s it.source it.labels given.0)
          (rows_over (after_labels (length it.labels) s) more a)),
    ))
    (later_fails it more) (omega arith)

-- none is left
pub sources_printed : {H : Type 0} (is_blank : H → Bool) (may_follow : H → List Call → Type 0) (old now : Painter H)
    (s end : GraphicalSettings) (sources : List LabelledSource) →
    Left is_blank may_follow sources_left old now (left_in s sources) (left_in end [])
    → Paints is_blank may_follow (AreSourcesDrawn s sources) old now
sources_printed is_blank may_follow old now s end sources r =
    let was : List Call → Type 0 = follows may_follow now.highlighter.now in
    all_printed is_blank may_follow sources_left old now now (left_in s sources) (left_in end []) r (refl, refl)
    (nothing_after _ now.out ([], tt, leads_none was, refl))

-- a diagnostic's own source, and then its further ones
pub own_and_further : {H : Type 0} (is_blank : H → Bool) (may_follow : H → List Call → Type 0)
    (old mid new : Painter H) (s : GraphicalSettings) (it : LabelledSource) (more : List LabelledSource) →
    Paints is_blank may_follow (IsSourceDrawn s it) old mid → KeepsPainter is_blank old mid
    → Paints is_blank may_follow (AreSourcesDrawn (after_labels (length it.labels) s) more) mid new →
    Paints is_blank may_follow (AreSourcesDrawn s (it ∷ more)) old new
own_and_further is_blank may_follow old mid new s it more p keeps q =
    let own = p.is_given in
    let later = paints_after is_blank may_follow (AreSourcesDrawn (after_labels (length it.labels) s) more) old mid mid
    new keeps (refl, refl) q in
    let further = later.is_given in record {
      text = p.text ++ later.text;
      is_given = (
        own.0 ∷ further.0,
        (own.1, further.1),
        leads_on (follows may_follow old.highlighter.now) (follows may_follow mid.highlighter.now)
            (follows may_follow new.highlighter.now) (source_calls s.layout it.source it.labels own.0)
            (calls_over s.layout more further.0) own.2 further.2,
        ap₂ (λ x y. x ++ y) own.3 further.3
            ∙ sym (rows-appended (source_rows s it.source it.labels own.0)
            (rows_over (after_labels (length it.labels) s) more further.0)),
      );
      appended = added_after old.out mid.out new.out p.text later.text p.appended later.appended;
    }
