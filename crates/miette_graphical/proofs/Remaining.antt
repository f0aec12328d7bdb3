-- Going along a list of causes or of related reports: some are printed, and some remain.
use Rattle.std.proofs.Common.{◌≡◌, ◌≤◌, ◌<◌, Bool, false, List, [], ◌∷◌, ◌++◌, ℕ, suc, length, get_or, map, refl, sym}
use Rattle.std.proofs.Common.{ap, subst, append_assoc, ◌∙◌, arith, Option}
use Rattle.miette_protocol.specs.rules.Reading.{Source}
use Rattle.miette_protocol.specs.declared.protocol.Severity.{Severity}
use Rattle.miette_tree.specs.rules.Tree.{Tree, Cause, diagnostic, Trees, more_trees, trees, cause_of, source_of}
use Rattle.miette_tree.specs.rules.Tree.{effective}
use Rattle.miette_highlight.specs.rules.HighlighterCalls.{Call, Leads}
use Rattle.miette_snippet_rules.specs.rules.Highlighting.{follows, leaves_plain}
use Rattle.miette_tree.specs.views.Handler.{AppendsOne}
use Rattle.miette_graphical_rules.specs.rules.Answers.{Answers, RelatedAnswers}
use Rattle.miette_graphical_rules.specs.rules.PossibleAnswers.{AreCauseAnswers, AreRelatedAnswers}
use Rattle.miette_graphical_rules.specs.rules.Calls.{cause_calls, related_calls}
use Rattle.miette_graphical_rules.specs.rules.PrintedDiagnostics.{labels_read, printed_causes}
use Rattle.miette_graphical_rules.specs.rules.PrintedDiagnostics.{printed_related}
use Rattle.miette_graphical_rules.specs.rules.GraphicalSettings.{GraphicalSettings}
use Rattle.miette_graphical_rules.specs.rules.Snippets.{whole_drawing, snippet_settings}
use Rattle.miette_graphical_rules.specs.rules.Text.{are_last, causes_text, related_text}
use Rattle.miette_graphical.specs.views.PartTexts.{IsOneCause, IsOneRelated}
use Rattle.miette_graphical.specs.views.Painting.{KeepsPainter, Paints, PrintsOnly, settings_of}
use Rattle.miette_graphical.specs.declared.painter.Painter.{Painter}
use Rattle.miette_graphical.proofs.Painted.{keeps_on, paints_after}
use Rattle.miette_graphical.proofs.Sizes.{cause_size, tree_size, trees_size, cause_falls}
use Rattle.miette_graphical.proofs.Steps.{cause_step, later_cause_fails, related_step, later_related_fails}

-- what is printed one after another: its answers, the calls and the text under them, whether all sources that it prints
-- always read, and its size
pub record Chain (X A : Type 0) : Type 1 where
  pub are : X → A → Type 0
  pub calls : X → A → List Call
  pub shows : X → A → List ℕ
  pub reads : X → Bool
  pub size : X → ℕ

abbrev pub causes_under : Option Severity → Option Source → GraphicalSettings → Bool → Chain Cause Answers
causes_under outer inherited s blank = record {
  are = AreCauseAnswers (snippet_settings s) blank inherited;
  calls = cause_calls s.layout s.related_as_nested inherited;
  shows = causes_text whole_drawing s outer inherited;
  reads = λ c. labels_read (printed_causes s.related_as_nested inherited c);
  size = cause_size;
}

abbrev pub related_under : Option Severity → Option Source → GraphicalSettings → Bool → Chain Trees RelatedAnswers
related_under outer inherited s blank = record {
  are = AreRelatedAnswers (snippet_settings s) blank inherited;
  calls = related_calls s.layout s.related_as_nested inherited;
  shows = related_text whole_drawing s outer inherited;
  reads = λ ts. labels_read (printed_related s.related_as_nested inherited ts);
  size = trees_size;
}

-- a text under some answers, by calls that bring a highlighter from one state to another
abbrev pub IsShown : {X A : Type 0} → Chain X A → X → (List Call → Type 0) → (List Call → Type 0) → List ℕ → Type 0
IsShown {X} {A} k x begun end text = (a : A) × k.are x a × Leads begun (k.calls x a) end × (text ≡ k.shows x a)

-- Whatever answers there are for what remains, there are answers for all: the texts stand after what is there, and the
-- calls bring a highlighter from its first state over the state now. What remains reads where all reads, and is no
-- larger.
pub record Remains {X A : Type 0} (k : Chain X A) (begun state : List Call → Type 0) (all left : X) (old now : List ℕ)
    : Type 0 where
  pub whole : (a : A) → k.are left a → (b : A) × k.are all b
      × ((later : List Call) → state (k.calls left a ++ later) → begun (k.calls all b ++ later))
      × (now ++ k.shows left a ≡ old ++ k.shows all b)
  pub fails : k.reads left ≡ false → k.reads all ≡ false
  pub fits : k.size left ≤ k.size all

-- as a painter goes from one state to another
abbrev pub Left : {H X A : Type 0} → (H → Bool) → (H → List Call → Type 0) → (GraphicalSettings → Bool → Chain X A)
    → Painter H →
    Painter H → X → X → Type 0
Left is_blank may_follow chain old now all left =
    Remains (chain (settings_of old) (leaves_plain is_blank old.highlighter.now)) (follows may_follow old.highlighter.now)
    (follows may_follow now.highlighter.now) all left old.out now.out
    × KeepsPainter is_blank old now

pub all_remain : {X A : Type 0} (k : Chain X A) (begun : List Call → Type 0) (all : X) (old : List ℕ) →
    Remains k begun begun all all old old
all_remain k begun all old =
    record { whole = λ a h. (a, h, (λ later k. k), refl); fails = λ h. h; fits = omega arith }

-- one more is printed
pub one_printed : {H X A : Type 0} (is_blank : H → Bool) (may_follow : H → List Call → Type 0)
    (chain : GraphicalSettings → Bool → Chain X A) (old now new : Painter H) (all left rest : X) (one : List ℕ) →
    Left is_blank may_follow chain old now all left → KeepsPainter is_blank now new → new.out ≡ now.out ++ one →
    (let k = chain (settings_of old) (leaves_plain is_blank old.highlighter.now) in (a : A) → k.are rest a
    → IsShown k left (follows may_follow now.highlighter.now)
    (λ later. follows may_follow new.highlighter.now (k.calls rest a ++ later)) (one ++ k.shows rest a)) →
    (let k = chain (settings_of old) (leaves_plain is_blank old.highlighter.now) in
    k.reads rest ≡ false → k.reads left ≡ false) →
    (let k = chain (settings_of old) (leaves_plain is_blank old.highlighter.now) in k.size rest ≤ k.size left) →
    Left is_blank may_follow chain old new all rest
one_printed is_blank may_follow chain old now new all left rest one r keeps e step fails fits =
    let k = chain (settings_of old) (leaves_plain is_blank old.highlighter.now) in (
      record {
        whole = λ a h.
            let one_more = step a h in
            let w = r.0.whole one_more.0 one_more.1 in (
              w.0,
              w.1,
              (λ later n. w.2 later (one_more.2 later n)),
              ap (λ x. x ++ k.shows rest a) e ∙ append_assoc now.out one (k.shows rest a)
                  ∙ ap (λ x. now.out ++ x) one_more.3 ∙ w.3,
            );
        fails = λ h. r.0.fails (fails h);
        fits = omega (arith, r.0.fits, fits);
      },
      keeps_on is_blank old now new r.1 keeps,
    )

-- what remains is printed, and then a text that needs no highlighter
pub all_printed : {H X A : Type 0} (is_blank : H → Bool) (may_follow : H → List Call → Type 0)
    (chain : GraphicalSettings → Bool → Chain X A) (old now new : Painter H) (all left : X) →
    Left is_blank may_follow chain old now all left → PrintsOnly now new →
    AppendsOne (IsShown (chain (settings_of old) (leaves_plain is_blank old.highlighter.now)) left
    (follows may_follow now.highlighter.now) (follows may_follow now.highlighter.now)) now.out new.out →
    AppendsOne (IsShown (chain (settings_of old) (leaves_plain is_blank old.highlighter.now)) all
    (follows may_follow old.highlighter.now) (follows may_follow new.highlighter.now)) old.out new.out
all_printed is_blank may_follow chain old now new all left r e p =
    let k = chain (settings_of old) (leaves_plain is_blank old.highlighter.now) in
    let given = p.is_given in
    let w = r.0.whole given.0 given.1 in record {
      text = k.shows all w.0;
      is_given = (
        w.0,
        w.1,
        (λ later n. w.2 later (given.2 later (subst (λ h. follows may_follow h.now later) e.1 n))),
        refl,
      );
      appended = p.appended ∙ ap (λ x. now.out ++ x) given.3 ∙ w.3;
    }

pub cause_printed : {H : Type 0} (is_blank : H → Bool) (may_follow : H → List Call → Type 0)
    (old now new : Painter H) (outer : Option Severity) (inherited : Option Source) (all left : Cause) (t : Tree) →
    Left is_blank may_follow (causes_under outer inherited) old now all left → diagnostic t ≡ left
    → Paints is_blank may_follow (IsOneCause outer inherited t) now new → KeepsPainter is_blank now new →
    Left is_blank may_follow (causes_under outer inherited) old new all (cause_of t)
cause_printed is_blank may_follow old now new outer inherited all left t r is p keeps =
    let s = settings_of old in
    let blank = leaves_plain is_blank old.highlighter.now in
    let k = causes_under outer inherited s blank in
    let next : List Call → Type 0 = follows may_follow new.highlighter.now in
    let one = paints_after is_blank may_follow (IsOneCause outer inherited t) old now now new r.1 (refl, refl) p in
    one_printed is_blank may_follow (causes_under outer inherited) old now new all (diagnostic t) (cause_of t) one.text
    (subst (λ x. Left is_blank may_follow (causes_under outer inherited) old now all x) (sym is) r) keeps one.appended
    (λ a h. cause_step s blank (follows may_follow now.highlighter.now) next
    (λ later. next (k.calls (cause_of t) a ++ later))
    outer inherited t one.text (k.shows (cause_of t) a) one.is_given (a, h, (λ later n. n), refl))
    (later_cause_fails s.related_as_nested inherited t) (omega (arith, cause_falls t))

pub related_printed : {H : Type 0} (is_blank : H → Bool) (may_follow : H → List Call → Type 0)
    (old now new : Painter H) (outer : Option Severity) (inherited : Option Source) (all left : Trees) (t : Tree)
    (ts : Trees) → Left is_blank may_follow (related_under outer inherited) old now all left → more_trees t ts ≡ left
    → Paints is_blank may_follow (IsOneRelated outer (are_last ts) (effective (source_of t) inherited) t) now new
    → KeepsPainter is_blank now new → Left is_blank may_follow (related_under outer inherited) old new all ts
related_printed is_blank may_follow old now new outer inherited all left t ts r is p keeps =
    let s = settings_of old in
    let blank = leaves_plain is_blank old.highlighter.now in
    let k = related_under outer inherited s blank in
    let next : List Call → Type 0 = follows may_follow new.highlighter.now in
    let one = paints_after is_blank may_follow (IsOneRelated outer (are_last ts) (effective (source_of t) inherited) t)
    old now now new r.1 (refl, refl) p in
    one_printed is_blank may_follow (related_under outer inherited) old now new all (more_trees t ts) ts one.text
    (subst (λ x. Left is_blank may_follow (related_under outer inherited) old now all x) (sym is) r) keeps one.appended
    (λ a h. related_step s blank (follows may_follow now.highlighter.now) next (λ later. next (k.calls ts a ++ later))
    outer inherited t ts one.text (k.shows ts a) one.is_given (a, h, (λ later n. n), refl))
    (later_related_fails s.related_as_nested inherited t ts) (omega arith)

-- the first of several is smaller than all
pub first_falls : {R : Type 0} (value : R → Tree) (rs : List R) (d : R) → 1 ≤ length rs → d ≡ get_or rs 0 d
    → suc (tree_size (value d)) < trees_size (trees (map value rs))
first_falls value [] d h e = absurd (omega arith)
first_falls value (r ∷ rs) d h e = subst (λ x. suc (tree_size (value x)) < trees_size (trees (map value (r ∷ rs))))
    (sym e) (omega arith)
