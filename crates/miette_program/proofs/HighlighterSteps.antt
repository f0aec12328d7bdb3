-- What earlier calls on a highlighter of rules leave open changes nothing: each snippet begins by a restart.
use Rattle.std.proofs.Common.{ℕ, Bool, true, false, List, [], ◌∷◌, ◌++◌, drop, Option, Some, None, if◌then◌else◌}
use Rattle.std.proofs.Common.{◌≡◌, ◌∙◌, ap, append-nil, append_assoc, is_some, subst, sym, Result, Ok, Err, String}
use Rattle.std.proofs.Common.{IfOk, OnErr, OnOk}
use Rattle.miette.specs.declared.options.handler.MietteHandler.TheVariants as handler
use Rattle.miette_tree.specs.views.Handler.{AppendsOne}
use Rattle.miette_graphical_rules.specs.rules.PossibleAnswers.{IsTextByCalls}
use Rattle.miette_graphical_rules.specs.rules.Snippets.{whole_drawing}
use Rattle.miette_graphical_rules.specs.views.HandlerState.{AreCallsOf, HandlerState}
use Rattle.miette_protocol.specs.rules.Reading.{Source, Span}
use Rattle.miette_protocol.specs.views.Meaning.{Label}
use Rattle.miette_highlight.specs.rules.FollowingCalls.{FollowTokens}
use Rattle.miette_highlight.specs.rules.HighlighterCalls.{Call, asked, restarted}
use Rattle.miette_highlight.specs.declared.rule.Rule.{Rule}
use Rattle.miette_highlight.specs.declared.tokens.OpenPart.{OpenPart}
use Rattle.miette_labels.specs.rules.Answers.{Highlight}
use Rattle.miette_labels.specs.rules.Around.{group_context}
use Rattle.miette_labels.specs.rules.Groups.{groups_of, in_order, first_refusal}
use Rattle.miette_snippet_rules.specs.declared.options.LayoutOptions.{LayoutOptions}
use Rattle.miette_snippet_rules.specs.rules.Highlighting.{follows, group_calls}
use Rattle.miette_snippet_rules.specs.rules.SnippetLayout.{end_lines}
use Rattle.miette_tree.specs.rules.Diagnosis.{Diagnosis}
use Rattle.miette_tree.specs.rules.Tree.{Tree, tree, Cause, diagnostic, texts, Trees, no_trees, more_trees, effective}
use Rattle.miette_graphical_rules.specs.rules.Answers.{DiagnosticAnswer, Answers, RelatedAnswers, SourceAnswer}
use Rattle.miette_graphical_rules.specs.rules.Answers.{SourceAnswers}
use Rattle.miette_graphical_rules.specs.rules.Answers.{cause_answers, first_answers, first_source, later_answers}
use Rattle.miette_graphical_rules.specs.rules.Answers.{own_answer}
use Rattle.miette_graphical_rules.specs.rules.Answers.{related_answers}
use Rattle.miette_graphical_rules.specs.rules.Calls.{calls_over, cause_calls, own_calls, related_calls, report_calls}
use Rattle.miette_graphical_rules.specs.rules.Calls.{source_calls}
use Rattle.miette_graphical_rules.specs.rules.GraphicalSettings.{GraphicalSettings}
use Rattle.miette_graphical_rules.specs.rules.Sources.{LabelledSource, layout_with, sources_of}
use Rattle.miette_program.specs.declared.language.LanguageHighlighter.{LanguageHighlighter}
use Rattle.miette_program.specs.rules.LanguageRules.{TokensFollow}
use Rattle.miette_program.specs.rules.JobText.{HappenLater, IsLed, highlighter_of}
use Rattle.miette_program.specs.declared.job_handler.JobHandler.{JobHandler}
use Rattle.miette_program.specs.declared.job_handler.JobHandler.TheVariants as chosen

-- ---- calls that begin by a restart, if there are any

abbrev pub Restarts : List Call → Type 0
Restarts [] = Unit {0}
Restarts (restarted read ∷ calls) = Unit {0}
Restarts (asked line pieces ∷ calls) = ⊥

both : (xs ys : List Call) → Restarts xs → Restarts ys → Restarts (xs ++ ys)
both [] ys p q = q
both (restarted read ∷ xs) ys p q = tt
both (asked line pieces ∷ xs) ys p q = absurd p

where_not : (b : Bool) (xs : List Call) → Restarts xs → Restarts (if b then [] else xs)
where_not true xs p = tt
where_not false xs p = p

where_so : (b : Bool) (xs : List Call) → Restarts xs → Restarts (if b then xs else [])
where_so true xs p = p
where_so false xs p = tt

of_groups : (context : ℕ) (source : Source) (groups : List Span) (pieces : List (List (List Highlight)))
    → Restarts (group_calls context source groups pieces)
of_groups context source [] pieces = tt
of_groups context source (group ∷ groups) pieces = tt

of_source : (layout : LayoutOptions) (source : Option Source) (labels : List Label) (a : SourceAnswer)
    → Restarts (source_calls layout source labels a)
of_source layout None labels a = tt
of_source layout (Some source) labels a =
    let context = end_lines layout a.end_fails source labels in
    let groups = groups_of context source a.join_fails (in_order labels) in
    where_not (is_some (first_refusal source.bytes a.label_fails (in_order labels)))
    (group_calls (group_context context (in_order labels)) source groups a.pieces)
    (of_groups (group_context context (in_order labels)) source groups a.pieces)

over : (layout : LayoutOptions) (sources : List LabelledSource) (a : SourceAnswers)
    → Restarts (calls_over layout sources a)
over layout [] a = tt
over layout (it ∷ more) a =
    both (source_calls layout it.source it.labels (first_source a)) (calls_over layout more (drop 1 a))
    (of_source layout it.source it.labels (first_source a)) (over layout more (drop 1 a))

of_own : (layout : LayoutOptions) (source : Option Source) (m : Diagnosis) (a : DiagnosticAnswer)
    → Restarts (own_calls layout source m a)
of_own layout source m a = over (layout_with m.snippets layout) (sources_of source m) a.sources

mutual
  of_cause : (layout : LayoutOptions) (nested : Bool) (inherited : Option Source) (c : Cause) (a : Answers)
      → Restarts (cause_calls layout nested inherited c a)
  of_cause layout nested inherited (texts ts) a = tt
  of_cause layout nested inherited (diagnostic (tree m own c r)) a =
      let source = effective own inherited in
      let own_ones = own_calls layout source m (own_answer a) in
      let below = related_calls layout nested source r (related_answers a) in
      both (own_ones ++ below) (cause_calls layout nested inherited c (cause_answers a))
      (both own_ones below (of_own layout source m (own_answer a))
      (of_related layout nested source r (related_answers a)))
      (of_cause layout nested inherited c (cause_answers a))

  of_related : (layout : LayoutOptions) (nested : Bool) (inherited : Option Source) (ts : Trees) (more : RelatedAnswers)
      → Restarts (related_calls layout nested inherited ts more)
  of_related layout nested inherited no_trees more = tt
  of_related layout nested inherited (more_trees (tree m own c r) ts) more =
      let source = effective own inherited in
      let a = first_answers more in
      let caused = cause_calls layout nested source c (cause_answers a) in
      let own_ones = own_calls layout source m (own_answer a) in
      let below = related_calls layout nested source r (related_answers a) in
      both ((if nested then [] else caused) ++ (own_ones ++ below))
      (related_calls layout nested inherited ts (later_answers more))
      (both (if nested then [] else caused) (own_ones ++ below)
      (where_not nested caused (of_cause layout nested source c (cause_answers a)))
      (both own_ones below (of_own layout source m (own_answer a))
      (of_related layout nested source r (related_answers a))))
      (of_related layout nested inherited ts (later_answers more))

of_report : (s : GraphicalSettings) (t : Tree) (a : Answers) → Restarts (report_calls s t a)
of_report s (tree m own c r) a =
    let layout = s.layout in
    let nested = s.related_as_nested in
    let caused = cause_calls layout nested own c (cause_answers a) in
    let own_ones = own_calls layout own m (own_answer a) in
    let below = related_calls layout nested own r (related_answers a) in
    both (if s.cause_chain then caused else []) (own_ones ++ below)
    (where_so s.cause_chain caused (of_cause layout nested own c (cause_answers a)))
    (both own_ones below (of_own layout own m (own_answer a)) (of_related layout nested own r (related_answers a)))

-- ---- what is open

closed : (rules : List Rule) (left_open other : Option OpenPart) (calls : List Call) → Restarts calls
    → FollowTokens rules left_open calls → FollowTokens rules other calls
closed rules left_open other [] begun follow = tt
closed rules left_open other (restarted read ∷ calls) begun follow = follow
closed rules left_open other (asked line pieces ∷ calls) begun follow = absurd begun

happen_after : (rules : List Rule) (left_open other : Option OpenPart) (earlier calls : List Call) → Restarts calls
    → FollowTokens rules left_open (earlier ++ calls) → FollowTokens rules other calls
happen_after rules left_open other [] calls begun follow = closed rules left_open other calls begun follow
happen_after rules left_open other (restarted read ∷ earlier) calls begun follow =
    happen_after rules None other earlier calls begun follow
happen_after rules left_open other (asked line pieces ∷ earlier) calls begun follow =
    happen_after rules follow.1 other earlier calls begun follow.4

none-follow : (after : Option LanguageHighlighter) → follows TokensFollow after []
none-follow None = tt
none-follow (Some it) = tt

later-follow : (it : Option LanguageHighlighter) (calls : List Call) → Restarts calls
    → HappenLater TokensFollow it calls → follows TokensFollow it calls
later-follow None calls begun later = tt
later-follow (Some it) calls begun later =
    let left_open = it.patterns.left_open in
    happen_after it.patterns.rules.items left_open left_open later.0 calls begun
    (subst (FollowTokens it.patterns.rules.items left_open) (append-nil (later.0 ++ calls))
    (later.2 [] (none-follow later.1)))

-- the calls for a report follow as at first
pub report-follows : (it : Option LanguageHighlighter) (s : GraphicalSettings) (t : Tree) (a : Answers)
    → HappenLater TokensFollow it (report_calls s t a) → follows TokensFollow it (report_calls s t a)
report-follows it s t a = later-follow it (report_calls s t a) (of_report s t a)

-- ---- states one after the other

pub led-nowhere : {H : Type 0} (may_follow : H → List Call → Type 0) (h : JobHandler H) → IsLed may_follow h h
led-nowhere may_follow h = record { calls = []; happened = λ later follow. follow }

pub led-on : {H : Type 0} (may_follow : H → List Call → Type 0) (h k m : JobHandler H) → IsLed may_follow h k
    → IsLed may_follow k m → IsLed may_follow h m
led-on may_follow h k m p q = record {
  calls = p.calls ++ q.calls;
  happened = λ later follow.
      subst (follows may_follow (highlighter_of h)) (sym (append_assoc p.calls q.calls later))
      (p.happened (q.calls ++ later) (q.happened later follow));
}

whole : (a b c d : List Call) → a ++ ((b ++ c) ++ d) ≡ ((a ++ b) ++ c) ++ d
whole a b c d = sym (append_assoc a (b ++ c) d) ∙ ap (λ x. x ++ d) (sym (append_assoc a b c))

-- what happens after calls that led there, happens later
pub happen-after : {H : Type 0} (may_follow : H → List Call → Type 0) (h k : JobHandler H) (calls : List Call)
    → IsLed may_follow h k → HappenLater may_follow (highlighter_of k) calls
    → HappenLater may_follow (highlighter_of h) calls
happen-after may_follow h k calls led later = (
  led.calls ++ later.0,
  later.1,
  λ more follow.
      subst (follows may_follow (highlighter_of h)) (whole led.calls later.0 calls more)
      (led.happened ((later.0 ++ calls) ++ more) (later.2 more follow)),
)

-- there is none before and after
pub led-without : {H : Type 0} (may_follow : H → List Call → Type 0) (h k : JobHandler H) → highlighter_of h ≡ None
    → highlighter_of k ≡ None → IsLed may_follow h k
led-without may_follow h k is will =
    record { calls = []; happened = λ later follow. subst (λ x. follows may_follow x later) (sym is) tt }

-- by the calls for a picture
pub led-drawing : {A E H : Type 0} (may_follow : H → List Call → Type 0) (h k : JobHandler H)
    (it after : HandlerState H)
    (blank : Bool) (t : Tree) (old new : List ℕ) (r : Result A E) → h ≡ chosen.Built (handler.Graphical it)
    → k ≡ chosen.Built (handler.Graphical after) → OnOk r
    (AppendsOne (IsTextByCalls whole_drawing it.settings blank (AreCallsOf may_follow it after) t) old new)
    → OnOk r (IsLed may_follow h k)
led-drawing may_follow h k it after blank t old new (Err e) is will ok = tt
led-drawing may_follow h k it after blank t old new (Ok x) is will ok =
    let asked = ok.is_given.1 in
    let one : IsLed may_follow (chosen.Built (handler.Graphical it)) (chosen.Built (handler.Graphical after)) =
    record { calls = report_calls it.settings t asked.0; happened = asked.2 } in
    subst (λ j. IsLed may_follow j k) (sym is)
    (subst (λ j. IsLed may_follow (chosen.Built (handler.Graphical it)) j) (sym will) one)

-- where a text came of what was rendered
pub led-whole : {A E F Z : Type 0} (given rendered : Result A E) (result : Result (String Z) F) (text : String Z)
    (P : Type 0) → OnOk given P → rendered ≡ given → IfOk result (λ it. (it ≡ text) × OnErr rendered ⊥)
    → OnOk result P
led-whole (Ok x) rendered (Ok it) text P led is ended = led
led-whole (Err e) rendered (Ok it) text P led is ended = absurd (subst (λ r. OnErr r ⊥) is ended.1)
led-whole given rendered (Err f) text P led is ended = tt

pub on-any : {A E : Type 0} (r : Result A E) (P : Type 0) → P → OnOk r P
on-any (Ok x) P p = p
on-any (Err e) P p = tt
