-- Steps from the handler that was chosen to the text that the settings ask for.
use Rattle.std.proofs.Common.{◌≡◌, ℕ, Bool, List, [], ◌++◌, ◌∙◌, ap, Result, Ok}
use Rattle.std.proofs.Common.{Err, IfOk, OnOk, OnErr, String, string_bytes, true, false, encode_utf8_all, refl}
use Rattle.std.proofs.Common.{sym, subst, not, ◌&&◌}
use Rattle.miette_graphical_rules.proofs.Only as one_text
use Rattle.miette.specs.rules.Choice.{is_graphical}
use Rattle.miette.specs.rules.Options.{Options}
use Rattle.miette.specs.declared.options.handler.MietteHandler.{MietteHandler}
use Rattle.miette.specs.declared.options.handler.MietteHandler.TheVariants as handler
use Rattle.miette_style.specs.declared.theme.Terminal.{Terminal}
use Rattle.miette_tree.specs.rules.Tree.{Tree}
use Rattle.miette_brief.specs.rules.PossibleAnswers as briefly
use Rattle.miette_brief.specs.rules.Report as brief
use Rattle.miette_narrated.specs.rules.Report as narrated
use Rattle.miette_narrated.specs.rules.PossibleAnswers.{IsNarrated, fixes_read}
use Rattle.miette_graphical_rules.specs.rules.Answers.{unlisted}
use Rattle.miette_tree.specs.views.Handler.{AppendsOne}
use Rattle.miette_tree.specs.rules.Reads.{AlwaysReads, report_in_bounds, report_reads}
use Rattle.miette_tree.proofs.Readings.{told_reads}
use Rattle.miette_debug.specs.rules.DebugText.{IsDebugText}
use Rattle.miette_graphical_rules.specs.rules.PrintedDiagnostics.{diagnostics_of, labels_read}
use Rattle.miette_graphical_rules.proofs.Lists.{labels_of_all}
use Rattle.miette_json.specs.rules.Json.{json_text}
use Rattle.miette_json.specs.rules.JsonReport.{value_of}
use Rattle.miette_json.specs.rules.JsonText.{IsJsonOf}
use Rattle.miette_graphical_rules.specs.rules.PossibleAnswers as drawn
use Rattle.miette_graphical_rules.specs.rules.Calls.{report_calls}
use Rattle.miette_graphical_rules.specs.views.HandlerState.{AreCallsOf, HandlerState, draws_plain}
use Rattle.miette_highlight.specs.rules.HighlighterCalls.{Call}
use Rattle.miette_snippet_rules.specs.rules.Highlighting.{follows}
use Rattle.miette_graphical_rules.specs.rules.Snippets.{whole_drawing}
use Rattle.miette_graphical_rules.specs.rules.Text.{report_text}
use Rattle.miette_program.specs.rules.JobText.{HappenLater, IsAsked, IsGiven, IsLed, JobMayRefuse, JobHandlerStays}
use Rattle.miette_program.specs.rules.JobText.{IsBuiltText, IsJobText, IsTelling}
use Rattle.miette_program.specs.declared.job_handler.JobHandler.{JobHandler}
use Rattle.miette_program.specs.declared.job_handler.JobHandler.TheVariants as chosen
use Rattle.miette_program.specs.declared.job_handler.JobHandler.TheVariants.{Built}
use Rattle.miette_program.specs.declared.language.LanguageHighlighter.{LanguageHighlighter}
use Rattle.miette_program.specs.declared.arguments.Choice.{Choice}
use Rattle.miette_program.specs.rules.LanguageRules.{TokensFollow}
use Rattle.miette_program.proofs.HighlighterSteps.{happen-after, report-follows}
use Rattle.miette_graphical_rules.proofs.AlwaysRead.{printed-reads}
use Rattle.miette_program.proofs.AlwaysTold.{told-accepted, brief-accepted, told-fixed}

-- ---- what a handler of the library appends

pub json-given : {A E H : Type 0} (is_blank : H → Bool) (may_follow : H → List Call → Type 0) (h : JobHandler H)
    (t : Tree) (old new : List ℕ) (r : Result A E) → h ≡ chosen.Json → AlwaysReads t
    → OnOk r (report_reads t ≡ true → new ≡ old ++ json_text (value_of t))
    → OnOk r (AppendsOne (IsGiven is_blank may_follow h t) old new)
json-given is_blank may_follow h t old new (Err e) is reads value = tt
json-given is_blank may_follow h t old new (Ok x) is reads value =
    let one : AppendsOne (IsGiven is_blank may_follow chosen.Json t) old new =
    record { text = json_text (value_of t); is_given = refl; appended = value (told_reads t reads) } in
    subst (λ k. AppendsOne (IsGiven is_blank may_follow k t) old new) (sym is) one

-- the spelling of the one value that the report has, where its sources always read
pub spelled-value : {A E : Type 0} (t : Tree) (old new : List ℕ) (r : Result A E)
    → OnOk r (AppendsOne (IsJsonOf t) old new) → OnOk r (report_reads t ≡ true → new ≡ old ++ json_text (value_of t))
spelled-value t old new (Err e) text = tt
spelled-value t old new (Ok x) text =
    λ reads. text.appended ∙ ap (λ x. old ++ x) (text.is_given.spelled ∙ ap json_text (text.is_given.always reads))

pub debug-given : {A E H : Type 0} (is_blank : H → Bool) (may_follow : H → List Call → Type 0) (h : JobHandler H)
    (t : Tree) (old new : List ℕ) (r : Result A E) → h ≡ chosen.Debug
    → OnOk r (AppendsOne (IsDebugText t) old new) → OnOk r (AppendsOne (IsGiven is_blank may_follow h t) old new)
debug-given is_blank may_follow h t old new (Err e) is text = tt
debug-given is_blank may_follow h t old new (Ok x) is text =
    subst (λ k. AppendsOne (IsGiven is_blank may_follow k t) old new) (sym is) text

-- where lines are left plain, the text is the one under the answers that always come
only-text : {H : Type 0} (is_blank : H → Bool) (it : HandlerState H) (t : Tree) (text : List ℕ) → AlwaysReads t
    → drawn.IsTextOf whole_drawing it.settings (draws_plain is_blank it) t text
    → draws_plain is_blank it ≡ true → text ≡ encode_utf8_all (report_text whole_drawing it.settings t unlisted)
only-text is_blank it t text reads given plain =
    one_text.only-text it.settings t text
    (subst (λ b. drawn.IsTextOf whole_drawing it.settings b t text) plain given) (printed-reads it.settings t reads)

pub graphical-given : {A E H : Type 0} (is_blank : H → Bool) (may_follow : H → List Call → Type 0) (h : JobHandler H)
    (it after : HandlerState H) (t : Tree) (old new : List ℕ) (r : Result A E) → h ≡ Built (handler.Graphical it)
    → AlwaysReads t → OnOk r
    (AppendsOne (drawn.IsTextByCalls whole_drawing it.settings (draws_plain is_blank it)
    (AreCallsOf may_follow it after)
    t) old new) → OnOk r (AppendsOne (IsGiven is_blank may_follow h t) old new)
graphical-given is_blank may_follow h it after t old new (Err e) is reads ok = tt
graphical-given is_blank may_follow h it after t old new (Ok x) is reads ok =
    let asked = ok.is_given.1 in
    let given : drawn.IsTextOf whole_drawing it.settings (draws_plain is_blank it) t ok.text =
    (ok.is_given.0, (asked.0, asked.1, asked.3), ok.is_given.2) in
    let one : AppendsOne (IsGiven is_blank may_follow (Built (handler.Graphical it)) t) old new =
    record {
      text = ok.text;
      is_given = (
        (ok.is_given.0, (asked.0, asked.1, ([], after.highlighter, asked.2), asked.3), ok.is_given.2),
        only-text is_blank it t ok.text reads given,
      );
      appended = ok.appended;
    } in
    subst (λ k. AppendsOne (IsGiven is_blank may_follow k t) old new) (sym is) one

-- no label of such a report is refused
pub graphical-accepts : {H : Type 0} (h : JobHandler H) (it : HandlerState H) (t : Tree) → AlwaysReads t
    → labels_read (diagnostics_of it.settings t) ≡ false → JobMayRefuse h t
graphical-accepts h it t reads refused =
    let no : true ≡ false =
    sym (labels_of_all (diagnostics_of it.settings t) (printed-reads it.settings t reads)) ∙ refused in cc

-- what the handler that it is gives
given-as : {H : Type 0} (is_blank : H → Bool) (may_follow : H → List Call → Type 0) (h k : JobHandler H) (t : Tree)
    (old new : List ℕ) → h ≡ k → AppendsOne (IsGiven is_blank may_follow k t) old new
    → AppendsOne (IsGiven is_blank may_follow h t) old new
given-as is_blank may_follow h k t old new is one =
    subst (λ j. AppendsOne (IsGiven is_blank may_follow j t) old new) (sym is) one

pub narrated-given : {A E H : Type 0} (is_blank : H → Bool) (may_follow : H → List Call → Type 0) (h : JobHandler H)
    (s : narrated.NarrationSettings)
    (t : Tree) (old new : List ℕ) (r : Result A E) → h ≡ Built (handler.Narrated s) → AlwaysReads t
    → OnOk r (AppendsOne (IsNarrated s t) old new) → OnOk r
    (report_reads t ≡ true → fixes_read t ≡ true → new ≡ old ++ narrated.narration s t narrated.unlisted)
    → OnOk r (AppendsOne (IsGiven is_blank may_follow h t) old new)
narrated-given is_blank may_follow h s t old new (Err e) is reads text only = tt
narrated-given is_blank may_follow h s t old new (Ok x) is reads text only =
    given-as is_blank may_follow h (Built (handler.Narrated s)) t old new is (record {
      text = narrated.narration s t narrated.unlisted;
      is_given = (told-accepted t text.is_given.answers reads text.is_given.possible, refl);
      appended = only (told_reads t reads) (told-fixed t reads);
    })

pub brief-given : {A E H : Type 0} (is_blank : H → Bool) (may_follow : H → List Call → Type 0) (h : JobHandler H)
    (s : brief.BriefSettings)
    (t : Tree) (old new : List ℕ) (r : Result A E) → h ≡ Built (handler.Brief s) → AlwaysReads t
    → OnOk r (AppendsOne (briefly.IsBrief s t) old new) → OnOk r
    (AlwaysReads t → new ≡ old ++ brief.brief s t brief.unlisted)
    → OnOk r (AppendsOne (IsGiven is_blank may_follow h t) old new)
brief-given is_blank may_follow h s t old new (Err e) is reads text only = tt
brief-given is_blank may_follow h s t old new (Ok x) is reads text only =
    given-as is_blank may_follow h (Built (handler.Brief s)) t old new is (record {
      text = brief.brief s t brief.unlisted;
      is_given = (brief-accepted t text.is_given.answers reads text.is_given.possible, refl);
      appended = only reads;
    })

pub brief-refuses : {H : Type 0} (h : JobHandler H) (s : brief.BriefSettings) (t : Tree) → h
    ≡ Built (handler.Brief s) → report_in_bounds t ≡ false → JobMayRefuse h t
brief-refuses {H} h s t is refused =
    let here : JobMayRefuse {H = H} (Built (handler.Brief s)) t = refused in
    subst (λ (k : JobHandler H). JobMayRefuse k t) (sym is) here

pub narrated-refuses : {H : Type 0} (h : JobHandler H) (s : narrated.NarrationSettings) (t : Tree) → h
    ≡ Built (handler.Narrated s) → report_in_bounds t ≡ false → JobMayRefuse h t
narrated-refuses {H} h s t is refused =
    let here : JobMayRefuse {H = H} (Built (handler.Narrated s)) t = refused in
    subst (λ (k : JobHandler H). JobMayRefuse k t) (sym is) here

-- the text where it was appended to none
pub text-given : {A E F Z : Type 0} (rendered : Result A E) (result : Result (String Z) F) (text : String Z)
    (old : List ℕ) (P : List ℕ → Type 0) → OnOk rendered (AppendsOne P old (string_bytes text))
    → IfOk result (λ it. (it ≡ text) × OnErr rendered ⊥) → old ≡ [] → IfOk result (λ it. P (string_bytes it))
text-given (Ok x) (Ok it) text old P one is none = subst (λ s. P (string_bytes s)) (sym is.0)
    (subst P (sym (one.appended ∙ ap (λ o. o ++ one.text) none)) one.is_given)
text-given (Err e) (Ok it) text old P one is none = absurd is.1
text-given (Ok x) (Err f) text old P one is none = tt
text-given (Err e) (Err f) text old P one is none = tt

-- the text where the handler's answer and its text go on under other names
pub handed-on : {A E F Z : Type 0} (given rendered : Result A E) (result : Result (String Z) F) (out text : String Z)
    (old : List ℕ) (P : List ℕ → Type 0) → OnOk given (AppendsOne P old (string_bytes out)) → rendered ≡ given → text
    ≡ out
    → IfOk result (λ it. (it ≡ text) × OnErr rendered ⊥) → old ≡ [] → IfOk result (λ it. P (string_bytes it))
handed-on given rendered result out text old P one is_given is_out ended none =
    text-given rendered result text old P (subst (λ r. OnOk r (AppendsOne P old (string_bytes text))) (sym is_given)
    (subst (λ s. OnOk given (AppendsOne P old (string_bytes s))) (sym is_out) one)) ended none

-- ---- what was asked for

-- of one picture after others the calls follow as of the first
first-picture : (is_blank : LanguageHighlighter → Bool) (it : MietteHandler LanguageHighlighter) (t : Tree)
    (text : List ℕ) → IsBuiltText is_blank (HappenLater TokensFollow) it t text
    → IsBuiltText is_blank (follows TokensFollow) it t text
first-picture is_blank (handler.Graphical it) t text given =
    let asked = given.0.1 in (
      (
        given.0.0,
        (asked.0, asked.1, report-follows it.highlighter it.settings t asked.0 asked.2, asked.3),
        given.0.2,
      ),
      given.1,
    )
first-picture is_blank (handler.Narrated it) t text given = given
first-picture is_blank (handler.Brief it) t text given = given

pub asked-text : (is_blank : LanguageHighlighter → Bool) (c : Choice) (o : Options LanguageHighlighter) (l : Terminal)
    (h : JobHandler LanguageHighlighter) (t : Tree) (text : List ℕ) → IsAsked c o l h
    → IsGiven is_blank TokensFollow h t text → IsJobText is_blank c o l t text
asked-text is_blank c o l chosen.Json t text is given = subst (λ k. IsJobText is_blank k o l t text) (sym is) given
asked-text is_blank c o l chosen.Debug t text is given = subst (λ k. IsJobText is_blank k o l t text) (sym is) given
asked-text is_blank c o l (Built it) t text is given =
    subst (λ k. IsJobText is_blank k o l t text) (sym is.0) (it, is.1, first-picture is_blank it t text given)

no-picture : {H : Type 0} (o : Options H) (l : Terminal) → o.brief ≡ true → is_graphical o l ≡ false
no-picture o l is = ap (λ b. not b && is_graphical (record o { brief = false }) l) is

pub asked-refusal : {H : Type 0} (c : Choice) (o : Options H) (l : Terminal) (h : JobHandler H) (t : Tree)
    → IsAsked c o l h → JobMayRefuse h t → IsTelling c o l × (report_in_bounds t ≡ false)
asked-refusal c o l chosen.Json t is refused = absurd refused
asked-refusal c o l chosen.Debug t is refused = absurd refused
asked-refusal c o l (Built (handler.Graphical it)) t is refused = absurd refused
asked-refusal c o l (Built (handler.Narrated it)) t is refused = ((is.0, is.1.0), refused)
asked-refusal c o l (Built (handler.Brief it)) t is refused = ((is.0, no-picture o l is.1.0), refused)

-- ---- where the handler was called before

pub stays-itself : {H : Type 0} (is_blank : H → Bool) (h : JobHandler H) → JobHandlerStays is_blank h h
stays-itself is_blank chosen.Json = refl
stays-itself is_blank chosen.Debug = refl
stays-itself is_blank (Built (handler.Graphical it)) = (refl, refl)
stays-itself is_blank (Built (handler.Narrated it)) = refl
stays-itself is_blank (Built (handler.Brief it)) = refl

pub stays-on : {H : Type 0} (is_blank : H → Bool) (h k m : JobHandler H) → JobHandlerStays is_blank h k
    → JobHandlerStays is_blank k m
    → JobHandlerStays is_blank h m
stays-on is_blank chosen.Json k m p q = subst (λ x. JobHandlerStays is_blank x m) p q
stays-on is_blank chosen.Debug k m p q = subst (λ x. JobHandlerStays is_blank x m) p q
stays-on is_blank (Built h) chosen.Json m p q = absurd p
stays-on is_blank (Built h) chosen.Debug m p q = absurd p
stays-on is_blank (Built h) (Built k) chosen.Json p q = absurd q
stays-on is_blank (Built h) (Built k) chosen.Debug p q = absurd q
stays-on is_blank (Built (handler.Graphical h)) (Built (handler.Graphical k)) (Built (handler.Graphical m)) p q =
    (q.0 ∙ p.0, q.1 ∙ p.1)
stays-on is_blank (Built (handler.Graphical h)) (Built (handler.Graphical k)) (Built (handler.Narrated m)) p q =
    absurd q
stays-on is_blank (Built (handler.Graphical h)) (Built (handler.Graphical k)) (Built (handler.Brief m)) p q = absurd q
stays-on is_blank (Built (handler.Graphical h)) (Built (handler.Narrated k)) (Built m) p q = absurd p
stays-on is_blank (Built (handler.Graphical h)) (Built (handler.Brief k)) (Built m) p q = absurd p
stays-on is_blank (Built (handler.Narrated h)) (Built (handler.Narrated k)) (Built (handler.Narrated m)) p q = q ∙ p
stays-on is_blank (Built (handler.Narrated h)) (Built (handler.Narrated k)) (Built (handler.Graphical m)) p q = absurd q
stays-on is_blank (Built (handler.Narrated h)) (Built (handler.Narrated k)) (Built (handler.Brief m)) p q = absurd q
stays-on is_blank (Built (handler.Narrated h)) (Built (handler.Graphical k)) (Built m) p q = absurd p
stays-on is_blank (Built (handler.Narrated h)) (Built (handler.Brief k)) (Built m) p q = absurd p
stays-on is_blank (Built (handler.Brief h)) (Built (handler.Brief k)) (Built (handler.Brief m)) p q = q ∙ p
stays-on is_blank (Built (handler.Brief h)) (Built (handler.Brief k)) (Built (handler.Graphical m)) p q = absurd q
stays-on is_blank (Built (handler.Brief h)) (Built (handler.Brief k)) (Built (handler.Narrated m)) p q = absurd q
stays-on is_blank (Built (handler.Brief h)) (Built (handler.Graphical k)) (Built m) p q = absurd p
stays-on is_blank (Built (handler.Brief h)) (Built (handler.Narrated k)) (Built m) p q = absurd p

-- what it gives then, it might have given at first
pub given-before : {H : Type 0} (is_blank : H → Bool) (may_follow : H → List Call → Type 0) (h k : JobHandler H)
    (t : Tree) (text : List ℕ) → JobHandlerStays is_blank h k → IsLed may_follow h k
    → IsGiven is_blank may_follow k t text
    → IsGiven is_blank may_follow h t text
given-before is_blank follow chosen.Json k t text stays led given =
    subst (λ x. IsGiven is_blank follow x t text) stays given
given-before is_blank follow chosen.Debug k t text stays led given =
    subst (λ x. IsGiven is_blank follow x t text) stays given
given-before is_blank follow (Built h) chosen.Json t text stays led given = absurd stays
given-before is_blank follow (Built h) chosen.Debug t text stays led given = absurd stays
given-before is_blank follow (Built (handler.Graphical h)) (Built (handler.Graphical k)) t text
    stays led given =
    let asked = given.0.1 in
    let happen = HappenLater follow h.highlighter in
    let happens_later : HappenLater follow h.highlighter (report_calls k.settings t asked.0) =
    happen-after follow (Built (handler.Graphical h)) (Built (handler.Graphical k))
    (report_calls k.settings t asked.0) led asked.2 in
    subst (λ b. drawn.IsTextByCalls whole_drawing h.settings b happen t text
    × (b ≡ true → text ≡ encode_utf8_all (report_text whole_drawing h.settings t unlisted))) stays.1
    (subst (λ s. drawn.IsTextByCalls whole_drawing s (draws_plain is_blank k) happen t text
    × (draws_plain is_blank k ≡ true → text ≡ encode_utf8_all (report_text whole_drawing s t unlisted))) stays.0
    ((given.0.0, (asked.0, asked.1, happens_later, asked.3), given.0.2), given.1))
given-before is_blank follow (Built (handler.Narrated h)) (Built (handler.Narrated k)) t text
    stays led given =
    subst (λ s. IsBuiltText is_blank (HappenLater follow) (handler.Narrated s) t text) stays given
given-before is_blank follow (Built (handler.Brief h)) (Built (handler.Brief k)) t text stays led given =
    subst (λ s. IsBuiltText is_blank (HappenLater follow) (handler.Brief s) t text) stays given
given-before b f (Built (handler.Graphical h)) (Built (handler.Narrated k)) t text p q given = absurd p
given-before b f (Built (handler.Graphical h)) (Built (handler.Brief k)) t text p q given = absurd p
given-before b f (Built (handler.Narrated h)) (Built (handler.Graphical k)) t text p q given = absurd p
given-before b f (Built (handler.Narrated h)) (Built (handler.Brief k)) t text p q given = absurd p
given-before b f (Built (handler.Brief h)) (Built (handler.Graphical k)) t text p q given = absurd p
given-before b f (Built (handler.Brief h)) (Built (handler.Narrated k)) t text p q given = absurd p

pub given-still : {Z E H : Type 0} (is_blank : H → Bool) (may_follow : H → List Call → Type 0) (h k : JobHandler H)
    (t : Tree) (r : Result (String Z) E) → JobHandlerStays is_blank h k → IsLed may_follow h k
    → IfOk r (λ text. IsGiven is_blank may_follow k t (string_bytes text))
    → IfOk r (λ text. IsGiven is_blank may_follow h t (string_bytes text))
given-still is_blank may_follow h k t (Ok text) stays led given =
    given-before is_blank may_follow h k t (string_bytes text) stays led given
given-still is_blank may_follow h k t (Err e) stays led given = tt

pub refused-before : {H : Type 0} (is_blank : H → Bool) (h k : JobHandler H) (t : Tree) → JobHandlerStays is_blank h k
    → JobMayRefuse k t → JobMayRefuse h t
refused-before is_blank chosen.Json k t stays refused = subst (λ x. JobMayRefuse x t) stays refused
refused-before is_blank chosen.Debug k t stays refused = subst (λ x. JobMayRefuse x t) stays refused
refused-before is_blank (Built h) chosen.Json t stays refused = absurd refused
refused-before is_blank (Built h) chosen.Debug t stays refused = absurd refused
refused-before is_blank (Built h) (Built (handler.Graphical k)) t stays refused = absurd refused
refused-before is_blank (Built (handler.Narrated h)) (Built (handler.Narrated k)) t stays refused =
    refused
refused-before is_blank (Built (handler.Brief h)) (Built (handler.Brief k)) t stays refused = refused
refused-before is_blank (Built (handler.Graphical h)) (Built (handler.Narrated k)) t stays refused =
    absurd stays
refused-before is_blank (Built (handler.Graphical h)) (Built (handler.Brief k)) t stays refused =
    absurd stays
refused-before is_blank (Built (handler.Narrated h)) (Built (handler.Brief k)) t stays refused =
    absurd stays
refused-before is_blank (Built (handler.Brief h)) (Built (handler.Narrated k)) t stays refused =
    absurd stays
