use Rattle.std.proofs.Common.{ℕ, ◌≡◌, ◌++◌, ◌∷◌, [], List, not, true, false, ap, sym, ◌∙◌, refl}
use Rattle.std.proofs.Common.{append_assoc, append-nil}
use Rattle.std.proofs.lemmas.Result.{on_ok_weaker}
use Rattle.miette_lines.specs.rules.Lists.{is_nil}
use Rattle.miette_runs.specs.rules.Runs.{Fragment, print}
use Rattle.miette_tree.specs.rules.DiagnosticParts.{severity_title}
use Rattle.miette_tree.specs.rules.Tree.{head}
use Rattle.miette_tree.specs.views.Report.{tree_of}
use Rattle.miette_graphical_rules.specs.rules.DiagnosticText.{header, header_or_end}
use Rattle.miette_graphical.specs.views.Painting.{settings_of}
use Rattle.miette_graphical.proofs.diagnostic.push_title.Goals as goal

header_stays : (h : List Fragment) → not (is_nil h) ≡ true → header_or_end h ≡ h
header_stays [] e = absurd (cc)
header_stays (f ∷ fs) e = refl

no_header : (h : List Fragment) → not (is_nil h) ≡ false → h ≡ []
no_header [] e = refl
no_header (f ∷ fs) e = absurd (cc)

-- a row's end, a title and a header, or the row's end again
titled : (old begun named new title : List ℕ) (h : List Fragment) → begun ≡ old ++ 10 ∷ [] → named ≡ begun ++ title
    → new ≡ named ++ print h → not (is_nil h) ≡ true
    → new ≡ old ++ (10 ∷ [] ++ (title ++ print (header_or_end h)))
titled old begun named new title h b t n e =
    n ∙ ap (λ o. o ++ print h) (t ∙ ap (λ o. o ++ title) b) ∙ append_assoc (old ++ 10 ∷ []) title (print h)
    ∙ append_assoc old (10 ∷ []) (title ++ print h)
    ∙ ap (λ p. old ++ (10 ∷ [] ++ (title ++ print p))) (sym (header_stays h e))

untitled : (old begun named made new title : List ℕ) (h : List Fragment) → begun ≡ old ++ 10 ∷ []
    → named ≡ begun ++ title → made ≡ named ++ print h → not (is_nil h) ≡ false → new ≡ made ++ 10 ∷ []
    → new ≡ old ++ (10 ∷ [] ++ (title ++ print (header_or_end h)))
untitled old begun named made new title h b t m e n =
    n ∙ ap (λ o. o ++ 10 ∷ []) (m ∙ ap (λ x. named ++ print x) (no_header h e) ∙ append-nil named ∙ t
    ∙ ap (λ o. o ++ title) b)
    ∙ append_assoc (old ++ 10 ∷ []) title (10 ∷ []) ∙ append_assoc old (10 ∷ []) (title ++ 10 ∷ [])
    ∙ ap (λ p. old ++ (10 ∷ [] ++ (title ++ print (header_or_end p)))) (sym (no_header h e))

pub returns-then-branch-clause-text : goal.returns-then-branch-clause-text
returns-then-branch-clause-text g c =
    let m = head (tree_of g.D.Diagnostic.meaning g.S.SourceCode.source c.args.report.now) in
    titled c.args.painter.now.out c.push.new.self c.push_severity_title.new.out c.push_header_of.new.painter.out
    (severity_title m.severity) (header (settings_of c.args.painter.now) m) c.in_ok-push.ensures
    (c.in_ok-push_severity_title.ensures ∙ ap (λ s. c.push.new.self ++ severity_title s) c.severity.ensures)
    c.in_ok-push_header_of.ensures.text (sym c.in_ok-push_header_of.ensures.shown ∙ c.if-branch.true)

pub returns-clause-text : goal.returns-clause-text
returns-clause-text g c =
    let m = head (tree_of g.D.Diagnostic.meaning g.S.SourceCode.source c.args.report.now) in
    on_ok_weaker c.push-2.result (λ h.
    untitled c.args.painter.now.out c.push.new.self c.push_severity_title.new.out c.push_header_of.new.painter.out
    c.push-2.new.self (severity_title m.severity) (header (settings_of c.args.painter.now) m) c.in_ok-push.ensures
    (c.in_ok-push_severity_title.ensures ∙ ap (λ s. c.push.new.self ++ severity_title s) c.severity.ensures)
    c.in_ok-push_header_of.ensures.text (sym c.in_ok-push_header_of.ensures.shown ∙ c.if-branch.false) h)
    c.push-2.ensures
