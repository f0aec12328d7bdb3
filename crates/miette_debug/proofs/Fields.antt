-- The fields of a report, put one after the other.
use Rattle.std.proofs.Common.{◌≡◌, ℕ, List, [], ◌∷◌, ◌++◌, Option, refl, ap, subst, ◌∙◌, append_assoc, codes}
use Rattle.miette_protocol.specs.views.Meaning.{Label}
use Rattle.miette_tree.specs.rules.Diagnosis.{Diagnosis}
use Rattle.miette_protocol.specs.declared.protocol.Severity.{Severity}
use Rattle.miette_tree.specs.rules.Tree.{Tree, head, cause_of, causes_of}
use Rattle.miette_tree.specs.rules.DiagnosticParts.{given_labels}
use Rattle.miette_tree.specs.views.Handler.{AppendsOne}
use Rattle.miette_debug.specs.rules.DebugText.{IsDebugText, AreFields, IsField, IsLabelsField, IsQuoted, nearest_cause}
use Rattle.miette_debug.specs.rules.DebugText.{severity_variant}

four : (old a b c new code severity url help : List ℕ) → a ≡ old ++ code → b ≡ a ++ severity → c ≡ b ++ url → new ≡ c
    ++ help
    → new ≡ old ++ (code ++ (severity ++ (url ++ help)))
four old a b c new code severity url help p q r s = s ∙ ap (λ l. l ++ help)
    (r ∙ ap (λ l. l ++ url) (q ∙ ap (λ l. l ++ severity) p)) ∙ simp append_assoc

pub members_put : (m : Diagnosis) (code : Option (List ℕ)) (severity : Option Severity) (variant : Option (List ℕ))
    (url help : Option (List ℕ)) (old a b c new : List ℕ) → code ≡ m.code → severity ≡ m.severity
    → variant ≡ severity_variant severity → url ≡ m.url → help ≡ m.help
    → AppendsOne (IsField (codes "code") code) old a → AppendsOne (IsField (codes "severity") variant) a b
    → AppendsOne (IsField (codes "url") url) b c → AppendsOne (IsField (codes "help") help) c new
    → AppendsOne (AreFields m) old new
members_put m code severity variant url help old a b c new ec es ev eu eh p q r s = record {
  text = p.text ++ (q.text ++ (r.text ++ s.text));
  is_given = record {
    code = p.text;
    severity = q.text;
    url = r.text;
    help = s.text;
    is_code = subst (λ k. IsField (codes "code") k p.text) ec p.is_given;
    is_severity = subst (λ k. IsField (codes "severity") k q.text) (ev ∙ ap severity_variant es) q.is_given;
    is_url = subst (λ k. IsField (codes "url") k r.text) eu r.is_given;
    is_help = subst (λ k. IsField (codes "help") k s.text) eh s.is_given;
    is = refl;
  };
  appended = four old a b c new p.text q.text r.text s.text p.appended q.appended r.appended s.appended;
}

joined : (old a b c d e new begin message fields labels cause end : List ℕ) → a ≡ old ++ begin → b ≡ a ++ message
    → c ≡ b ++ fields → d ≡ c ++ labels → e ≡ d ++ cause → new ≡ e ++ end
    → new ≡ old ++ (begin ++ (message ++ (fields ++ (labels ++ (cause ++ end)))))
joined old a b c d e new begin message fields labels cause end p q r s t u =
    u ∙ ap (λ l. l ++ end) (t ∙ ap (λ l. l ++ cause) (s ∙ ap (λ l. l ++ labels) (r ∙ ap (λ l. l ++ fields)
    (q ∙ ap (λ l. l ++ message) p)))) ∙ simp append_assoc

pub fields_put : (t : Tree) (message : List ℕ) (cause : Option (List ℕ)) (labels : List Label)
    (old a b c d e new : List ℕ)
    → message ≡ (head t).message → labels ≡ given_labels (head t).labels → cause
    ≡ nearest_cause (causes_of (cause_of t))
    → a ≡ old ++ codes "Diagnostic { message: " → AppendsOne (IsQuoted message) a b
    → AppendsOne (AreFields (head t)) b c → AppendsOne (IsLabelsField labels) c d
    → AppendsOne (IsField (codes "caused by") cause) d e → new ≡ e ++ (codes " }" ++ 10 ∷ [])
    → AppendsOne (IsDebugText t) old new
fields_put t message cause labels old a b c d e new em el ea p q r w x y =
    let ending = codes " }" ++ 10 ∷ [] in
    record {
      text = codes "Diagnostic { message: " ++ (q.text ++ (r.text ++ (w.text ++ (x.text ++ ending))));
      is_given = record {
        message = q.text;
        fields = r.text;
        labels = w.text;
        cause = x.text;
        is_message = subst (λ k. IsQuoted k q.text) em q.is_given;
        are_fields = r.is_given;
        are_labels = subst (λ k. IsLabelsField k w.text) el w.is_given;
        is_cause = subst (λ k. IsField (codes "caused by") k x.text) ea x.is_given;
        is = refl;
      };
      appended = joined old a b c d e new (codes "Diagnostic { message: ") q.text r.text w.text x.text ending p
          q.appended r.appended w.appended x.appended y;
    }
