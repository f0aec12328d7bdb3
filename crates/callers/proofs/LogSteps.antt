-- Reports that stand in one log.
use Rattle.std.proofs.Common.{◌≡◌, ◌∙◌, ◌++◌, ◌∷◌, [], ℕ, Bool, List, Some, None, Result, Ok, Err, ap, append-nil}
use Rattle.std.proofs.Common.{codes, refl, subst, sym, ⊎_elim}
use Rattle.std.specs.Io.KnownBytes.{Appends}
use Rattle.std.specs.Str.{chars}
use Rattle.std.proofs.KnownBytes.{Appends-trans}
use Rattle.miette_tree.specs.rules.Tree.{Tree}
use Rattle.miette_tree.specs.views.Handler.{AppendsOne}
use Rattle.miette_brief.specs.rules.PossibleAnswers.{IsBrief}
use Rattle.miette_brief.specs.rules.Report.{BriefSettings, brief, default_brief_settings, unlisted}
use Rattle.miette_brief.specs.rules.BriefSources.{BriefSourcesRead}
use Rattle.miette.specs.declared.print.PrintError.{PrintError}
use Rattle.miette.specs.declared.reporter.form.Form.{Form}
use Rattle.miette.specs.declared.reporter.form.Form.TheVariants.{Brief}
use Rattle.miette.specs.rules.Forms.{after_it, front}
use Rattle.miette.specs.rules.Reported.{AreReported, Behaviour, IsReported}
use Rattle.miette.specs.rules.ReporterRun.{ReporterRun}
use Rattle.callers.specs.Logged.{full_disk, no_host}

-- ---- any handler that stays as it is

-- rows have nothing around them
in_rows : (form : Form) (is_begun : Bool) (own : List ℕ) → form ≡ Brief
    → (front form is_begun ++ own) ++ after_it form ≡ own
in_rows form is_begun own is = subst (λ f. (front f is_begun ++ own) ++ after_it f ≡ own) (sym is) (append-nil own)

module _ {T W F : Type 0} (how : Behaviour T W) (stays : (a b : T) → how.keeps a b → b ≡ a) where
  handler_stays : (answer : Result (Unit {0}) PrintError) (old new : ReporterRun T W F) (t : Tree)
      → IsReported how answer old t new → new.handler ≡ old.handler
  handler_stays answer old new t one = ⊎_elim (λ same. same) (λ kept. stays old.handler new.handler kept) one.settings

  -- after a run without a failure this text was told, and before there was none either
  one_logged : (answer : Result (Unit {0}) PrintError) (old new : ReporterRun T W F) (t : Tree) (text : List ℕ)
      → old.form ≡ Brief → ((own : List ℕ) → how.gives old.handler t own → own ≡ text)
      → IsReported how answer old t new → new.failure ≡ None
      → (old.failure ≡ None) × Appends (how.contents old.outputs.writer) (how.contents new.outputs.writer) text
  one_logged (Ok x) old new t text form only one done =
      let told = one.written in (
        sym (ap (λ (it : ReporterRun T W F). it.failure) one.state) ∙ done,
        subst (λ bytes. Appends (how.contents old.outputs.writer) (how.contents new.outputs.writer) bytes)
            (told.1.2 ∙ in_rows old.form old.is_begun told.1.0 form ∙ only told.1.0 told.1.1) told.2,
      )
  one_logged (Err why) old new t text form only one done =
      absurd (let no : Some why ≡ None = sym (ap (λ (it : ReporterRun T W F). it.failure) one.state) ∙ done in cc)

  pub both_logged : (old new : ReporterRun T W F) (s t first second : Tree) (text more : List ℕ) → old.form ≡ Brief
      → ((own : List ℕ) → how.gives old.handler first own → own ≡ text)
      → ((own : List ℕ) → how.gives old.handler second own → own ≡ more)
      → s ≡ first → t ≡ second → AreReported how old (s ∷ t ∷ []) new → new.failure ≡ None
      → Appends (how.contents old.outputs.writer) (how.contents new.outputs.writer) (text ++ more)
  both_logged old new s t first second text more form one two p q h done =
      let mid : ReporterRun T W F = h.1 in
      let last : ReporterRun T W F = h.3.1 in
      let end : new ≡ last = h.3.3 in
      let same : mid.handler ≡ old.handler = handler_stays h.0 old mid s h.2 in
      let later = one_logged h.3.0 mid last t more (ap (λ (it : ReporterRun T W F). it.form) h.2.state ∙ form)
      (λ own given. two own (subst (λ it. how.gives it second own) same
      (subst (λ it. how.gives mid.handler it own) q given))) h.3.2
      (sym (ap (λ (it : ReporterRun T W F). it.failure) end) ∙ done) in
      let sooner = one_logged h.0 old mid s text form
      (λ own given. one own (subst (λ it. how.gives old.handler it own) p given)) h.2 later.0 in
      subst (λ (it : ReporterRun T W F). Appends (how.contents old.outputs.writer) (how.contents it.outputs.writer)
      (text ++ more)) (sym end)
      (Appends-trans (how.contents old.outputs.writer) (how.contents mid.outputs.writer)
      (how.contents last.outputs.writer) text more sooner.1 later.1)

-- ---- these two, told briefly

-- the one text of a report whose sources always read, as it has none
only_text : (t : Tree) (own : List ℕ) → BriefSourcesRead None t
    → ((s : BriefSettings) (t : Tree) (old new : List ℕ) → AppendsOne (IsBrief s t) old new → BriefSourcesRead None t
    → new ≡ old ++ brief s t unlisted)
    → IsBrief default_brief_settings t own → own ≡ brief default_brief_settings t unlisted
only_text t own reads law given =
    law default_brief_settings t [] own (record { text = own; is_given = given; appended = refl }) reads

pub full_text : (own : List ℕ)
    → ((s : BriefSettings) (t : Tree) (old new : List ℕ) → AppendsOne (IsBrief s t) old new → BriefSourcesRead None t
    → new ≡ old ++ brief s t unlisted)
    → IsBrief default_brief_settings full_disk own → own ≡ codes "error: the disk is full\n"
unfolding chars lib.Utf8.encode
full_text own law given = only_text full_disk own (tt, tt, tt) law given

pub host_text : (own : List ℕ)
    → ((s : BriefSettings) (t : Tree) (old new : List ℕ) → AppendsOne (IsBrief s t) old new → BriefSourcesRead None t
    → new ≡ old ++ brief s t unlisted)
    → IsBrief default_brief_settings no_host own → own ≡ codes "error: no such host\n"
unfolding chars lib.Utf8.encode
host_text own law given = only_text no_host own (tt, tt, tt) law given
