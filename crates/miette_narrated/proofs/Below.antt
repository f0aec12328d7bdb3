-- The rows of a diagnostic below its causes, put together from their parts.
use Rattle.std.proofs.Common.{◌≡◌, ℕ, List, [], ◌∷◌, ◌++◌, Bool, true, false, Option, Some, None, refl, ap, ◌∙◌}
use Rattle.std.proofs.Common.{append_assoc, codes}
use Rattle.miette_fixes.specs.rules.Edits.{FixModel}
use Rattle.miette_protocol.specs.rules.Reading.{Source}
use Rattle.miette_tree.specs.rules.Diagnosis.{Diagnosis}
use Rattle.miette_tree.specs.rules.Reads.{MayMeet}
use Rattle.miette_tree.proofs.Readings.{fault_free}
use Rattle.miette_narrated.specs.rules.Fixes.{narrated_fix_origin, narrated_fixes_rows}
use Rattle.miette_narrated.specs.rules.Report.{all_narrated_snippets, advice_rows, row_if, url_rows}
use Rattle.miette_narrated.specs.rules.PossibleAnswers.{reads_for_fixes}
use Rattle.miette_narrated.specs.steps.AppendedParts.{AppendsAll, AppendsNarratedAdvice, AppendsBelow}

pub below_told : (context : ℕ) (source : Option Source) (m : Diagnosis) (old now new : List ℕ)
    → AppendsAll context source m old now → AppendsNarratedAdvice source m now new
    → AppendsBelow context source m old new
below_told context source m old now new s a = record {
  answers = record { own = s.answers.own; further = s.answers.further; fixes = a.fails };
  possible = (s.own, s.further, a.possible);
  appended = a.appended ∙ ap (λ x. x ++ advice_rows source a.fails m) s.appended
      ∙ append_assoc old (all_narrated_snippets context source s.answers m) (advice_rows source a.fails m);
}

same_fixes : (source : Option Source) (fails : Bool) (fixes : List FixModel) → MayMeet source fails
    → reads_for_fixes source fixes ≡ true
    → narrated_fixes_rows (narrated_fix_origin source fails) fixes ≡ narrated_fixes_rows
    (narrated_fix_origin source false) fixes
same_fixes None fails fixes h e = refl
same_fixes (Some source) fails [] h e = refl
same_fixes (Some source) fails (fix ∷ fixes) h e =
    ap (λ b. narrated_fixes_rows (narrated_fix_origin (Some source) b) (fix ∷ fixes))
    (fault_free (Some source) fails h e)

pub same_advice : (source : Option Source) (fails : Bool) (m : Diagnosis) → MayMeet source fails
    → reads_for_fixes source m.fixes ≡ true → advice_rows source fails m ≡ advice_rows source false m
same_advice source fails m h e =
    ap (λ x. row_if (codes "diagnostic help: ") m.help ++ (x ++ (row_if (codes "diagnostic code: ") m.code
    ++ url_rows m.url))) (same_fixes source fails m.fixes h e)
