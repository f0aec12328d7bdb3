-- Fixes over a source that was read as a whole.
use Rattle.std.proofs.Common.{◌≡◌, ◌≢◌, ℕ, ◌+◌, ◌-◌, true, false, List, [], ◌++◌, length}
use Rattle.std.proofs.Common.{Option, Some, None, sym, ap, ap₂, ◌∙◌, subst, append-nil, codes}
use Rattle.std.specs.Option.{option_map_or}
use Rattle.miette_fixes.specs.declared.error.FixError.{FixError}
use Rattle.miette_fixes.specs.declared.error.FixError.TheVariants.{OutOfBounds as OutOfRange, Memory}
use Rattle.miette_fixes.specs.rules.Applying.{by_offset, edits_error}
use Rattle.miette_fixes.specs.rules.Edits.{FixModel}
use Rattle.miette_protocol.specs.declared.error.MietteError.TheVariants.{OutOfBounds}
use Rattle.miette_protocol.specs.rules.Reading.{Source}
use Rattle.miette_tree.specs.rules.Reads.{MayMeet}
use Rattle.miette_tree.proofs.Refusals.{refused_so}
use Rattle.miette_tree.proofs.WholeReads.{never_fails}
use Rattle.miette_brief.specs.rules.Fixes.{brief_fix_origin, failed_rows, fix_failure_reason, applied_fix_rows}
use Rattle.miette_brief.specs.rules.Fixes.{rows_in, brief_fixes_rows, unread, no_source, read}
use Rattle.miette_brief.specs.rules.Rows.{BriefLocation, brief_rows_text}
use Rattle.miette_brief.specs.steps.AppendedParts.{AppendsBriefFixes}

-- ---- what is appended

pub no_fixes : (at : BriefLocation) (source : Option Source) (fixes : List FixModel) (old : List ℕ) → fixes ≡ []
    → AppendsBriefFixes at source fixes old old
no_fixes at source fixes old e = record {
  fails = false;
  possible = never_fails source;
  appended = sym (append-nil old)
      ∙ ap (λ x. old ++ brief_rows_text (brief_fixes_rows at (brief_fix_origin source false) x)) (sym e);
}

pub over_none : (at : BriefLocation) (source : Option Source) (fixes : List FixModel) (old new : List ℕ) → source ≡ None
    → new ≡ old ++ brief_rows_text (brief_fixes_rows at no_source fixes) → AppendsBriefFixes at source fixes old new
over_none at source fixes old new is e = record {
  fails = false;
  possible = never_fails source;
  appended = e ∙ ap (λ o. old ++ brief_rows_text (brief_fixes_rows at (brief_fix_origin o false) fixes)) (sym is);
}

pub over_read : (at : BriefLocation) (source : Option Source) (s : Source) (name : Option (List ℕ)) (bytes : List ℕ)
    (fixes : List FixModel) (old new : List ℕ) → source ≡ Some s → name ≡ s.name → bytes ≡ s.bytes
    → new ≡ old ++ brief_rows_text (brief_fixes_rows at (read name bytes) fixes)
    → AppendsBriefFixes at source fixes old new
over_read at source s name bytes fixes old new is same whole e = record {
  fails = false;
  possible = never_fails source;
  appended = e ∙ ap₂ (λ n bs. old ++ brief_rows_text (brief_fixes_rows at (read n bs) fixes)) same whole
      ∙ ap (λ o. old ++ brief_rows_text (brief_fixes_rows at (brief_fix_origin o false) fixes)) (sym is);
}

pub over_unread : (at : BriefLocation) (source : Option Source) (s : Source) (fixes : List FixModel) (old new : List ℕ)
    → source ≡ Some s → s.always_reads ≡ false → new ≡ old ++ brief_rows_text (brief_fixes_rows at unread fixes)
    → AppendsBriefFixes at source fixes old new
over_unread at source s fixes old new is fault e = record {
  fails = true;
  possible = subst (λ o. MayMeet o true) (sym is) (λ t. fault);
  appended = e ∙ ap (λ o. old ++ brief_rows_text (brief_fixes_rows at (brief_fix_origin o true) fixes)) (sym is);
}

-- ---- edits that can't be applied

pub outside_told : {edit : ℕ} (at : BriefLocation) (name : Option (List ℕ)) (bytes given : List ℕ) (proposal : FixModel)
    (e : FixError)
    → given ≡ bytes → (e ≢ Memory → edits_error (length given) proposal.edits ≡ Some e) → e ≡ OutOfRange edit
    → failed_rows at proposal.message (codes "OutOfBounds") ≡ rows_in at name bytes proposal
outside_told at name bytes given proposal e same h is =
    sym (ap (λ o. option_map_or (λ x. failed_rows at proposal.message (fix_failure_reason x)) o
    (applied_fix_rows at name bytes proposal.message (by_offset proposal.edits)))
    (ap (λ bs. edits_error (length bs) proposal.edits) (sym same) ∙ refused_so (length given) proposal.edits e h is))
