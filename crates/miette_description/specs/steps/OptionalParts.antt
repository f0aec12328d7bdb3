-- Optional parts of a report.
use Rattle.std.specs.Prelude.{List, [], ◌++◌, Option, Some, None, map, option_map, unwrap_or}
use Rattle.miette_description.specs.declared.diagnosis.DiagnosisParts.{DiagnosisParts}
use Rattle.miette_description.specs.rules.Members.{diagnosis_with}
use Rattle.miette_fixes.specs.rules.Edits.{FixModel, Replacement}
use Rattle.miette_protocol.specs.rules.Reading.{Source}
use Rattle.miette_protocol.specs.views.Diagnostic.{meaning_of}
use Rattle.miette_tree.specs.rules.Diagnosis.{Diagnosis, Section}
use Rattle.miette_tree.specs.rules.Tree.{Tree, Trees, with_source, with_related, with_all_snippets, with_fixes}
use Rattle.miette_tree.specs.views.Attachments.{section_of}

abbrev pub maybe_sourced : Option Source → Tree → Tree
maybe_sourced None t = t
maybe_sourced (Some s) t = with_source s t

abbrev pub maybe_related : Option Trees → Tree → Tree
maybe_related None t = t
maybe_related (Some r) t = with_related r t

abbrev pub maybe_snippets : Option (List Section) → Tree → Tree
maybe_snippets None t = t
maybe_snippets (Some sections) t = with_all_snippets sections t

abbrev pub maybe_fixes : Option (List FixModel) → Tree → Tree
maybe_fixes None t = t
maybe_fixes (Some fixes) t = with_fixes fixes t

-- the parts of the report itself, given what boxed sources represent
abbrev pub diagnosis_of_parts : {S : Type 0} → (S → Source) → DiagnosisParts S → Diagnosis
diagnosis_of_parts is it = diagnosis_with (meaning_of it.diagnostic)
    (unwrap_or (option_map (λ v. map (section_of is) v.items) it.snippets) [])
    (unwrap_or (option_map (λ v. v.items) it.fixes) [])

-- a fix with more edits
abbrev pub edited : FixModel → List Replacement → FixModel
edited fix edits = record fix { edits = fix.edits ++ edits }
