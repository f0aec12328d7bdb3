-- All proposed fixes of `lint` combined into one. Its title says how many findings it resolves.
use Rattle.std.specs.Prelude.{ℕ, ◌-◌, List, ◌++◌, codes, decimal, length}
use Rattle.std.specs.List.{flat_map}
use Rattle.miette_fixes.specs.declared.applicability.Applicability.TheVariants.{MachineApplicable}
use Rattle.miette_fixes.specs.rules.Edits.{FixModel}
use Rattle.miette_lint.specs.rules.Findings.{findings_of}
use Rattle.miette_lint.specs.rules.Fixes.{fixed_text, proposals_of}

-- the number of findings of a source minus those of its fixed text
unfoldable pub mended_count : List ℕ → ℕ → ℕ
mended_count source width = length (findings_of source width) - length (findings_of (fixed_text source) width)

-- the title, for so many of `found` findings
abbrev pub resolved_text : ℕ → ℕ → List ℕ
resolved_text mended found = decimal mended ++ codes " of " ++ decimal found ++ codes " findings"

-- all edits that are proposed for a source
abbrev pub combined_proposal : List ℕ → ℕ → FixModel
combined_proposal source width = record {
  message = resolved_text (mended_count source width) (length (findings_of source width));
  applicability = MachineApplicable;
  edits = flat_map (λ (fix : FixModel). fix.edits) (proposals_of source);
}
