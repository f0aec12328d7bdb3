-- Fixed texts, character by character.
use Rattle.std.proofs.Common.{◌≡◌, Option, Some, None, codes, refl}
use Rattle.std.specs.Str.{chars}
use Rattle.miette_protocol.specs.declared.protocol.Severity.{Severity}
use Rattle.miette_protocol.specs.declared.protocol.Severity.TheVariants.{Advice, Warning, Error}
use Rattle.miette_tree.specs.rules.DiagnosticParts.{severity_title}

advice_characters : chars (codes "Advice: ") ≡ codes "Advice: "
unfolding chars
advice_characters = refl

warning_characters : chars (codes "Warning: ") ≡ codes "Warning: "
unfolding chars
warning_characters = refl

error_characters : chars (codes "Error: ") ≡ codes "Error: "
unfolding chars
error_characters = refl

pub title_characters : (severity : Option Severity) → chars (severity_title severity) ≡ severity_title severity
title_characters None = error_characters
title_characters (Some Error) = error_characters
title_characters (Some Warning) = warning_characters
title_characters (Some Advice) = advice_characters

pub help_text : chars (codes "  help: ") ≡ codes "  help: "
unfolding chars
help_text = refl

pub fix_words : chars (codes "  fix: ") ≡ codes "  fix: "
unfolding chars
fix_words = refl
