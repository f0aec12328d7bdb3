-- Sources that are texts.
use Rattle.std.proofs.Common.{◌≡◌, ◌∙◌, ◌<◌, ℕ, List, length, refl, subst, sym, true, false}
use Rattle.std.specs.Prelude.{IsUtf8, Option, Some, None, Result, Ok, Err, if◌then◌else◌, is_err, is_some}
use Rattle.miette_protocol.specs.rules.Outcome.{Answers, IsReadError}
use Rattle.miette_protocol.specs.rules.Reading.{Contents, Source, Span, contents_of}
use Rattle.miette_protocol.specs.declared.error.MietteError.{MietteError}
use Rattle.miette_tree.proofs.WholeReads.{fault_met, nowhere, read_whole}
use Rattle.miette.specs.rules.Texts.{IsTextSource}

pub text_made : (source : Source) (bytes : List ℕ) → source.bytes ≡ bytes → source.always_reads ≡ true → IsUtf8 bytes
    → IsTextSource source
text_made source bytes e reads text = record {
  utf8 = subst IsUtf8 (sym e) text;
  reads = reads;
}

-- where no language is given, a text has none
pub language_given : (given : Option (List ℕ)) → (if is_some given then given else None) ≡ given
language_given None = refl
language_given (Some language) = refl

-- the largest number of context lines reaches the end
abbrev pub most : ℕ
most = 18446744073709551615

pub whole : (source : Source) (contents : Contents) (bytes : List ℕ) → contents ≡ contents_of source nowhere 1 most
    → bytes ≡ contents.bytes → length bytes < most → bytes ≡ source.bytes
whole source contents bytes is at small = read_whole source nowhere contents bytes refl is at small

-- its beginning can be read
pub never_refused : (source : Source) (e : MietteError) → IsTextSource source → IsReadError source nowhere e → ⊥
never_refused source e text refused =
    (let no : true ≡ false = sym text.reads ∙ fault_met source e refused in cc)

pub always_ok : (source : Source) (span : Span) (r : Result Contents MietteError) → IsTextSource source → span ≡ nowhere
    → Answers source span 1 most r → is_err r ≡ true → ⊥
always_ok source span (Ok x) text begin answers h = (let no : false ≡ true = h in cc)
always_ok source span (Err e) text begin answers h =
    never_refused source e text (subst (λ s. IsReadError source s e) begin answers)
