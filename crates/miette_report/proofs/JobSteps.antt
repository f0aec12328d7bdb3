-- Steps from a handler's text to what a job writes.
use Rattle.std.proofs.Common.{◌≡◌, ℕ, Bool, List, length, ◌∙◌, Option, None, Some, IfSome, Result, Ok}
use Rattle.std.proofs.Common.{Err, IfOk, IsUtf8, String, string_bytes, refl}
use Rattle.std.proofs.Common.{subst}
use Rattle.miette_program.specs.Options.{Options}
use Rattle.miette_style.specs.declared.theme.Terminal.{Terminal}
use Rattle.miette_tree.specs.rules.Tree.{Tree}
use Rattle.miette_program.specs.rules.JobText.{IsAsked, IsGiven, IsTelling, JobMayRefuse}
use Rattle.miette_description.specs.rules.Description.{tree_of_bytes}
use Rattle.miette_report.specs.rules.Job.{IsRefused, Writes}
use Rattle.miette_program.specs.declared.job_handler.JobHandler.{JobHandler}
use Rattle.miette_program.specs.declared.language.LanguageHighlighter.{LanguageHighlighter}
use Rattle.miette_program.specs.declared.arguments.Choice.{Choice}
use Rattle.miette_program.specs.rules.LanguageRules.{TokensFollow}
use Rattle.miette_program.proofs.JobHandlerSteps.{asked-text, asked-refusal}

-- ---- what was asked for

pub render-writes : {E Z : Type 0} (is_blank : LanguageHighlighter → Bool) (c : Choice)
    (o : Options LanguageHighlighter) (l : Terminal) (h : JobHandler LanguageHighlighter) (bytes : List ℕ) (t : Tree)
    (r : Result (String Z) E) → IsAsked c o l h → (IsUtf8 bytes × (tree_of_bytes bytes ≡ Some t))
    → IfOk r (λ text. IsGiven is_blank TokensFollow h t (string_bytes text))
    → IfOk r (λ text. Writes is_blank c o l bytes (λ given. string_bytes text ≡ given))
render-writes is_blank c o l h bytes t (Err e) is read given = tt
render-writes is_blank c o l h bytes t (Ok text) is read given =
    (read.0, (t, read.1, (string_bytes text, asked-text is_blank c o l h t (string_bytes text) is given, refl)))

pub render-refuses : {H : Type 0} (c : Choice) (o : Options H) (l : Terminal) (h : JobHandler H) (bytes : List ℕ)
    (t : Tree) → IsAsked c o l h → (IsUtf8 bytes × (tree_of_bytes bytes ≡ Some t)) → JobMayRefuse h t → IsTelling c o l
    × IsRefused bytes
render-refuses c o l h bytes t is read refused = let told = asked-refusal c o l h t is refused in
    (told.0, (read.0, (t, read.1, told.1)))

pub length-written : (is_blank : LanguageHighlighter → Bool) (c : Choice) (o : Options LanguageHighlighter)
    (l : Terminal) (h : JobHandler LanguageHighlighter) (bytes : List ℕ) (t : Tree) (text : List ℕ) (n : ℕ)
    → IsAsked c o l h → (IsUtf8 bytes × (tree_of_bytes bytes ≡ Some t)) → IsGiven is_blank TokensFollow h t text
    → n ≡ length text → Writes is_blank c o l bytes (λ given. n ≡ length given)
length-written is_blank c o l h bytes t text n is read given same =
    (read.0, (t, read.1, (text, asked-text is_blank c o l h t text is given, same)))

-- ---- what a writer took

pub written : (is_blank : LanguageHighlighter → Bool) (c : Choice) (o : Options LanguageHighlighter) (l : Terminal)
    (told : Option (List ℕ)) (bytes slice text sent : List ℕ) (holds : List ℕ → Type 0)
    → IfSome told (λ b. bytes ≡ b) → slice ≡ bytes
    → Writes is_blank c o l slice (λ given. text ≡ given) → sent ≡ text → holds sent
    → IfSome told (λ b. Writes is_blank c o l b holds)
written is_blank c o l None bytes slice text sent holds told same writes as_sent h = tt
written is_blank c o l (Some b) bytes slice text sent holds told same writes as_sent h =
    subst (λ x. Writes is_blank c o l x holds) (same ∙ told)
    (writes.0, (writes.1.0, writes.1.1, (writes.1.2.0, writes.1.2.1, subst holds (as_sent ∙ writes.1.2.2) h)))
