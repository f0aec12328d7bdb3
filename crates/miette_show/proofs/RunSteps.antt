-- What a run comes to.
use Rattle.std.proofs.Common.{◌≡◌, ◌⊎◌, ℕ, List, Bool, true, Option, Some, None, IfSome, inl, inr, subst}
use Rattle.std.specs.Prelude.{⊤}
use Rattle.std.specs.List.{flat_map}
use Rattle.std.proofs.lemmas.List.Elements.{All-weaker}
use Rattle.miette_fixes.specs.rules.Edits.{FixModel}
use Rattle.miette_program.specs.declared.language.LanguageHighlighter.{LanguageHighlighter}
use Rattle.miette_protocol.specs.rules.Reading.{Source}
use Rattle.miette_show_rows.specs.declared.verdict.Verdict.{Verdict}
use Rattle.miette_show_rows.specs.rules.FixesByFile.{fixes_for}
use Rattle.miette_show_rows.specs.rules.FixesFiles.{FileChange, FixesFiles, IsChange, IsOutcome, are_all_written}
use Rattle.miette_show_rows.specs.rules.FixesFiles.{given, written_by_change}
use Rattle.miette_show_rows.specs.rules.Looking.{leads_out}
use Rattle.miette_show_rows.specs.rules.Packages.{selected_fixes}
use Rattle.miette_show_rows.specs.rules.Statuses.{status_of}
use Rattle.miette_show_rows.specs.views.Writing.{Writes}
use Rattle.miette_show.specs.declared.request.ShowRequest.{ShowRequest}
use Rattle.miette_show.specs.declared.request.ShowRequest.TheVariants.{Draw, Log, Fix}
use Rattle.miette_show.specs.views.Asked.{IsRun}

-- ---- the status of the program

any_store : (file : Option Source) (may_refuse : Type 0) (out : Bool) (fixes : List FixModel) (text : List ℕ)
    (which : Option (List Bool)) → IsOutcome file may_refuse out fixes text which
    → IsOutcome file ⊤ out fixes text which
any_store file may_refuse out fixes text None (inl none) = inl none
any_store file may_refuse out fixes text None (inr (inl leads)) = inr (inl leads)
any_store file may_refuse out fixes text None (inr (inr refused)) = inr (inr tt)
any_store file may_refuse out fixes text (Some which) is = is

changed : (files : List ℕ → Option Source) (refuses : List ℕ → Type 0) (fixes : List ℕ → List FixModel)
    (c : FileChange) → IsChange files refuses fixes c → IsChange files (λ name. ⊤) fixes c
changed files refuses fixes c is =
    any_store (files c.name) (refuses c.name) (leads_out c.name) (fixes c.name) c.text c.taken is

module _ (found : (List ℕ → Option Source) → List (List ℕ) → Type 0) (refuses : List ℕ → Type 0)
    (old new : Option (List (List ℕ × List ℕ))) where
  fixed : (broken : Bool) (bytes : List ℕ) (v : Verdict)
      → FixesFiles found refuses broken bytes (λ changes left notes. (are_all_written changes left ≡ true)
      × Writes old new (flat_map written_by_change changes)) v
      → FixesFiles found (λ name. ⊤) broken bytes (λ changes left notes. are_all_written changes left ≡ true) v
  fixed broken bytes v (all, rows, each, (files, known, (changes, names, are, held)), is) =
      let fixes : List ℕ → List FixModel = λ name. fixes_for name (selected_fixes broken (given all)) in (
        all,
        rows,
        each,
        (
          files,
          known,
          (
            changes,
            names,
            All-weaker (IsChange files refuses fixes) (IsChange files (λ name. ⊤) fixes)
                (changed files refuses fixes) changes are,
            held.0,
          ),
        ),
        is,
      )

  untold : (is_blank : LanguageHighlighter → Bool) (request : ShowRequest) (bytes : List ℕ) (v : Verdict)
      → IsRun is_blank found (λ broken bytes v. FixesFiles found refuses broken bytes
      (λ changes left notes. (are_all_written changes left ≡ true)
      × Writes old new (flat_map written_by_change changes)) v) request bytes v
      → IsRun is_blank found (λ broken bytes v. FixesFiles found (λ name. ⊤) broken bytes
      (λ changes left notes. are_all_written changes left ≡ true) v) request bytes v
  untold is_blank (Draw from it) bytes v runs = runs
  untold is_blank (Log from asked) bytes v runs = runs
  untold is_blank (Fix broken) bytes v runs = fixed broken bytes v runs

module _ {F : Type 0} (is_blank : LanguageHighlighter → Bool)
    (found : F → (List ℕ → Option Source) → List (List ℕ) → Type 0)
    (here : (List ℕ → Option Source) → List (List ℕ) → Type 0) (refuses : List ℕ → Type 0)
    (old new : Option (List (List ℕ × List ℕ))) (are_asked : ShowRequest → Type 0)
    (are_new : F → Type 0) (are_below : F → Type 0) (request : ShowRequest) (files : F) (asked : are_asked request)
    (unread : are_new files) (below : are_below files) (same : here ≡ found files) where
  -- some request was run over some files
  pub program-status : (told : Option (List ℕ)) (status : ℕ)
      → (status ≡ 2) ⊎ IfSome told (λ bytes. (v : Verdict) × (status ≡ status_of v)
      × IsRun is_blank here (λ broken bytes v. FixesFiles here refuses broken bytes
      (λ changes left notes. (are_all_written changes left ≡ true)
      × Writes old new (flat_map written_by_change changes)) v) request bytes v)
      → (status ≡ 2) ⊎ IfSome told (λ bytes. (r : ShowRequest) × (v : Verdict) × (status ≡ status_of v)
      × are_asked r × (fs : F) × IsRun is_blank (found fs) (λ broken bytes v. FixesFiles (found fs) (λ name. ⊤) broken
      bytes (λ changes left notes. are_all_written changes left ≡ true) v) r bytes v × are_new fs × are_below fs)
  program-status told status (inl two) = inl two
  program-status None status (inr runs) = inr tt
  program-status (Some bytes) status (inr (v, is, runs)) =
      let here_run = untold here refuses old new is_blank request bytes v runs in
      let run : IsRun is_blank (found files) (λ broken bytes v. FixesFiles (found files) (λ name. ⊤) broken bytes
      (λ changes left notes. are_all_written changes left ≡ true) v) request bytes v =
      subst (λ (f : (List ℕ → Option Source) → List (List ℕ) → Type 0). IsRun is_blank f
      (λ broken bytes v. FixesFiles f (λ name. ⊤) broken bytes
      (λ changes left notes. are_all_written changes left ≡ true) v) request bytes v) same here_run
      in
      inr (request, v, is, asked, files, run, unread, below)
