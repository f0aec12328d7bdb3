-- What a run of `show --fix` comes to.
use Rattle.std.proofs.Common.{◌≡◌, ℕ, List, [], ◌++◌, map, Bool, Option, Some, None, IfSome, subst, sym, ◌∙◌}
use Rattle.std.proofs.Common.{All, append-nil, string_bytes}
use Rattle.std.specs.Io.KnownBytes.{Appends}
use Rattle.std.proofs.KnownBytes.{Appends-trans}
use Rattle.std.proofs.lemmas.List.Elements.{All-weaker}
use Rattle.miette_fixes.specs.rules.Edits.{FixModel}
use Rattle.miette_protocol.specs.rules.Reading.{Source}
use Rattle.miette_devices.specs.views.Device.{TakesBeginning}
use Rattle.miette_show_rows.specs.rules.FixesByFile.{fixes_for, fixed_file_names}
use Rattle.miette_show_rows.specs.rules.Packages.{SkippedFixes, selected_fixes, skipped_fixes}
use Rattle.miette_show_rows.specs.rules.ApplicableFixes.{FileFixes, RowFixes}
use Rattle.miette_show_rows.specs.views.SelectedFixes.{skipped_in}
use Rattle.miette_show_rows.specs.views.Holding.{HoldsAll, fixes_at}
use Rattle.miette_show_rows.specs.declared.fixes_by_file.FixesByFile.{FixesByFile}
use Rattle.miette_show_rows.specs.declared.selected_fixes.SelectedFixes.{SelectedFixes}
use Rattle.miette_show_rows.specs.rules.Looking.{leads_out}
use Rattle.miette_show_rows.specs.rules.FixesFiles.{FileChange, Changes, ChangesAll, ChangesFirst, ChangesSome}
use Rattle.miette_show_rows.specs.rules.FixesFiles.{LinesGiveFixes}
use Rattle.miette_show_rows.specs.rules.FixesFiles.{FirstLinesGiveFixes, LineFixes, IsChange, IsOutcome, FixesFiles}
use Rattle.miette_show_rows.specs.rules.FixesFiles.{FixesFirstFiles, change_faults, unread_notes}
use Rattle.miette_show_rows.specs.rules.Statuses.{status_of}
use Rattle.miette_show_rows.specs.declared.verdict.Verdict.{Verdict}
use Rattle.miette_show_rows.proofs.Beginnings.{all_taken, taken_then}

change_by : (files : List ℕ → Option Source) (refuses : List ℕ → Type 0) (p q : List ℕ → List FixModel)
    → ((name : List ℕ) → p name ≡ q name) → (c : FileChange) → IsChange files refuses p c → IsChange files refuses q c
change_by files refuses p q same c is =
    subst (λ (f : List FixModel). IsOutcome (files c.name) (refuses c.name) (leads_out c.name) f c.text c.taken)
    (same c.name) is

-- what is done with the fixes that are held is done with those that rows give
each_changed : (refuses : List ℕ → Type 0) (files : List ℕ → Option Source) (new : FixesByFile) (all : List FileFixes)
    (changes : List FileChange) → HoldsAll new all → All (IsChange files refuses (fixes_at new.fixes)) changes
    → All (IsChange files refuses (λ name. fixes_for name all)) changes
each_changed refuses files new all changes held each =
    All-weaker (IsChange files refuses (fixes_at new.fixes)) (IsChange files refuses (λ name. fixes_for name all))
    (change_by files refuses (fixes_at new.fixes) (λ name. fixes_for name all) held.each) changes each

-- ---- the rows that are held are those that all parts give

-- of none that were held before
pub from_none : (found : (List ℕ → Option Source) → List (List ℕ) → Type 0) (verdict : Verdict)
    (first before after : Option (List ℕ)) (none held : List RowFixes) → none ≡ []
    → IfSome first (λ bytes. LinesGiveFixes found bytes (λ rows notes. (held ≡ none ++ rows)
    × Appends before after notes) verdict)
    → IfSome first (λ bytes. LinesGiveFixes found bytes (λ rows notes. (held ≡ rows) × Appends before after notes)
    verdict)
from_none found verdict first before after none held is gives =
    subst (λ (l : List RowFixes). IfSome first (λ bytes. LinesGiveFixes found bytes (λ rows notes. (held ≡ l ++ rows)
    × Appends before after notes) verdict)) is gives

module _ (found : (List ℕ → Option Source) → List (List ℕ) → Type 0) (refuses : List ℕ → Type 0) (broken : Bool)
    (files : List ℕ → Option Source) (verdict : Verdict) (held : List RowFixes) (those : SelectedFixes)
    (fixes : HoldsAll those.fixes (selected_fixes broken held)) (is_left : skipped_in those ≡ skipped_fixes broken held)
    (known : found files (map string_bytes those.fixes.names.items)) where
  names_known : found files (fixed_file_names (selected_fixes broken held))
  names_known = subst (found files) fixes.named known

  -- what is done with what is held
  changed_all : (holds : List FileChange → SkippedFixes → Type 0)
      → Changes files refuses (fixes_at those.fixes.fixes) (map string_bytes those.fixes.names.items)
      (λ changes. holds changes (skipped_in those))
      → ChangesAll found refuses (selected_fixes broken held) (λ changes. holds changes (skipped_fixes broken held))
  changed_all holds (changes, named, each, is) = (
    files,
    names_known,
    (
      changes,
      named ∙ fixes.named,
      each_changed refuses files those.fixes (selected_fixes broken held) changes fixes each,
      subst (holds changes) is_left is,
    ),
  )

  changed_some : (holds : List FileChange → SkippedFixes → Type 0)
      → ChangesFirst files refuses (fixes_at those.fixes.fixes) (map string_bytes those.fixes.names.items)
      (λ changes. holds changes (skipped_in those))
      → ChangesSome found refuses (selected_fixes broken held) (λ changes. holds changes (skipped_fixes broken held))
  changed_some holds (changes, others, named, each, is) = (
    files,
    names_known,
    (
      changes,
      others,
      sym fixes.named ∙ named,
      each_changed refuses files those.fixes (selected_fixes broken held) changes fixes each,
      subst (holds changes) is_left is,
    ),
  )

  -- what all rows come to
  pub mends_of : (first before after last : Option (List ℕ)) (done wrote said : List FileChange → SkippedFixes → Type 0)
      → IfSome first (λ bytes. LinesGiveFixes found bytes (λ rows notes. (held ≡ rows) × Appends before after notes)
      verdict)
      → Changes files refuses (fixes_at those.fixes.fixes) (map string_bytes those.fixes.names.items)
      (λ changes. done changes (skipped_in those) × wrote changes (skipped_in those) × said changes (skipped_in those)
      × Appends after last (change_faults changes (skipped_in those)))
      → IfSome first (λ bytes. FixesFiles found refuses broken bytes (λ changes left notes. done changes left
      × wrote changes left × said changes left × Appends before last (notes ++ change_faults changes left)) verdict)
  mends_of None before after last done wrote said gives changed = tt
  mends_of (Some bytes) before after last done wrote said (all, rows, each, (same, noted), is) changed =
      let holds : List FileChange → SkippedFixes → Type 0 = λ changes left. done changes left × wrote changes left
      × said changes left × Appends after last (change_faults changes left)
      in
      let those_done = changed_all holds changed in
      let with_notes : ChangesAll found refuses (selected_fixes broken held)
      (λ changes. done changes (skipped_fixes broken held) × wrote changes (skipped_fixes broken held)
      × said changes (skipped_fixes broken held)
      × Appends before last (unread_notes 1 all ++ change_faults changes (skipped_fixes broken held))) = (
        those_done.0,
        those_done.1,
        (
          those_done.2.0,
          those_done.2.1,
          those_done.2.2,
          (
            those_done.2.3.0,
            those_done.2.3.1,
            those_done.2.3.2,
            Appends-trans before after last (unread_notes 1 all) (change_faults those_done.2.0
                (skipped_fixes broken held))
                noted those_done.2.3.3,
          ),
        ),
      )
      in (
        all,
        rows,
        each,
        subst (λ (rs : List RowFixes). ChangesAll found refuses (selected_fixes broken rs)
            (λ changes. done changes (skipped_fixes broken rs) × wrote changes (skipped_fixes broken rs)
            × said changes (skipped_fixes broken rs)
            × Appends before last (unread_notes 1 all ++ change_faults changes (skipped_fixes broken rs)))) same
            with_notes,
        is,
      )

  -- as is what is done with the first of them
  pub first_of : (first before after last : Option (List ℕ)) (wrote said : List FileChange → SkippedFixes → Type 0)
      → IfSome first (λ bytes. LinesGiveFixes found bytes (λ rows notes. (held ≡ rows) × Appends before after notes)
      verdict)
      → ChangesFirst files refuses (fixes_at those.fixes.fixes) (map string_bytes those.fixes.names.items)
      (λ changes. wrote changes (skipped_in those) × said changes (skipped_in those)
      × TakesBeginning after last (change_faults changes (skipped_in those)))
      → IfSome first (λ bytes. FixesFirstFiles found refuses broken bytes (λ changes left notes. wrote changes left
      × said changes left × TakesBeginning before last (notes ++ change_faults changes left)))
  first_of None before after last wrote said gives changed = tt
  first_of (Some bytes) before after last wrote said (all, rows, each, (same, noted), is) changed =
      let holds : List FileChange → SkippedFixes → Type 0 = λ changes left. wrote changes left × said changes left
      × TakesBeginning after last (change_faults changes left)
      in
      let those_done = changed_some holds changed in
      let with_notes : ChangesSome found refuses (selected_fixes broken held)
      (λ changes. wrote changes (skipped_fixes broken held) × said changes (skipped_fixes broken held)
      × TakesBeginning before last (unread_notes 1 all ++ change_faults changes (skipped_fixes broken held))) = (
        those_done.0,
        those_done.1,
        (
          those_done.2.0,
          those_done.2.1,
          those_done.2.2,
          those_done.2.3,
          (
            those_done.2.4.0,
            those_done.2.4.1,
            taken_then before after last (unread_notes 1 all) (change_faults those_done.2.0 (skipped_fixes broken held))
                noted
                those_done.2.4.2,
          ),
        ),
      )
      in (
        verdict,
        (
          all,
          rows,
          each,
          subst (λ (rs : List RowFixes). ChangesSome found refuses (selected_fixes broken rs)
              (λ changes. wrote changes (skipped_fixes broken rs) × said changes (skipped_fixes broken rs)
              × TakesBeginning before last (unread_notes 1 all ++ change_faults changes (skipped_fixes broken rs))))
              same
              with_notes,
          is,
        ),
      )

-- all rows are the first ones
pub all_given : (found : (List ℕ → Option Source) → List (List ℕ) → Type 0) (adds : List RowFixes → Type 0)
    (verdict : Verdict) (first before after : Option (List ℕ))
    → IfSome first (λ bytes. LinesGiveFixes found bytes (λ rows notes. adds rows × Appends before after notes) verdict)
    → IfSome first (λ bytes. FirstLinesGiveFixes found bytes (TakesBeginning before after))
all_given found adds verdict None before after gives = tt
all_given found adds verdict (Some bytes) before after (all, rows, each, (added, notes), is) =
    (all, [], sym rows ∙ sym (append-nil (map (λ (s : LineFixes). s.row) all)), each, all_taken before after _ notes)

module _ (found : (List ℕ → Option Source) → List (List ℕ) → Type 0) (refuses : List ℕ → Type 0) (broken : Bool)
    (p q : List FileChange → SkippedFixes → List ℕ → Type 0)
    (h : (changes : List FileChange) (left : SkippedFixes) (notes : List ℕ) → p changes left notes
    → q changes left notes) where
  -- of which only this is told
  pub mends_weaker : (verdict : Verdict) (first : Option (List ℕ))
      → IfSome first (λ bytes. FixesFiles found refuses broken bytes p verdict)
      → IfSome first (λ bytes. FixesFiles found refuses broken bytes q verdict)
  mends_weaker verdict None mends = tt
  mends_weaker verdict (Some bytes) (all, rows, each, (files, known, changed), is) = (
    all,
    rows,
    each,
    (files, known, (changed.0, changed.1, changed.2, h changed.0 _ (unread_notes 1 all) changed.3)),
    is,
  )

  -- all of them are the first of them
  pub mends_first : (verdict : Verdict) (first : Option (List ℕ))
      → IfSome first (λ bytes. FixesFiles found refuses broken bytes p verdict)
      → IfSome first (λ bytes. FixesFirstFiles found refuses broken bytes q)
  mends_first verdict None mends = tt
  mends_first verdict (Some bytes) (all, rows, each, (files, known, changed), is) = (
    verdict,
    (
      all,
      rows,
      each,
      (
        files,
        known,
        (
          changed.0,
          [],
          sym changed.1 ∙ sym (append-nil (map (λ (c : FileChange). c.name) changed.0)),
          changed.2,
          h changed.0 _ (unread_notes 1 all) changed.3,
        ),
      ),
      is,
    ),
  )

  -- of the first of which only this is told
  pub first_weaker : (first : Option (List ℕ)) → IfSome first (λ bytes. FixesFirstFiles found refuses broken bytes p)
      → IfSome first (λ bytes. FixesFirstFiles found refuses broken bytes q)
  first_weaker None mends = tt
  first_weaker (Some bytes) (verdict, (all, rows, each, (files, known, changed), is)) = (
    verdict,
    (
      all,
      rows,
      each,
      (
        files,
        known,
        (changed.0, changed.1, changed.2, changed.3, h changed.0 _ (unread_notes 1 all) changed.4),
      ),
      is,
    ),
  )

  -- and the status is that of the verdict
  pub mends_status : (verdict : Verdict) (first : Option (List ℕ)) (n : ℕ) → n ≡ status_of verdict
      → IfSome first (λ bytes. FixesFiles found refuses broken bytes p verdict)
      → IfSome first (λ bytes. (v : Verdict) × (n ≡ status_of v) × FixesFiles found refuses broken bytes q v)
  mends_status verdict None n is mends = tt
  mends_status verdict (Some bytes) n is mends = (verdict, is, mends_weaker verdict (Some bytes) mends)
