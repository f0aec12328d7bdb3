-- The places of labels and of fixes are over the sources that were seen.
use Rattle.std.proofs.Common.{◌≡◌, ℕ, Bool, true, false, List, [], ◌∷◌, ◌++◌, Option, Some, None, IfSome}
use Rattle.std.proofs.Common.{map, refl, sym, subst, arith, option_map, nat_lt, length}
use Rattle.std.specs.Prelude.{if◌then◌else◌, is_none, ◌&&◌}
use Rattle.std.specs.List.{AllByRecursion, list_all}
use Rattle.std.specs.Str.{is_utf8}
use Rattle.std.proofs.lemmas.Bool.{ltb-true}
use Rattle.miette_lines.specs.rules.Lists.{is_nil}
use Rattle.miette_fixes.specs.rules.Applying.{by_offset, edits_error}
use Rattle.miette_fixes.specs.rules.Edits.{FixModel, Replacement, end_of}
use Rattle.miette_positions.specs.declared.position.PositionEncoding.TheVariants.{Utf16}
use Rattle.miette_positions.specs.declared.position.Stretch.{Stretch}
use Rattle.miette_positions.specs.rules.Regions.{stretch_of}
use Rattle.miette_protocol.specs.rules.Reading.{Source, Span}
use Rattle.miette_protocol.specs.views.Meaning.{Label}
use Rattle.miette_sarif.specs.rules.Artifacts.{Artifacts}
use Rattle.miette_sarif.specs.rules.Findings.{SarifRegion, SarifLocation, ApplicableFix, ReplacementValue}
use Rattle.miette_sarif.specs.rules.Findings.{SnapshotValue, SourceName}
use Rattle.miette_sarif.specs.rules.Marks.{SourceLabels, PrimaryPick, area_at, area_over, first_picked, says_something}
use Rattle.miette_sarif.specs.rules.Marks.{mark_over, marks_from, marks_in, marks_of, other_marks, pick, pick_in}
use Rattle.miette_sarif.specs.rules.Marks.{pick_label, pick_over, picked_or, primary_in, primary_mark}
use Rattle.miette_sarif.specs.rules.Proposals.{Joined, joined, joined_from, later_end, listed_fix, meets, proposal_in}
use Rattle.miette_sarif.specs.rules.Proposals.{proposal_over, proposals, proposed, replaced, replacements, widened}
use Rattle.miette_read_laws.specs.laws.Files.{IsFixOver, IsMarkOver, IsOver}
use Rattle.miette_read_laws.specs.laws.Kept.{file_name}
use Rattle.miette_read_laws.specs.laws.RegionsBack.{IsIn}
use Rattle.miette_read_laws.proofs.RegionsBack.{span_in, widened_in}

-- a file that is found by a seen source's name has the text that was seen
abbrev pub IsThere : (List ℕ → Option Source) → Artifacts → SnapshotValue → Type 0
IsThere files a it =
    IfSome it.text (λ bytes. IfSome (files (file_name a it.source)) (λ (file : Source). file.bytes ≡ bytes))

-- ---- what holds of lists

pub all_more : {X : Type 0} (P : X → Type 0) (xs ys : List X) → AllByRecursion P xs → AllByRecursion P ys
    → AllByRecursion P (xs ++ ys)
all_more P [] ys h g = g
all_more P (x ∷ xs) ys h g = (h.0, all_more P xs ys h.1 g)

module _ (files : List ℕ → Option Source) (a : Artifacts) where
  -- ---- stretches

  in_file : (bytes : List ℕ) (s : Stretch) (o : Option Source) → IsIn bytes s
      → IfSome o (λ (file : Source). file.bytes ≡ bytes) → IfSome o (λ (file : Source). IsIn file.bytes s)
  in_file bytes s None is h = tt
  in_file bytes s (Some file) is h = subst (λ (text : List ℕ). IsIn text s) (sym h) is

  -- ---- marks

  area_is : (bytes : List ℕ) (span : Span) (name : SourceName) (o : Option Stretch) → stretch_of Utf16 bytes span ≡ o
      → IfSome (files (file_name a name)) (λ (file : Source). file.bytes ≡ bytes)
      → IfSome (option_map (area_at bytes) o) (λ (area : SarifRegion). IsOver files a name area.stretch)
  area_is bytes span name None e h = tt
  area_is bytes span name (Some s) e h = in_file bytes s (files (file_name a name)) (span_in bytes span s e) h

  area_seen : (text : Option (List ℕ)) (span : Span) (name : SourceName)
      → IfSome text (λ bytes. IfSome (files (file_name a name)) (λ (file : Source). file.bytes ≡ bytes))
      → IfSome (area_over text span) (λ (area : SarifRegion). IsOver files a name area.stretch)
  area_seen None span name h = tt
  area_seen (Some bytes) span name h = area_is bytes span name (stretch_of Utf16 bytes span) refl h

  mark_is : (over : Option SnapshotValue) (l : Label) → IfSome over (IsThere files a)
      → IsMarkOver files a (mark_over over l)
  mark_is None l h = tt
  mark_is (Some it) l h = area_seen it.text l.span it.source h

  mark_kept : (over : Option SnapshotValue) (l : Label) (ms : List SarifLocation) (b : Bool)
      → IfSome over (IsThere files a)
      → AllByRecursion (IsMarkOver files a) ms
      → AllByRecursion (IsMarkOver files a) (if b then mark_over over l ∷ ms else ms)
  mark_kept over l ms true h g = (mark_is over l h, g)
  mark_kept over l ms false h g = g

  marks_are : (over : Option SnapshotValue) (ls : List Label) → IfSome over (IsThere files a)
      → AllByRecursion (IsMarkOver files a) (marks_from over ls)
  marks_are over [] h = tt
  marks_are over (l ∷ ls) h =
      mark_kept over l (marks_from over ls) (says_something (mark_over over l)) h (marks_are over ls h)

  -- labels are over a source that is there
  abbrev pub IsGroupThere : SourceLabels → Type 0
  IsGroupThere g = IfSome g.over (IsThere files a)

  pub groups_are : (gs : List SourceLabels) → AllByRecursion IsGroupThere gs
      → AllByRecursion (IsMarkOver files a) (marks_of gs)
  groups_are [] h = tt
  groups_are (g ∷ gs) h =
      all_more (IsMarkOver files a) (marks_in g) (marks_of gs) (marks_are g.over g.labels h.0) (groups_are gs h.1)

  -- ---- the primary one

  abbrev IsFirstOver : SarifLocation × SourceLabels → Type 0
  IsFirstOver found = IsMarkOver files a found.0 × IsGroupThere found.1

  first_is : (it : SnapshotValue) (o : Option (Label × List Label)) → IsThere files a it
      → IfSome (option_map (λ found. (mark_over (Some it) found.0, record { over = Some it; labels = found.1 })) o)
      IsFirstOver
  first_is it None h = tt
  first_is it (Some found) h = (mark_is (Some it) found.0 h, h)

  first_over : (test : Label → Bool) (over : Option SnapshotValue) (ls : List Label) → IfSome over (IsThere files a)
      → IfSome (pick_over test over ls) IsFirstOver
  first_over test None ls h = tt
  first_over test (Some it) ls h = first_is it (pick_label test ls) h

  abbrev IsPickedOver : PrimaryPick → Type 0
  IsPickedOver it = IsMarkOver files a it.mark × AllByRecursion IsGroupThere it.others

  picked_by : (g : SourceLabels) (gs : List SourceLabels) (first : Option (SarifLocation × SourceLabels))
      (later : Option PrimaryPick) → IsGroupThere g
      → AllByRecursion IsGroupThere gs → IfSome first IsFirstOver → IfSome later IsPickedOver
      → IfSome (picked_or first g gs later) IsPickedOver
  picked_by g gs None None h k f l = tt
  picked_by g gs None (Some it) h k f l = (l.0, (h, l.1))
  picked_by g gs (Some found) later h k f l = (f.0, (f.1, k))

  picked_over : (test : Label → Bool) (gs : List SourceLabels) → AllByRecursion IsGroupThere gs
      → IfSome (pick test gs) IsPickedOver
  picked_over test [] h = tt
  picked_over test (g ∷ gs) h =
      picked_by g gs (pick_in test g) (pick test gs) h.0 h.1 (first_over test g.over g.labels h.0)
      (picked_over test gs h.1)

  either_over : (first later : Option PrimaryPick) → IfSome first IsPickedOver → IfSome later IsPickedOver
      → IfSome (first_picked first later) IsPickedOver
  either_over None later h g = g
  either_over (Some it) later h g = h

  pub primary_over : (gs : List SourceLabels) → AllByRecursion IsGroupThere gs → IfSome (primary_in gs) IsPickedOver
  primary_over gs h =
      either_over (pick (λ l. l.primary) gs) (pick (λ l. true) gs) (picked_over (λ l. l.primary) gs h)
      (picked_over (λ l. true) gs h)

  pub primary_is : (o : Option PrimaryPick) (over : Option SnapshotValue) → IfSome o IsPickedOver
      → IfSome (primary_mark o over) (IsMarkOver files a)
  primary_is None None h = tt
  primary_is None (Some it) h = tt
  primary_is (Some it) over h = h.0

  pub others_are : (o : Option PrimaryPick) (gs : List SourceLabels) → AllByRecursion IsGroupThere gs
      → IfSome o IsPickedOver
      → AllByRecursion (IsMarkOver files a) (other_marks o gs)
  others_are None gs h g = groups_are gs h
  others_are (Some it) gs h g = groups_are it.others g.1

  -- ---- edits

  end_later : (bytes : List ℕ) (s t : Stretch) (b : Bool) → nat_lt s.end.offset t.end.offset ≡ b → IsIn bytes s
      → IsIn bytes t → IsIn bytes (record s { end = if b then t.end else s.end })
  end_later bytes s t true e h g = record {
    start = h.start;
    end = g.end;
    order = omega (arith, h.order, ltb-true s.end.offset t.end.offset e);
  }
  end_later bytes s t false e h g = record { start = h.start; end = h.end; order = h.order }

  edit_in : (bytes : List ℕ) (e : Replacement) → IsIn bytes (widened bytes e)
  edit_in bytes e = widened_in bytes e.span.offset (end_of e) (omega arith)

  abbrev AllIn : List ℕ → List Joined → Type 0
  AllIn bytes = AllByRecursion (λ (j : Joined). IsIn bytes j.deleted)

  abbrev longer : List ℕ → Joined → Replacement → Joined
  longer bytes j e = record { deleted = later_end j.deleted (widened bytes e); edits = j.edits ++ e ∷ [] }

  abbrev begun : List ℕ → Replacement → Joined
  begun bytes e = record { deleted = widened bytes e; edits = e ∷ [] }

  either_in : (bytes : List ℕ) (j : Joined) (first more : List Joined) (b : Bool) → IsIn bytes j.deleted
      → AllIn bytes first → AllIn bytes more → AllIn bytes (if b then first else j ∷ more)
  either_in bytes j first more true h f g = f
  either_in bytes j first more false h f g = (h, g)

  joined_in : (bytes : List ℕ) (j : Joined) (es : List Replacement) → IsIn bytes j.deleted
      → AllIn bytes (joined_from bytes j es)
  joined_in bytes j [] h = (h, tt)
  joined_in bytes j (e ∷ es) h =
      let s : Stretch = widened bytes e in
      either_in bytes j (joined_from bytes (longer bytes j e) es) (joined_from bytes (begun bytes e) es)
      (meets j.deleted s) h
      (joined_in bytes (longer bytes j e) es
      (end_later bytes j.deleted s (nat_lt j.deleted.end.offset s.end.offset) refl h (edit_in bytes e)))
      (joined_in bytes (begun bytes e) es (edit_in bytes e))

  all_joined_in : (bytes : List ℕ) (es : List Replacement) → AllIn bytes (joined bytes es)
  all_joined_in bytes [] = tt
  all_joined_in bytes (e ∷ es) = joined_in bytes (begun bytes e) es (edit_in bytes e)

  replaced_over : (bytes : List ℕ) (name : SourceName) (js : List Joined) → AllIn bytes js
      → IfSome (files (file_name a name)) (λ (file : Source). file.bytes ≡ bytes)
      → AllByRecursion (λ (it : ReplacementValue). IsOver files a name it.deleted) (map (replaced bytes) js)
  replaced_over bytes name [] h k = tt
  replaced_over bytes name (j ∷ js) h k =
      (in_file bytes j.deleted (files (file_name a name)) h.0 k, replaced_over bytes name js h.1 k)

  -- ---- fixes

  no_edits : (name : SourceName) (fix : FixModel) (its : List ReplacementValue) (b : Bool)
      → AllByRecursion (λ (it : ReplacementValue). IsOver files a name it.deleted) its
      → IfSome (if b then None else Some (record {
        message = fix.message;
        applicability = fix.applicability;
        source = name;
        replacements = its;
      })) (IsFixOver files a)
  no_edits name fix its true h = tt
  no_edits name fix its false h = h

  applied : (name : SourceName) (fix : FixModel) (its : List ReplacementValue) (b : Bool)
      → AllByRecursion (λ (it : ReplacementValue). IsOver files a name it.deleted) its
      → IfSome (proposed name fix (if b then Some its else None)) (IsFixOver files a)
  applied name fix its true h = no_edits name fix its (is_nil fix.edits) h
  applied name fix its false h = tt

  fix_in : (name : SourceName) (text : Option (List ℕ)) (fix : FixModel)
      → IfSome text (λ bytes. IfSome (files (file_name a name)) (λ (file : Source). file.bytes ≡ bytes))
      → IfSome (proposal_in name text fix) (IsFixOver files a)
  fix_in name None fix h = tt
  fix_in name (Some bytes) fix h =
      applied name fix (replacements bytes fix.edits)
      (is_none (edits_error (length bytes) fix.edits)
      && list_all (λ (r : ReplacementValue). is_utf8 r.text) (replacements bytes fix.edits))
      (replaced_over bytes name (joined bytes (by_offset fix.edits)) (all_joined_in bytes (by_offset fix.edits)) h)

  fix_is : (over : Option SnapshotValue) (fix : FixModel) → IfSome over (IsThere files a)
      → IfSome (proposal_over over fix) (IsFixOver files a)
  fix_is None fix h = tt
  fix_is (Some it) fix h = fix_in it.source it.text fix h

  fix_kept : (o : Option ApplicableFix) (more : List ApplicableFix) → IfSome o (IsFixOver files a)
      → AllByRecursion (IsFixOver files a) more → AllByRecursion (IsFixOver files a) (listed_fix o more)
  fix_kept None more h g = g
  fix_kept (Some p) more h g = (h, g)

  pub fixes_are : (over : Option SnapshotValue) (fixes : List FixModel) → IfSome over (IsThere files a)
      → AllByRecursion (IsFixOver files a) (proposals over fixes)
  fixes_are over [] h = tt
  fixes_are over (fix ∷ fixes) h =
      fix_kept (proposal_over over fix) (proposals over fixes) (fix_is over fix h) (fixes_are over fixes h)
