-- What is known of each fix that can be applied, and of each that can't, is told of each fix; also of equal ones.
use Rattle.std.proofs.Common.{◌≡◌, ◌⊎◌, ℕ, Bool, true, false, List, [], ◌∷◌, ◌++◌, Option, Some, None, map, refl}
use Rattle.std.proofs.Common.{ap, sym, subst}
use Rattle.std.proofs.Common.{inl, inr, length}
use Rattle.std.specs.Prelude.{IfSome, MatchOption, bytes_eq, if◌then◌else◌, is_none, slice_range, ◌&&◌}
use Rattle.std.specs.List.{AllByRecursion, list_all, list_any}
use Rattle.std.specs.Str.{is_utf8}
use Rattle.std.proofs.lemmas.Bool.{or_cases}
use Rattle.std.proofs.lemmas.Slice.Eq.{bytes_eq-Decides}
use Rattle.indexmap.specs.IndexSet.{insert_key}
use Rattle.miette_lines.specs.rules.Lists.{is_nil}
use Rattle.miette_fixes.specs.rules.Applying.{by_offset, put_edit, edits_error}
use Rattle.miette_fixes.specs.rules.Edits.{FixModel, Replacement, end_of, is_after}
use Rattle.miette_json.specs.rules.Denotes.{HasTokensOf}
use Rattle.miette_json.specs.rules.Json.{Json, json_text}
use Rattle.miette_json.proofs.JsonSpelled.{spelling_tokens_lem}
use Rattle.miette_json.proofs.JsonUnique.{one_value_lem}
use Rattle.miette_sarif.specs.rules.Findings.{ApplicableFix, ReplacementValue, SnapshotValue, SourceName}
use Rattle.miette_sarif.specs.rules.Proposals.{Joined, joined, joined_from, later_end, listed_fix, meets}
use Rattle.miette_sarif.specs.rules.Proposals.{proposal_in, proposal_over, proposals, proposed, refused, refused_fix}
use Rattle.miette_sarif.specs.rules.Proposals.{replaced, replacements, text_between, widened}
use Rattle.miette_sarif.specs.rules.Results.{first_values, one_first}
use Rattle.miette_sarif.specs.laws.ReportTexts.{CannotBeApplied}
use Rattle.miette_sarif.specs.laws.Values.{IsPart}
use Rattle.miette_sarif.proofs.Lists.{all_append, all_split}
use Rattle.miette_sarif.proofs.Parts.{part_left, part_right, part_self}

-- ---- edits, by the texts that are inserted

abbrev AllEdits : (List ℕ → Type 0) → List Replacement → Type 0
AllEdits Q = AllByRecursion (λ (e : Replacement). Q e.text)

abbrev AllInserted : (List ℕ → Type 0) → List ReplacementValue → Type 0
AllInserted Q = AllByRecursion (λ (it : ReplacementValue). Q it.text)

-- what holds of a text holds of its parts
abbrev GoesDown : (List ℕ → Type 0) → Type 0
GoesDown Q = (part whole : List ℕ) → IsPart part whole → Q whole → Q part

between_told : (Q : List ℕ → Type 0) → GoesDown Q → (bytes : List ℕ) (at end : ℕ) (es : List Replacement)
    → Q (text_between bytes at end es) → AllEdits Q es
between_told Q down bytes at end [] h = tt
between_told Q down bytes at end (e ∷ es) h =
    let kept : List ℕ = slice_range bytes at e.span.offset in
    let rest : List ℕ = text_between bytes (end_of e) end es in (
      down e.text (kept ++ e.text ++ rest)
          (part_left e.text (kept ++ e.text) rest (part_right e.text e.text kept (part_self e.text))) h,
      between_told Q down bytes (end_of e) end es
          (down rest (kept ++ e.text ++ rest) (part_right rest rest (kept ++ e.text) (part_self rest)) h),
    )

abbrev begun : List ℕ → Replacement → Joined
begun bytes e = record { deleted = widened bytes e; edits = e ∷ [] }

abbrev longer : List ℕ → Joined → Replacement → Joined
longer bytes j e = record { deleted = later_end j.deleted (widened bytes e); edits = j.edits ++ e ∷ [] }

one_joined : (Q : List ℕ → Type 0) → GoesDown Q → (bytes : List ℕ) (j : Joined) (e : Replacement)
    (es : List Replacement) (b : Bool)
    → (AllInserted Q (map (replaced bytes) (joined_from bytes (longer bytes j e) es))
    → AllEdits Q (j.edits ++ e ∷ []) × AllEdits Q es)
    → (AllInserted Q (map (replaced bytes) (joined_from bytes (begun bytes e) es))
    → AllEdits Q (e ∷ []) × AllEdits Q es)
    → AllInserted Q (map (replaced bytes) (if b then joined_from bytes (longer bytes j e) es
    else j ∷ joined_from bytes (begun bytes e) es)) → AllEdits Q j.edits × AllEdits Q (e ∷ es)
one_joined Q down bytes j e es true f g h =
    let all = f h in
    let parts = all_split (λ (it : Replacement). Q it.text) j.edits (e ∷ []) all.0 in
    (parts.0, (parts.1.0, all.1))
one_joined Q down bytes j e es false f g h =
    let all = g h.1 in (
      between_told Q down bytes j.deleted.start.offset j.deleted.end.offset j.edits h.0,
      (all.0.0, all.1),
    )

joined_told : (Q : List ℕ → Type 0) → GoesDown Q → (bytes : List ℕ) (j : Joined) (es : List Replacement)
    → AllInserted Q (map (replaced bytes) (joined_from bytes j es)) → AllEdits Q j.edits × AllEdits Q es
joined_told Q down bytes j [] h =
    (between_told Q down bytes j.deleted.start.offset j.deleted.end.offset j.edits h.0, tt)
joined_told Q down bytes j (e ∷ es) h =
    one_joined Q down bytes j e es (meets j.deleted (widened bytes e))
    (joined_told Q down bytes (longer bytes j e) es) (joined_told Q down bytes (begun bytes e) es) h

all_joined : (Q : List ℕ → Type 0) → GoesDown Q → (bytes : List ℕ) (es : List Replacement)
    → AllInserted Q (map (replaced bytes) (joined bytes es)) → AllEdits Q es
all_joined Q down bytes [] h = tt
all_joined Q down bytes (e ∷ es) h =
    let all = joined_told Q down bytes (begun bytes e) es h in (all.0.0, all.1)

put_told : (Q : List ℕ → Type 0) (e next : Replacement) (es : List Replacement) (b : Bool)
    → (AllEdits Q (put_edit e es) → AllEdits Q (e ∷ es))
    → AllEdits Q (if b then next ∷ put_edit e es else e ∷ next ∷ es) → AllEdits Q (e ∷ next ∷ es)
put_told Q e next es true f h = let rest = f h.1 in (rest.0, (h.0, rest.1))
put_told Q e next es false f h = h

one_put : (Q : List ℕ → Type 0) (e : Replacement) (es : List Replacement) → AllEdits Q (put_edit e es)
    → AllEdits Q (e ∷ es)
one_put Q e [] h = h
one_put Q e (next ∷ es) h = put_told Q e next es (is_after e next) (one_put Q e es) h

order_told : (Q : List ℕ → Type 0) (es : List Replacement) → AllEdits Q (by_offset es) → AllEdits Q es
order_told Q [] h = tt
order_told Q (e ∷ es) h = let put = one_put Q e (by_offset es) h in (put.0, order_told Q es put.1)

edits_told : (Q : List ℕ → Type 0) → GoesDown Q → (bytes : List ℕ) (es : List Replacement)
    → AllInserted Q (replacements bytes es) → AllEdits Q es
edits_told Q down bytes es h = order_told Q es (all_joined Q down bytes (by_offset es) h)

-- ---- fixes

-- what holds of a message, of the texts that are inserted, and of the source
abbrev pub Proposes : (List ℕ → Type 0) → (List ℕ → Type 0) → (SourceName → Type 0) → ApplicableFix → Type 0
Proposes M Q N it = M it.message × AllByRecursion (λ (r : ReplacementValue). Q r.text) it.replacements × N it.source

-- of a message, of the texts of edits, and of the source; else of the message alone, of a fix that can't be applied
abbrev TellsIn : (List ℕ → Type 0) → (List ℕ → Type 0) → (SourceName → Type 0) → (List ℕ → Type 0) → SourceName
    → Option (List ℕ) → FixModel → Type 0
TellsIn M Q N U source text fix = (M fix.message × AllByRecursion (λ (e : Replacement). Q e.text) fix.edits × N source)
    ⊎ (U fix.message × IfSome text (λ bytes. CannotBeApplied bytes fix))

-- over a source, or over none, where it is the message alone
abbrev pub TellsBy : (List ℕ → Type 0) → (List ℕ → Type 0) → (SourceName → Type 0) → (List ℕ → Type 0)
    → Option SnapshotValue → FixModel → Type 0
TellsBy M Q N U None fix = U fix.message
TellsBy M Q N U (Some it) fix = TellsIn M Q N U it.source it.text fix

no_edits : (edits : List Replacement) → is_nil edits ≡ true → edits ≡ []
no_edits [] e = refl
no_edits (edit ∷ edits) e = absurd (cc)

module _ (M Q : List ℕ → Type 0) (N : SourceName → Type 0) (U : List ℕ → Type 0)
    (down : (part whole : List ℕ) → IsPart part whole → Q whole → Q part) where
  fix_with_edits : (source : SourceName) (fix : FixModel) (bytes : List ℕ) (b : Bool) → is_nil fix.edits ≡ b
      → MatchOption (if b then None else Some (record {
        message = fix.message;
        applicability = fix.applicability;
        source = source;
        replacements = replacements bytes fix.edits;
      })) (U fix.message) (Proposes M Q N) → TellsIn M Q N U source (Some bytes) fix
  fix_with_edits source fix bytes true e h = inr (h, inl (no_edits fix.edits e))
  fix_with_edits source fix bytes false e h = inl (h.0, edits_told Q down bytes fix.edits h.1, h.2)

  fix_applied : (source : SourceName) (fix : FixModel) (bytes : List ℕ) (b : Bool)
      → (is_none (edits_error (length bytes) fix.edits)
      && list_all (λ (r : ReplacementValue). is_utf8 r.text) (replacements bytes fix.edits)) ≡ b
      → MatchOption (proposed source fix (if b then Some (replacements bytes fix.edits) else None)) (U fix.message)
      (Proposes M Q N) → TellsIn M Q N U source (Some bytes) fix
  fix_applied source fix bytes true e h = fix_with_edits source fix bytes (is_nil fix.edits) refl h
  fix_applied source fix bytes false e h =
      inr (h, inr (ap (λ (b : Bool). if b then Some (replacements bytes fix.edits) else None) e))

  fix_in : (source : SourceName) (text : Option (List ℕ)) (fix : FixModel)
      → MatchOption (proposal_in source text fix) (U fix.message) (Proposes M Q N) → TellsIn M Q N U source text fix
  fix_in source None fix h = inr (h, tt)
  fix_in source (Some bytes) fix h =
      fix_applied source fix bytes (is_none (edits_error (length bytes) fix.edits)
      && list_all (λ (r : ReplacementValue). is_utf8 r.text) (replacements bytes fix.edits)) refl h

  fix_over : (over : Option SnapshotValue) (fix : FixModel)
      → MatchOption (proposal_over over fix) (U fix.message) (Proposes M Q N) → TellsBy M Q N U over fix
  fix_over None fix h = h
  fix_over (Some it) fix h = fix_in it.source it.text fix h

  one_told : (o : Option ApplicableFix) (message : List ℕ) (more : List ApplicableFix) (later : List (List ℕ))
      → AllByRecursion (Proposes M Q N) (listed_fix o more) → AllByRecursion U (refused_fix o message later)
      → MatchOption o (U message) (Proposes M Q N) × AllByRecursion (Proposes M Q N) more × AllByRecursion U later
  one_told None message more later h g = (g.0, h, g.1)
  one_told (Some it) message more later h g = (h.0, h.1, g)

  pub fixes_told : (over : Option SnapshotValue) (fixes : List FixModel)
      → AllByRecursion (Proposes M Q N) (proposals over fixes) → AllByRecursion U (refused over fixes)
      → AllByRecursion (TellsBy M Q N U over) fixes
  fixes_told over [] h g = tt
  fixes_told over (fix ∷ fixes) h g =
      let told = one_told (proposal_over over fix) fix.message (proposals over fixes) (refused over fixes) h g in
      (fix_over over fix told.0, fixes_told over fixes told.1 told.2)

-- ---- of equal values the first

one_value : (v w : Json) → json_text v ≡ json_text w → v ≡ w
one_value v w e = one_value_lem (json_text v) v w (spelling_tokens_lem v)
    (subst (λ b. HasTokensOf b w) (sym e) (spelling_tokens_lem w))

-- what holds of each value with one of these texts
abbrev AllSpelled : (Json → Type 0) → List (List ℕ) → Type 0
AllSpelled S = AllByRecursion (λ t. (v : Json) → json_text v ≡ t → S v)

seen_before : (S : Json → Type 0) (v : Json) (before : List (List ℕ)) → AllSpelled S before
    → list_any (bytes_eq (json_text v)) before ≡ true → S v
seen_before S v [] h e = absurd (cc)
seen_before S v (t ∷ ts) h e =
    elim (or_cases (bytes_eq (json_text v) t) (list_any (bytes_eq (json_text v)) ts) e) [
      | inl here ↦ h.0 v ((bytes_eq-Decides (json_text v) t).0 here)
      | inr there ↦ seen_before S v ts h.1 there
    ]

first_or_seen : (S : Json → Type 0) (v : Json) (before : List (List ℕ)) (b : Bool)
    → list_any (bytes_eq (json_text v)) before ≡ b → AllSpelled S before
    → AllByRecursion S (if b then [] else v ∷ []) → S v
first_or_seen S v before true e h g = seen_before S v before h e
first_or_seen S v before false e h g = g.0

spelled_more : (S : Json → Type 0) (v : Json) (before : List (List ℕ)) (b : Bool) → AllSpelled S before → S v
    → AllSpelled S (if b then before else before ++ json_text v ∷ [])
spelled_more S v before true h s = h
spelled_more S v before false h s =
    all_append (λ t. (w : Json) → json_text w ≡ t → S w) before (json_text v ∷ []) h
    ((λ w e. subst S (sym (one_value w v e)) s), tt)

values_told : (S : Json → Type 0) (before : List (List ℕ)) (vs : List Json) → AllSpelled S before
    → AllByRecursion S (first_values before vs) → AllByRecursion S vs
values_told S before [] h g = tt
values_told S before (v ∷ vs) h g =
    let parts = all_split S (one_first before v) (first_values (insert_key bytes_eq before (json_text v)) vs) g in
    let here : S v = first_or_seen S v before (list_any (bytes_eq (json_text v)) before) refl h parts.0 in (
      here,
      values_told S (insert_key bytes_eq before (json_text v)) vs
          (spelled_more S v before (list_any (bytes_eq (json_text v)) before) h here) parts.1,
    )

pub all_values_told : (S : Json → Type 0) (vs : List Json) → AllByRecursion S (first_values [] vs)
    → AllByRecursion S vs
all_values_told S vs h = values_told S [] vs tt h
