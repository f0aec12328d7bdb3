-- Further sources and fixes, written one after the other.
use Rattle.std.proofs.Common.{◌≡◌, ℕ, suc, ◌+◌, ◌<◌, ◌≤◌, List, [], ◌∷◌, ◌++◌, length, map, drop, get_or, Bool, true}
use Rattle.std.proofs.Common.{false}
use Rattle.std.proofs.Common.{Some, refl, sym, ap, subst, ◌∙◌, append_assoc, add-one, codes}
use Rattle.std.specs.Prelude.{if◌then◌else◌, unwrap_or}
use Rattle.std.proofs.Math.Seq.{drop-cons}
use Rattle.std.proofs.lemmas.List.{drop_all}
use Rattle.miette_fixes.specs.rules.Edits.{FixModel}
use Rattle.miette_protocol.specs.rules.Reading.{Source}
use Rattle.miette_protocol.specs.views.Meaning.{Label}
use Rattle.miette_tree.specs.rules.Diagnosis.{Diagnosis, Section}
use Rattle.miette_json.specs.rules.Json.{array, string}
use Rattle.miette_json.specs.rules.JsonReport.{AreFurther, section_json, sections_json, fixes_json, file_name}
use Rattle.miette_json.specs.rules.JsonReport.{labels_json}
use Rattle.miette_json.specs.rules.Writing.{JsonPrefix, closed, opened, with_items, with_key, with_value}
use Rattle.miette_json.specs.steps.JsonParts.{with_optional_list, NamesFile, AppendsSection}
use Rattle.miette_json.specs.steps.JsonParts.{AppendsSections, AppendsJsonSnippets, AppendsSnippetsAndFixes}

-- the name that was found
pub name_found : (source : Source) (labels : List Label) (name : List ℕ)
    (n : NamesFile (Some source) labels (Some name))
    → name ≡ file_name n.fault labels source
name_found source labels name n = ap (λ o. unwrap_or o []) n.is

pub section_put : (source : Source) (labels : List Label) (fault : Bool) (name : List ℕ)
    (old a b c d new : JsonPrefix) → name ≡ file_name fault labels source → a ≡ opened 123 old
    → b ≡ with_value (string name) (with_key (codes "filename") a) → c ≡ with_key (codes "labels") b
    → d ≡ with_value (array (labels_json labels)) c → new ≡ closed 125 d
    → new ≡ with_value (section_json fault source labels) old
section_put source labels fault name old a b c d new is e f g h i =
    i ∙ ap (closed 125) (h ∙ ap (with_value (array (labels_json labels))) (g
    ∙ ap (with_key (codes "labels")) (f ∙ ap (λ s. with_value (string s) (with_key (codes "filename") a)) is
    ∙ ap (λ p. with_value (string (file_name fault labels source)) (with_key (codes "filename") p)) e)))

-- ---- one further source after the other

-- Some are written, and these are left: whatever answers these have, the whole has some.
pub record SectionsSoFar (all left : List Section) (start now : JsonPrefix) : Type 0 where
  pub with_rest : List Bool → List Bool
  pub possible : (faults : List Bool) → AreFurther faults left → AreFurther (with_rest faults) all
  pub joined_is : (faults : List Bool) → with_items (sections_json faults left) now
      ≡ with_items (sections_json (with_rest faults) all) start

pub no_section : (all : List Section) (start now : JsonPrefix) → now ≡ start → SectionsSoFar all all start now
no_section all start now e = record {
  with_rest = λ faults. faults;
  possible = λ faults p. p;
  joined_is = λ faults. ap (with_items (sections_json faults all)) e;
}

one_section : (all : List Section) (s : Section) (ss : List Section) (start now new : JsonPrefix)
    → SectionsSoFar all (s ∷ ss) start now → AppendsSection s.source s.labels now new
    → SectionsSoFar all ss start new
one_section all s ss start now new r a = record {
  with_rest = λ faults. r.with_rest (a.fault ∷ faults);
  possible = λ faults p. r.possible (a.fault ∷ faults) (a.possible, p);
  joined_is = λ faults. ap (with_items (sections_json faults ss)) a.written ∙ r.joined_is (a.fault ∷ faults);
}

sections_left : {X : Type 0} (value : X → Section) (xs : List X) (i : ℕ) (d : X) → i < length xs → d ≡ get_or xs i d
    → map value (drop i xs) ≡ value d ∷ map value (drop (i + 1) xs)
sections_left value xs i d lt is =
    ap (map value) (drop-cons xs i d lt ∙ ap (λ x. x ∷ drop (suc i) xs) (sym is))
    ∙ ap (λ k. value d ∷ map value (drop k xs)) (sym (add-one i))

module _ {X : Type 0} (value : X → Section) (xs : List X) (i : ℕ) where
  pub next_section : (d : X) (source : Source) (labels : List Label) (start now new : JsonPrefix)
      → i < length xs → d ≡ get_or xs i d → source ≡ (value d).source → labels ≡ (value d).labels
      → SectionsSoFar (map value xs) (map value (drop i xs)) start now
      → AppendsSection source labels now new
      → SectionsSoFar (map value xs) (map value (drop (i + 1) xs)) start new
  next_section d source labels start now new lt is es el r a =
      one_section (map value xs) (value d) (map value (drop (i + 1) xs)) start now new
      (subst (λ left. SectionsSoFar (map value xs) left start now) (sections_left value xs i d lt is) r)
      (subst (λ ls. AppendsSection (value d).source ls now new) el
      (subst (λ s. AppendsSection s labels now new) es a))

  pub all_sections : (old now new : JsonPrefix) → length xs ≤ i
      → SectionsSoFar (map value xs) (map value (drop i xs)) (opened 91 old) now → new ≡ closed 93 now
      → AppendsSections (map value xs) old new
  all_sections old now new end h e =
      let r : SectionsSoFar (map value xs) [] (opened 91 old) now =
      subst (λ left. SectionsSoFar (map value xs) (map value left) (opened 91 old) now) (drop_all i xs end) h in
      record {
        faults = r.with_rest [];
        possible = r.possible [] tt;
        written = e ∙ ap (closed 93) (r.joined_is []);
      }

pub some_snippets : {X : Type 0} (value : X → Section) (xs : List X) (old now new : JsonPrefix)
    → (length xs ≡ 0 → ⊥) → now ≡ with_key (codes "snippets") old → AppendsSections (map value xs) now new
    → AppendsJsonSnippets (map value xs) old new
some_snippets value [] old now new h e a = absurd (h refl)
some_snippets value (x ∷ xs) old now new h e a = record {
  faults = a.faults;
  possible = a.possible;
  written = a.written ∙ ap (with_value (array (sections_json a.faults (value x ∷ map value xs)))) e;
}

pub some_fixes : (fixes : List FixModel) (old now new : JsonPrefix) → (length fixes ≡ 0 → ⊥)
    → now ≡ with_key (codes "fixes") old → new ≡ with_value (array (fixes_json fixes)) now
    → new ≡ with_optional_list (codes "fixes") (fixes_json fixes) old
some_fixes [] old now new h e f = absurd (h refl)
some_fixes (x ∷ xs) old now new h e f = f ∙ ap (with_value (array (fixes_json (x ∷ xs)))) e

-- both
pub both_attached : (m : Diagnosis) (sections : List Section) (fixes : List FixModel) (old now new : JsonPrefix)
    → sections ≡ m.snippets → fixes ≡ m.fixes → AppendsJsonSnippets sections old now
    → new ≡ with_optional_list (codes "fixes") (fixes_json fixes) now → AppendsSnippetsAndFixes m old new
both_attached m sections fixes old now new es ef first e =
    let here : AppendsJsonSnippets m.snippets old now = subst (λ ss. AppendsJsonSnippets ss old now) es first in
    record {
      faults = here.faults;
      possible = here.possible;
      written = e ∙ ap (λ fs. with_optional_list (codes "fixes") (fixes_json fs) now) ef
          ∙ ap (with_optional_list (codes "fixes") (fixes_json m.fixes)) here.written;
    }
