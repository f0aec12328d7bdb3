-- The parts of a log, each by what is written of it.
use Rattle.std.proofs.Common.{◌≡◌, ℕ, List, [], ◌∷◌, ◌++◌, Bool, true, false, cond, length, map, refl, sym, ap, ◌∙◌}
use Rattle.std.proofs.Common.{append_assoc, append-nil}
use Rattle.std.specs.Prelude.{◌==◌, codes, option_map}
use Rattle.std.proofs.lemmas.List.{map-append}
use Rattle.std.specs.Str.{bytes_eq}
use Rattle.indexmap.specs.IndexSet.{insert_all, insert_key}
use Rattle.std.specs.List.{list_any}
use Rattle.miette_json.specs.rules.Json.{Json, json_text, number, string}
use Rattle.miette_json.specs.rules.Writing.{JsonPrefix, closed, opened, with_items, with_key, with_optional_text}
use Rattle.miette_json.specs.rules.Writing.{with_value}
use Rattle.miette_json.proofs.WrittenSteps.{eight_steps, five_steps, six_steps, three_steps}
use Rattle.miette_sarif.specs.rules.Artifacts.{Artifacts, all_named, artifact_location_at, artifact_values}
use Rattle.miette_sarif.specs.rules.Artifacts.{artifacts_in, index_of}
use Rattle.miette_sarif.specs.rules.Codes.{Rules, rule_pairs, rule_values, rules_in}
use Rattle.miette_sarif.specs.rules.Findings.{Finding, SarifLocation}
use Rattle.miette_sarif.specs.rules.Log.{ToolName, newlines, run, run_with, tool_of}
use Rattle.miette_sarif.specs.rules.Messages.{doubled}
use Rattle.miette_sarif.specs.rules.Objects.{Pairs, array_of, items_of, listed, message_of, object_of}
use Rattle.miette_sarif.specs.rules.Objects.{optional_text_pairs, pair}
use Rattle.miette_sarif.specs.rules.Places.{place_pairs, text_pairs}
use Rattle.miette_sarif.specs.rules.Results.{first_values, inserted, one_first, result_message_text, result_of}
use Rattle.miette_sarif.specs.rules.Results.{result_tail_pairs, results}
use Rattle.miette_sarif.specs.rules.Uris.{address_uri}
use Rattle.miette_sarif.specs.steps.Members.{with_pairs, with_texts}
use Rattle.miette_sarif.proofs.Growing.{optional_pairs, pairs_joined, texts_of_items}

-- ---- locations

-- a location with its place and its text, after what is written of it
pub located_put : (a : Artifacts) (m : SarifLocation) (start one two new : JsonPrefix)
    → one ≡ with_pairs (place_pairs a m.place) start → two ≡ with_pairs (text_pairs m.text) one → new ≡ closed 125 two
    → new ≡ closed 125 (with_pairs (place_pairs a m.place ++ text_pairs m.text) start)
located_put a m start one two new e f g =
    three_steps (with_pairs (place_pairs a m.place)) (with_pairs (text_pairs m.text)) (closed 125) start one two new
    e f g
    ∙ ap (closed 125) (sym (pairs_joined (place_pairs a m.place) (text_pairs m.text) start))

-- the texts of a location, and the inserted text of a replacement, where there are some
pub some_told : (t : List ℕ) (b : Bool) → b ≡ (length t == 0) → b ≡ false
    → pair (codes "message") (message_of (doubled t)) ≡ text_pairs t
some_told [] b e f = cc
some_told (x ∷ xs) b e f = refl

pub some_inserted : (t : List ℕ) (b : Bool) → b ≡ (length t == 0) → b ≡ false
    → pair (codes "insertedContent") (message_of t) ≡ inserted t
some_inserted [] b e f = cc
some_inserted (x ∷ xs) b e f = refl

-- ---- artifacts

-- a source by its uri and its index
pub located_is : (whole : Json) (uri wanted : List ℕ) (uris : List (List ℕ)) (i : ℕ)
    → whole ≡ object_of (pair (codes "uri") (string uri) ++ pair (codes "index") (number i))
    → i ≡ index_of (bytes_eq uri) uris → uri ≡ wanted → whole ≡ artifact_location_at uris wanted
located_is whole uri wanted uris i is index named =
    is ∙ ap (λ n. object_of (pair (codes "uri") (string uri) ++ pair (codes "index") (number n))) index
    ∙ ap (artifact_location_at uris) named

-- ---- fixes

-- the texts of values, of equal ones the first
one_text : (before : List (List ℕ)) (v : Json) (b : Bool)
    → cond b before (before ++ json_text v ∷ []) ≡ before ++ map json_text (cond b [] (v ∷ []))
one_text before v true = sym (append-nil before)
one_text before v false = refl

pub first_texts : (before : List (List ℕ)) (vs : List Json)
    → insert_all bytes_eq before (map json_text vs) ≡ before ++ map json_text (first_values before vs)
first_texts before [] = sym (append-nil before)
first_texts before (v ∷ vs) =
    let after : List (List ℕ) = insert_key bytes_eq before (json_text v) in
    first_texts after vs ∙ ap (λ l. l ++ map json_text (first_values after vs))
    (one_text before v (list_any (bytes_eq (json_text v)) before))
    ∙ append_assoc before (map json_text (one_first before v)) (map json_text (first_values after vs))
    ∙ ap (λ l. before ++ l) (sym (map-append json_text (one_first before v) (first_values after vs)))

pub fixes_listed : (texts before : List (List ℕ)) (vs : List Json) (p : JsonPrefix) → before ≡ []
    → texts ≡ insert_all bytes_eq before (map json_text vs)
    → with_texts texts p ≡ with_items (items_of (first_values [] vs)) p
fixes_listed texts before vs p e f =
    ap (λ ts. with_texts ts p) (f ∙ ap (λ b. insert_all bytes_eq b (map json_text vs)) e ∙ first_texts [] vs)
    ∙ texts_of_items (first_values [] vs) p

-- ---- results

pub result_put : (r : Rules) (a : Artifacts) (f : Finding) (old one two three four five new : JsonPrefix)
    → one ≡ opened 123 old → two ≡ with_pairs (rule_pairs r f.code ++ pair (codes "level") (string f.level)) one
    → three ≡ with_key (codes "message") two → four ≡ with_value (message_of (result_message_text r f)) three
    → five ≡ with_pairs (result_tail_pairs a f) four → new ≡ closed 125 five → new ≡ with_value (result_of r a f) old
result_put r a f old one two three four five new e g h i j k =
    let rule : Pairs = rule_pairs r f.code in
    let level : Pairs = pair (codes "level") (string f.level) in
    let told : Pairs = pair (codes "message") (message_of (result_message_text r f)) in
    let tail : Pairs = result_tail_pairs a f in
    let start : JsonPrefix = opened 123 old in
    six_steps (opened 123) (with_pairs (rule ++ level)) (with_key (codes "message"))
    (with_value (message_of (result_message_text r f))) (with_pairs tail) (closed 125) old one two three four five new
    e g h i j k
    ∙ ap (λ p. closed 125 (with_pairs tail (with_pairs told p))) (pairs_joined rule level start)
    ∙ ap (λ p. closed 125 (with_pairs tail p)) (sym (pairs_joined rule (level ++ told) start))
    ∙ ap (closed 125) (sym (pairs_joined (rule ++ (level ++ told)) tail start))

-- ---- the tool, and its run

pub tool_put : (t : ToolName) (r : Rules) (old a b c d e f g h new : JsonPrefix)
    → a ≡ opened 123 old → b ≡ with_key (codes "driver") a → c ≡ opened 123 b
    → d ≡ with_value (string t.name) (with_key (codes "name") c) → e ≡ with_optional_text (codes "version") t.version d
    → f ≡ with_pairs (optional_text_pairs (codes "informationUri") (option_map address_uri t.information)) e
    → g ≡ with_pairs (listed (codes "rules") (rule_values r)) f → h ≡ closed 125 g → new ≡ closed 125 h
    → new ≡ with_value (tool_of t r) old
tool_put t r old a b c d e f g h new i j k l m n o p q =
    let page : Pairs = optional_text_pairs (codes "informationUri") (option_map address_uri t.information) in
    let rules : Pairs = listed (codes "rules") (rule_values r) in
    let start : JsonPrefix = opened 123 (with_key (codes "driver") (opened 123 old)) in
    let named : JsonPrefix = with_value (string t.name) (with_key (codes "name") start) in
    q ∙ ap (closed 125) (five_steps (λ x. with_value (string t.name) (with_key (codes "name") x))
    (with_optional_text (codes "version") t.version) (with_pairs page) (with_pairs rules) (closed 125) start d e f g h
    (l ∙ ap (λ x. with_value (string t.name) (with_key (codes "name") x))
    (three_steps (opened 123) (with_key (codes "driver")) (opened 123) old a b c i j k)) m n o p
    ∙ ap (closed 125) (sym (pairs_joined page rules (with_optional_text (codes "version") t.version named))
    ∙ sym (optional_pairs (codes "version") t.version (page ++ rules) named)))

pub run_put : (t : ToolName) (r : Rules) (a : Artifacts) (fs : List Finding) (old b c d e f g h new : JsonPrefix)
    → b ≡ opened 123 old → c ≡ with_key (codes "tool") b → d ≡ with_value (tool_of t r) c
    → e ≡ with_pairs (pair (codes "columnKind") (string (codes "utf16CodeUnits"))
    ++ pair (codes "newlineSequences") newlines) d
    → f ≡ with_pairs (listed (codes "artifacts") (artifact_values a)) e → g ≡ with_key (codes "results") f
    → h ≡ with_value (array_of (results r a fs)) g → new ≡ closed 125 h → new ≡ with_value (run_with t r a fs) old
run_put t r a fs old b c d e f g h new i j k l m n o p =
    let units : Pairs = pair (codes "columnKind") (string (codes "utf16CodeUnits"))
    ++ pair (codes "newlineSequences") newlines in
    let sources : Pairs = listed (codes "artifacts") (artifact_values a) in
    let found : Pairs = pair (codes "results") (array_of (results r a fs)) in
    let start : JsonPrefix = with_pairs units (with_value (tool_of t r) (with_key (codes "tool") (opened 123 old))) in
    eight_steps (opened 123) (with_key (codes "tool")) (with_value (tool_of t r)) (with_pairs units)
    (with_pairs sources) (with_key (codes "results")) (with_value (array_of (results r a fs))) (closed 125)
    old b c d e f g h new i j k l m n o p
    ∙ ap (closed 125) (sym (pairs_joined sources found start))

-- the run is the one with the rules of its findings
pub run_is : (t : ToolName) (r : Rules) (fs : List Finding) → r ≡ rules_in fs
    → run_with t r (artifacts_in (all_named fs)) fs ≡ run t fs
run_is t r fs e = ap (λ x. run_with t x (artifacts_in (all_named fs)) fs) e
