-- What stands in a result: the rows of its message, the texts of its marks and of its fixes.
use Rattle.std.proofs.Common.{◌≡◌, ◌⊎◌, ℕ, ◌+◌, Bool, true, false, List, [], ◌∷◌, ◌++◌, Option, Some, None, map, refl}
use Rattle.std.proofs.Common.{sym}
use Rattle.std.proofs.Common.{subst, codes, inl, inr}
use Rattle.std.specs.Prelude.{IfSome, if◌then◌else◌, is_none, ◌&&◌}
use Rattle.std.specs.List.{AllByRecursion, Contains}
use Rattle.std.specs.Str.{bytes_eq}
use Rattle.std.proofs.lemmas.Bool.{and_parts}
use Rattle.std.proofs.lemmas.Slice.Eq.{bytes_eq-Decides}
use Rattle.miette_json.specs.rules.Json.{Json, number, string}
use Rattle.miette_sarif.specs.rules.Artifacts.{Artifacts, index_of, artifact_location, uri_of}
use Rattle.miette_sarif.specs.rules.Codes.{Rules, is_uri_of_rule, rule_pairs, rule_value}
use Rattle.miette_sarif.specs.rules.Findings.{Finding, SarifLocation, PhysicalLocation, ApplicableFix, ReplacementValue}
use Rattle.miette_sarif.specs.rules.Findings.{SourceName}
use Rattle.miette_sarif.specs.rules.Messages.{doubled, maybe_row, row, rows}
use Rattle.miette_sarif.specs.rules.Objects.{Pairs, array_of, listed, message_of, object_of, pair}
use Rattle.miette_sarif.specs.rules.Places.{line_pairs, location, place_pairs, place_value, primary_locations}
use Rattle.miette_sarif.specs.rules.Places.{region_pairs, related_from, text_pairs}
use Rattle.miette_sarif.specs.rules.Results.{change, sarif_fix_value, sarif_fix_values, result_head_pairs, inserted}
use Rattle.miette_sarif.specs.rules.Results.{result_message_text}
use Rattle.miette_sarif.specs.rules.Results.{replacement}
use Rattle.miette_sarif.specs.rules.Results.{result_of, see_row, result_tail_pairs}
use Rattle.miette_sarif.specs.rules.Uris.{address_uri, is_absolute_uri}
use Rattle.miette_sarif.specs.laws.ReportTexts.{TellsCode}
use Rattle.miette_sarif.specs.laws.Values.{IsPart, StandsIn, value_at}
use Rattle.miette_sarif.proofs.Fixes.{Proposes, all_values_told}
use Rattle.miette_sarif.proofs.LogLabels.{HoldsOfNone, untold_place, untold_text}
use Rattle.miette_sarif.proofs.Lists.{all_mapped}
use Rattle.miette_sarif.proofs.Parts.{in_first, in_later, in_left, in_listed, in_message, in_pair, in_right}
use Rattle.miette_sarif.proofs.Parts.{in_string, part_left}
use Rattle.miette_sarif.proofs.Parts.{part_none, part_right, part_self}

-- ---- members of a result

level_after : (r : Rules) (code level : List ℕ) (message : Json) (tail : Pairs)
    → value_at (codes "level") (object_of ((rule_pairs r code ++ (pair (codes "level") (string level)
    ++ pair (codes "message") message)) ++ tail)) ≡ string level
level_after r [] level message tail = refl
level_after r (c ∷ cs) level message tail = refl

pub level_read : (r : Rules) (a : Artifacts) (f : Finding)
    → value_at (codes "level") (result_of r a f) ≡ string f.level
level_read r a f = level_after r f.code f.level (message_of (result_message_text r f)) (result_tail_pairs a f)

code_in_front : (r : Rules) (code : List ℕ) (others tail : Pairs)
    → TellsCode (object_of ((rule_pairs r code ++ others) ++ tail)) code
code_in_front r [] others tail = inl refl
code_in_front r (c ∷ cs) others tail = inr refl

pub code_read : (r : Rules) (a : Artifacts) (f : Finding) → TellsCode (result_of r a f) f.code
code_read r a f =
    code_in_front r f.code (pair (codes "level") (string f.level)
    ++ pair (codes "message") (message_of (result_message_text r f))) (result_tail_pairs a f)

-- ---- its message

pub in_result_message : (r : Rules) (a : Artifacts) (f : Finding) (part : List ℕ)
    → IsPart part (result_message_text r f)
    → StandsIn (result_of r a f) part
in_result_message r a f part h =
    let level : Pairs = pair (codes "level") (string f.level) in
    let message : Pairs = pair (codes "message") (message_of (result_message_text r f)) in
    in_left (result_head_pairs r f) (result_tail_pairs a f) part
    (in_right (rule_pairs r f.code) (level ++ message) part
    (in_right level message part (in_message (codes "message") (result_message_text r f) part h)))

pub none_stands : (r : Rules) (a : Artifacts) (f : Finding) → StandsIn (result_of r a f) []
none_stands r a f = in_result_message r a f [] (part_none (result_message_text r f))

-- what is a part of a text stands in a value
abbrev pub Holds : Json → List ℕ → Type 0
Holds v whole = (part : List ℕ) → IsPart part whole → StandsIn v part

pub left_holds : (v : Json) (x y : List ℕ) → Holds v (x ++ y) → Holds v x
left_holds v x y up = λ part h. up part (part_left part x y h)

pub right_holds : (v : Json) (x y : List ℕ) → Holds v (x ++ y) → Holds v y
right_holds v x y up = λ part h. up part (part_right part y x h)

pub rows_stand : (v : Json) (title : List ℕ) (ts : List (List ℕ)) → Holds v (rows title ts)
    → AllByRecursion (λ t. StandsIn v (row title t)) ts
rows_stand v title [] up = tt
rows_stand v title (t ∷ ts) up = (
  left_holds v (row title t) (rows title ts) up (row title t) (part_self (row title t)),
  rows_stand v title ts (right_holds v (row title t) (rows title ts) up),
)

pub row_stands : (v : Json) (title : List ℕ) (o : Option (List ℕ)) → Holds v (maybe_row title o)
    → IfSome o (λ t. StandsIn v (row title t))
row_stands v title None up = tt
row_stands v title (Some t) up = up (row title t) (part_self (row title t))

-- a row of the url, or the rule whose address it is
known_or_seen : (v : Json) (listed_rules : List Json) (code uri url : List ℕ) (b : Bool)
    → (is_absolute_uri url && bytes_eq (address_uri url) uri) ≡ b → Contains listed_rules (rule_value code (Some uri))
    → Holds v (if b then [] else row (codes "see: ") url)
    → StandsIn v (row (codes "see: ") url) ⊎ Contains listed_rules (rule_value code (Some (address_uri url)))
known_or_seen v listed_rules code uri url true e known up =
    let same : address_uri url ≡ uri =
    (bytes_eq-Decides (address_uri url) uri).0 (and_parts (is_absolute_uri url) (bytes_eq (address_uri url) uri) e).1 in
    inr (subst (λ (u : List ℕ). Contains listed_rules (rule_value code (Some u))) (sym same) known)
known_or_seen v listed_rules code uri url false e known up =
    inl (up (row (codes "see: ") url) (part_self (row (codes "see: ") url)))

pub url_told : (v : Json) (listed_rules : List Json) (code : List ℕ) (uri : Option (List ℕ)) (url : List ℕ)
    → IfSome uri (λ u. Contains listed_rules (rule_value code (Some u))) → Holds v (see_row uri (Some url))
    → StandsIn v (row (codes "see: ") url) ⊎ Contains listed_rules (rule_value code (Some (address_uri url)))
url_told v listed_rules code None url known up =
    inl (up (row (codes "see: ") url) (part_self (row (codes "see: ") url)))
url_told v listed_rules code (Some uri) url known up =
    known_or_seen v listed_rules code uri url (is_uri_of_rule (Some uri) url) refl known up

-- ---- marks

-- what stands in one value stands in another
abbrev pub Into : Json → Json → Type 0
Into v w = (part : List ℕ) → StandsIn v part → StandsIn w part

location_text : (a : Artifacts) (first : Pairs) (place : Option PhysicalLocation) (words : List ℕ)
    → (words ≡ []) ⊎ StandsIn (object_of (first ++ (place_pairs a place ++ text_pairs words))) (doubled words)
location_text a first place [] = inl refl
location_text a first place (c ∷ cs) =
    let words : List ℕ = doubled (c ∷ cs) in
    inr (in_right first (place_pairs a place ++ text_pairs (c ∷ cs)) words
    (in_right (place_pairs a place) (text_pairs (c ∷ cs)) words
    (in_message (codes "message") words words (part_self words))))

-- a mark's text, and the uri of the source that it lies in
abbrev pub MarkStands : Json → Artifacts → SarifLocation → Type 0
MarkStands v a m =
    StandsIn v (doubled m.text) × IfSome m.place (λ p. StandsIn v (uri_of a.untitled p.source))

located_stands : (a : Artifacts) (source : SourceName) → StandsIn (artifact_location a source)
    (uri_of a.untitled source)
located_stands a source =
    let uri : List ℕ = uri_of a.untitled source in
    let index : Pairs = pair (codes "index") (number (index_of (bytes_eq uri) a.uris)) in
    in_left (pair (codes "uri") (string uri)) index uri
    (in_pair (codes "uri") (string uri) uri (in_string uri uri (part_self uri)))

uri_stands : (a : Artifacts) (p : PhysicalLocation) → StandsIn (place_value a p) (uri_of a.untitled p.source)
uri_stands a p =
    let uri : List ℕ = uri_of a.untitled p.source in
    in_left (pair (codes "artifactLocation") (artifact_location a p.source)) (region_pairs p.area) uri
    (in_pair (codes "artifactLocation") (artifact_location a p.source) uri (located_stands a p.source))

location_place : (a : Artifacts) (first : Pairs) (place : Option PhysicalLocation) (words : List ℕ)
    → IfSome place (λ p. StandsIn (object_of (first ++ (place_pairs a place ++ text_pairs words)))
    (uri_of a.untitled p.source))
location_place a first None words = tt
location_place a first (Some p) words =
    let uri : List ℕ = uri_of a.untitled p.source in
    in_right first (place_pairs a (Some p) ++ text_pairs words) uri
    (in_left (place_pairs a (Some p)) (text_pairs words) uri
    (in_pair (codes "physicalLocation") (place_value a p) uri (uri_stands a p)))

moved_place : (v w : Json) (a : Artifacts) (place : Option PhysicalLocation) → Into v w
    → IfSome place (λ p. StandsIn v (uri_of a.untitled p.source))
    → IfSome place (λ p. StandsIn w (uri_of a.untitled p.source))
moved_place v w a None into h = tt
moved_place v w a (Some p) into h = into (uri_of a.untitled p.source) h

no_place : (v : Json) (a : Artifacts) (place : Option PhysicalLocation) → is_none place ≡ true
    → IfSome place (λ p. StandsIn v (uri_of a.untitled p.source))
no_place v a None e = tt
no_place v a (Some p) e = absurd (cc)

mark_text : (v : Json) (a : Artifacts) (first : Pairs) (m : SarifLocation) → StandsIn v [] → Into (location a first m) v
    → StandsIn v (doubled m.text)
mark_text v a first m none into =
    elim (location_text a first m.place m.text) [
      | inl e ↦ subst (λ (t : List ℕ). StandsIn v (doubled t)) (sym e) none
      | inr h ↦ into (doubled m.text) h
    ]

mark_stands : (v : Json) (a : Artifacts) (first : Pairs) (m : SarifLocation) → StandsIn v []
    → Into (location a first m) v
    → MarkStands v a m
mark_stands v a first m none into = (
  mark_text v a first m none into,
  moved_place (location a first m) v a m.place into (location_place a first m.place m.text),
)

marks_stand : (v : Json) (a : Artifacts) (id : ℕ) (ms : List SarifLocation) → StandsIn v []
    → Into (array_of (related_from a id ms)) v → AllByRecursion (MarkStands v a) ms
marks_stand v a id [] none into = tt
marks_stand v a id (m ∷ ms) none into =
    let here : Json = location a (pair (codes "id") (number id)) m in
    let later : List Json = related_from a (id + 1) ms in (
      mark_stands v a (pair (codes "id") (number id)) m none (λ part h. into part (in_first here later part h)),
      marks_stand v a (id + 1) ms none (λ part h. into part (in_later here later part h)),
    )

primary_stands : (v : Json) (a : Artifacts) (o : Option SarifLocation) → StandsIn v []
    → Into (array_of (primary_locations a o)) v → IfSome o (MarkStands v a)
primary_stands v a None none into = tt
primary_stands v a (Some m) none into =
    mark_stands v a [] m none (λ part h. into part (in_first (location a [] m) [] part h))

locations_stand : (r : Rules) (a : Artifacts) (f : Finding)
    → Into (array_of (primary_locations a f.primary)) (result_of r a f)
locations_stand r a f =
    λ part h. let primary : List Json = primary_locations a f.primary in
    let others : Pairs = listed (codes "relatedLocations") (related_from a 1 f.locations)
    ++ listed (codes "fixes") (sarif_fix_values a f.fixes) in
    in_right (result_head_pairs r f) (result_tail_pairs a f) part
    (in_left (listed (codes "locations") primary) others part (in_listed (codes "locations") primary part h))

related_stand : (r : Rules) (a : Artifacts) (f : Finding)
    → Into (array_of (related_from a 1 f.locations)) (result_of r a f)
related_stand r a f =
    λ part h. let primary : Pairs = listed (codes "locations") (primary_locations a f.primary) in
    let related : List Json = related_from a 1 f.locations in
    let fixes : Pairs = listed (codes "fixes") (sarif_fix_values a f.fixes) in
    in_right (result_head_pairs r f) (result_tail_pairs a f) part
    (in_right primary (listed (codes "relatedLocations") related ++ fixes) part
    (in_left (listed (codes "relatedLocations") related) fixes part
    (in_listed (codes "relatedLocations") related part h)))

pub primary_read : (r : Rules) (a : Artifacts) (f : Finding) → IfSome f.primary (MarkStands (result_of r a f) a)
primary_read r a f = primary_stands (result_of r a f) a f.primary (none_stands r a f) (locations_stand r a f)

pub marks_read : (r : Rules) (a : Artifacts) (f : Finding) → AllByRecursion (MarkStands (result_of r a f) a) f.locations
marks_read r a f = marks_stand (result_of r a f) a 1 f.locations (none_stands r a f) (related_stand r a f)

-- marks that say nothing
pub none_says : (r : Rules) (a : Artifacts) (f : Finding) → HoldsOfNone (MarkStands (result_of r a f) a)
none_says r a f = λ m e. (
  subst (λ (t : List ℕ). StandsIn (result_of r a f) (doubled t)) (sym (untold_text m e)) (none_stands r a f),
  no_place (result_of r a f) a m.place (untold_place m e),
)

-- ---- fixes

inserted_text : (first : Pairs) (words : List ℕ)
    → (words ≡ []) ⊎ StandsIn (object_of (first ++ inserted words)) words
inserted_text first [] = inl refl
inserted_text first (c ∷ cs) =
    inr (in_right first (inserted (c ∷ cs)) (c ∷ cs)
    (in_message (codes "insertedContent") (c ∷ cs) (c ∷ cs) (part_self (c ∷ cs))))

replaced_stands : (v : Json) (it : ReplacementValue) → StandsIn v [] → Into (replacement it) v → StandsIn v it.text
replaced_stands v it none into =
    elim (inserted_text (pair (codes "deletedRegion") (object_of (line_pairs it.deleted))) it.text) [
      | inl e ↦ subst (StandsIn v) (sym e) none
      | inr h ↦ into it.text h
    ]

all_replaced : (v : Json) (its : List ReplacementValue) → StandsIn v [] → Into (array_of (map replacement its)) v
    → AllByRecursion (λ it. StandsIn v it.text) its
all_replaced v [] none into = tt
all_replaced v (it ∷ its) none into = (
  replaced_stands v it none (λ part h. into part (in_first (replacement it) (map replacement its) part h)),
  all_replaced v its none (λ part h. into part (in_later (replacement it) (map replacement its) part h)),
)

-- the uri of a source stands
abbrev pub Names : Json → Artifacts → SourceName → Type 0
Names v a source = StandsIn v (uri_of a.untitled source)

abbrev pub FixStands : Json → Artifacts → ApplicableFix → Type 0
FixStands v a = Proposes (λ words. StandsIn v (doubled words)) (StandsIn v) (Names v a)

fix_stands : (v : Json) (a : Artifacts) (fix : ApplicableFix) → StandsIn v [] → Into (sarif_fix_value a fix) v
    → FixStands v a fix
fix_stands v a fix none into =
    let title : List ℕ = doubled fix.message in
    let description : Pairs = pair (codes "description") (message_of title) in
    let changes : Pairs = pair (codes "artifactChanges") (array_of (change a fix ∷ [])) in
    let place : Pairs = pair (codes "artifactLocation") (artifact_location a fix.source) in
    let edits : Json = array_of (map replacement fix.replacements) in
    let changed : Into (change a fix) v = λ part h. into part (in_right description changes part
    (in_pair (codes "artifactChanges") (array_of (change a fix ∷ [])) part
    (in_first (change a fix) [] part h))) in
    let uri : List ℕ = uri_of a.untitled fix.source in (
      into title (in_left description changes title
          (in_message (codes "description") title title (part_self title))),
      all_replaced v fix.replacements none
          (λ part h. changed part (in_right place (pair (codes "replacements") edits) part
          (in_pair (codes "replacements") edits part h))),
      changed uri (in_left place (pair (codes "replacements") edits) uri
          (in_pair (codes "artifactLocation") (artifact_location a fix.source) uri (located_stands a fix.source))),
    )

items_stand : (v : Json) (ws : List Json) → Into (array_of ws) v → AllByRecursion (λ w. Into w v) ws
items_stand v [] into = tt
items_stand v (w ∷ ws) into = (
  λ part h. into part (in_first w ws part h),
  items_stand v ws (λ part h. into part (in_later w ws part h)),
)

fixes_stand : (r : Rules) (a : Artifacts) (f : Finding) → Into (array_of (sarif_fix_values a f.fixes)) (result_of r a f)
fixes_stand r a f =
    λ part h. let primary : Pairs = listed (codes "locations") (primary_locations a f.primary) in
    let related : Pairs = listed (codes "relatedLocations") (related_from a 1 f.locations) in
    let fixes : List Json = sarif_fix_values a f.fixes in
    in_right (result_head_pairs r f) (result_tail_pairs a f) part
    (in_right primary (related ++ listed (codes "fixes") fixes) part
    (in_right related (listed (codes "fixes") fixes) part (in_listed (codes "fixes") fixes part h)))

pub fixes_read : (r : Rules) (a : Artifacts) (f : Finding) → AllByRecursion (FixStands (result_of r a f) a) f.fixes
fixes_read r a f =
    let v : Json = result_of r a f in
    let into = all_values_told (λ w. Into w v) (map (sarif_fix_value a) f.fixes)
    (items_stand v (sarif_fix_values a f.fixes) (fixes_stand r a f)) in
    all_mapped (λ w. Into w v) (FixStands v a) (sarif_fix_value a)
    (λ fix h. fix_stands v a fix (none_stands r a f) h) f.fixes into
