-- What the server writes has no fractions, so its text is known byte by byte.
use Rattle.std.proofs.Common.{◌≡◌, ℕ, ℤ, ◌<◌, arith, pos, negsuc, List, [], ◌∷◌, ◌++◌, true, false, ◌||◌, Option, Some}
use Rattle.std.proofs.Common.{None, refl}
use Rattle.std.proofs.Common.{sym, ap, ◌∙◌, map, subst}
use Rattle.std.specs.Option.{option_and_then, option_map_or}
use Rattle.std.specs.List.{flat_map}
use Rattle.std.specs.Prelude.{codes}
use Rattle.std.proofs.lemmas.Bool.{or_from}
use Rattle.miette_lines.proofs.Cases.{by_cases}
use Rattle.serde_json.specs.Data.{Data, array, boolean, float, negative, null, number, object, string, unsigned}
use Rattle.serde_json.specs.View.{items_of}
use Rattle.serde_json.specs.Find.{pointer}
use Rattle.serde_json.specs.Written.{has_float, items_have_float, members_have_float}
use Rattle.miette_fixes.specs.rules.Edits.{FixModel, Replacement}
use Rattle.miette_lint.specs.rules.FindingWithFixes.{FindingWithFixes, coded_findings}
use Rattle.miette_lint.specs.rules.Combined.{combined_proposal}
use Rattle.miette_positions.specs.declared.position.Region.{Region}
use Rattle.miette_positions.specs.rules.Regions.{EncodedSource}
use Rattle.miette_language_server.specs.declared.messages.Refusal.{Refusal}
use Rattle.miette_language_server.specs.declared.messages.Refusal.TheVariants.{NotJson, NotInitialized, NotNow, Unknown}
use Rattle.miette_language_server.specs.declared.methods.Notification.{Notification}
use Rattle.miette_language_server.specs.declared.methods.Notification.TheVariants.{Changed, Closed, Exit, Ignored}
use Rattle.miette_language_server.specs.declared.methods.Notification.TheVariants.{Opened}
use Rattle.miette_language_server.specs.declared.methods.Notification.TheVariants.{Saved}
use Rattle.miette_language_server.specs.declared.methods.Request.{Request}
use Rattle.miette_language_server.specs.declared.methods.Request.TheVariants.{CodeAction, Initialize, Other, Shutdown}
use Rattle.miette_language_server.specs.declared.session.Phase.{Phase}
use Rattle.miette_language_server.specs.declared.session.Phase.TheVariants.{Waiting, Running, Stopping}
use Rattle.miette_language_server.specs.rules.Actions.{action_value, actions, actions_at, actions_in, joint_value}
use Rattle.miette_language_server.specs.rules.Actions.{own_actions}
use Rattle.miette_language_server.specs.rules.Actions.{joint_of, touches, with_joint}
use Rattle.miette_language_server.specs.rules.Diagnostics.{diagnostic_value, diagnostics, diagnostics_of, fixes_value}
use Rattle.miette_language_server.specs.rules.Diagnostics.{by_fixes, fixable_value, utf16_positions, plain_value}
use Rattle.miette_language_server.specs.rules.Diagnostics.{publish_params, version_members}
use Rattle.miette_language_server.specs.rules.Documents.{OpenDocument, document_changed_in, document_in}
use Rattle.miette_language_server.specs.rules.Documents.{document_opened_in, uri_in}
use Rattle.miette_language_server.specs.rules.Members.{id_alone, is_id, region_at, text_at}
use Rattle.miette_language_server.specs.rules.Messages.{success_response, error_value, diagnostics_notification}
use Rattle.miette_language_server.specs.rules.Messages.{error_response, initialize_result}
use Rattle.miette_language_server.specs.rules.Session.{Effect, SessionState, actions_value, request_before_initialize}
use Rattle.miette_language_server.specs.rules.Session.{asked_in}
use Rattle.miette_language_server.specs.rules.Session.{request_while_running, called}
use Rattle.miette_language_server.specs.rules.Session.{without_document, ended, held, message_of}
use Rattle.miette_language_server.specs.rules.Session.{notification_while_running, exit_alone, noticed_in}
use Rattle.miette_language_server.specs.rules.Session.{notification_named, nothing, published, request_named, step}
use Rattle.miette_language_server.specs.rules.Session.{still}
use Rattle.miette_language_server.specs.rules.Session.{told, written}
use Rattle.serde_json.specs.View.{view}
use Rattle.serde_json.specs.declared.value.Value.{Value}
use Rattle.miette_language_server.specs.declared.session.ServerOutcome.{ServerOutcome}
use Rattle.miette_language_server.specs.declared.session.ServerOutcome.TheVariants.{Ended, Written}
use Rattle.miette_language_server.specs.views.Answered.{IsStep, outcome_of}
use Rattle.miette_language_server.specs.rules.Values.{edit_value, edits_value, fix_value, list_value, part}

-- ---- lists

abbrev AreFloatless : List Data → Type 0
AreFloatless [] = Unit {0}
AreFloatless (d ∷ ds) = (has_float d ≡ false) × AreFloatless ds

list_floatless : (ds : List Data) → AreFloatless ds → has_float (list_value ds) ≡ false
list_floatless [] h = refl
list_floatless (d ∷ ds) h = or_from (has_float d) (items_have_float (items_of ds)) h.0 (list_floatless ds h.1)

mapped_floatless : {X : Type 0} (f : X → Data) → ((x : X) → has_float (f x) ≡ false) → (xs : List X)
    → AreFloatless (map f xs)
mapped_floatless f each [] = tt
mapped_floatless f each (x ∷ xs) = (each x, mapped_floatless f each xs)

joined_floatless : (ds es : List Data) → AreFloatless ds → AreFloatless es → AreFloatless (ds ++ es)
joined_floatless [] es h k = k
joined_floatless (d ∷ ds) es h k = (h.0, joined_floatless ds es h.1 k)

all_floatless : {X : Type 0} (f : X → List Data) → ((x : X) → AreFloatless (f x)) → (xs : List X)
    → AreFloatless (flat_map f xs)
all_floatless f each [] = tt
all_floatless f each (x ∷ xs) = joined_floatless (f x) (flat_map f xs) (each x) (all_floatless f each xs)

-- ---- values

edits_floatless : (source : EncodedSource) (edits : List Replacement) → has_float (edits_value source edits) ≡ false
edits_floatless source edits =
    list_floatless (map (edit_value source) edits) (mapped_floatless (edit_value source) (λ e. refl) edits)

fix_floatless : (uri : List ℕ) (source : EncodedSource) (fix : FixModel) → has_float (fix_value uri source fix) ≡ false
fix_floatless uri source fix = ap (λ b. b || false) (edits_floatless source fix.edits)

fixes_floatless : (uri : List ℕ) (source : EncodedSource) (fixes : List FixModel)
    → has_float (fixes_value uri source fixes) ≡ false
fixes_floatless uri source fixes = ap (λ b. b || false) (list_floatless (map (fix_value uri source) fixes)
    (mapped_floatless (fix_value uri source) (fix_floatless uri source) fixes))

by_floatless : (fixes : List FixModel) (plain fixable : Data) → has_float plain ≡ false → has_float fixable ≡ false
    → has_float (by_fixes fixes plain fixable) ≡ false
by_floatless [] plain fixable h k = h
by_floatless (fix ∷ fixes) plain fixable h k = k

diagnostic_floatless : (uri : List ℕ) (source : EncodedSource) (c : FindingWithFixes)
    → has_float (diagnostic_value uri source c) ≡ false
diagnostic_floatless uri source c = by_floatless c.fixes (plain_value source c) (fixable_value uri source c) refl
    (ap (λ b. b || false) (fixes_floatless uri source c.fixes))

version_floatless : (version : Option ℤ) → members_have_float (version_members version) ≡ false
version_floatless None = refl
version_floatless (Some (pos n)) = refl
version_floatless (Some (negsuc n)) = refl

published_floatless : (uri : List ℕ) (version : Option ℤ) (list : List Data) → AreFloatless list
    → has_float (publish_params uri version list) ≡ false
published_floatless uri version list h =
    or_from (has_float (list_value list)) (members_have_float (version_members version)) (list_floatless list h)
    (version_floatless version)

document_floatless : (width : ℕ) (document : OpenDocument) → has_float (diagnostics_of width document) ≡ false
document_floatless width document =
    published_floatless document.uri document.version (diagnostics width document.uri document.text)
    (mapped_floatless (diagnostic_value document.uri (utf16_positions document.text))
    (diagnostic_floatless document.uri (utf16_positions document.text)) (coded_findings document.text width))

-- ---- actions

action_floatless : (uri : List ℕ) (source : EncodedSource) (diagnostic : Data) (fix : FixModel) → has_float diagnostic
    ≡ false
    → has_float (action_value uri source diagnostic fix) ≡ false
action_floatless uri source diagnostic fix h =
    or_from (has_float diagnostic || false) (((has_float (edits_value source fix.edits) || false) || false) || false)
    (ap (λ b. b || false) h) (ap (λ b. ((b || false) || false) || false) (edits_floatless source fix.edits))

joint_floatless : (uri : List ℕ) (source : EncodedSource) (fix : FixModel) → has_float (joint_value uri source fix)
    ≡ false
joint_floatless uri source fix = ap (λ b. ((b || false) || false) || false) (edits_floatless source fix.edits)

at_floatless : (uri : List ℕ) (source : EncodedSource) (region : Region) (c : FindingWithFixes)
    → AreFloatless (actions_at uri source region c)
at_floatless uri source region c =
    by_cases {C = AreFloatless (actions_at uri source region c)} (touches (part source c.label.span) region)
    (λ t. rw t (mapped_floatless (action_value uri source (diagnostic_value uri source c))
    (λ fix. action_floatless uri source (diagnostic_value uri source c) fix (diagnostic_floatless uri source c))
    c.fixes))
    (λ f. rw f tt)

with_joint_floatless : (uri : List ℕ) (source : EncodedSource) (width : ℕ) (ds : List Data) → AreFloatless ds
    → AreFloatless (with_joint uri source width ds)
with_joint_floatless uri source width [] h = tt
with_joint_floatless uri source width (d ∷ ds) h = (
  h.0,
  joined_floatless ds (joint_of uri source width ∷ []) h.1
      (joint_floatless uri source (combined_proposal source.source width), tt),
)

actions_floatless : (width : ℕ) (uri text : List ℕ) (region : Region) → AreFloatless (actions width uri text region)
actions_floatless width uri text region =
    with_joint_floatless uri (utf16_positions text) width (own_actions width uri text region)
    (all_floatless (actions_at uri (utf16_positions text) region) (at_floatless uri (utf16_positions text) region)
    (coded_findings text width))

actions_in_floatless : (width : ℕ) (document : Option OpenDocument) (region : Option Region)
    → AreFloatless (actions_in width document region)
actions_in_floatless width None region = tt
actions_in_floatless width (Some document) None = tt
actions_in_floatless width (Some document) (Some region) = actions_floatless width document.uri document.text region

-- ---- messages

answer_floatless : (id result : Data) → has_float id ≡ false → has_float result ≡ false
    → has_float (success_response id result) ≡ false
answer_floatless id result h k = or_from (has_float id) (has_float result || false) h (ap (λ b. b || false) k)

error_floatless : (why : Refusal) → has_float (error_value why) ≡ false
error_floatless NotJson = refl
error_floatless NotInitialized = refl
error_floatless NotNow = refl
error_floatless Unknown = refl

refused_floatless : (id : Data) (why : Refusal) → has_float id ≡ false → has_float (error_response id why) ≡ false
refused_floatless id why h =
    or_from (has_float (error_value why)) (has_float id || false) (error_floatless why) (ap (λ b. b || false) h)

publication_floatless : (params : Data) → has_float params ≡ false → has_float (diagnostics_notification params) ≡ false
publication_floatless params h = ap (λ b. b || false) h

-- an id is a text or an integer
id_floatless : (d : Data) → is_id d ≡ true → has_float d ≡ false
id_floatless null h = refl
id_floatless (boolean b) h = refl
id_floatless (number (unsigned n)) h = refl
id_floatless (number (negative z)) h = refl
id_floatless (number (float x)) h = sym h
id_floatless (string s) h = refl
id_floatless (array ds) h = let bad : false ≡ true = h in cc
id_floatless (object ms) h = let bad : false ≡ true = h in cc

-- ---- steps

-- a message has no fraction, and a status is 0, 1 or 2
abbrev pub IsFloatless : Effect → Type 0
IsFloatless nothing = Unit {0}
IsFloatless (written d) = has_float d ≡ false
IsFloatless (ended status) = status < 3

first_floatless : (s : SessionState) (id : Data) (request : Request) → has_float id ≡ false
    → IsFloatless (request_before_initialize s id request).outcome
first_floatless s id Initialize h = answer_floatless id initialize_result h refl
first_floatless s id CodeAction h = refused_floatless id NotInitialized h
first_floatless s id Shutdown h = refused_floatless id NotInitialized h
first_floatless s id Other h = refused_floatless id NotInitialized h

then_floatless : (s : SessionState) (id d : Data) (request : Request) → has_float id ≡ false
    → IsFloatless (request_while_running s id d request).outcome
then_floatless s id d Initialize h = refused_floatless id NotNow h
then_floatless s id d CodeAction h = answer_floatless id (actions_value s d) h
    (list_floatless _ (actions_in_floatless s.width (document_in s.documents d) (region_at (codes "/params/range") d)))
then_floatless s id d Shutdown h = answer_floatless id null h refl
then_floatless s id d Other h = refused_floatless id Unknown h

asked_floatless : (phase : Phase) (s : SessionState) (id d : Data) (request : Request) → has_float id ≡ false
    → IsFloatless (asked_in phase s id d request).outcome
asked_floatless Waiting s id d request h = first_floatless s id request h
asked_floatless Running s id d request h = then_floatless s id d request h
asked_floatless Stopping s id d request h = refused_floatless id NotNow h

told_of : (s : SessionState) (document : OpenDocument) → IsFloatless (published s document)
told_of s document = publication_floatless (diagnostics_of s.width document) (document_floatless s.width document)

opened_floatless : (s : SessionState) (o : Option OpenDocument)
    → IsFloatless (option_map_or (held s) o (record { state = s; outcome = nothing })).outcome
opened_floatless s None = tt
opened_floatless s (Some document) = told_of s document

changed_floatless : (s : SessionState) (d : Data) (o : Option OpenDocument)
    → IsFloatless (option_map_or (λ document. held s (document_changed_in document d)) o (still s nothing)).outcome
changed_floatless s d None = tt
changed_floatless s d (Some document) = told_of s (document_changed_in document d)

saved_floatless : (s : SessionState) (o : Option OpenDocument)
    → IsFloatless (option_map_or (λ document. still s (published s document)) o (still s nothing)).outcome
saved_floatless s None = tt
saved_floatless s (Some document) = told_of s document

closed_floatless : (s : SessionState) (o : Option (List ℕ))
    → IsFloatless (option_map_or (without_document s) o (record { state = s; outcome = nothing })).outcome
closed_floatless s None = tt
closed_floatless s (Some uri) =
    publication_floatless (publish_params uri None []) (published_floatless uri None [] tt)

noticed_floatless : (s : SessionState) (d : Data) (notification : Notification)
    → IsFloatless (notification_while_running s d notification).outcome
noticed_floatless s d Opened = opened_floatless s (document_opened_in d)
noticed_floatless s d Changed = changed_floatless s d (document_in s.documents d)
noticed_floatless s d Saved = saved_floatless s (document_in s.documents d)
noticed_floatless s d Closed = closed_floatless s (uri_in d)
noticed_floatless s d Exit = omega arith
noticed_floatless s d Ignored = tt

alone_floatless : (status : ℕ) (notification : Notification) → status < 3 → IsFloatless (exit_alone status notification)
alone_floatless status Opened lt = tt
alone_floatless status Changed lt = tt
alone_floatless status Saved lt = tt
alone_floatless status Closed lt = tt
alone_floatless status Exit lt = lt
alone_floatless status Ignored lt = tt

notice_floatless : (phase : Phase) (s : SessionState) (d : Data) (notification : Notification)
    → IsFloatless (noticed_in phase s d notification).outcome
notice_floatless Waiting s d notification = alone_floatless 1 notification (omega arith)
notice_floatless Running s d notification = noticed_floatless s d notification
notice_floatless Stopping s d notification = alone_floatless 0 notification (omega arith)

-- of what stands at a request's id
called_by : (s : SessionState) (d : Data) (method : List ℕ) (o : Option Data)
    → IsFloatless (option_map_or (λ id. asked_in s.phase s id d (request_named method)) (option_and_then id_alone o)
    (noticed_in s.phase s d (notification_named method))).outcome
called_by s d method None = notice_floatless s.phase s d (notification_named method)
called_by s d method (Some id) =
    by_cases {C = IsFloatless (option_map_or (λ id. asked_in s.phase s id d (request_named method)) (id_alone id)
    (noticed_in s.phase s d (notification_named method))).outcome} (is_id id)
    (λ t. rw t (asked_floatless s.phase s id d (request_named method) (id_floatless id t)))
    (λ f. rw f (notice_floatless s.phase s d (notification_named method)))

called_floatless : (s : SessionState) (d : Data) (o : Option (List ℕ))
    → IsFloatless (option_map_or (called s d) o (record { state = s; outcome = nothing })).outcome
called_floatless s d None = tt
called_floatless s d (Some method) = called_by s d method (pointer (codes "/id") d)

message_floatless : (s : SessionState) (o : Option Data)
    → IsFloatless (option_map_or (told s) o (record {
      state = s;
      outcome = written (error_response null NotJson);
    })).outcome
message_floatless s None = refused_floatless null NotJson refl
message_floatless s (Some d) = called_floatless s d (text_at (codes "/method") d)

pub step_floatless : (s : SessionState) (body : List ℕ) → IsFloatless (step s body).outcome
step_floatless s body = message_floatless s (message_of body)

-- a message that a step writes has none
pub written_floatless : (s t : SessionState) (body : List ℕ) (outcome : ServerOutcome) (value : Value)
    → IsStep (step s body) t outcome → outcome ≡ Written value → has_float (view value) ≡ false
written_floatless s t body outcome value is same =
    subst IsFloatless (sym is.1 ∙ ap outcome_of same) (step_floatless s body)

-- the status that a step ends with
pub ended_below : (s t : SessionState) (body : List ℕ) (outcome : ServerOutcome) (status : ℕ)
    → IsStep (step s body) t outcome → outcome ≡ Ended status → status < 3
ended_below s t body outcome status is same =
    subst IsFloatless (sym is.1 ∙ ap outcome_of same) (step_floatless s body)
