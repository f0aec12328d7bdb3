-- Commands, put together from their parts.
use Rattle.std.proofs.Common.{◌≡◌, ℕ, suc, ◌+◌, ◌-◌, ◌<◌, ◌≤◌, Bool, true, false, List, [], ◌∷◌, ◌++◌, refl, sym, ap}
use Rattle.std.proofs.Common.{ap₂}
use Rattle.std.proofs.Common.{◌∙◌, subst, arith, append_assoc, append-nil, add-one, length, get_or, map, take, drop}
use Rattle.std.proofs.Common.{Option, Some, None, codes, decimal}
use Rattle.std.specs.Prelude.{not, slice_range, ◌&&◌, max}
use Rattle.miette_positions.specs.declared.position.Region.{Region}
use Rattle.std.specs.List.{flat_map}
use Rattle.std.proofs.Math.Seq.{drop-cons}
use Rattle.std.proofs.lemmas.Bool.Decides.{nat_tests}
use Rattle.std.proofs.lemmas.Grind.{flat_map-append}
use Rattle.std.proofs.lemmas.List.{drop_all, drop-map, take-map}
use Rattle.miette_protocol.specs.declared.protocol.Severity.{Severity}
use Rattle.miette_protocol.specs.rules.Reading.{Source}
use Rattle.miette_tree.specs.rules.Diagnosis.{Diagnosis}
use Rattle.miette_tree.specs.rules.Tree.{Tree, tree, Cause, diagnostic, texts, head, cause_of, causes_of}
use Rattle.miette_tree.specs.rules.DiagnosticParts.{given_labels}
use Rattle.miette_tree.specs.rules.Reads.{accepts, further_pass}
use Rattle.miette_labels.specs.rules.Groups.{in_order}
use Rattle.miette_brief.specs.declared.escapes.CommandPart.TheVariants.{Message, Property as InProperty}
use Rattle.miette_brief.specs.declared.form.BriefForm.{BriefForm}
use Rattle.miette_brief.specs.declared.form.BriefForm.TheVariants.{Github}
use Rattle.miette_brief.specs.rules.Commands.{Property, MessageRow, FileLocation, command_name, escaped}
use Rattle.miette_brief.specs.rules.Commands.{further_property}
use Rattle.miette_brief.specs.rules.Commands.{one_line_columns}
use Rattle.miette_brief.specs.rules.Commands.{is_percent_escaped, properties_text, property_text, region_properties}
use Rattle.miette_brief.specs.rules.Commands.{message_row_text}
use Rattle.miette_brief.specs.rules.Commands.{message_rows_text, file_properties, title_properties}
use Rattle.miette_brief.specs.rules.Github.{advice_message_rows, cause_message_rows, primary_file_location}
use Rattle.miette_brief.specs.rules.Github.{diagnostic_file_location, nonempty}
use Rattle.miette_brief.specs.rules.Github.{note_message_rows, message_row}
use Rattle.miette_brief.specs.rules.LocatedLabels.{LocatedLabel, marks, primary_at, with_first}
use Rattle.miette_brief.specs.rules.Locations.{SpanInSource, primary_span}
use Rattle.miette_brief.specs.rules.PossibleAnswers.{HasAccepted, FurtherAccepted}
use Rattle.miette_brief.specs.rules.Report.{Answers, BriefSettings, listed, unlisted, no_more}
use Rattle.miette_brief.specs.steps.AppendedParts.{AppendsBriefDiagnostic}
use Rattle.miette_brief.specs.steps.CommandParts.{title_property_text}
use Rattle.miette_brief.specs.steps.PrimaryLabels.{IsPrimaryFileLocation, span_at}
use Rattle.miette_brief.specs.steps.Reads.{IsSpanUnread}
use Rattle.miette_brief.proofs.Choosing.{nothing_met, primary_refused}
use Rattle.miette_brief.proofs.Clean.{decimal_all}
use Rattle.miette_brief.proofs.Escaping.{plain_escaped}
use Rattle.miette_brief.proofs.PrimaryLabels.{primary_is}
use Rattle.miette_brief.proofs.Telling.{none_met}

-- ---- properties

digit_stays : (d : ℕ) → d < 10 → not (is_percent_escaped InProperty (48 + d)) ≡ true
digit_stays d h = grind (arith, nat_tests)

pub number_stays : (n : ℕ) → escaped InProperty (decimal n) ≡ decimal n
number_stays n = plain_escaped InProperty (decimal n)
    (decimal_all (λ b. not (is_percent_escaped InProperty b)) digit_stays n)

-- both columns of a region on one line
pub columns_put : (r : Region) (old a new : List ℕ) (first last : ℕ) → first ≡ r.start.column + 1
    → last ≡ max first r.end.column
    → a ≡ old ++ further_property (record { key = codes "col"; value = decimal first })
    → new ≡ a ++ further_property (record { key = codes "endColumn"; value = decimal last })
    → new ≡ old ++ flat_map further_property (one_line_columns r)
columns_put r old a new first last ef el ea en =
    let col : ℕ → Property = λ n. record { key = codes "col"; value = decimal n } in
    let end : ℕ → Property = λ n. record { key = codes "endColumn"; value = decimal n } in
    let most : last ≡ max (r.start.column + 1) r.end.column = el ∙ ap (λ n. max n r.end.column) ef in
    en ∙ ap₂ (λ l n. l ++ further_property (end n)) (ea ∙ ap (λ n. old ++ further_property (col n)) ef) most
    ∙ append_assoc old (further_property (col (r.start.column + 1)))
    (further_property (end (max (r.start.column + 1) r.end.column)))
    ∙ ap (λ l. old ++ (further_property (col (r.start.column + 1)) ++ l))
    (sym (append-nil (further_property (end (max (r.start.column + 1) r.end.column)))))

pub titled : (site : Option FileLocation) (title : Option (List ℕ)) → properties_text (file_properties site)
    ++ title_property_text site title ≡ properties_text (file_properties site ++ title_properties title)
titled None None = refl
titled None (Some title) = (
    let p : Property = record { key = codes "title"; value = title } in
    ap (λ l. 32 ∷ l) (sym (append-nil (property_text p))))
titled (Some site) None =
    append-nil (properties_text (file_properties (Some site)))
    ∙ ap properties_text (sym (append-nil (file_properties (Some site))))
titled (Some site) (Some title) =
    let p : Property = record { key = codes "title"; value = title } in
    let file : Property = record { key = codes "file"; value = site.file } in
    let more : List Property = region_properties site.region in
    ap (λ l. 32 ∷ l) (append_assoc (property_text file) (flat_map further_property more) (further_property p)
    ∙ ap (λ l. property_text file ++ l) (ap (λ l. flat_map further_property more ++ l)
    (sym (append-nil (further_property p))) ∙ sym (flat_map-append further_property more (p ∷ []))))

-- ---- rows of a message

pub one_said : (s : MessageRow) (out new : List ℕ) → new ≡ out ++ message_row_text s → new ≡ out
    ++ message_rows_text (s ∷ [])
one_said s out new e = e ∙ ap (λ l. out ++ l) (sym (append-nil (message_row_text s)))

pub said_joined : (xs ys : List MessageRow) → message_rows_text (xs ++ ys) ≡ message_rows_text xs
    ++ message_rows_text ys
said_joined xs ys = flat_map-append message_row_text xs ys

-- one more of a list
pub said_more : {X : Type 0} (f : X → List MessageRow) (said : List X → List MessageRow) (xs : List X) (i : ℕ) (d x : X)
    (out new goal : List ℕ) → ((y : X) (more : List X) → said (y ∷ more) ≡ f y ++ said more) → i < length xs
    → x ≡ get_or xs i d → new ≡ out ++ message_rows_text (f x) → out ++ message_rows_text (said (drop i xs)) ≡ goal
    → new ++ message_rows_text (said (drop (i + 1) xs)) ≡ goal
said_more f said xs i d x out new goal step lt is e h =
    let later = said (drop (suc i) xs) in
    ap (λ k. new ++ message_rows_text (said (drop k xs))) (add-one i) ∙ ap (λ o. o ++ message_rows_text later) e
    ∙ append_assoc out (message_rows_text (f x)) (message_rows_text later)
    ∙ ap (λ r. out ++ r) (sym (said_joined (f x) later))
    ∙ ap (λ r. out ++ message_rows_text r) (sym (step x (drop (suc i) xs)))
    ∙ ap (λ ys. out ++ message_rows_text (said ys)) (sym (drop-cons xs i d lt ∙ ap (λ y. y ∷ drop (suc i) xs) (sym is)))
    ∙ h

pub said_end : {X : Type 0} (said : List X → List MessageRow) (xs : List X) (i : ℕ) (out goal : List ℕ) → said [] ≡ []
    → length xs ≤ i → out ++ message_rows_text (said (drop i xs)) ≡ goal → out ≡ goal
said_end said xs i out goal none end h =
    sym (append-nil out) ∙ ap (λ l. out ++ message_rows_text l) (sym none)
    ∙ ap (λ ys. out ++ message_rows_text (said ys)) (sym (drop_all i xs end)) ∙ h

three_texts : (old x y z : List ℕ) → ((old ++ x) ++ y) ++ z ≡ old ++ (x ++ (y ++ z))
three_texts old x y z = simp append_assoc

-- three lists, one after the other
pub three_said : (xs ys zs : List MessageRow) (old a b new : List ℕ) → a ≡ old ++ message_rows_text xs
    → b ≡ a ++ message_rows_text ys → new ≡ b ++ message_rows_text zs → new ≡ old
    ++ message_rows_text (xs ++ (ys ++ zs))
three_said xs ys zs old a b new e f g =
    g ∙ ap (λ l. l ++ message_rows_text zs) (f ∙ ap (λ l. l ++ message_rows_text ys) e)
    ∙ three_texts old (message_rows_text xs) (message_rows_text ys) (message_rows_text zs)
    ∙ ap (λ l. old ++ (message_rows_text xs ++ l)) (sym (said_joined ys zs))
    ∙ ap (λ l. old ++ l) (sym (said_joined xs (ys ++ zs)))

-- one label's text first
pub first_told : {X : Type 0} (f : X → LocatedLabel) (xs : List X) (at : ℕ) (first before after : List X)
    (old a b new : List ℕ) → first ≡ slice_range xs at (at + 1) → before ≡ take at xs → after ≡ drop (at + 1) xs
    → a ≡ old ++ message_rows_text (note_message_rows (map f first)) → b ≡ a
    ++ message_rows_text (note_message_rows (map f before))
    → new ≡ b ++ message_rows_text (note_message_rows (map f after))
    → new ≡ old ++ message_rows_text (note_message_rows (with_first (Some at) (map f xs)))
first_told f xs at first before after old a b new ef eb ee e g h =
    let one : at + 1 - at ≡ 1 = omega arith in
    let its = map f xs in
    let head : map f first ≡ take 1 (drop at its) =
    ap (map f) (ef ∙ ap (λ n. take n (drop at xs)) one) ∙ sym (take-map f 1 (drop at xs))
    ∙ ap (take 1) (sym (drop-map f at xs)) in
    let front : map f before ≡ take at its = ap (map f) eb ∙ sym (take-map f at xs) in
    let rest : map f after ≡ drop (at + 1) its = ap (map f) ee ∙ sym (drop-map f (at + 1) xs) in
    three_said (note_message_rows (take 1 (drop at its))) (note_message_rows (take at its))
    (note_message_rows (drop (at + 1) its)) old a b new (e ∙ ap (λ l. old ++ message_rows_text (note_message_rows l))
    head)
    (g ∙ ap (λ l. a ++ message_rows_text (note_message_rows l)) front)
    (h ∙ ap (λ l. b ++ message_rows_text (note_message_rows l)) rest)
    ∙ ap (λ l. old ++ message_rows_text l) (ap (λ l. note_message_rows (take 1 (drop at its)) ++ l)
    (sym (flat_map-append _ (take at its) (drop (at + 1) its)))
    ∙ sym (flat_map-append _ (take 1 (drop at its)) (take at its ++ drop (at + 1) its)))

-- ---- causes

abbrev pub cause : List ℕ → MessageRow
cause text = message_row (codes "caused by: ") text

pub cause_more : (left : Cause) (t : Tree) (message out new goal : List ℕ) → diagnostic t ≡ left
    → message ≡ (head t).message → new ≡ out ++ message_row_text (cause message)
    → out ++ message_rows_text (map cause (causes_of left)) ≡ goal
    → new ++ message_rows_text (map cause (causes_of (cause_of t))) ≡ goal
cause_more left (tree m s c r) message out new goal is em e h =
    let later = message_rows_text (map cause (causes_of c)) in
    ap (λ l. l ++ later) (e ∙ ap (λ x. out ++ message_row_text (cause x)) em)
    ∙ append_assoc out (message_row_text (cause m.message)) later
    ∙ ap (λ l. out ++ message_rows_text (map cause (causes_of l))) is ∙ h

pub causes_end : (left : Cause) (ts : List (List ℕ)) (out new goal : List ℕ) → left ≡ texts ts
    → new ≡ out ++ message_rows_text (map cause ts) → out ++ message_rows_text (map cause (causes_of left)) ≡ goal → new
    ≡ goal
causes_end left ts out new goal is e h =
    e ∙ ap (λ l. out ++ message_rows_text (map cause (causes_of l))) (sym is) ∙ h

-- ---- the command

abbrev pub head_text : Option Severity → Option FileLocation → Option (List ℕ) → List ℕ
head_text severity site title =
    codes "::" ++ (command_name severity
    ++ (properties_text (file_properties site ++ title_properties title) ++ codes "::"))

abbrev pub message_text : Bool → Diagnosis → Cause → List LocatedLabel → List ℕ
message_text chain m c its =
    escaped Message m.message
    ++ message_rows_text (note_message_rows its ++ (cause_message_rows chain (causes_of c) ++ advice_message_rows m))

ended : (old a b p e x : List ℕ) → (old ++ (a ++ (b ++ (p ++ a)))) ++ ((e ++ x) ++ 10 ∷ [])
    ≡ old ++ ((a ++ (b ++ (p ++ (a ++ (e ++ x))))) ++ 10 ∷ [])
ended old a b p e x = simp append_assoc

pub commanded : (chain : Bool) (source : Option Source) (m : Diagnosis) (c : Cause) (its : List LocatedLabel)
    (at : Option ℕ) (site : Option FileLocation) (old mid new : List ℕ) → its ≡ marks source m → at ≡ primary_at its
    → IsPrimaryFileLocation source (span_at at its) site
    → HasAccepted source (in_order (given_labels m.labels)) × FurtherAccepted m.snippets
    → mid ≡ old ++ head_text m.severity site (nonempty m.code)
    → new ≡ mid ++ (message_text chain m c (with_first at its) ++ codes "\n")
    → AppendsBriefDiagnostic (record { cause_chain = chain; form = Github }) source m c old new
commanded chain source m c its at site old mid new ei ea placed accepted e f =
    let all : List LocatedLabel = marks source m in
    let chosen : at ≡ primary_at all = ea ∙ ap primary_at ei in
    let spot : span_at at its ≡ span_at (primary_at all) all = ap₂ span_at chosen ei in
    let here : site ≡ diagnostic_file_location source placed.fault m =
    placed.is ∙ ap (primary_file_location source placed.fault) (spot ∙ primary_is source m) in
    let first : with_first at its ≡ with_first (primary_at all) all = ap₂ with_first chosen ei in
    let answers : Answers = listed (record { place = placed.fault; fixes = false }) unlisted no_more in
    record {
      answers = answers;
      accepted = accepted;
      possible = placed.possible;
      causes = none_met source c;
      fixes = nothing_met source;
      appended = f
          ∙ ap₂ (λ l r. l ++ (message_text chain m c r ++ codes "\n"))
          (e ∙ ap (λ p. old ++ head_text m.severity p (nonempty m.code)) here) first
          ∙ ended old (codes "::") (command_name m.severity) _ (escaped Message m.message) _;
    }

-- where the primary label's source can't be read, labels are refused
pub unread_refused : (source : Option Source) (m : Diagnosis) (its : List LocatedLabel) (at : Option ℕ) → its
    ≡ marks source m
    → at ≡ primary_at its → IsSpanUnread (span_at at its)
    → (accepts source (in_order (given_labels m.labels)) && further_pass accepts m.snippets) ≡ false
unread_refused source m its at ei ea unread =
    let all : List LocatedLabel = marks source m in
    let chosen : at ≡ primary_at all = ea ∙ ap primary_at ei in
    let spot : span_at at its ≡ primary_span source (in_order (given_labels m.labels)) m.snippets =
    ap₂ span_at chosen ei ∙ primary_is source m in
    primary_refused source (in_order (given_labels m.labels)) m.snippets
    (subst (λ (o : Option SpanInSource). IsSpanUnread o) spot unread)

-- ---- forms

pub same_settings : (b : BriefSettings) (chain : Bool) (form : BriefForm) → chain ≡ b.cause_chain → form ≡ b.form
    → record { cause_chain = chain; form = form } ≡ b
same_settings b chain form e f = rw (e, f) refl
