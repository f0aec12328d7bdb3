-- Texts of rows, as they are made.
use Rattle.std.proofs.Common.{◌≡◌, ℕ, List, [], ◌∷◌, ◌++◌, Option, Some, None, Bool, true, false, refl, sym, ap, ap₂}
use Rattle.std.proofs.Common.{subst, ◌∙◌, append_assoc}
use Rattle.std.proofs.Common.{◌⊎◌, IfOk, OnErr, Ok, Err, Result, String, inl, inr, string_bytes}
use Rattle.std.specs.Prelude.{IsUtf8, ◌||◌}
use Rattle.std.specs.List.{list_any}
use Rattle.std.proofs.lemmas.List.Folds.{list_any-append}
use Rattle.serde_json.specs.Data.{Data}
use Rattle.miette_show_rows.specs.rules.Values.{read}
use Rattle.miette_protocol.specs.rules.Reading.{Source}
use Rattle.miette_tree.specs.rules.Reads.{report_in_bounds}
use Rattle.miette_tree.specs.rules.Tree.{Tree}
use Rattle.miette.specs.declared.options.handler.MietteHandler.TheVariants as handler
use Rattle.miette_devices.specs.declared.fault.ProgramError.{ProgramError}
use Rattle.miette_devices.specs.declared.fault.ProgramError.TheVariants.{Memory, Refused}
use Rattle.miette_program.specs.declared.job_handler.JobHandler.{JobHandler}
use Rattle.miette_program.specs.declared.job_handler.JobHandler.TheVariants as chosen
use Rattle.miette_program.specs.rules.JobText.{JobMayRefuse}
use Rattle.miette_show.specs.rules.ShownRow.{begins_message}
use Rattle.miette_show.specs.rules.ShownRow.{AreReportTexts, IsRowText, IsShown, is_error_tree, value_trees}
use Rattle.miette_show_rows.specs.rules.Looking.{named_files}
use Rattle.miette_show.specs.views.Texts.{AreTexts, IsPushed, IsValueText}
use Rattle.miette_show_rows.specs.declared.verdict.RowKind.{RowKind}
use Rattle.miette_show_rows.specs.declared.verdict.RowKind.TheVariants.{Passed, Unread, Messages, Failed}
use Rattle.miette_show_rows.specs.declared.verdict.Failure.{Failure}
use Rattle.miette_show.specs.declared.words.Format.{Format}
use Rattle.miette_show.proofs.RowReportSteps.{fails_of, none_said, says_of}
use Rattle.miette_show.specs.rules.ValueKinds.{failure_of, kind_by}

abbrev Given : Type 1
Given = Tree → List ℕ → Type 0

abbrev Finding : Type 1
Finding = (List ℕ → Option Source) → List (List ℕ) → Type 0

-- a row that begins as no message does, over any files
pub passed : (from : Format) (gives : Given) (found : Finding) (files : List ℕ → Option Source) (row text : List ℕ)
    → begins_message from row ≡ false → text ≡ []
    → IsShown from gives found (record { row = row; kind = Passed; text = text })
passed from gives found files row text not none =
    (files, (λ d utf8 begins is. (let no : false ≡ true = sym not ∙ begins in cc)), (not, none))

-- one that is no value
pub unread : (from : Format) (gives : Given) (found : Finding) (files : List ℕ → Option Source) (row text : List ℕ)
    → begins_message from row ≡ true → (IsUtf8 row → read row ≡ None) → text ≡ []
    → IsShown from gives found (record { row = row; kind = Unread; text = text })
unread from gives found files row text begins none empty = (
  files,
  (λ d utf8 b is. (let no : None ≡ Some d = sym (none utf8) ∙ is in cc)),
  (begins, none_said from files row none, empty),
)

text_of : (from : Format) (gives : Given) (files : List ℕ → Option Source) (row : List ℕ) (d : Data) (kind : RowKind)
    (text : List ℕ) → begins_message from row ≡ true → IsUtf8 row → read row ≡ Some d
    → IsValueText gives (value_trees from files d) (failure_of from d) kind text
    → IsRowText from gives files row kind text
text_of from gives files row d Passed text begins utf8 is said = absurd said
text_of from gives files row d Unread text begins utf8 is (none, empty) =
    (begins, (λ u. says_of from files row d is ∙ none), empty)
text_of from gives files row d (Messages grave) text begins utf8 is ((ts, says, texts), none) = (
  begins,
  utf8,
  (ts, says_of from files row d is ∙ says, texts.0, texts.1),
  fails_of from row d is ∙ none,
)
text_of from gives files row d (Failed what) text begins utf8 is ((ts, says, drawn), failed) =
    (begins, utf8, (ts, says_of from files row d is ∙ says, drawn), fails_of from row d is ∙ failed)

-- texts of reports, by what failed
pub value_said : (gives : Given) (says : Option (List Tree)) (what : Option Failure) (kind : RowKind) (ts : List Tree)
    (grave : Bool) (text : List ℕ) → says ≡ Some ts → AreTexts gives ts grave text → kind ≡ kind_by what grave
    → IsValueText gives says what kind text
value_said gives says None kind ts grave text said texts is =
    subst (λ (k : RowKind). IsValueText gives says None k text) (sym is) ((ts, said, texts), refl)
value_said gives says (Some failure) kind ts grave text said texts is =
    subst (λ (k : RowKind). IsValueText gives says (Some failure) k text) (sym is) ((ts, said, texts.1), refl)

-- one that is a value, when all names in it are known
pub told : (from : Format) (gives : Given) (found : Finding) (files : List ℕ → Option Source) (row : List ℕ) (d : Data)
    (kind : RowKind) (text : List ℕ) → begins_message from row ≡ true → IsUtf8 row → read row ≡ Some d
    → found files (named_files d) → IsValueText gives (value_trees from files d) (failure_of from d) kind text
    → IsShown from gives found (record { row = row; kind = kind; text = text })
told from gives found files row d kind text begins utf8 is known said = (
  files,
  (λ e u b same. subst (λ x. found files (named_files x)) (some_same d e (sym is ∙ same)) known),
  text_of from gives files row d kind text begins utf8 is said,
)
  where
    some_same : (a b : Data) → Some a ≡ Some b → a ≡ b
    some_same a b e = cc

pub told_ok : {E Z : Type 0} (from : Format) (gives : Given) (found : Finding) (files : List ℕ → Option Source)
    (row : List ℕ) (d : Data) (r : Result (RowKind × String Z) E) → begins_message from row ≡ true → IsUtf8 row
    → read row ≡ Some d → found files (named_files d)
    → IfOk r (λ it. IsValueText gives (value_trees from files d) (failure_of from d) it.0 (string_bytes it.1))
    → IfOk r (λ it. IsShown from gives found
    (record { row = row; kind = it.0; text = string_bytes it.1 }))
told_ok from gives found files row d (Err e) begins utf8 is known said = tt
told_ok from gives found files row d (Ok it) begins utf8 is known said =
    told from gives found files row d it.0 (string_bytes it.1) begins utf8 is known said

-- ---- texts of several reports

-- the text of one more, after those of these
pub drawn_more : (gives : Given) (ts : List Tree) (t : Tree) (text drawn : List ℕ) → AreReportTexts gives ts text
    → gives t drawn → AreReportTexts gives (ts ++ t ∷ []) (text ++ (drawn ++ 10 ∷ []))
drawn_more gives [] t text drawn none given =
    (drawn, [], given, refl, ap (λ x. x ++ (drawn ++ 10 ∷ [])) none)
drawn_more gives (u ∷ us) t text drawn (first, rest, is, others, all) given = (
  first,
  rest ++ (drawn ++ 10 ∷ []),
  is,
  drawn_more gives us t rest drawn others given,
  ap (λ x. x ++ (drawn ++ 10 ∷ [])) all ∙ append_assoc first (10 ∷ rest) (drawn ++ 10 ∷ []),
)

grave_more : (ts : List Tree) (t : Tree) → list_any is_error_tree (ts ++ t ∷ [])
    ≡ (list_any is_error_tree ts || is_error_tree t)
grave_more ts t =
    list_any-append is_error_tree ts (t ∷ []) ∙ ap (λ c. list_any is_error_tree ts || c) (one (is_error_tree t))
  where
    one : (c : Bool) → (c || false) ≡ c
    one true = refl
    one false = refl

pub texts_more : (gives : Given) (ts : List Tree) (t : Tree) (grave error both : Bool) (old new : List ℕ)
    → AreTexts gives ts grave old → IsPushed gives t error old new → both ≡ (grave || error)
    → AreTexts gives (ts ++ t ∷ []) both new
texts_more gives ts t grave error both old new (are, drawn) (is, (added, given, all)) either = (
  either ∙ ap₂ (λ a b. a || b) are is ∙ sym (grave_more ts t),
  subst (AreReportTexts gives (ts ++ t ∷ [])) (sym all) (drawn_more gives ts t old added drawn given),
)

pub pushed_by : (p q : Given) → ((t : Tree) (x : List ℕ) → p t x → q t x) → (t : Tree) (error : Bool)
    (old new : List ℕ) → IsPushed p t error old new → IsPushed q t error old new
pushed_by p q h t error old new (is, (drawn, given, all)) = (is, (drawn, h t drawn given, all))

-- ---- reports that aren't refused

no_refusal : {H : Type 0} (h : JobHandler H) (t : Tree) → report_in_bounds t ≡ true → JobMayRefuse h t → ⊥
no_refusal chosen.Json t accepted refused = refused
no_refusal chosen.Debug t accepted refused = refused
no_refusal (chosen.Built (handler.Graphical it)) t accepted refused = refused
no_refusal (chosen.Built (handler.Narrated it)) t accepted refused = let e = sym accepted ∙ refused in cc
no_refusal (chosen.Built (handler.Brief it)) t accepted refused = let e = sym accepted ∙ refused in cc

pub only_memory : {A H : Type 0} (h : JobHandler H) (t : Tree) (r : Result A ProgramError) → report_in_bounds t ≡ true
    → (r ≡ Err Refused → JobMayRefuse h t) → OnErr r ((r ≡ Err Refused) ⊎ (r ≡ Err Memory)) → OnErr r (r ≡ Err Memory)
only_memory h t (Ok x) accepted refused others = tt
only_memory h t (Err e) accepted refused (inl is) = absurd (no_refusal h t accepted (refused is))
only_memory h t (Err e) accepted refused (inr is) = is
