-- The texts of a log, as they are read.
use Rattle.std.proofs.Common.{◌≡◌, ℕ, List, [], ◌∷◌, ◌++◌, Bool, true, false, Option, Some, None, refl, ap, sym, ◌∙◌}
use Rattle.std.proofs.Common.{append_assoc, codes, option_and_then, option_map}
use Rattle.std.specs.Prelude.{if◌then◌else◌}
use Rattle.std.specs.Option.{option_or}
use Rattle.serde_json.specs.Data.{Data, string}
use Rattle.serde_json.specs.Find.{as_array, as_str, get}
use Rattle.miette_read.specs.rules.Members.{member_items, array_items, member_text}
use Rattle.miette_sarif.specs.rules.Codes.{Rules, is_uri_of_rule}
use Rattle.miette_sarif.specs.rules.Findings.{Finding}
use Rattle.miette_sarif.specs.rules.Messages as written
use Rattle.miette_sarif.specs.rules.Messages.{double_byte, doubled}
use Rattle.miette_sarif.specs.rules.Objects.{message_of}
use Rattle.miette_sarif.specs.rules.Results as results
use Rattle.miette_sarif.specs.rules.Results.{result_message_text as message_written}
use Rattle.miette_read_sarif.specs.rules.Messages.{message_shown}
use Rattle.miette_read_sarif.specs.rules.Results.{message_text, string_named}
use Rattle.miette_read_laws.specs.laws.Data.{data_of}
use Rattle.miette_read_laws.specs.laws.Kept.{help_row, message_rows, row, rows, see_row}
use Rattle.miette_read_laws.specs.laws.Links.{without_links}
use Rattle.miette_read_laws.proofs.Links.{doubled_shown}
use Rattle.miette_read_laws.proofs.Members.{arguments_read, own_text_read}

-- ---- rows

doubled_more : (xs ys : List ℕ) → doubled (xs ++ ys) ≡ doubled xs ++ doubled ys
doubled_more [] ys = refl
doubled_more (x ∷ xs) ys =
    ap (λ zs. double_byte x ++ zs) (doubled_more xs ys) ∙ sym (append_assoc (double_byte x) (doubled xs) (doubled ys))

row_doubled : (title text : List ℕ) → doubled title ≡ title → doubled (row title text) ≡ written.row title text
row_doubled title text e =
    ap (λ zs. 10 ∷ zs) (doubled_more title text ∙ ap (λ zs. zs ++ doubled text) e)

rows_doubled : (title : List ℕ) (texts : List (List ℕ)) → doubled title ≡ title
    → doubled (rows title texts) ≡ written.rows title texts
rows_doubled title [] e = refl
rows_doubled title (text ∷ texts) e =
    doubled_more (row title text) (rows title texts)
    ∙ (ap (λ zs. zs ++ doubled (rows title texts)) (row_doubled title text e)
    ∙ ap (λ zs. written.row title text ++ zs) (rows_doubled title texts e))

help_doubled : (o : Option (List ℕ)) → doubled (help_row o) ≡ written.maybe_row (codes "help: ") o
help_doubled None = refl
help_doubled (Some text) = row_doubled (codes "help: ") text refl

see_by : (url : List ℕ) (b : Bool)
    → doubled (if b then [] else row (codes "see: ") url) ≡ (if b then [] else written.row (codes "see: ") url)
see_by url true = refl
see_by url false = row_doubled (codes "see: ") url refl

see_doubled : (uri url : Option (List ℕ)) → doubled (see_row uri url) ≡ results.see_row uri url
see_doubled uri None = refl
see_doubled uri (Some url) = see_by url (is_uri_of_rule uri url)

-- of texts, each before those that follow
more_doubled : (xs ys us vs : List ℕ) → doubled xs ≡ us → doubled ys ≡ vs → doubled (xs ++ ys) ≡ us ++ vs
more_doubled xs ys us vs e f =
    doubled_more xs ys ∙ (ap (λ zs. zs ++ doubled ys) e ∙ ap (λ zs. us ++ zs) f)

message_doubled : (r : Rules) (f : Finding) → doubled (message_rows r f) ≡ message_written r f
message_doubled r f =
    let see : List ℕ = see_row (r.uri f.code) f.url in
    let see_written : List ℕ = results.see_row (r.uri f.code) f.url in
    let fixes : List ℕ = rows (codes "fix: ") f.unapplied in
    let fixes_written : List ℕ = written.rows (codes "fix: ") f.unapplied in
    let help_written : List ℕ = written.maybe_row (codes "help: ") f.help in
    let causes : List ℕ = rows (codes "caused by: ") f.causes in
    let causes_written : List ℕ = written.rows (codes "caused by: ") f.causes in
    more_doubled f.message (causes ++ (help_row f.help ++ (fixes ++ see))) (doubled f.message)
    (causes_written ++ (help_written ++ (fixes_written ++ see_written))) refl
    (more_doubled causes (help_row f.help ++ (fixes ++ see)) causes_written
    (help_written ++ (fixes_written ++ see_written)) (rows_doubled (codes "caused by: ") f.causes refl)
    (more_doubled (help_row f.help) (fixes ++ see) help_written (fixes_written ++ see_written) (help_doubled f.help)
    (more_doubled fixes see fixes_written see_written (rows_doubled (codes "fix: ") f.unapplied refl)
    (see_doubled (r.uri f.code) f.url))))

-- ---- messages

shown_read : (strings : Option Data) (m : Data) (text : List ℕ) → get (codes "text") m ≡ Some (string text)
    → get (codes "arguments") m ≡ None → message_text strings m ≡ Some (message_shown [] text)
shown_read strings m text e f =
    let id : Option (List ℕ) = member_text (codes "id") m in
    ap (λ o. option_or (option_map (message_shown (member_items (codes "arguments") m))
    (option_or (option_and_then as_str o) (option_and_then (string_named strings) id))) id) e
    ∙ ap (λ o. option_or (Some (message_shown (array_items (option_and_then as_array o)) text)) id) f

-- of a text whose braces were doubled
pub text_shown : (strings : Option Data) (text : List ℕ)
    → message_text strings (data_of (message_of (doubled text))) ≡ Some (without_links text)
text_shown strings text =
    shown_read strings (data_of (message_of (doubled text))) (doubled text) (own_text_read (doubled text))
    (arguments_read (doubled text))
    ∙ ap (λ zs. Some zs) (doubled_shown text)

pub rows_shown : (strings : Option Data) (r : Rules) (f : Finding)
    → message_text strings (data_of (message_of (message_written r f))) ≡ Some (without_links (message_rows r f))
rows_shown strings r f =
    ap (λ text. message_text strings (data_of (message_of text))) (sym (message_doubled r f))
    ∙ text_shown strings (message_rows r f)
