-- The text around the reports of a session, in each form.
use Rattle.std.specs.Prelude.{◌≡◌, ℕ, ◌&&◌, Bool, true, false, List, [], ◌++◌, Option, None, Some, if◌then◌else◌, codes}
use Rattle.std.specs.Str.{bytes_eq}
use Rattle.miette.specs.rules.Counting.{counts_text}
use Rattle.miette.specs.declared.reporter.counts.Counts.{Counts}
use Rattle.miette.specs.declared.reporter.form.Form.{Form}
use Rattle.miette.specs.declared.reporter.form.Form.TheVariants.{Pictures, Narrated, Brief, JsonArray, JsonRows}

-- the form with this name
abbrev pub report_form_named : List ℕ → Option Form
report_form_named word =
    if bytes_eq word (codes "pictures") then Some Pictures
    else if bytes_eq word (codes "narrated") then Some Narrated
    else if bytes_eq word (codes "brief") then Some Brief
    else if bytes_eq word (codes "json") then Some JsonArray
    else if bytes_eq word (codes "json-rows") then Some JsonRows else None

-- before a report; the flag says whether a report was written before it
abbrev pub front : Form → Bool → List ℕ
front Pictures true = codes "\n"
front Pictures false = []
front Narrated true = codes "\n"
front Narrated false = []
front Brief is_begun = []
front JsonArray true = codes ",\n"
front JsonArray false = codes "["
front JsonRows is_begun = []

-- after each report
abbrev pub after_it : Form → List ℕ
after_it Pictures = []
after_it Narrated = []
after_it Brief = []
after_it JsonArray = []
after_it JsonRows = codes "\n"

-- after the last report; the flag says whether one was written
abbrev pub closing : Form → Bool → List ℕ
closing Pictures is_begun = []
closing Narrated is_begun = []
closing Brief is_begun = []
closing JsonArray true = codes "]\n"
closing JsonArray false = codes "[]\n"
closing JsonRows is_begun = []

-- JSON has no summary line
abbrev pub has_summary : Form → Bool
has_summary Pictures = true
has_summary Narrated = true
has_summary Brief = true
has_summary JsonArray = false
has_summary JsonRows = false

-- the summary line, separated like a report
abbrev pub summary : Form → Bool → Counts → List ℕ
summary form is_begun c = front form is_begun ++ (counts_text c ++ codes "\n")

-- one report with its separators
abbrev pub IsNext : Form → Bool → (List ℕ → Type 0) → List ℕ → Type 0
IsNext form is_begun given text = (own : List ℕ) × given own × (text ≡ (front form is_begun ++ own) ++ after_it form)

-- the same, by the relation between the texts before and after its call
abbrev pub IsNextBy : Form → Bool → (List ℕ → List ℕ → Type 0) → List ℕ → Type 0
IsNextBy form is_begun appends text =
    (grown : List ℕ) × appends (front form is_begun) grown × (text ≡ grown ++ after_it form)

-- the end of a session, with a summary if one is asked for
abbrev pub ending : Form → Bool → Bool → Counts → List ℕ
ending form is_begun is_summed c =
    if is_summed && has_summary form then summary form is_begun c else closing form is_begun
