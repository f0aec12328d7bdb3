-- The label and list that each annotation goes to.
use Rattle.std.specs.Prelude.{ℕ, zero, suc, ◌+◌, List, [], ◌∷◌, ◌++◌, Option, Some, None, Bool, true, false, not, ◌&&◌}
use Rattle.std.specs.Prelude.{◌||◌, ◌==◌, if◌then◌else◌, option_and_then, length, map, bytes_eq}
use Rattle.std.specs.List.{list_any, fold}
use Rattle.miette_protocol.specs.rules.Reading.{Source}
use Rattle.miette_read.specs.rules.Places.{ByteRange, ToolLocation, Annotation, clash, near, is_same, holds, is_within}
use Rattle.miette_read.specs.rules.Places.{join_rows}
use Rattle.miette_read.specs.rules.Places.{tool_location_text}

-- A label over a file: its lines of text and its list number. List 0 is that of the report's source.
pub record FileLabel : Type 0 where
  pub name : List ℕ
  pub stretch : ByteRange
  pub primary : Bool
  pub rows : List (List ℕ)
  pub list : ℕ

-- The labels so far, the file of each list, and the texts without a location.
pub record LabelLists : Type 0 where
  pub marks : List FileLabel
  pub files : List Source
  pub texts : List (List ℕ)

abbrev pub no_label_lists : LabelLists
no_label_lists = record { marks = []; files = []; texts = [] }

-- The name of the first list's file.
abbrev pub main_file_name : List FileLabel → Option (List ℕ)
main_file_name [] = None
main_file_name (m ∷ ms) = Some m.name

-- The lines, with the new one at the end unless it is there already.
abbrev pub with_row : List (List ℕ) → List ℕ → List (List ℕ)
with_row rows row = if list_any (bytes_eq row) rows then rows else rows ++ row ∷ []

abbrev pub with_rows : List (List ℕ) → List (List ℕ) → List (List ℕ)
with_rows rows more = fold with_row rows more

-- ---- a place over the bytes of a label

abbrev pub is_label_at : List ℕ → ByteRange → FileLabel → Bool
is_label_at name s m = bytes_eq m.name name && is_same m.stretch s

abbrev pub with_more_rows : List ℕ → ByteRange → Annotation → FileLabel → FileLabel
with_more_rows name s t m =
    if is_label_at name s m then record m {
      primary = m.primary || (t.primary && t.own);
      rows = with_rows m.rows t.rows;
    } else m

-- ---- a place within a label

abbrev pub is_label_around : List ℕ → ByteRange → FileLabel → Bool
is_label_around name s m = bytes_eq m.name name && holds m.stretch s

abbrev pub has_no_rows : List (List ℕ) → Bool
has_no_rows [] = true
has_no_rows (row ∷ rows) = false

-- ---- a new label

-- Whether an annotation may join the list of this label. The message's own annotations join any list over their file,
-- others only near a label.
abbrev pub meets : List ℕ → List ℕ → ByteRange → Bool → ℕ → FileLabel → Bool
meets name bytes s own n m = (m.list == n) && (bytes_eq m.name name && (own || near bytes m.stretch s))

abbrev pub clashes_in_list : List ℕ → ByteRange → ℕ → FileLabel → Bool
clashes_in_list bytes s n m = (m.list == n) && clash bytes m.stretch s

abbrev pub accepts_label : List FileLabel → List ℕ → List ℕ → ByteRange → Bool → ℕ → Bool
accepts_label marks name bytes s own n =
    list_any (meets name bytes s own n) marks && not (list_any (clashes_in_list bytes s n) marks)

-- The first list that accepts the label, or the number of lists if none does.
abbrev pub first_accepting : (ℕ → Bool) → ℕ → ℕ → ℕ
first_accepting opens n zero = n
first_accepting opens n (suc left) = if opens n then n else first_accepting opens (n + 1) left

-- The annotation of a note is primary only if it starts a list.
abbrev pub new_label : ℕ → List ℕ → ByteRange → Annotation → ℕ → FileLabel
new_label count name s t n = record {
  name = name;
  stretch = s;
  primary = t.primary && (t.own || (n == count));
  rows = with_rows [] t.rows;
  list = n;
}

abbrev pub with_file_label : LabelLists → Source → FileLabel → LabelLists
with_file_label done source m = record done {
  marks = done.marks ++ m ∷ [];
  files = if m.list == length done.files then done.files ++ source ∷ [] else done.files;
}

abbrev pub with_new_label : LabelLists → List ℕ → Source → ByteRange → Annotation → LabelLists
with_new_label done name source s t =
    let count = length done.files in
    let n = first_accepting (accepts_label done.marks name source.bytes s t.own) 0 count in
    with_file_label done source (new_label count name s t n)

-- ---- all of it

abbrev pub with_labeled : LabelLists → List ℕ → Source → ByteRange → Annotation → LabelLists
with_labeled done name source s t =
    if list_any (is_label_at name s) done.marks then record done { marks = map (with_more_rows name s t) done.marks }
    else if has_no_rows t.rows && list_any (is_label_around name s) done.marks then done
    else with_new_label done name source s t

-- Adds a text without a location, unless it is there already.
abbrev pub with_text : LabelLists → List ℕ → LabelLists
with_text done text = record done { texts = with_row done.texts text }

abbrev pub maybe_text : LabelLists → Option (List ℕ) → LabelLists
maybe_text done None = done
maybe_text done (Some text) = with_text done text

-- The file and range, if the range is in bounds.
abbrev pub range_within : Source → Option ByteRange → Option (Source × ByteRange)
range_within source None = None
range_within source (Some s) = if is_within source.bytes s then Some (source, s) else None

abbrev pub file_range : (List ℕ → Option Source) → ToolLocation → Option (Source × ByteRange)
file_range files p = option_and_then (λ source. range_within source p.stretch) (files p.name)

abbrev pub with_located : LabelLists → Annotation → ToolLocation → Option (Source × ByteRange) → LabelLists
with_located done t p None = with_text done (tool_location_text p t.rows)
with_located done t p (Some found) = with_labeled done p.name found.0 found.1 t

abbrev pub with_annotation_at : (List ℕ → Option Source) → LabelLists → Annotation → Option ToolLocation → LabelLists
with_annotation_at files done t None = maybe_text done (join_rows t.rows)
with_annotation_at files done t (Some p) = with_located done t p (file_range files p)

abbrev pub with_annotation : (List ℕ → Option Source) → LabelLists → Annotation → LabelLists
with_annotation files done t = with_annotation_at files done t t.place

abbrev pub label_lists : (List ℕ → Option Source) → List Annotation → LabelLists
label_lists files told = fold (with_annotation files) no_label_lists told
