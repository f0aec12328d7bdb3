-- The annotations of a rustc message in its JSON format (`--error-format=json`).
use Rattle.std.specs.Prelude.{ℕ, zero, suc, ◌-◌, List, [], ◌∷◌, ◌++◌, Option, Some, None, Bool, true, false, not}
use Rattle.std.specs.Prelude.{◌&&◌, ◌||◌, ◌==◌, length, take}
use Rattle.std.specs.Prelude.{if◌then◌else◌, option_and_then, option_map, is_some, unwrap_or, map, filter, bytes_eq}
use Rattle.std.specs.List.{ends_with, filter_map, flat_map, starts_with}
use Rattle.std.specs.Option.{option_or}
use Rattle.std.specs.Prelude.{codes, nat_eq}
use Rattle.serde_json.specs.Data.{Data}
use Rattle.miette_protocol.specs.rules.Reading.{Source}
use Rattle.miette_read.specs.rules.Members.{member_flag, member_object, member_objects, nonempty_text, member_text}
use Rattle.miette_read.specs.rules.Members.{member_number}
use Rattle.miette_read.specs.rules.Places.{ByteRange, ToolLocation, Annotation, holds}
use Rattle.miette_read.specs.rules.AnnotationLabels.{has_no_rows}

-- ---- spans

abbrev pub range_from_offsets : Option ℕ → Option ℕ → Option ByteRange
range_from_offsets None end = None
range_from_offsets (Some s) None = None
range_from_offsets (Some s) (Some e) = Some (record { start = s; end = e })

abbrev pub span_range : Data → Option ByteRange
span_range d = range_from_offsets (member_number (codes "byte_start") d) (member_number (codes "byte_end") d)

abbrev pub file_name : Data → List ℕ
file_name d = unwrap_or (member_text (codes "file_name") d) []

abbrev pub rustc_location : Data → ToolLocation
rustc_location d = record {
  name = file_name d;
  stretch = span_range d;
  line = unwrap_or (member_number (codes "line_start") d) 0;
  column = unwrap_or (member_number (codes "column_start") d) 0;
}

abbrev pub is_primary : Data → Bool
is_primary d = member_flag (codes "is_primary") d

abbrev pub is_secondary : Data → Bool
is_secondary d = not (is_primary d)

-- Primary spans first.
abbrev pub primary_first : List Data → List Data
primary_first spans = filter is_primary spans ++ filter is_secondary spans

abbrev pub maybe_row : Option (List ℕ) → List (List ℕ)
maybe_row None = []
maybe_row (Some row) = row ∷ []

abbrev pub label_rows : Data → List (List ℕ)
label_rows d = maybe_row (nonempty_text (member_text (codes "label") d))

-- ---- macros

abbrev pub expansion_of : Data → Option Data
expansion_of d = member_object (codes "expansion") d

-- The call site of the macro whose expansion contains the span.
abbrev pub call_of : Data → Option Data
call_of d = option_and_then (member_object (codes "span")) (expansion_of d)

-- The first span that fits: the span itself or a call site of its macros, from the inside out.
unfoldable pub first_from : (Data → Bool) → ℕ → Data → Option Data
first_from is_in_scope zero d = None
first_from is_in_scope (suc n) d = if is_in_scope d then Some d else option_and_then (first_from is_in_scope n)
    (call_of d)

-- JSON texts nest at most 127 levels deep. At most 62 macro calls can be nested.
abbrev pub first_call_span : (Data → Bool) → Data → Option Data
first_call_span is_in_scope d = first_from is_in_scope 64 d

-- ---- where spans stand

-- The files that can be found, and the folder of the compiled package if it is known.
pub record Build : Type 0 where
  pub files : List ℕ → Option Source
  pub folder : Option (List ℕ)

-- The text before the given end.
abbrev pub before_end : List ℕ → List ℕ → Option (List ℕ)
before_end end text = if ends_with nat_eq text end then Some (take (length text - length end) text) else None

-- Cargo names a message's package by its manifest.
abbrev pub package_folder : Data → Option (List ℕ)
package_folder d = option_and_then (before_end (codes "/Cargo.toml")) (member_text (codes "manifest_path") d)

abbrev pub build_of : (List ℕ → Option Source) → Data → Build
build_of files d = record { files = files; folder = package_folder d }

abbrev pub ends_part : List ℕ → Bool
ends_part [] = true
ends_part (b ∷ bs) = ends_with nat_eq (b ∷ bs) (codes "/")

-- Whether the folder's path ends with these components. There is at least one.
abbrev pub ends_with_parts : List ℕ → List ℕ → Bool
ends_with_parts folder [] = false
ends_with_parts folder (b ∷ bs) =
    ends_with nat_eq folder (b ∷ bs) && ends_part (take (length folder - length (b ∷ bs)) folder)

-- Whether the folder ends with the components before one of the slashes of `name`. `passed` is the part that is already
-- read.
abbrev pub lies_from : List ℕ → List ℕ → List ℕ → Bool
lies_from folder passed [] = false
lies_from folder passed (b ∷ bs) = ((b == 47) && ends_with_parts folder passed)
    || lies_from folder (passed ++ b ∷ []) bs

-- Whether the file is in the package: the package's folder ends with the first components of the file name.
abbrev pub is_in_package : Option (List ℕ) → List ℕ → Bool
is_in_package None name = false
is_in_package (Some folder) name = lies_from folder [] name

abbrev pub is_absolute : List ℕ → Bool
is_absolute name = starts_with nat_eq name (codes "/")

abbrev pub has_file : Build → Data → Bool
has_file build d = is_some (build.files (file_name d))

abbrev pub is_packaged : Build → Data → Bool
is_packaged build d = is_in_package build.folder (file_name d) && has_file build d

-- Whether the file is in the workspace. Rustc gives paths in the workspace relative to it, other paths in full.
abbrev pub is_relative : Build → Data → Bool
is_relative build d = not (is_absolute (file_name d)) && has_file build d

-- The span to annotate. The first choice is a span in the package, then one in the workspace, then one in any file that
-- is found, then the span itself.
abbrev pub user_span : Build → Data → Data
user_span build d =
    unwrap_or (option_or (first_call_span (is_packaged build) d)
    (option_or (first_call_span (is_relative build) d) (first_call_span (has_file build) d))) d

-- Whether the annotation moves to another file although the span's own file is found.
abbrev pub is_moved : Build → Data → Bool
is_moved build d = not (bytes_eq (file_name d) (file_name (user_span build d))) && has_file build d

unfoldable pub outermost_from : ℕ → Data → Data
outermost_from zero e = e
outermost_from (suc n) e =
    unwrap_or (option_map (outermost_from n) (option_and_then expansion_of (member_object (codes "span") e))) e

unfoldable pub is_derive : List ℕ → Bool
is_derive name = starts_with nat_eq name (codes "#[derive(")

unfoldable pub is_attribute : List ℕ → Bool
is_attribute name = starts_with nat_eq name (codes "#[")

unfoldable pub is_invocation : List ℕ → Bool
is_invocation name = ends_with nat_eq name (codes "!")

-- Rustc's text at the outermost call of a macro.
abbrev pub call_text : List ℕ → Option (List ℕ)
call_text name =
    if is_derive name then Some (codes "in this derive macro expansion")
    else if is_attribute name then Some (codes "in this attribute macro expansion")
    else if is_invocation name then Some (codes "in this macro invocation") else None

-- Whether the first range contains the second.
abbrev pub range_holds : Option ByteRange → Option ByteRange → Bool
range_holds None inner = false
range_holds (Some s) None = false
range_holds (Some s) (Some t) = holds s t

abbrev pub holds_span : Data → Data → Bool
holds_span outer inner =
    bytes_eq (file_name outer) (file_name inner) && range_holds (span_range outer) (span_range inner)

-- ---- what is said

-- The annotation of a span with these lines before its label.
abbrev pub span_annotation : Build → List (List ℕ) → Bool → Data → Annotation
span_annotation build rows own d = record {
  rows = rows ++ label_rows d;
  place = Some (rustc_location (user_span build d));
  primary = is_primary d;
  own = own;
}

-- The annotation of one of the message's own spans.
abbrev pub own_annotation : Build → Data → Annotation
own_annotation build d = span_annotation build [] true d

abbrev pub bare_annotation : Data → Annotation
bare_annotation d = record { rows = []; place = Some (rustc_location d); primary = false; own = false }

-- For a span whose annotation moved: its original location, without text.
abbrev pub unmoved_annotation : Build → Data → Option Annotation
unmoved_annotation build d = if is_moved build d then Some (bare_annotation d) else None

abbrev pub call_annotation : List ℕ → Data → Annotation
call_annotation text span = record {
  rows = text ∷ [];
  place = Some (rustc_location span);
  primary = false;
  own
      = false;
}

-- The annotation at the outermost macro call, unless that call contains the span itself.
abbrev pub outer_call_annotation : Build → Data → Data → Option Annotation
outer_call_annotation build d e =
    option_and_then (λ span.
    if holds_span span (user_span build d) then None
    else option_map (λ text. call_annotation text span) (call_text (unwrap_or (member_text (codes "macro_decl_name") e)
    [])))
    (member_object (codes "span") e)

abbrev pub macro_annotation : Build → Data → Option Annotation
macro_annotation build d = option_and_then (λ e. outer_call_annotation build d (outermost_from 64 e)) (expansion_of d)

-- The annotation of a span of a note or help.
abbrev pub note_annotation : Build → List (List ℕ) → Data → Annotation
note_annotation build rows d = span_annotation build rows false d

-- The first span of a note has the note's message.
abbrev pub note_annotations : Build → List (List ℕ) → List Data → List Annotation
note_annotations build rows [] = []
note_annotations build rows (d ∷ ds) = note_annotation build rows d ∷ map (note_annotation build []) ds

abbrev pub is_help : Data → Bool
is_help c = bytes_eq (unwrap_or (member_text (codes "level") c) []) (codes "help")

abbrev pub message_of : Data → List ℕ
message_of c = unwrap_or (member_text (codes "message") c) []

abbrev pub is_edit : Data → Bool
is_edit d = is_some (member_text (codes "suggested_replacement") d)

-- The span isn't an edit, or it has a label.
abbrev pub is_annotation : Data → Bool
is_annotation d = not (is_edit d) || not (has_no_rows (label_rows d))

abbrev pub spans_of : Data → List Data
spans_of c = primary_first (member_objects (codes "spans") c)

-- The suggested edits of a note or help.
abbrev pub edits_in_child : Data → List Data
edits_in_child c = filter is_edit (member_objects (codes "spans") c)

abbrev pub is_empty : List Data → Bool
is_empty [] = true
is_empty (d ∷ ds) = false

abbrev pub note_message : Data → List ℕ
note_message c = if is_help c then codes "help: " ++ message_of c else message_of c

-- An annotation without a location.
abbrev pub text_annotation : List ℕ → Annotation
text_annotation text = record { rows = text ∷ []; place = None; primary = false; own = false }

-- The annotations of a note or help. A note without spans has its message only.
abbrev pub child_annotations : Build → Data → List Annotation
child_annotations build c =
    if not (is_empty (edits_in_child c)) then note_annotations build [] (filter is_annotation (spans_of c))
    else if not (is_empty (spans_of c)) then note_annotations build (note_message c ∷ []) (spans_of c)
    else if is_help c then []
    else text_annotation (message_of c) ∷ []

-- The annotations of the message's own spans: where they are shown, where they were in macros, and at macro calls.
abbrev pub own_span_annotations : Build → List Data → List Annotation
own_span_annotations build spans =
    (map (own_annotation build) spans ++ filter_map (unmoved_annotation build) spans)
    ++ filter_map (macro_annotation build) spans

-- All annotations of a message: those of its own spans, notes and helps.
abbrev pub message_annotations : Build → Data → List Annotation
message_annotations build d =
    own_span_annotations build (spans_of d) ++ flat_map (child_annotations build) (member_objects (codes "children") d)
