-- The row of a command reads back.
use Rattle.std.proofs.Common.{◌≡◌, ℕ, ◌+◌, ◌*◌, ◌/◌, ◌%◌, ◌<◌, Bool, true, false, ◌&&◌, List, [], ◌∷◌, ◌++◌, refl}
use Rattle.std.proofs.Common.{sym, ap, ap₂, ◌∙◌, arith, append_assoc, append-nil, length, map, drop, Option, Some, None}
use Rattle.std.specs.Prelude.{◌==◌, not}
use Rattle.std.specs.List.{AllByRecursion, flat_map, list_all}
use Rattle.std.proofs.lemmas.Bool.{and_parts, not-true}
use Rattle.std.proofs.lemmas.Bool.Decides.{nat_tests}
use Rattle.miette_lines.proofs.Cases.{by_cases}
use Rattle.miette_positions.specs.declared.position.Region.{Region}
use Rattle.miette_protocol.specs.declared.protocol.Severity.{Severity}
use Rattle.miette_protocol.specs.declared.protocol.Severity.TheVariants.{Advice, Warning, Error}
use Rattle.miette_protocol.specs.rules.Reading.{Source}
use Rattle.miette_tree.specs.rules.Answers.{AnswerTrees}
use Rattle.miette_tree.specs.rules.Tree.{Tree, tree, Trees, no_trees, more_trees, effective}
use Rattle.miette_brief.specs.declared.escapes.CommandPart.{CommandPart}
use Rattle.miette_brief.specs.declared.escapes.CommandPart.TheVariants.{Message, Property as InProperty}
use Rattle.miette_brief.specs.declared.form.BriefForm.{BriefForm}
use Rattle.miette_brief.specs.declared.form.BriefForm.TheVariants.{Gcc, Github}
use Rattle.miette_brief.specs.laws.CommandBack.{AreCommands, AreCommandRows, ReadsCommand, all_diagnostics_in, as_it_is}
use Rattle.miette_brief.specs.laws.CommandBack.{body_in}
use Rattle.miette_brief.specs.laws.CommandBack.{decoded, diagnostics_in, head_in, hex_value, is_one_line}
use Rattle.miette_brief.specs.laws.CommandBack.{pieces_of, onto_first, properties_after, property_of, message_row_bytes}
use Rattle.miette_brief.specs.laws.EditBack.{up_to, after_end}
use Rattle.miette_brief.specs.laws.Parts.{text_of_rows}
use Rattle.miette_brief.specs.rules.Commands.{Command, Property, MessageRow, FileLocation, byte_text, columns_if}
use Rattle.miette_brief.specs.rules.Commands.{command_name}
use Rattle.miette_brief.specs.rules.Commands.{command_text, commands_text, escaped, further_property, hex_digit}
use Rattle.miette_brief.specs.rules.Commands.{is_percent_escaped, percent, properties, properties_text, property_text}
use Rattle.miette_brief.specs.rules.Commands.{region_properties, message_row_text, message_rows_text, file_properties}
use Rattle.miette_brief.specs.rules.Commands.{title_properties}
use Rattle.miette_brief.specs.rules.Report.{Answers, BriefSettings, brief, first_answers, later_answers}
use Rattle.miette_brief.specs.rules.Report.{BriefReadAnswers}
use Rattle.miette_brief.specs.rules.Report.{related_answers, related_commands, report_commands, brief_text_in}
use Rattle.miette_brief.proofs.Clean.{both_pass}
use Rattle.miette_brief.proofs.Counting.{counted_after}
use Rattle.miette_brief.proofs.EditsBack.{after_end_past, lacks, up_past}
use Rattle.miette_brief.proofs.Escaping.{byte_escaped, byte_single, escaped_is_ascii}

-- ---- escapes

hex_back : (n : ℕ) → n < 16 → hex_value (hex_digit n) ≡ n
hex_back n h = grind (arith, nat_tests)

percent_back : (b : ℕ) (rest : List ℕ) → b < 128
    → decoded as_it_is (percent b ++ rest) ≡ b ∷ decoded as_it_is rest
percent_back b rest h =
    let high : b / 16 < 16 = omega arith in
    let low : b % 16 < 16 = omega arith in
    let first = hex_back (b / 16) high in
    let last = hex_back (b % 16) low in
    let value : hex_value (hex_digit (b / 16)) * 16 + hex_value (hex_digit (b % 16)) ≡ b =
    ap₂ (λ x y. x * 16 + y) first last ∙ omega arith in
    ap (λ n. n ∷ decoded as_it_is rest) value

no_percent : (part : CommandPart) (b : ℕ) → is_percent_escaped part b ≡ false → (b == 37) ≡ false
no_percent Message b h = grind (arith, nat_tests)
no_percent InProperty b h = grind (arith, nat_tests)

byte_back : (part : CommandPart) (b : ℕ) (rest : List ℕ) → decoded as_it_is (byte_text part b ++ rest)
    ≡ b ∷ decoded as_it_is rest
byte_back part b rest =
    by_cases {C = decoded as_it_is (byte_text part b ++ rest) ≡ b ∷ decoded as_it_is rest} (is_percent_escaped part b)
    (λ t. rw t (percent_back b rest (escaped_is_ascii part b t)))
    (λ f. rw f (rw (no_percent part b f) refl))

text_back : (part : CommandPart) (bs rest : List ℕ) → decoded as_it_is (escaped part bs ++ rest)
    ≡ bs ++ decoded as_it_is rest
text_back part [] rest = refl
text_back part (b ∷ bs) rest =
    ap (decoded as_it_is) (append_assoc (byte_text part b) (escaped part bs) rest)
    ∙ byte_back part b (escaped part bs ++ rest) ∙ ap (λ l. b ∷ l) (text_back part bs rest)

saying_back : (it : MessageRow) (rest : List ℕ) → decoded as_it_is (message_row_text it ++ rest)
    ≡ message_row_bytes it ++ decoded as_it_is rest
saying_back it rest =
    ap (λ l. 10 ∷ decoded as_it_is l) (append_assoc (escaped Message it.title) (escaped Message it.text) rest)
    ∙ ap (λ l. 10 ∷ l) (text_back Message it.title (escaped Message it.text ++ rest)
    ∙ ap (λ l. it.title ++ l) (text_back Message it.text rest)
    ∙ sym (append_assoc it.title it.text (decoded as_it_is rest)))

sayings_back : (its : List MessageRow) → decoded as_it_is (message_rows_text its) ≡ flat_map message_row_bytes its
sayings_back [] = refl
sayings_back (it ∷ its) = saying_back it (message_rows_text its) ∙ ap (λ l. message_row_bytes it ++ l)
    (sayings_back its)

-- ---- bytes that a text lacks

-- what each of the escapes passes, and each byte that stands for itself
record IsKept (part : CommandPart) (q : ℕ → Bool) : Type 0 where
  sign : q 37 ≡ true
  digits : (n : ℕ) → n < 16 → q (hex_digit n) ≡ true
  others : (b : ℕ) → is_percent_escaped part b ≡ false → q b ≡ true

both_true : (p q : Bool) → p ≡ true → q ≡ true → (p && q) ≡ true
both_true p q h k = rw (h, k) refl

module _ (part : CommandPart) (q : ℕ → Bool) (kept : IsKept part q) where
  percent_kept : (b : ℕ) → b < 128 → list_all q (percent b) ≡ true
  percent_kept b h =
      both_true _ _ kept.sign (both_true _ _ (kept.digits (b / 16) (omega arith))
      (both_true _ _ (kept.digits (b % 16) (omega arith)) refl))

  byte_kept : (b : ℕ) → list_all q (byte_text part b) ≡ true
  byte_kept b =
      by_cases {C = list_all q (byte_text part b) ≡ true} (is_percent_escaped part b)
      (λ t. ap (list_all q) (byte_escaped part b t) ∙ percent_kept b (escaped_is_ascii part b t))
      (λ f. ap (list_all q) (byte_single part b f) ∙ both_true (q b) true (kept.others b f) refl)

  text_kept : (bs : List ℕ) → list_all q (escaped part bs) ≡ true
  text_kept [] = refl
  text_kept (b ∷ bs) = both_pass q (byte_text part b) (escaped part bs) (byte_kept b) (text_kept bs)

no_colon : IsKept InProperty (λ b. not (b == 58))
no_colon = record {
  sign = refl;
  digits = λ n h. grind (arith, nat_tests);
  others = λ b h. grind (arith, nat_tests);
}

no_comma : IsKept InProperty (λ b. not (b == 44))
no_comma = record {
  sign = refl;
  digits = λ n h. grind (arith, nat_tests);
  others = λ b h. grind (arith, nat_tests);
}

no_break : (part : CommandPart) → IsKept part (λ b. not (b == 10) && not (b == 13))
no_break Message = record {
  sign = refl;
  digits = λ n h. grind (arith, nat_tests);
  others = λ b h. grind (arith, nat_tests);
}
no_break InProperty = record {
  sign = refl;
  digits = λ n h. grind (arith, nat_tests);
  others = λ b h. grind (arith, nat_tests);
}

-- ---- properties

abbrev IsKey : Property → Type 0
IsKey p = (lacks 61 p.key ≡ true) × (lacks 44 p.key ≡ true) × (lacks 58 p.key ≡ true) × (is_one_line p.key ≡ true)

abbrev AreKeys : List Property → Type 0
AreKeys ps = AllByRecursion IsKey ps

keys_joined : (ps qs : List Property) → AreKeys ps → AreKeys qs → AreKeys (ps ++ qs)
keys_joined [] qs h k = k
keys_joined (p ∷ ps) qs h k = (h.0, keys_joined ps qs h.1 k)

columns_keys : (b : Bool) (r : Region) → AreKeys (columns_if b r)
columns_keys true r = ((refl, refl, refl, refl), ((refl, refl, refl, refl), tt))
columns_keys false r = tt

region_keys : (r : Option Region) → AreKeys (region_properties r)
region_keys None = tt
region_keys (Some r) = (
  (refl, refl, refl, refl),
  ((refl, refl, refl, refl), columns_keys (r.start.line == r.end.line) r),
)

site_keys : (site : Option FileLocation) → AreKeys (file_properties site)
site_keys None = tt
site_keys (Some site) = ((refl, refl, refl, refl), region_keys site.region)

title_keys : (title : Option (List ℕ)) → AreKeys (title_properties title)
title_keys None = tt
title_keys (Some title) = ((refl, refl, refl, refl), tt)

all_keys : (c : Command) → AreKeys (properties c)
all_keys c = keys_joined (file_properties c.site) (title_properties c.title) (site_keys c.site) (title_keys c.title)

module _ (q : ℕ → Bool) (equals : q 61 ≡ true) (comma : q 44 ≡ true) (space : q 32 ≡ true) (kept : IsKept InProperty q)
  where
    property_kept : (p : Property) → list_all q p.key ≡ true → list_all q (property_text p) ≡ true
    property_kept p h = both_pass q p.key (61 ∷ escaped InProperty p.value) h
        (both_true _ _ equals (text_kept InProperty q kept p.value))

    further_kept : (ps : List Property) → AllByRecursion (λ p. list_all q p.key ≡ true) ps
        → list_all q (flat_map further_property ps) ≡ true
    further_kept [] h = refl
    further_kept (p ∷ ps) h = both_true _ _ comma
        (both_pass q (property_text p) (flat_map further_property ps) (property_kept p h.0) (further_kept ps h.1))

    properties_kept : (ps : List Property) → AllByRecursion (λ p. list_all q p.key ≡ true) ps
        → list_all q (properties_text ps) ≡ true
    properties_kept [] h = refl
    properties_kept (p ∷ ps) h = both_true _ _ space
        (both_pass q (property_text p) (flat_map further_property ps) (property_kept p h.0) (further_kept ps h.1))

colons_lacking : (ps : List Property) → AreKeys ps → AllByRecursion (λ p. lacks 58 p.key ≡ true) ps
colons_lacking [] h = tt
colons_lacking (p ∷ ps) h = (h.0.2, colons_lacking ps h.1)

lines_lacking : (ps : List Property) → AreKeys ps → AllByRecursion (λ p. is_one_line p.key ≡ true) ps
lines_lacking [] h = tt
lines_lacking (p ∷ ps) h = (h.0.3, lines_lacking ps h.1)

-- between commas

no_match : (end : ℕ) (x : ℕ) (xs : List ℕ) → lacks end (x ∷ xs) ≡ true → ((x == end) ≡ false) × (lacks end xs ≡ true)
no_match end x xs h =
    let p = and_parts (not (x == end)) (lacks end xs) h in
    (not-true (x == end) p.0, p.1)

piece_past : (xs ys : List ℕ) → lacks 44 xs ≡ true → pieces_of (xs ++ 44 ∷ ys) ≡ xs ∷ pieces_of ys
piece_past [] ys h = refl
piece_past (x ∷ xs) ys h =
    let p = no_match 44 x xs h in
    rw p.0 (ap (onto_first x) (piece_past xs ys p.1))

last_piece : (xs : List ℕ) → lacks 44 xs ≡ true → pieces_of xs ≡ xs ∷ []
last_piece [] h = refl
last_piece (x ∷ xs) h =
    let p = no_match 44 x xs h in
    rw p.0 (ap (onto_first x) (last_piece xs p.1))

property_lacks : (p : Property) → IsKey p → lacks 44 (property_text p) ≡ true
property_lacks p h = both_pass (λ b. not (b == 44)) p.key (61 ∷ escaped InProperty p.value) h.1
    (text_kept InProperty (λ b. not (b == 44)) no_comma p.value)

pieces_back : (p : Property) (ps : List Property) → IsKey p → AreKeys ps
    → pieces_of (property_text p ++ flat_map further_property ps) ≡ map property_text (p ∷ ps)
pieces_back p [] h k = ap pieces_of (append-nil (property_text p)) ∙ last_piece (property_text p) (property_lacks p h)
pieces_back p (next ∷ ps) h k =
    piece_past (property_text p) (property_text next ++ flat_map further_property ps) (property_lacks p h)
    ∙ ap (λ l. property_text p ∷ l) (pieces_back next ps k.0 k.1)

same_property : (k v : List ℕ) (p : Property) → k ≡ p.key → v ≡ p.value → record { key = k; value = v } ≡ p
same_property k v p e f = rw (e, f) refl

property_back : (p : Property) → IsKey p → property_of (property_text p) ≡ p
property_back p h =
    let value : List ℕ = escaped InProperty p.value in
    same_property (up_to 61 (property_text p)) (decoded as_it_is (after_end 61 (property_text p))) p
    (up_past 61 p.key value h.0)
    (ap (decoded as_it_is) (after_end_past 61 p.key value h.0 ∙ sym (append-nil value))
    ∙ text_back InProperty p.value [] ∙ append-nil p.value)

all_back : (ps : List Property) → AreKeys ps → map property_of (map property_text ps) ≡ ps
all_back [] h = refl
all_back (p ∷ ps) h = ap₂ (λ q qs. q ∷ qs) (property_back p h.0) (all_back ps h.1)

some_after : (xs : List ℕ) (b : ℕ) (ys : List ℕ) → properties_after (xs ++ b ∷ ys)
    ≡ map property_of (pieces_of (xs ++ b ∷ ys))
some_after [] b ys = refl
some_after (x ∷ xs) b ys = refl

properties_back : (p : Property) (ps : List Property) → IsKey p → AreKeys ps
    → properties_after (property_text p ++ flat_map further_property ps) ≡ p ∷ ps
properties_back p ps h k =
    let more : List ℕ = flat_map further_property ps in
    let value : List ℕ = escaped InProperty p.value in
    let shape : property_text p ++ more ≡ p.key ++ 61 ∷ (value ++ more) = append_assoc p.key (61 ∷ value) more in
    ap properties_after shape ∙ some_after p.key 61 (value ++ more)
    ∙ ap (λ l. map property_of (pieces_of l)) (sym shape)
    ∙ ap (map property_of) (pieces_back p ps h k) ∙ all_back (p ∷ ps) (h, k)

-- ---- heads

whole_up : (end : ℕ) (xs : List ℕ) → lacks end xs ≡ true → up_to end xs ≡ xs
whole_up end [] h = refl
whole_up end (x ∷ xs) h = (let p = no_match end x xs h in rw p.0 (ap (λ l. x ∷ l) (whole_up end xs p.1)))

none_after : (end : ℕ) (xs : List ℕ) → lacks end xs ≡ true → after_end end xs ≡ []
none_after end [] h = refl
none_after end (x ∷ xs) h = (let p = no_match end x xs h in rw p.0 (none_after end xs p.1))

record IsName (name : List ℕ) : Type 0 where
  colon : lacks 58 name ≡ true
  space : lacks 32 name ≡ true
  line : is_one_line name ≡ true

name_is : (severity : Option Severity) → IsName (command_name severity)
name_is None = record { colon = refl; space = refl; line = refl }
name_is (Some Error) = record { colon = refl; space = refl; line = refl }
name_is (Some Warning) = record { colon = refl; space = refl; line = refl }
name_is (Some Advice) = record { colon = refl; space = refl; line = refl }

name_back : (name : List ℕ) (ps : List Property) → lacks 32 name ≡ true
    → up_to 32 (name ++ properties_text ps) ≡ name
name_back name [] h = ap (up_to 32) (append-nil name) ∙ whole_up 32 name h
name_back name (p ∷ ps) h = up_past 32 name (property_text p ++ flat_map further_property ps) h

after_back : (name : List ℕ) (ps : List Property) → lacks 32 name ≡ true → AreKeys ps
    → properties_after (after_end 32 (name ++ properties_text ps)) ≡ ps
after_back name [] h k = ap (λ l. properties_after (after_end 32 l)) (append-nil name)
    ∙ ap properties_after (none_after 32 name h)
after_back name (p ∷ ps) h k =
    ap properties_after (after_end_past 32 name (property_text p ++ flat_map further_property ps) h)
    ∙ properties_back p ps k.0 k.1

-- ---- rows

saying_line : (it : MessageRow) → is_one_line (message_row_text it) ≡ true
saying_line it = both_pass (λ b. not (b == 10) && not (b == 13)) (escaped Message it.title) (escaped Message it.text)
    (text_kept Message _ (no_break Message) it.title) (text_kept Message _ (no_break Message) it.text)

sayings_line : (its : List MessageRow) → is_one_line (message_rows_text its) ≡ true
sayings_line [] = refl
sayings_line (it ∷ its) = both_pass (λ b. not (b == 10) && not (b == 13)) (message_row_text it) (message_rows_text its)
    (saying_line it) (sayings_line its)

pub command_back : (c : Command) → ReadsCommand c (command_text c)
command_back c =
    let name : List ℕ = command_name c.severity in
    let ps : List Property = properties c in
    let keys = all_keys c in
    let named = name_is c.severity in
    let line : ℕ → Bool = λ b. not (b == 10) && not (b == 13) in
    let body : List ℕ = escaped Message c.message ++ message_rows_text c.message_rows in
    let colons : lacks 58 (name ++ properties_text ps) ≡ true =
    both_pass (λ b. not (b == 58)) name (properties_text ps) named.colon
    (properties_kept (λ b. not (b == 58)) refl refl refl no_colon ps (colons_lacking ps keys)) in
    let shape : name ++ (properties_text ps ++ (58 ∷ 58 ∷ body)) ≡ (name ++ properties_text ps) ++ 58 ∷ 58 ∷ body =
    sym (append_assoc name (properties_text ps) (58 ∷ 58 ∷ body)) in
    let head : head_in (command_text c) ≡ name ++ properties_text ps =
    ap (up_to 58) shape ∙ up_past 58 (name ++ properties_text ps) (58 ∷ body) colons in
    let after_head : body_in (command_text c) ≡ body =
    ap (λ l. drop 1 (after_end 58 l)) shape
    ∙ ap (drop 1) (after_end_past 58 (name ++ properties_text ps) (58 ∷ body) colons) in
    record {
      begins = refl;
      name_is = ap (up_to 32) head ∙ name_back name ps named.space;
      properties_are = ap (λ l. properties_after (after_end 32 l)) head ∙ after_back name ps named.space keys;
      message_is = ap (decoded as_it_is) after_head
          ∙ text_back Message c.message (message_rows_text c.message_rows)
          ∙ ap (λ l. c.message ++ l) (sayings_back c.message_rows);
      line = both_pass line name (properties_text ps ++ (58 ∷ 58 ∷ body)) named.line
          (both_pass line (properties_text ps) (58 ∷ 58 ∷ body)
          (properties_kept line refl refl refl (no_break InProperty) ps (lines_lacking ps keys))
          (both_pass line (escaped Message c.message) (message_rows_text c.message_rows)
          (text_kept Message line (no_break Message) c.message) (sayings_line c.message_rows)));
    }

-- ---- reports

rows_ended : (cs : List Command) → commands_text cs ≡ text_of_rows (map command_text cs)
rows_ended [] = refl
rows_ended (c ∷ cs) = ap (λ l. command_text c ++ (10 ∷ l)) (rows_ended cs)

rows_read : (cs : List Command) → AreCommandRows cs (map command_text cs)
rows_read [] = tt
rows_read (c ∷ cs) = (command_back c, rows_read cs)

all_read : (f : BriefForm) (chain : Bool) (t : Tree) (a : Answers) → f ≡ Github
    → AreCommands (report_commands chain None a t) (brief_text_in f chain None a t)
all_read Gcc chain t a is = cc
all_read Github chain t a is = record {
  rows = map command_text (report_commands chain None a t);
  are = rows_ended (report_commands chain None a t);
  read = rows_read (report_commands chain None a t);
}

pub commands_read : (s : BriefSettings) (t : Tree) (a : Answers) → s.form ≡ Github
    → AreCommands (report_commands s.cause_chain None a t) (brief s t a)
commands_read s t a is = all_read s.form s.cause_chain t a is

mutual
  pub commands_counted : (chain : Bool) (inherited : Option Source) (a : Answers) (t : Tree)
      → length (report_commands chain inherited a t) ≡ diagnostics_in t
  commands_counted chain inherited a (tree m own c r) =
      (let h = related_counted chain (effective own inherited) (related_answers a) r in omega (arith, h))

  related_counted : (chain : Bool) (inherited : Option Source) (more : AnswerTrees BriefReadAnswers) (ts : Trees)
      → length (related_commands chain inherited more ts) ≡ all_diagnostics_in ts
  related_counted chain inherited more no_trees = refl
  related_counted chain inherited more (more_trees t ts) =
      counted_after (report_commands chain inherited (first_answers more) t) _ _ _
      (commands_counted chain inherited (first_answers more) t)
      (related_counted chain inherited (later_answers more) ts)
