-- Whether options of `job` are wrong doesn't depend on those before them.
use Rattle.std.proofs.Common.{◌≡◌, ◌<◌, ◌^◌, ℕ, Bool, true, false, if◌then◌else◌, List, [], ◌∷◌, ◌++◌, Option, Some}
use Rattle.std.proofs.Common.{◌==◌, None, IfSome, codes, bytes_eq, refl, sym, ap, ◌∙◌, string_bytes, subst}
use Rattle.std.specs.Prelude.{decimal, is_some, option_map}
use Rattle.std.specs.Option.{option_and_then, option_map_or}
use Rattle.std.proofs.lemmas.Fmt.{decimal_is_IsNumeral}
use Rattle.miette_devices.specs.declared.output_form.OutputForm.{OutputForm}
use Rattle.miette_devices.specs.declared.output_form.OutputForm.TheVariants.{Graphical, Narrated, Brief, Github, Json, Debug}
use Rattle.miette_devices.specs.declared.output_form.OutputForm.TheVariants.{Sarif, Lsp}
use Rattle.miette_devices.specs.rules.OutputForms.{form_named}
use Rattle.miette_program.proofs.OptionWordSteps.{number_read}
use Rattle.miette_program.specs.rules.OptionWords.{JobRequest, parsed_arguments, color_named, language_named, no_arguments}
use Rattle.miette_program.specs.rules.OptionWords.{read_number, rgb_named, separator_named, theme_named, with_answer}
use Rattle.miette_program.specs.rules.OptionWords.{with_count, with_form, with_name, with_number, with_read}
use Rattle.miette_program.specs.rules.OptionWords.{with_terminal, with_value, with_words, with_words_after}
use Rattle.miette_style.specs.declared.theme.Terminal.{Terminal}
use Rattle.miette_show.specs.rules.TerminalWords.{color_name, graphics_words, terminal_words, width_words}
use Rattle.miette_show.specs.rules.TerminalWords.{yes_or_no}

-- ---- the same options are right or wrong after any others

-- both are requests, or none is
record Alike (o p : Option JobRequest) : Type 0 where
  same : is_some o ≡ is_some p

nothing : Alike None None
nothing = record { same = refl }

given : (a b : JobRequest) → Alike (Some a) (Some b)
given a b = record { same = refl }

none_of : (o p : Option JobRequest) → o ≡ None → Alike o p → p ≡ None
none_of None None e h = refl
none_of None (Some b) e h = absurd (cc)
none_of (Some a) p e h = absurd (cc)

some_of : (o p : Option JobRequest) (a : JobRequest) → o ≡ Some a → Alike o p → (b : JobRequest) × (p ≡ Some b)
some_of None p a e h = absurd (cc)
some_of (Some a) None x e h = absurd (cc)
some_of (Some a) (Some b) x e h = (b, refl)

chosen : (b : Bool) (x y z w : Option JobRequest) → Alike x z → Alike y w
    → Alike (if b then x else y) (if b then z else w)
chosen true x y z w h k = h
chosen false x y z w h k = k

after : (o p : Option JobRequest) (f : JobRequest → Option JobRequest) → ((r s : JobRequest) → Alike (f r) (f s))
    → Alike o p → Alike (option_and_then f o) (option_and_then f p)
after None None f h k = nothing
after None (Some b) f h k = absurd (cc)
after (Some a) None f h k = absurd (cc)
after (Some a) (Some b) f h k = h a b

named : {A : Type 0} (o : Option A) (f g : A → Option JobRequest) → ((a : A) → Alike (f a) (g a))
    → Alike (option_and_then f o) (option_and_then g o)
named None f g h = nothing
named (Some a) f g h = h a

either_way : {A : Type 0} (o : Option A) (f g : A → Option JobRequest) (x y : Option JobRequest)
    → ((a : A) → Alike (f a) (g a)) → Alike x y → Alike (option_map_or f o x) (option_map_or g o y)
either_way None f g x y h k = k
either_way (Some a) f g x y h k = h a

module _ (r s : JobRequest) where
  form_alike : (form : OutputForm) → Alike (with_form form r) (with_form form s)
  form_alike Graphical = given _ _
  form_alike Narrated = given _ _
  form_alike Brief = given _ _
  form_alike Github = given _ _
  form_alike Json = given _ _
  form_alike Debug = given _ _
  form_alike Sarif = nothing
  form_alike Lsp = nothing

  count_alike : (word : List ℕ) (n : ℕ) → Alike (with_count word n r) (with_count word n s)
  count_alike word n =
      chosen (n == 0) _ _ _ _ nothing
      (chosen (bytes_eq word (codes "--tab")) _ _ _ _ (given _ _)
      (chosen (bytes_eq word (codes "--label-lines")) _ _ _ _ (given _ _)
      (chosen (bytes_eq word (codes "--line-columns")) _ _ _ _ (given _ _) nothing)))

  number_alike : (word : List ℕ) (n : ℕ) → Alike (with_number word n r) (with_number word n s)
  number_alike word n =
      chosen (bytes_eq word (codes "--width")) _ _ _ _ (given _ _)
      (chosen (bytes_eq word (codes "--context")) _ _ _ _ (given _ _)
      (chosen (bytes_eq word (codes "--term-width")) _ _ _ _ (given _ _) (count_alike word n)))

  terminal_alike : (word : List ℕ) (on : Bool) → Alike (with_terminal word on r) (with_terminal word on s)
  terminal_alike word on =
      chosen (bytes_eq word (codes "--term-unicode")) _ _ _ _ (given _ _)
      (chosen (bytes_eq word (codes "--term-links")) _ _ _ _ (given _ _) nothing)

  answer_alike : (word : List ℕ) (on : Bool) → Alike (with_answer word on r) (with_answer word on s)
  answer_alike word on =
      chosen (bytes_eq word (codes "--unicode")) _ _ _ _ (given _ _)
      (chosen (bytes_eq word (codes "--color")) _ _ _ _ (given _ _)
      (chosen (bytes_eq word (codes "--links")) _ _ _ _ (given _ _)
      (chosen (bytes_eq word (codes "--chain")) _ _ _ _ (given _ _)
      (chosen (bytes_eq word (codes "--nested")) _ _ _ _ (given _ _)
      (chosen (bytes_eq word (codes "--wrap")) _ _ _ _ (given _ _)
      (chosen (bytes_eq word (codes "--break")) _ _ _ _ (given _ _)
      (chosen (bytes_eq word (codes "--hyphens")) _ _ _ _ (given _ _)
      (chosen (bytes_eq word (codes "--end-labels")) _ _ _ _ (given _ _)
      (chosen (bytes_eq word (codes "--fit-lines")) _ _ _ _ (given _ _) (terminal_alike word on))))))))))

  name_alike : (word name : List ℕ) → Alike (with_name word name r) (with_name word name s)
  name_alike word name =
      chosen (bytes_eq word (codes "--theme")) _ _ _ _ (named (theme_named name) _ _ (λ it. given _ _))
      (chosen (bytes_eq word (codes "--rgb")) _ _ _ _ (named (rgb_named name) _ _ (λ it. given _ _))
      (chosen (bytes_eq word (codes "--separator")) _ _ _ _ (named (separator_named name) _ _ (λ it. given _ _))
      (chosen (bytes_eq word (codes "--highlight")) _ _ _ _ (named (language_named name) _ _ (λ it. given _ _))
      (chosen (bytes_eq word (codes "--term-color")) _ _ _ _ (named (color_named name) _ _ (λ it. given _ _))
      nothing))))

  read_alike : (word value : List ℕ) → Alike (with_read word value r) (with_read word value s)
  read_alike word value =
      either_way (read_number value) _ _ _ _ (λ n. number_alike word n)
      (chosen (bytes_eq value (codes "yes")) _ _ _ _ (answer_alike word true)
      (chosen (bytes_eq value (codes "no")) _ _ _ _ (answer_alike word false) (name_alike word value)))

  value_alike : (word value : List ℕ) → Alike (with_value word value r) (with_value word value s)
  value_alike word value =
      chosen (bytes_eq word (codes "--footer")) _ _ _ _ (given _ _)
      (chosen (bytes_eq word (codes "--no-graphics")) _ _ _ _ (given _ _) (read_alike word value))

words_alike : (ws : List (List ℕ)) (r s : JobRequest) → Alike (with_words ws r) (with_words ws s)
words_alike [] r s = given r s
words_alike (w ∷ []) r s =
    either_way (form_named w) _ _ _ _
    (λ form. after _ _ (with_words []) (λ a b. given a b) (form_alike r s form)) nothing
words_alike (w ∷ (v ∷ ws)) r s =
    either_way (form_named w) _ _ _ _
    (λ form. after _ _ (with_words (v ∷ ws)) (λ a b. words_alike (v ∷ ws) a b) (form_alike r s form))
    (after _ _ (with_words ws) (λ a b. words_alike ws a b) (value_alike r s w v))

-- ---- wrong options are wrong after those of a terminal

record Wrong (ws : List (List ℕ)) : Type 0 where
  all : (r : JobRequest) → with_words ws r ≡ None

all_wrong : (ws : List (List ℕ)) → parsed_arguments ws ≡ None → Wrong ws
all_wrong ws none =
    record { all = λ r. none_of (parsed_arguments ws) (with_words ws r) none (words_alike ws no_arguments r) }

no_more : (o : Option JobRequest) (f : JobRequest → Option JobRequest) → ((r : JobRequest) → f r ≡ None)
    → option_and_then f o ≡ None
no_more None f h = refl
no_more (Some r) f h = h r

-- what an option and its value ask for, where the option is no form of output
pair : (w v : List ℕ) (ws : List (List ℕ)) (r : JobRequest) → form_named w ≡ None
    → with_words (w ∷ (v ∷ ws)) r ≡ option_and_then (with_words ws) (with_value w v r)
pair w v ws r none =
    ap (λ (o : Option OutputForm). option_map_or (λ form. option_and_then (with_words (v ∷ ws)) (with_form form r)) o
    (with_words_after w (v ∷ ws) r)) none

wrong_after : (w v : List ℕ) (ws : List (List ℕ)) → form_named w ≡ None → Wrong ws → Wrong (w ∷ (v ∷ ws))
wrong_after w v ws none h =
    record { all = λ r. pair w v ws r none ∙ no_more (with_value w v r) (with_words ws) h.all }

no_width : form_named (codes "--term-width") ≡ None
no_width = refl

no_color : form_named (codes "--term-color") ≡ None
no_color = refl

no_unicode : form_named (codes "--term-unicode") ≡ None
no_unicode = refl

no_links : form_named (codes "--term-links") ≡ None
no_links = refl

no_graphics : form_named (codes "--no-graphics") ≡ None
no_graphics = refl

-- the options of a terminal by the values that they have
abbrev in_front : Option ℕ → List ℕ → List ℕ → List ℕ → Option (List ℕ) → List (List ℕ)
in_front width color unicode links graphics =
    width_words width ++ (codes "--term-color" ∷ (color ∷ (codes "--term-unicode" ∷ (unicode
    ∷ (codes "--term-links" ∷ (links ∷ graphics_words graphics))))))

module _ (ws : List (List ℕ)) (h : Wrong ws) (color unicode links : List ℕ) where
  rest_wrong : (graphics : Option (List ℕ)) → Wrong (in_front None color unicode links graphics ++ ws)
  rest_wrong None =
      wrong_after _ color _ no_color (wrong_after _ unicode _ no_unicode (wrong_after _ links _ no_links h))
  rest_wrong (Some text) =
      wrong_after _ color _ no_color (wrong_after _ unicode _ no_unicode (wrong_after _ links _ no_links
      (wrong_after _ text _ no_graphics h)))

  front_wrong : (width : Option ℕ) (graphics : Option (List ℕ))
      → Wrong (in_front width color unicode links graphics ++ ws)
  front_wrong None graphics = rest_wrong graphics
  front_wrong (Some n) graphics = wrong_after _ (decimal n) _ no_width (rest_wrong graphics)

pub wrong_there : (t : Terminal) (ws : List (List ℕ)) → parsed_arguments ws ≡ None → parsed_arguments (terminal_words t ++ ws) ≡ None
wrong_there t ws none =
    let there : Wrong (terminal_words t ++ ws) =
    front_wrong ws (all_wrong ws none) (color_name t.color) (yes_or_no t.unicode) (yes_or_no t.hyperlinks) t.width
    (option_map string_bytes t.no_graphics)
    in
    there.all no_arguments

-- ---- right options are right after those of a terminal

record Right (ws : List (List ℕ)) : Type 0 where
  all : (r : JobRequest) → (s : JobRequest) × (with_words ws r ≡ Some s)

record Given (w v : List ℕ) : Type 0 where
  all : (r : JobRequest) → (s : JobRequest) × (with_value w v r ≡ Some s)

right_after : (w v : List ℕ) (ws : List (List ℕ)) → form_named w ≡ None → Given w v → Right ws
    → Right (w ∷ (v ∷ ws))
right_after w v ws none it h =
    record {
      all = λ (r : JobRequest). let first = it.all r in
          let last = h.all first.0 in
          (last.0, pair w v ws r none ∙ ap (option_and_then (with_words ws)) first.1 ∙ last.1);
    }

width_given : (n : ℕ) → n < 2 ^ 64 → (r : JobRequest) → (s : JobRequest)
    × (with_value (codes "--term-width") (decimal n) r ≡ Some s)
width_given n low r =
    let is = decimal_is_IsNumeral n low in
    let small : n < 2 ^ 64 = low in
    let number : Some n ≡ read_number (decimal n) = number_read (decimal n) (Some n)
    (is.0, subst (λ m. m < 2 ^ 64) (sym is.1) small, sym is.1)
    in (
      _,
      ap (λ (o : Option ℕ). option_map_or (λ m. with_number (codes "--term-width") m r) o
          (if bytes_eq (decimal n) (codes "yes") then with_answer (codes "--term-width") true r
          else (if bytes_eq (decimal n) (codes "no") then with_answer (codes "--term-width") false r
          else with_name (codes "--term-width") (decimal n) r))) (sym number),
    )

given_width : (n : ℕ) → n < 2 ^ 64 → Given (codes "--term-width") (decimal n)
given_width n low = record { all = λ r. width_given n low r }

given_color : (color : Option Bool) → Given (codes "--term-color") (color_name color)
given_color None = record { all = λ r. (_, refl) }
given_color (Some false) = record { all = λ r. (_, refl) }
given_color (Some true) = record { all = λ r. (_, refl) }

given_unicode : (on : Bool) → Given (codes "--term-unicode") (yes_or_no on)
given_unicode true = record { all = λ r. (_, refl) }
given_unicode false = record { all = λ r. (_, refl) }

given_links : (on : Bool) → Given (codes "--term-links") (yes_or_no on)
given_links true = record { all = λ r. (_, refl) }
given_links false = record { all = λ r. (_, refl) }

given_graphics : (text : List ℕ) → Given (codes "--no-graphics") text
given_graphics text = record { all = λ r. (_, refl) }

module _ (ws : List (List ℕ)) (h : Right ws) (color : Option Bool) (unicode links : Bool) where
  rest_right : (graphics : Option (List ℕ))
      → Right (in_front None (color_name color) (yes_or_no unicode) (yes_or_no links) graphics ++ ws)
  rest_right None =
      right_after _ _ _ no_color (given_color color) (right_after _ _ _ no_unicode (given_unicode unicode)
      (right_after _ _ _ no_links (given_links links) h))
  rest_right (Some text) =
      right_after _ _ _ no_color (given_color color) (right_after _ _ _ no_unicode (given_unicode unicode)
      (right_after _ _ _ no_links (given_links links) (right_after _ _ _ no_graphics (given_graphics text) h)))

  front_right : (width : Option ℕ) (graphics : Option (List ℕ)) → IfSome width (λ n. n < 2 ^ 64)
      → Right (in_front width (color_name color) (yes_or_no unicode) (yes_or_no links) graphics ++ ws)
  front_right None graphics low = rest_right graphics
  front_right (Some n) graphics low = right_after _ _ _ no_width (given_width n low) (rest_right graphics)

module _ (t : Terminal) (low : IfSome t.width (λ n. n < 2 ^ 64)) (ws : List (List ℕ))
    (none : parsed_arguments (terminal_words t ++ ws) ≡ None) where
  left : (o : Option JobRequest) → parsed_arguments ws ≡ o → o ≡ None
  left None e = refl
  left (Some a) e =
      let right : Right ws = record {
        all = λ r. some_of (parsed_arguments ws) (with_words ws r) a e (words_alike ws no_arguments r);
      }
      in
      let all : Right (terminal_words t ++ ws) =
      front_right ws right t.color t.unicode t.hyperlinks t.width (option_map string_bytes t.no_graphics) low
      in
      let there = all.all no_arguments in
      let no : None ≡ Some there.0 = sym none ∙ there.1 in
      absurd (cc)

  pub wrong_alone : parsed_arguments ws ≡ None
  wrong_alone = left (parsed_arguments ws) refl
