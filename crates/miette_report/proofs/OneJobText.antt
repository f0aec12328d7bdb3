-- The words of `job` ask for one text of what was read, but of the debug report: a highlighter's rules cut lines in one
-- way, and all else is a function of what is asked for.
use Rattle.std.proofs.Common.{◌≡◌, ℕ, Bool, true, false, List, Option, Some, None, refl, sym, ap, ap₂, subst}
use Rattle.std.proofs.Common.{◌∙◌, if◌then◌else◌, not, ◌&&◌}
use Rattle.std.specs.Prelude.{unwrap_or}
use Rattle.std.proofs.lemmas.Option.{option_and_then_some}
use Rattle.std.specs.Option.{option_map}
use Rattle.serde_json.specs.Read.{read}
use Rattle.miette.specs.rules.Choice.{IsChosen, brief_settings, chosen_highlighter, is_graphical, narration_settings}
use Rattle.miette.specs.rules.Choice.{asks_for_graphics, picture_settings, takes_colours}
use Rattle.miette.specs.rules.Options.{Options}
use Rattle.miette.specs.declared.options.handler.MietteHandler.{MietteHandler}
use Rattle.miette.specs.declared.options.handler.MietteHandler.TheVariants.{Graphical, Narrated, Brief}
use Rattle.miette_style.specs.declared.theme.Terminal.{Terminal}
use Rattle.miette_tree.specs.rules.Tree.{Tree}
use Rattle.miette_tree.specs.rules.Reads.{AlwaysReads}
use Rattle.miette_brief.specs.rules.Report as brief
use Rattle.miette_narrated.specs.rules.Report as narrated
use Rattle.miette_description.specs.rules.Description.{described_tree, tree_of_bytes}
use Rattle.miette_description.proofs.Sources.{described_reads}
use Rattle.miette_graphical_rules.specs.rules.Calls.{report_calls}
use Rattle.miette_graphical_rules.specs.rules.PossibleAnswers.{IsTextByCalls}
use Rattle.miette_graphical_rules.specs.rules.GraphicalSettings.{GraphicalSettings}
use Rattle.miette_graphical_rules.specs.rules.Snippets.{whole_drawing}
use Rattle.miette_highlight.specs.rules.FollowingCalls.{FollowTokens}
use Rattle.miette_graphical_laws.proofs.Determined.{one-followed}
use Rattle.miette_graphical_laws.proofs.DeterminedTokens.{tokens-determined}
use Rattle.miette_snippet_rules.specs.rules.Highlighting.{follows}
use Rattle.miette_program.specs.rules.JobText.{IsBuiltText, IsJobText}
use Rattle.miette_report.specs.rules.JobCalls.{CallWrites}
use Rattle.miette_program.specs.rules.LanguageRules.{Highlighting, TokensFollow, highlighting_of}
use Rattle.miette_program.specs.rules.OptionWords.{TerminalFacts, JobRequest, handler_choice, terminal_facts_of, request_of}
use Rattle.miette_program.specs.declared.language.LanguageHighlighter.{LanguageHighlighter}
use Rattle.miette_program.specs.declared.arguments.Choice.{Choice}
use Rattle.miette_program.specs.declared.arguments.Choice.TheVariants.{Build, Json, Debug}
use Rattle.miette_graphical_rules.proofs.AlwaysRead.{printed-reads}
use Rattle.miette_report.proofs.RuleTexts.{follow-by}

-- whether a highlighter of a language is blank: none is
abbrev never_blank : LanguageHighlighter → Bool
never_blank it = false

-- a terminal of these facts, but for its texts
abbrev terminal_of : TerminalFacts → Terminal
terminal_of f = record {
  width = f.width;
  color = f.color;
  unicode = f.unicode;
  hyperlinks = f.hyperlinks;
  stdout_terminal = f.stdout_terminal;
  stderr_terminal = f.stderr_terminal;
  no_graphics = None;
  no_color = None;
}

-- what a highlighter of these rules is asked for is what one of the same rules is asked for
asked-alike : (s : GraphicalSettings) (t : Tree) (l k : LanguageHighlighter) (x : List ℕ)
    → highlighting_of l ≡ highlighting_of k → IsTextByCalls whole_drawing s false (TokensFollow l) t x
    → IsTextByCalls whole_drawing s false (TokensFollow k) t x
asked-alike s t l k x e h =
    let asked = h.1 in
    let calls = report_calls s t asked.0 in
    let opened : FollowTokens l.patterns.rules.items k.patterns.left_open calls =
    subst (λ o. FollowTokens l.patterns.rules.items o calls) (ap (λ (it : Highlighting). it.left_open) e) asked.2 in (
      h.0,
      (
        asked.0,
        asked.1,
        follow-by l.patterns.rules.items k.patterns.rules.items k.patterns.left_open calls
            (ap (λ (it : Highlighting). it.rules) e) opened,
        asked.3,
      ),
      h.2,
    )

-- one picture, by the same settings and by highlighters of the same rules
one-picture : (s : GraphicalSettings) (t : Tree) (l k : Option LanguageHighlighter) (x y : List ℕ) → AlwaysReads t
    → option_map highlighting_of l ≡ option_map highlighting_of k
    → IsBuiltText never_blank (follows TokensFollow) (Graphical (record { settings = s; highlighter = l })) t x
    → IsBuiltText never_blank (follows TokensFollow) (Graphical (record { settings = s; highlighter = k })) t y → x ≡ y
one-picture s t None None x y reads e h g = h.1 refl ∙ sym (g.1 refl)
one-picture s t None (Some k) x y reads e h g = absurd (cc)
one-picture s t (Some l) None x y reads e h g = absurd (cc)
one-picture s t (Some l) (Some k) x y reads e h g =
    let same : highlighting_of l ≡ highlighting_of k =
    ap (λ (o : Option Highlighting). unwrap_or o (highlighting_of l)) e in
    one-followed (TokensFollow k) s false t x y (tokens-determined k.patterns.rules.items k.patterns.left_open)
    (printed-reads s t reads) (asked-alike s t l k x same h.0) g.0

-- the highlighter that is chosen, by its rules
with-colours : (colours : Bool) (l : Option LanguageHighlighter)
    → option_map highlighting_of (if colours then l else None)
    ≡ (if colours then option_map highlighting_of l else None)
with-colours true l = refl
with-colours false l = refl

chosen-rules : (o : Options LanguageHighlighter) (t : Terminal) → option_map highlighting_of (chosen_highlighter o t)
    ≡ (if takes_colours o t then option_map highlighting_of o.highlighter else None)
chosen-rules o t = with-colours (takes_colours o t) o.highlighter

not-brief : (b x : Bool) → (not b && x) ≡ true → b ≡ false
not-brief true x h = absurd (cc)
not-brief false x h = refl

-- two requests that are one
record AreAlike (o u : Options LanguageHighlighter) (t v : Terminal) : Type 0 where
  pub settings : picture_settings o t ≡ picture_settings u v
  pub graphical : is_graphical o t ≡ is_graphical u v
  pub colours : takes_colours o t ≡ takes_colours u v
  pub narration : narration_settings o ≡ narration_settings u
  pub told : brief_settings o ≡ brief_settings u
  pub brief : o.brief ≡ u.brief
  pub rules : option_map highlighting_of o.highlighter ≡ option_map highlighting_of u.highlighter

abbrev is_graphical_by : Options LanguageHighlighter → TerminalFacts → Bool
is_graphical_by o f = not o.brief && unwrap_or (option_map not o.narrated) (unwrap_or o.graphical
    (unwrap_or (option_map asks_for_graphics f.no_graphics) true))

alike : (c d : Choice) (o u : Options LanguageHighlighter) (t v : Terminal) → request_of c o t ≡ request_of d u v
    → AreAlike o u t v
alike c d o u t v e =
    let p : record o { highlighter = None } ≡ record u { highlighter = None } = ap (λ (r : JobRequest). r.options) e in
    let q : terminal_facts_of t ≡ terminal_facts_of v = ap (λ (r : JobRequest). r.facts) e in
    record {
      settings = ap₂ (λ (o : Options LanguageHighlighter) (f : TerminalFacts). picture_settings o (terminal_of f)) p q;
      graphical = ap₂ is_graphical_by p q;
      colours = ap₂ (λ (o : Options LanguageHighlighter) (f : TerminalFacts). takes_colours o (terminal_of f)) p q;
      narration = ap (λ (o : Options LanguageHighlighter). narration_settings o) p;
      told = ap (λ (o : Options LanguageHighlighter). brief_settings o) p;
      brief = ap (λ (o : Options LanguageHighlighter). o.brief) p;
      rules = ap (λ (r : JobRequest). r.highlighting) e;
    }

one-built : (o u : Options LanguageHighlighter) (t v : Terminal) (it : Tree) (g k : MietteHandler LanguageHighlighter)
    (x y : List ℕ) → AreAlike o u t v → AlwaysReads it → IsChosen o t g → IsChosen u v k
    → IsBuiltText never_blank (follows TokensFollow) g it x → IsBuiltText never_blank (follows TokensFollow) k it y
    → x ≡ y
one-built o u t v it (Graphical g) (Graphical k) x y same reads a b h j =
    let settings : g.settings ≡ k.settings = a.1.settings ∙ same.settings ∙ sym b.1.settings in
    let rules : option_map highlighting_of g.highlighter ≡ option_map highlighting_of k.highlighter =
    ap (option_map highlighting_of) a.1.highlighter ∙ chosen-rules o t
    ∙ ap₂ (λ (colours : Bool) (r : Option Highlighting). if colours then r else None) same.colours same.rules
    ∙ sym (chosen-rules u v) ∙ sym (ap (option_map highlighting_of) b.1.highlighter) in
    one-picture k.settings it g.highlighter k.highlighter x y reads rules
    (subst (λ (s : GraphicalSettings). IsBuiltText never_blank (follows TokensFollow)
    (Graphical (record { settings = s; highlighter = g.highlighter })) it x) settings h) j
one-built o u t v it (Graphical g) (Narrated k) x y same reads a b h j =
    let yes : is_graphical u v ≡ true = sym same.graphical ∙ a.0 in
    let no : is_graphical u v ≡ false = b.0 in absurd (cc)
one-built o u t v it (Graphical g) (Brief k) x y same reads a b h j =
    let no : o.brief ≡ false = not-brief o.brief _ a.0 in
    let yes : o.brief ≡ true = same.brief ∙ b.0 in absurd (cc)
one-built o u t v it (Narrated g) (Graphical k) x y same reads a b h j =
    let no : is_graphical u v ≡ false = sym same.graphical ∙ a.0 in
    let yes : is_graphical u v ≡ true = b.0 in absurd (cc)
one-built o u t v it (Narrated g) (Narrated k) x y same reads a b h j =
    h.1 ∙ ap (λ (n : narrated.NarrationSettings). narrated.narration n it narrated.unlisted)
    (a.2 ∙ same.narration ∙ sym b.2) ∙ sym j.1
one-built o u t v it (Narrated g) (Brief k) x y same reads a b h j =
    let yes : o.brief ≡ true = same.brief ∙ b.0 in
    let no : o.brief ≡ false = a.1 in absurd (cc)
one-built o u t v it (Brief g) (Graphical k) x y same reads a b h j =
    let no : u.brief ≡ false = not-brief u.brief _ b.0 in
    let yes : u.brief ≡ true = sym same.brief ∙ a.0 in absurd (cc)
one-built o u t v it (Brief g) (Narrated k) x y same reads a b h j =
    let yes : u.brief ≡ true = sym same.brief ∙ a.0 in
    let no : u.brief ≡ false = b.1 in absurd (cc)
one-built o u t v it (Brief g) (Brief k) x y same reads a b h j =
    h.1 ∙ ap (λ (n : brief.BriefSettings). brief.brief n it brief.unlisted) (a.1 ∙ same.told ∙ sym b.1) ∙ sym j.1

one-job : (c : Choice) (o u : Options LanguageHighlighter) (t v : Terminal) (it : Tree) (x y : List ℕ)
    → AreAlike o u t v → AlwaysReads it → (c ≡ Debug → ⊥) → IsJobText never_blank c o t it x
    → IsJobText never_blank c u v it y → x ≡ y
one-job Build o u t v it x y same reads not_debug h k =
    one-built o u t v it h.0 k.0 x y same reads h.1 k.1 h.2 k.2
one-job Json o u t v it x y same reads not_debug h k = h ∙ sym k
one-job Debug o u t v it x y same reads not_debug h k = absurd (not_debug refl)

reads_always : (bytes : List ℕ) (t : Tree) → tree_of_bytes bytes ≡ Some t → AlwaysReads t
reads_always bytes t e = option_and_then_some described_tree (read bytes) t e (λ d found described.
    described_reads d t described)

pub one-text : (words : List (List ℕ)) (bytes x y : List ℕ) → (handler_choice words ≡ Some Debug → ⊥)
    → CallWrites never_blank words bytes (λ text. text ≡ x) → CallWrites never_blank words bytes (λ text. text ≡ y)
    → x ≡ y
one-text words bytes x y not_debug h k =
    let some : Some (request_of h.0 h.1 h.2) ≡ Some (request_of k.0 k.1 k.2) = sym h.3 ∙ k.3 in
    let one : request_of h.0 h.1 h.2 ≡ request_of k.0 k.1 k.2 =
    ap (λ (o : Option JobRequest). unwrap_or o (request_of h.0 h.1 h.2)) some in
    let choice : k.0 ≡ h.0 = sym (ap (λ (r : JobRequest). r.choice) one) in
    let described : Some h.4.1.0 ≡ Some k.4.1.0 = sym h.4.1.1 ∙ k.4.1.1 in
    let it : k.4.1.0 ≡ h.4.1.0 = sym (ap (λ (o : Option Tree). unwrap_or o h.4.1.0) described) in
    let text = k.4.1.2.0 in
    let given : IsJobText never_blank h.0 k.1 k.2 h.4.1.0 text =
    subst (λ (c : Choice). IsJobText never_blank c k.1 k.2 h.4.1.0 text) choice
    (subst (λ (t : Tree). IsJobText never_blank k.0 k.1 k.2 t text) it k.4.1.2.1) in
    let known : h.0 ≡ Debug → ⊥ = λ is. not_debug (ap (option_map (λ (r : JobRequest). r.choice)) h.3 ∙ ap Some is) in
    sym h.4.1.2.2 ∙ one-job h.0 h.1 k.1 h.2 k.2 h.4.1.0 h.4.1.2.0 text (alike h.0 k.0 h.1 k.1 h.2 k.2 one)
    (reads_always bytes h.4.1.0 h.4.1.1) known h.4.1.2.1 given ∙ k.4.1.2.2
