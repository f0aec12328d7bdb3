-- Where a command is not finished on its line.
use Rattle.std.proofs.Common.{◌≡◌, ℕ, zero, suc, ◌+◌, ◌<◌, Bool, true, false, ◌==◌, List, [], ◌∷◌, length, drop, get_or}
use Rattle.std.proofs.Common.{refl, sym, ap, ◌∙◌, arith, drop-drop, if◌then◌else◌}
use Rattle.std.proofs.lemmas.Bool.Decides.{nat_tests}
use Rattle.std.proofs.lemmas.List.{drop_more}
use Rattle.miette_runs.specs.rules.Sequences.{control_len, command_len, one_more, is_final, is_line_feed}
use Rattle.miette_runs.specs.rules.Sequences.{begins_command, after_escape_len, sequence_len}
use Rattle.miette_style.specs.rules.Escapes.{is_escape}

none_more : (n : ℕ) → one_more n ≡ 0 → n ≡ 0
none_more zero h = refl
none_more (suc n) h = absurd (omega arith)

-- after a character but a line feed
command_after : (c : ℕ) (cs : List ℕ) → is_line_feed c ≡ false → command_len (c ∷ cs) ≡ 0 → command_len cs ≡ 0
command_after c cs h k = grind (arith, nat_tests, none_more (command_len cs))

control_after : (cs : List ℕ) → command_len cs ≡ 0 → command_len (drop (control_len cs) cs) ≡ 0
control_after [] h = refl
control_after (c ∷ cs) h =
    elim (is_line_feed c) as (λ b. is_line_feed c ≡ b → command_len
    (drop (if b then 0 else if is_final c then 1 else one_more (control_len cs)) (c ∷ cs)) ≡ 0) [
      | true ↦ λ e. h
      | false ↦ λ e.
          elim (is_final c) as (λ b. command_len (drop (if b then 1 else one_more (control_len cs)) (c ∷ cs)) ≡ 0) [
            | true ↦ command_after c cs e h
            | false ↦ elim (control_len cs) as (λ n. command_len (drop n cs) ≡ 0
                → command_len (drop (one_more n) (c ∷ cs)) ≡ 0) [
                  | zero ↦ λ k. h
                  | suc n ↦ λ k. k
                ] (control_after cs (command_after c cs e h))
          ]
    ] refl

more_after : (c n : ℕ) (cs : List ℕ) → command_len (c ∷ cs) ≡ 0 → command_len (drop n cs) ≡ 0
    → command_len (drop (one_more n) (c ∷ cs)) ≡ 0
more_after c zero cs h k = h
more_after c (suc n) cs h k = k

commands_after : (cs : List ℕ) → command_len cs ≡ 0 → command_len (drop (command_len cs) cs) ≡ 0
commands_after cs h = ap (λ n. command_len (drop n cs)) h ∙ h

not_feed : (c k : ℕ) → (c == k) ≡ true → is_line_feed k ≡ false → is_line_feed c ≡ false
not_feed c k h e = grind (arith, nat_tests)

after_after : (cs : List ℕ) → command_len cs ≡ 0 → command_len (drop (after_escape_len cs) cs) ≡ 0
after_after [] h = refl
after_after (c ∷ cs) h =
    elim (c == 91) as (λ b. (c == 91) ≡ b → command_len (drop
    (if b then one_more (control_len cs) else if c == 93 then one_more (command_len cs) else 0) (c ∷ cs)) ≡ 0) [
      | true ↦ λ e. more_after c (control_len cs) cs h (control_after cs
          (command_after c cs (not_feed c 91 e refl) h))
      | false ↦ λ _.
          elim (c == 93) as (λ b. (c == 93) ≡ b → command_len
          (drop (if b then one_more (command_len cs) else 0) (c ∷ cs)) ≡ 0) [
            | true ↦ λ e. more_after c (command_len cs) cs h
                (commands_after cs (command_after c cs (not_feed c 93 e refl) h))
            | false ↦ λ _. h
          ] refl
    ] refl

sequence_after : (cs : List ℕ) → command_len cs ≡ 0 → command_len (drop (sequence_len cs) cs) ≡ 0
sequence_after [] h = refl
sequence_after (c ∷ cs) h =
    elim (is_escape c) as (λ b. (c == 27) ≡ b → command_len
    (drop (if b then one_more (after_escape_len cs) else 0) (c ∷ cs)) ≡ 0) [
      | true ↦ λ e. more_after c (after_escape_len cs) cs h
          (after_after cs (command_after c cs (not_feed c 27 e refl) h))
      | false ↦ λ _. h
    ] refl

-- in a text, from an index on
pub open_after : (cs : List ℕ) (i n : ℕ) (b : Bool) → n ≡ sequence_len (drop i cs)
    → (b ≡ true → command_len (drop i cs) ≡ 0) → b ≡ true → command_len (drop (i + n) cs) ≡ 0
open_after cs i n b e h t = ap command_len (sym (drop-drop n i cs) ∙ ap (λ n. drop n (drop i cs)) e)
    ∙ sequence_after (drop i cs) (h t)

tail_opened : (c : ℕ) (cs : List ℕ) → begins_command (c ∷ cs) ≡ true → sequence_len (c ∷ cs) ≡ 0 → command_len cs ≡ 0
tail_opened c [] b h = refl
tail_opened c (d ∷ ds) b h =
    let e : (c == 27) ≡ true = grind (arith, nat_tests) in
    let f : (d == 93) ≡ true = grind (arith, nat_tests) in
    let g : one_more (one_more (command_len ds)) ≡ 0 = grind (arith, nat_tests) in
    let z : command_len ds ≡ 0 = none_more (command_len ds) (none_more (one_more (command_len ds)) g) in
    grind (arith, nat_tests, z, f)

pub opened_after : (cs : List ℕ) (i : ℕ) → i < length cs → sequence_len (drop i cs) ≡ 0 → begins_command (drop i cs)
    ≡ true → command_len (drop (i + 1) cs) ≡ 0
opened_after cs i l h b = tail_opened (get_or cs i 0) (drop (i + 1) cs)
    (ap begins_command (sym (drop_more cs i 0 l)) ∙ b) (ap sequence_len (sym (drop_more cs i 0 l)) ∙ h)

pub plain_after : (cs : List ℕ) (i c : ℕ) (b : Bool) → i < length cs → c ≡ get_or cs i c → (c ≡ 10 → ⊥)
    → (b ≡ true → command_len (drop i cs) ≡ 0) → b ≡ true → command_len (drop (i + 1) cs) ≡ 0
plain_after cs i c b l e h k t =
    let f : is_line_feed c ≡ false = grind (arith, nat_tests) in
    command_after c (drop (i + 1) cs) f (ap (λ x. command_len (x ∷ drop (i + 1) cs)) e
    ∙ ap command_len (sym (drop_more cs i c l)) ∙ k t)
