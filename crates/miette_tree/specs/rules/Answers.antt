-- One value for each report of a tree: for the report itself, its cause and its related reports. Each handler says what
-- the value is, and what it is for a report that isn't listed.
use Rattle.std.specs.Prelude.{Bool, false}

mutual
  pub data AnswerTree (A : Type 0) : Type 0 where
    unlisted : AnswerTree A
    listed : A → AnswerTree A → AnswerTrees A → AnswerTree A

  -- the values of related reports, in order
  pub data AnswerTrees (A : Type 0) : Type 0 where
    no_more : AnswerTrees A
    and_more : AnswerTree A → AnswerTrees A → AnswerTrees A

-- the value of the report itself, or the first argument if nothing is listed
abbrev pub answer_or : {A : Type 0} → A → AnswerTree A → A
answer_or otherwise unlisted = otherwise
answer_or otherwise (listed own cause related) = own

-- whether reading the source of the report itself failed; false if nothing is listed
abbrev pub own_read_fails : AnswerTree Bool → Bool
own_read_fails a = answer_or false a

abbrev pub cause_answers : {A : Type 0} → AnswerTree A → AnswerTree A
cause_answers unlisted = unlisted
cause_answers (listed own cause related) = cause

abbrev pub related_answers : {A : Type 0} → AnswerTree A → AnswerTrees A
related_answers unlisted = no_more
related_answers (listed own cause related) = related

abbrev pub first_answers : {A : Type 0} → AnswerTrees A → AnswerTree A
first_answers no_more = unlisted
first_answers (and_more first more) = first

abbrev pub later_answers : {A : Type 0} → AnswerTrees A → AnswerTrees A
later_answers no_more = no_more
later_answers (and_more first more) = more
