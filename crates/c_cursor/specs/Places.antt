-- Where a cursor stands.
use Rattle.std.specs.Prelude.{◌≡◌, ℕ, ◌≤◌, drop, length, Option}
use Rattle.dpi_grammar.specs.Parser.{State, first}
use Rattle.dpi_lex.specs.Lexed.{Lexed}
use Rattle.dpi_lex.specs.Words.{Word, words_of}
use Rattle.c_tree.specs.declared.class.Class.{Class}
use Rattle.c_tree.specs.Classes.{class_at}

-- before the token of that number
abbrev pub state_at : Lexed → ℕ → State Word
state_at l n = record { place = n; rest = drop n (words_of l) }

-- what a cursor keeps true of its fields
pub record IsKept (l : Lexed) (place : ℕ) (class : Option Class) : Type 0 where
  pub within : place ≤ length l.tokens
  pub few : length l.tokens ≤ 1048576
  pub known : class ≡ class_at (first (drop place (words_of l)))
