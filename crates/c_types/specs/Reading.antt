-- The parsers of types, as functions.
use Rattle.std.specs.Prelude.{ℕ, zero, suc, Bool, ◌||◌, List, [], ◌∷◌, ◌++◌, Option, Some, None, Ok, Err, if◌then◌else◌}
use Rattle.dpi_grammar.specs.declared.stop.Stop.TheVariants.{Syntax}
use Rattle.dpi_grammar.specs.Parser.{◌>>=◌, pure, here, first, step, expect, more, is_there}
use Rattle.dpi_lex.specs.Words.{Word}
use Rattle.c_tree.specs.declared.class.Class.TheVariants as classes
use Rattle.c_tree.specs.declared.types.BaseWord.{BaseWord}
use Rattle.c_tree.specs.declared.types.BaseRest.{BaseRest}
use Rattle.c_tree.specs.declared.types.BaseRest.TheVariants as rests
use Rattle.c_tree.specs.declared.types.CType.{CType}
use Rattle.c_tree.specs.declared.types.Star.{Star}
use Rattle.c_tree.specs.Classes.{class_at, is}
use Rattle.c_tree.specs.Bases.{base_word_of, rest_behind, may_end}
use Rattle.c_cursor.specs.Reading.{Parses}

-- ---- first tokens

abbrev pub begins_base : Option Word → Bool
begins_base t = is_there (base_word_of (class_at t))

abbrev pub begins_type : Option Word → Bool
begins_type t = is classes.Const t || begins_base t

-- ---- "const"*

-- "const"
unfoldable pub constant : Parses ℕ
constant = do
  k ← here
  _ ← expect (is classes.Const)
  pure k

abbrev pub constants : Parses (List ℕ)
constants = more (is classes.Const) constant []

-- ---- base

-- a word that may come next, and what the base goes on with behind it
abbrev pub word_behind : BaseWord → Option BaseRest → Option (BaseWord × BaseRest)
word_behind w None = None
word_behind w (Some q) = Some (w, q)

abbrev pub word_by : BaseRest → Option BaseWord → Option (BaseWord × BaseRest)
word_by r None = None
word_by r (Some w) = word_behind w (rest_behind r w)

abbrev pub word_next : BaseRest → Option Word → Option (BaseWord × BaseRest)
word_next r t = word_by r (base_word_of (class_at t))

-- behind the last word
abbrev pub base_end : BaseRest → List BaseWord → Parses (List BaseWord)
base_end r found = λ s. if may_end r then Ok (found, s) else Err (Syntax s.place)

abbrev pub base_turn : (BaseRest → List BaseWord → Parses (List BaseWord)) → BaseRest → List BaseWord → Option (BaseWord × BaseRest) → Parses (List BaseWord)
base_turn next r found None = base_end r found
base_turn next r found (Some p) = λ s. next p.1 (found ++ p.0 ∷ []) (step s)

-- Words for as long as one may come next. The number bounds the turns.
unfoldable pub base_from : ℕ → BaseRest → List BaseWord → Parses (List BaseWord)
base_from zero r found = base_end r found
base_from (suc n) r found = λ s. base_turn (base_from n) r found (word_next r (first s.rest)) s

-- A base has four words at most.
abbrev pub base : Parses (List BaseWord)
base = base_from 4 rests.Whole []

-- ---- types

-- type = "const"* base "const"*
unfoldable pub type_name : Parses CType
type_name = do
  k ← here
  a ← constants
  b ← base
  c ← constants
  pure (record { token = k; before = a; base = b; behind = c })

-- "*" "const"*
unfoldable pub star : Parses Star
star = do
  k ← here
  _ ← expect (is classes.Star)
  c ← constants
  pure (record { token = k; constants = c })

-- stars = ("*" "const"*)*
abbrev pub stars : Parses (List Star)
stars = more (is classes.Star) star []
