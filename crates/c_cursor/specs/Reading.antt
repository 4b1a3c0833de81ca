-- The parsers of parts of one token, as functions.
use Rattle.std.specs.Prelude.{ℕ, Bool, true, false, List, [], Option, Some, None}
use Rattle.dpi_grammar.specs.Parser.{Parser, ◌>>=◌, pure, here, token}
use Rattle.dpi_lex.specs.Words.{Word}
use Rattle.c_tree.specs.declared.class.Class.{Class}
use Rattle.c_tree.specs.declared.class.Class.TheVariants as classes
use Rattle.c_tree.specs.declared.leaves.Name.{Name}
use Rattle.c_tree.specs.declared.leaves.Number.{Number}
use Rattle.c_tree.specs.declared.leaves.Text.{Text}
use Rattle.c_tree.specs.declared.leaves.Character.{Character}
use Rattle.c_tree.specs.declared.leaves.Define.{Define}
use Rattle.c_tree.specs.Classes.{is}

-- a parser of C
abbrev pub Parses : Type 0 → Type 0
Parses = Parser Word

-- the tokens that are known for what they are by the next one alone: a `(`
abbrev pub late : Word → Bool
late w = is classes.OpenParen (Some w)

-- the bytes of the next token; none at the end
abbrev pub bytes_at : Option Word → List ℕ
bytes_at None = []
bytes_at (Some w) = w.bytes

abbrev pub bytes_where : Bool → Option Word → Option (List ℕ)
bytes_where true t = Some (bytes_at t)
bytes_where false t = None

-- the bytes of the next token, where it is of that class
abbrev pub bytes_if : Class → Option Word → Option (List ℕ)
bytes_if c t = bytes_where (is c t) t

abbrev pub bytes_of_class : Class → Parses (List ℕ)
bytes_of_class c = token (bytes_if c)

-- id
unfoldable pub name : Parses Name
name = do
  k ← here
  b ← bytes_of_class classes.Name
  pure (record { token = k; bytes = b })

-- number
unfoldable pub number : Parses Number
number = do
  k ← here
  b ← bytes_of_class classes.Number
  pure (record { token = k; bytes = b })

-- string
unfoldable pub text : Parses Text
text = do
  k ← here
  b ← bytes_of_class classes.Text
  pure (record { token = k; bytes = b })

-- character
unfoldable pub character : Parses Character
character = do
  k ← here
  b ← bytes_of_class classes.Character
  pure (record { token = k; bytes = b })

-- define
unfoldable pub define : Parses Define
define = do
  k ← here
  b ← bytes_of_class classes.Define
  pure (record { token = k; bytes = b })
