-- What quoted tokens and parts of one token tell.
use Rattle.std.specs.Prelude.{ℕ, Bool, List}
use denote.Enum.Bare.{sameb}
use Rattle.dpi_grammar.specs.Told.{Told, ◌&◌, word, noted, kept}
use Rattle.dpi_lex.specs.Words.{Word}
use Rattle.dpi_lex.specs.declared.token.Kind.TheVariants as kinds
use Rattle.c_tree.specs.contracts.class.Class.{the_type}
use Rattle.c_tree.specs.declared.class.Class.{Class}
use Rattle.c_tree.specs.declared.class.Class.TheVariants as classes
use Rattle.c_tree.specs.declared.leaves.Name.{Name}
use Rattle.c_tree.specs.declared.leaves.Number.{Number}
use Rattle.c_tree.specs.declared.leaves.Character.{Character}
use Rattle.c_tree.specs.declared.leaves.Text.{Text}
use Rattle.c_tree.specs.declared.leaves.Define.{Define}
use Rattle.c_tree.specs.Classes.{a_word, word_of, class_of}

abbrev pub Tells : Type 0
Tells = Told Word

-- a token that a production quotes
abbrev pub quoted : Class → Tells
quoted c = word (word_of c)

abbrev pub comma : Word
comma = word_of classes.Comma

-- letters that are no keyword and no type name
abbrev pub is_name : List ℕ → Bool
is_name bytes = sameb the_type classes.Name (class_of (a_word bytes))

abbrev pub number_word : List ℕ → Word
number_word bytes = record { kind = kinds.Number; bytes = bytes }

abbrev pub character_word : List ℕ → Word
character_word bytes = record { kind = kinds.Character; bytes = bytes }

abbrev pub text_word : List ℕ → Word
text_word bytes = record { kind = kinds.Text; bytes = bytes }

abbrev pub define_word : List ℕ → Word
define_word bytes = record { kind = kinds.Define; bytes = bytes }

abbrev pub name_told : Name → Tells
name_told n = noted n.token & kept (is_name n.bytes) & word (a_word n.bytes)

abbrev pub number_told : Number → Tells
number_told n = noted n.token & word (number_word n.bytes)

abbrev pub character_told : Character → Tells
character_told c = noted c.token & word (character_word c.bytes)

abbrev pub text_told : Text → Tells
text_told t = noted t.token & word (text_word t.bytes)

abbrev pub define_told : Define → Tells
define_told d = noted d.token & word (define_word d.bytes)
