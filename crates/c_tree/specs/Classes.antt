-- The classes of tokens, and how they are spelled.
use Rattle.std.specs.Prelude.{ℕ, Bool, false, List, [], Option, Some, None, find, unwrap_or, codes}
use Rattle.std.specs.Prelude.{bytes_eq}
use Rattle.dpi_lex.specs.declared.token.Kind.{Kind}
use Rattle.dpi_lex.specs.declared.token.Kind.TheVariants as kinds
use Rattle.dpi_lex.specs.Words.{Word}
use Rattle.c_tree.specs.declared.class.Class.{Class}
use Rattle.c_tree.specs.declared.class.Class.TheVariants as classes
use denote.Enum.Bare.{sameb}
use Rattle.c_tree.specs.contracts.class.Class.{the_type}
use Rattle.c_tree.specs.declared.class.TheConstants.{WORDS, SIGNS}

-- a token of letters: a keyword, a type name or a name
abbrev pub a_word : List ℕ → Word
a_word bytes = record { kind = kinds.Word; bytes = bytes }

-- a sign
abbrev pub a_sign : List ℕ → Word
a_sign bytes = record { kind = kinds.Sign; bytes = bytes }

-- the word of a class whose tokens are spelled alike
abbrev pub word_of : Class → Word
word_of classes.Void = a_word (codes "void")
word_of classes.Char = a_word (codes "char")
word_of classes.Short = a_word (codes "short")
word_of classes.Int = a_word (codes "int")
word_of classes.Long = a_word (codes "long")
word_of classes.Signed = a_word (codes "signed")
word_of classes.Unsigned = a_word (codes "unsigned")
word_of classes.Const = a_word (codes "const")
word_of classes.SvBit = a_word (codes "svBit")
word_of classes.SvLogic = a_word (codes "svLogic")
word_of classes.SvBitVecVal = a_word (codes "svBitVecVal")
word_of classes.SvLogicVecVal = a_word (codes "svLogicVecVal")
word_of classes.SvOpenArrayHandle = a_word (codes "svOpenArrayHandle")
word_of classes.SvScope = a_word (codes "svScope")
word_of classes.Int8 = a_word (codes "int8_t")
word_of classes.Uint8 = a_word (codes "uint8_t")
word_of classes.Int16 = a_word (codes "int16_t")
word_of classes.Uint16 = a_word (codes "uint16_t")
word_of classes.Int32 = a_word (codes "int32_t")
word_of classes.Uint32 = a_word (codes "uint32_t")
word_of classes.Int64 = a_word (codes "int64_t")
word_of classes.Uint64 = a_word (codes "uint64_t")
word_of classes.Static = a_word (codes "static")
word_of classes.Extern = a_word (codes "extern")
word_of classes.If = a_word (codes "if")
word_of classes.Else = a_word (codes "else")
word_of classes.While = a_word (codes "while")
word_of classes.Do = a_word (codes "do")
word_of classes.For = a_word (codes "for")
word_of classes.Return = a_word (codes "return")
word_of classes.Break = a_word (codes "break")
word_of classes.Continue = a_word (codes "continue")
word_of classes.Null = a_word (codes "NULL")
word_of classes.OpenParen = a_sign (codes "(")
word_of classes.CloseParen = a_sign (codes ")")
word_of classes.OpenBracket = a_sign (codes "[")
word_of classes.CloseBracket = a_sign (codes "]")
word_of classes.OpenBrace = a_sign (codes "{")
word_of classes.CloseBrace = a_sign (codes "}")
word_of classes.Semicolon = a_sign (codes ";")
word_of classes.Comma = a_sign (codes ",")
word_of classes.Colon = a_sign (codes ":")
word_of classes.Question = a_sign (codes "?")
word_of classes.Dot = a_sign (codes ".")
word_of classes.Arrow = a_sign (codes "->")
word_of classes.Assign = a_sign (codes "=")
word_of classes.AddAssign = a_sign (codes "+=")
word_of classes.SubtractAssign = a_sign (codes "-=")
word_of classes.MultiplyAssign = a_sign (codes "*=")
word_of classes.DivideAssign = a_sign (codes "/=")
word_of classes.RemainderAssign = a_sign (codes "%=")
word_of classes.AndAssign = a_sign (codes "&=")
word_of classes.OrAssign = a_sign (codes "|=")
word_of classes.XorAssign = a_sign (codes "^=")
word_of classes.ShiftLeftAssign = a_sign (codes "<<=")
word_of classes.ShiftRightAssign = a_sign (codes ">>=")
word_of classes.Increment = a_sign (codes "++")
word_of classes.Decrement = a_sign (codes "--")
word_of classes.Plus = a_sign (codes "+")
word_of classes.Minus = a_sign (codes "-")
word_of classes.Star = a_sign (codes "*")
word_of classes.Slash = a_sign (codes "/")
word_of classes.Percent = a_sign (codes "%")
word_of classes.Not = a_sign (codes "!")
word_of classes.Tilde = a_sign (codes "~")
word_of classes.And = a_sign (codes "&")
word_of classes.Or = a_sign (codes "|")
word_of classes.Xor = a_sign (codes "^")
word_of classes.ShiftLeft = a_sign (codes "<<")
word_of classes.ShiftRight = a_sign (codes ">>")
word_of classes.Less = a_sign (codes "<")
word_of classes.LessOrEqual = a_sign (codes "<=")
word_of classes.Greater = a_sign (codes ">")
word_of classes.GreaterOrEqual = a_sign (codes ">=")
word_of classes.Equal = a_sign (codes "==")
word_of classes.NotEqual = a_sign (codes "!=")
word_of classes.AndAnd = a_sign (codes "&&")
word_of classes.OrOr = a_sign (codes "||")
word_of _ = record { kind = kinds.Define; bytes = [] }

-- its bytes
abbrev pub spelling : Class → List ℕ
spelling c = (word_of c).bytes

-- the class of these that is spelled so
abbrev pub spelled : List Class → List ℕ → Option Class
spelled cs bytes = find (λ c. bytes_eq (spelling c) bytes) cs

-- A keyword or type name is a word, and so is a name; a sign is a sign.
abbrev pub class_by : Kind → List ℕ → Class
class_by kinds.Word bytes = unwrap_or (spelled WORDS bytes) classes.Name
class_by kinds.Sign bytes = unwrap_or (spelled SIGNS bytes) classes.Other
class_by kinds.Number bytes = classes.Number
class_by kinds.Character bytes = classes.Character
class_by kinds.Text bytes = classes.Text
class_by kinds.Define bytes = classes.Define

-- the class of a token
abbrev pub class_of : Word → Class
class_of w = class_by w.kind w.bytes

-- the test for a class
unfoldable pub is_class : Class → Option Class → Bool
is_class c (Some u) = sameb the_type c u
is_class c None = false

-- the class of the next token, where there is one
abbrev pub class_at : Option Word → Option Class
class_at None = None
class_at (Some w) = Some (class_of w)

-- the test of the next token for a class
abbrev pub is : Class → Option Word → Bool
is c t = is_class c (class_at t)
