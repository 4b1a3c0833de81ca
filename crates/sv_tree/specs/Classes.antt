-- The classes of tokens, and how they are spelled.
use Rattle.std.specs.Prelude.{ℕ, Bool, true, false, ◌==◌, List, [], ◌∷◌, Option, Some, None, find, unwrap_or, codes}
use Rattle.std.specs.Prelude.{bytes_eq}
use Rattle.dpi_lex.specs.declared.token.Kind.{Kind}
use Rattle.dpi_lex.specs.declared.token.Kind.TheVariants as kinds
use Rattle.dpi_lex.specs.Words.{Word}
use Rattle.sv_tree.specs.declared.class.Class.{Class}
use Rattle.sv_tree.specs.declared.class.Class.TheVariants as classes
use denote.Enum.Bare.{sameb}
use Rattle.sv_tree.specs.contracts.class.Class.{the_type}
use Rattle.sv_tree.specs.declared.class.TheConstants.{WORDS, SIGNS}

-- a token of letters: a keyword, a system name or a name
abbrev pub a_word : List ℕ → Word
a_word bytes = record { kind = kinds.Word; bytes = bytes }

-- a sign
abbrev pub a_sign : List ℕ → Word
a_sign bytes = record { kind = kinds.Sign; bytes = bytes }

-- the word of a class whose tokens are spelled alike
abbrev pub word_of : Class → Word
word_of classes.Module = a_word (codes "module")
word_of classes.EndModule = a_word (codes "endmodule")
word_of classes.Initial = a_word (codes "initial")
word_of classes.Import = a_word (codes "import")
word_of classes.Export = a_word (codes "export")
word_of classes.Context = a_word (codes "context")
word_of classes.Pure = a_word (codes "pure")
word_of classes.Function = a_word (codes "function")
word_of classes.EndFunction = a_word (codes "endfunction")
word_of classes.Task = a_word (codes "task")
word_of classes.EndTask = a_word (codes "endtask")
word_of classes.Automatic = a_word (codes "automatic")
word_of classes.Static = a_word (codes "static")
word_of classes.Void = a_word (codes "void")
word_of classes.Input = a_word (codes "input")
word_of classes.Output = a_word (codes "output")
word_of classes.Inout = a_word (codes "inout")
word_of classes.Bit = a_word (codes "bit")
word_of classes.Logic = a_word (codes "logic")
word_of classes.Reg = a_word (codes "reg")
word_of classes.Byte = a_word (codes "byte")
word_of classes.ShortInt = a_word (codes "shortint")
word_of classes.Int = a_word (codes "int")
word_of classes.LongInt = a_word (codes "longint")
word_of classes.Integer = a_word (codes "integer")
word_of classes.String = a_word (codes "string")
word_of classes.Chandle = a_word (codes "chandle")
word_of classes.Signed = a_word (codes "signed")
word_of classes.Unsigned = a_word (codes "unsigned")
word_of classes.Begin = a_word (codes "begin")
word_of classes.End = a_word (codes "end")
word_of classes.If = a_word (codes "if")
word_of classes.Else = a_word (codes "else")
word_of classes.Case = a_word (codes "case")
word_of classes.EndCase = a_word (codes "endcase")
word_of classes.Default = a_word (codes "default")
word_of classes.While = a_word (codes "while")
word_of classes.Repeat = a_word (codes "repeat")
word_of classes.Forever = a_word (codes "forever")
word_of classes.For = a_word (codes "for")
word_of classes.Return = a_word (codes "return")
word_of classes.Break = a_word (codes "break")
word_of classes.Continue = a_word (codes "continue")
word_of classes.Disable = a_word (codes "disable")
word_of classes.Null = a_word (codes "null")
word_of classes.Display = a_word (codes "$display")
word_of classes.Write = a_word (codes "$write")
word_of classes.Finish = a_word (codes "$finish")
word_of classes.ToSigned = a_word (codes "$signed")
word_of classes.ToUnsigned = a_word (codes "$unsigned")
word_of classes.OpenParen = a_sign (codes "(")
word_of classes.CloseParen = a_sign (codes ")")
word_of classes.OpenBracket = a_sign (codes "[")
word_of classes.CloseBracket = a_sign (codes "]")
word_of classes.OpenBrace = a_sign (codes "{")
word_of classes.CloseBrace = a_sign (codes "}")
word_of classes.Pattern = a_sign (codes "'{")
word_of classes.Tick = a_sign (codes "'")
word_of classes.Semicolon = a_sign (codes ";")
word_of classes.Colon = a_sign (codes ":")
word_of classes.Comma = a_sign (codes ",")
word_of classes.Question = a_sign (codes "?")
word_of classes.Assign = a_sign (codes "=")
word_of classes.AddAssign = a_sign (codes "+=")
word_of classes.SubtractAssign = a_sign (codes "-=")
word_of classes.MultiplyAssign = a_sign (codes "*=")
word_of classes.DivideAssign = a_sign (codes "/=")
word_of classes.RemainderAssign = a_sign (codes "%=")
word_of classes.AndAssign = a_sign (codes "&=")
word_of classes.OrAssign = a_sign (codes "|=")
word_of classes.XorAssign = a_sign (codes "^=")
word_of classes.ShiftLeftAssign = a_sign (codes "<<=")
word_of classes.ShiftRightAssign = a_sign (codes ">>=")
word_of classes.Increment = a_sign (codes "++")
word_of classes.Decrement = a_sign (codes "--")
word_of classes.PlusColon = a_sign (codes "+:")
word_of classes.MinusColon = a_sign (codes "-:")
word_of classes.Plus = a_sign (codes "+")
word_of classes.Minus = a_sign (codes "-")
word_of classes.Star = a_sign (codes "*")
word_of classes.Slash = a_sign (codes "/")
word_of classes.Percent = a_sign (codes "%")
word_of classes.Not = a_sign (codes "!")
word_of classes.Tilde = a_sign (codes "~")
word_of classes.And = a_sign (codes "&")
word_of classes.TildeAnd = a_sign (codes "~&")
word_of classes.Or = a_sign (codes "|")
word_of classes.TildeOr = a_sign (codes "~|")
word_of classes.Xor = a_sign (codes "^")
word_of classes.TildeXor = a_sign (codes "~^")
word_of classes.XorTilde = a_sign (codes "^~")
word_of classes.ShiftLeft = a_sign (codes "<<")
word_of classes.ShiftRight = a_sign (codes ">>")
word_of classes.ArithmeticShiftLeft = a_sign (codes "<<<")
word_of classes.ArithmeticShiftRight = a_sign (codes ">>>")
word_of classes.Less = a_sign (codes "<")
word_of classes.LessOrEqual = a_sign (codes "<=")
word_of classes.Greater = a_sign (codes ">")
word_of classes.GreaterOrEqual = a_sign (codes ">=")
word_of classes.Equal = a_sign (codes "==")
word_of classes.NotEqual = a_sign (codes "!=")
word_of classes.CaseEqual = a_sign (codes "===")
word_of classes.CaseNotEqual = a_sign (codes "!==")
word_of classes.AndAnd = a_sign (codes "&&")
word_of classes.OrOr = a_sign (codes "||")
word_of _ = record { kind = kinds.Define; bytes = [] }

-- its bytes
abbrev pub spelling : Class → List ℕ
spelling c = (word_of c).bytes

-- the class of these that is spelled so
abbrev pub spelled : List Class → List ℕ → Option Class
spelled cs bytes = find (λ c. bytes_eq (spelling c) bytes) cs

-- A keyword or system name is a word, and so is a name; a sign is a sign.
abbrev pub class_by : Kind → List ℕ → Class
class_by kinds.Word bytes = unwrap_or (spelled WORDS bytes) classes.Name
class_by kinds.Sign bytes = unwrap_or (spelled SIGNS bytes) classes.Other
class_by kinds.Number bytes = classes.Number
class_by kinds.Text bytes = classes.Text
class_by kinds.Character bytes = classes.Other
class_by kinds.Define bytes = classes.Other

-- the class of a token
abbrev pub class_of : Word → Class
class_of w = class_by w.kind w.bytes

-- the test for a class
unfoldable pub is_class : Class → Option Class → Bool
is_class c (Some u) = sameb the_type c u
is_class c None = false

-- the class of the next token, where there is one
abbrev pub class_at : Option Word → Option Class
class_at None = None
class_at (Some w) = Some (class_of w)

-- the test of the next token for a class
abbrev pub is : Class → Option Word → Bool
is c t = is_class c (class_at t)
