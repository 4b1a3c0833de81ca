use Rattle.std.specs.Prelude.{ℕ, Result, List}
use Rattle.dpi_lex.specs.declared.fault.LexFault.{LexFault}
use Rattle.dpi_lex.specs.declared.language.Language.{Language}
use Rattle.dpi_lex.specs.declared.language.Language.TheVariants.{SystemVerilog, C}
use Rattle.dpi_lex.specs.declared.token.Token.{Token}
use Rattle.dpi_lex.specs.C.{c_forms}
use Rattle.dpi_lex.specs.Stretches.{Forms, lexed}
use Rattle.dpi_lex.specs.SystemVerilog.{sv_forms}

-- what a language says of a stretch
abbrev pub forms_of : Language → Forms
forms_of SystemVerilog = sv_forms
forms_of C = c_forms

-- the tokens of a text of SystemVerilog, or its first fault
abbrev pub sv_lexed : List ℕ → Result (List Token) LexFault
sv_lexed text = lexed sv_forms text

-- the tokens of a text of C, or its first fault
abbrev pub c_lexed : List ℕ → Result (List Token) LexFault
c_lexed text = lexed c_forms text
