-- What stops the reading of a file, and what shows the cause.
use Rattle.std.specs.Prelude.{◌≡◌, ℕ, List, Option}
use Rattle.dpi_lex.specs.Place.{line_of, column_of}
use Rattle.dpi_ports.specs.Told.{Contents}
use Rattle.dpirun.specs.Answer.{Outcome, unread, refused, IsRefusedAs}
use Rattle.dpirun.specs.Faults.{code_bytes, IsRefusal}
use Rattle.dpirun.specs.declared.command.Language.{Language}
use Rattle.dpirun.specs.declared.reading.ReadFault.{ReadFault}
use Rattle.dpirun.specs.declared.reading.ReadFault.TheVariants.{Refused, Unread, NoMemory}
use Rattle.dpirun.specs.declared.refusal.Refusal.{Refusal}

-- a fault that is a refusal is such a one
abbrev pub WhenRefused : (Refusal → Type 0) → ReadFault → Type 0
WhenRefused P (Refused r) = P r
WhenRefused P Unread = Unit {0}
WhenRefused P NoMemory = Unit {0}

-- the text is refused so
pub record IsOf (language : Language) (text : List ℕ) (r : Refusal) : Type 0 where
  pub place : ℕ
  pub refusal : IsRefusal language text r.code place
  pub line_is : r.line ≡ line_of text place
  pub column_is : r.column ≡ column_of text place

-- the file is refused so
abbrev pub IsOfFile : Option Contents → List ℕ → Refusal → Type 0
IsOfFile told file r = IsRefusedAs told file r.line r.column r.code

-- what comes of a file that isn't accepted
abbrev pub ComesOf : List ℕ → ReadFault → Outcome → Type 0
ComesOf file (Refused r) outcome = outcome ≡ refused file r.line r.column (code_bytes r.code)
ComesOf file Unread outcome = outcome ≡ unread file
ComesOf file NoMemory outcome = ⊥
