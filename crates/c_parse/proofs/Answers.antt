-- What the parser of a whole list of tokens says of trees and faults.
use Rattle.std.proofs.Common.{◌≡◌, ℕ, List, Result, Ok, Err, refl, ap}
use Rattle.dpi_grammar.specs.declared.stop.Stop.TheVariants.{Syntax, TooDeep}
use Rattle.dpi_grammar.specs.Parser.{State}
use Rattle.dpi_grammar.specs.Faults.{opener, IsParsed, IsRefused, IsTooDeep}
use Rattle.dpi_grammar.proofs.Whole.{start, when_read, when_refused, when_too_deep}
use Rattle.dpi_grammar.proofs.OneAnswer.{one_parsed, one_refused, one_too_deep, parsed_or_refused, parsed_or_too_deep, refused_or_too_deep}
use Rattle.dpi_lex.specs.Words.{Word}
use Rattle.c_tree.specs.declared.file.CFile.{CFile}
use Rattle.c_tree.specs.File.{file_told}
use Rattle.c_cursor.specs.Reading.{late}
use Rattle.c_parse.specs.declared.fault.ParseFault.{ParseFault}
use Rattle.c_parse.specs.declared.fault.ParseFault.TheVariants as faults
use Rattle.c_parse.specs.Answer.{max_levels, AnswerIsOne}
use Rattle.c_parse.specs.ReadingFile as spec
use Rattle.c_parse.proofs.Goes.{a_file}
use Rattle.c_parse.proofs.FileRules.{file_rule}

-- the tree that was read is the only one
pub parsed : (d : ℕ) (ws : List Word) (f : CFile) (after : State Word) → spec.whole d (start ws) ≡ Ok (f, after) → IsParsed file_told d ws f
parsed d ws f after e = when_read a_file d ws (file_rule d) f after e

-- no tree goes on with the token that was refused
pub refused : (d : ℕ) (ws : List Word) (at : ℕ) → spec.whole d (start ws) ≡ Err (Syntax at) → IsRefused file_told d ws at
refused d ws at e = (when_refused a_file d ws (file_rule d) at e).1

-- only trees of too many levels go on with the token at which the parser stopped, and this is the one that opens such a level
pub too_deep : (d : ℕ) (ws : List Word) (at shows : ℕ) → spec.whole d (start ws) ≡ Err (TooDeep shows) → at ≡ opener late ws shows → IsTooDeep file_told late d ws at
too_deep d ws at shows e opens = record { shows = shows; too_much = (when_too_deep a_file d ws (file_rule d) shows e).1; opens = opens }

-- what can be answered to a list of words is one thing
pub one_answer : AnswerIsOne
one_answer ws (Ok f) (Ok g) some more p q = ap (λ f. let r : Result CFile ParseFault = Ok f in r) (one_parsed file_told max_levels ws f g p q)
one_answer ws (Ok f) (Err (faults.Syntax b)) some more p q = absurd (parsed_or_refused file_told max_levels ws f b p q)
one_answer ws (Ok f) (Err (faults.TooDeep b)) some more p q = absurd (parsed_or_too_deep file_told max_levels ws late f b p q)
one_answer ws (Err (faults.Syntax a)) (Ok g) some more p q = absurd (parsed_or_refused file_told max_levels ws g a q p)
one_answer ws (Err (faults.Syntax a)) (Err (faults.Syntax b)) some more p q = ap (λ a. let r : Result CFile ParseFault = Err (faults.Syntax a) in r) (one_refused file_told max_levels ws a b p q)
one_answer ws (Err (faults.Syntax a)) (Err (faults.TooDeep b)) some more p q = absurd (refused_or_too_deep file_told max_levels ws late a b p q)
one_answer ws (Err (faults.TooDeep a)) (Ok g) some more p q = absurd (parsed_or_too_deep file_told max_levels ws late g a q p)
one_answer ws (Err (faults.TooDeep a)) (Err (faults.Syntax b)) some more p q = absurd (refused_or_too_deep file_told max_levels ws late b a q p)
one_answer ws (Err (faults.TooDeep a)) (Err (faults.TooDeep b)) some more p q = ap (λ a. let r : Result CFile ParseFault = Err (faults.TooDeep a) in r) (one_too_deep file_told max_levels ws late a b p q)
one_answer ws (Err faults.NoMemory) b some more p q = absurd (some refl)
one_answer ws a (Err faults.NoMemory) some more p q = absurd (more refl)
