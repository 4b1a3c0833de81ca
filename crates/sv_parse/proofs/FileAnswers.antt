-- What the parser of files answers, and that a list of words has one file at most.
use Rattle.std.proofs.Common.{◌≡◌, ◌≢◌, ◌≤◌, length, Result, Ok, Err, refl, sym, ap, subst}
use Rattle.std.specs.Prelude.{IfErr, IsErrAnd}
use Rattle.std.proofs.lemmas.List.{length-map}
use Rattle.dpi_grammar.specs.declared.stop.Stop.{Stop}
use Rattle.dpi_grammar.specs.declared.stop.Stop.TheVariants as stops
use Rattle.dpi_grammar.specs.Parser.{State}
use Rattle.dpi_grammar.proofs.Whole.{when_read, when_refused, when_too_deep, unambiguous}
use Rattle.dpi_grammar.proofs.OneAnswer.{opener_itself, one_parsed, one_refused, one_too_deep, parsed_or_refused, parsed_or_too_deep, refused_or_too_deep}
use Rattle.dpi_lex.specs.Lexed.{Lexed}
use Rattle.dpi_lex.specs.Words.{Word, word_of, words_of}
use Rattle.sv_tree.specs.declared.items.SvFile.{SvFile}
use Rattle.sv_cursor.specs.Places.{state_at}
use Rattle.sv_cursor.specs.Reading.{late}
use Rattle.sv_tree.specs.Items.{file_told}
use Rattle.sv_parse.specs.declared.parser.ParseFault.{ParseFault}
use Rattle.sv_parse.specs.declared.parser.ParseFault.TheVariants as faults
use Rattle.sv_parse.specs.Reading.{whole_file}
use Rattle.sv_parse.specs.Faults.{fault_of}
use Rattle.sv_parse.specs.Answer.{max_levels, IsAnswer, IsWithin, FilesAreUnambiguous, AnswerIsOne}
use Rattle.sv_parse.proofs.FileRules.{a_file, whole_rule}

pub answer_read : (l : Lexed) (file : SvFile) (after : State Word) → whole_file max_levels (state_at l 0) ≡ Ok (file, after) → IsAnswer (words_of l) (Ok file)
answer_read l file after e = when_read a_file max_levels (words_of l) (whole_rule max_levels) file after e

abbrev Stopped : Lexed → Stop → Type 0
Stopped l stop = IsAnswer (words_of l) (Err (fault_of stop)) × IsWithin (length l.tokens) (fault_of stop)

pub answer_stopped : (l : Lexed) (stop : Stop) → (stop ≢ stops.Memory → whole_file max_levels (state_at l 0) ≡ Err stop) → Stopped l stop
answer_stopped l (stops.Syntax at) e =
    let r = when_refused a_file max_levels (words_of l) (whole_rule max_levels) at (e (λ same. absurd (cc))) in
    (r.1, subst (λ n. at ≤ n) (length-map l.tokens (word_of l.text)) r.0)
answer_stopped l (stops.TooDeep at) e =
    let r = when_too_deep a_file max_levels (words_of l) (whole_rule max_levels) at (e (λ same. absurd (cc))) in (
      record { shows = at; too_much = r.1; opens = sym (opener_itself late (λ w. refl) (words_of l) at) },
      subst (λ n. at ≤ n) (length-map l.tokens (word_of l.text)) r.0,
    )
answer_stopped l stops.Memory e = (tt, tt)

-- a result that is such a fault
pub answered : (l : Lexed) (stop : Stop) (r : Result SvFile ParseFault) → Stopped l stop → IsErrAnd r (λ fault. fault ≡ fault_of stop) → IsAnswer (words_of l) r × IfErr r (IsWithin (length l.tokens))
answered l stop (Ok file) s e = absurd e
answered l stop (Err fault) s e = subst (λ fault. IsAnswer (words_of l) (Err fault) × IsWithin (length l.tokens) fault) (sym e) s

pub one_file : FilesAreUnambiguous
one_file = unambiguous a_file whole_file (λ d. whole_rule d)

-- what can be answered to a list of words is one thing
pub one_answer : AnswerIsOne
one_answer ws (Ok f) (Ok g) some more p q = ap (λ f. let r : Result SvFile ParseFault = Ok f in r) (one_parsed file_told max_levels ws f g p q)
one_answer ws (Ok f) (Err (faults.Syntax b)) some more p q = absurd (parsed_or_refused file_told max_levels ws f b p q)
one_answer ws (Ok f) (Err (faults.TooDeep b)) some more p q = absurd (parsed_or_too_deep file_told max_levels ws late f b p q)
one_answer ws (Err (faults.Syntax a)) (Ok g) some more p q = absurd (parsed_or_refused file_told max_levels ws g a q p)
one_answer ws (Err (faults.Syntax a)) (Err (faults.Syntax b)) some more p q = ap (λ a. let r : Result SvFile ParseFault = Err (faults.Syntax a) in r) (one_refused file_told max_levels ws a b p q)
one_answer ws (Err (faults.Syntax a)) (Err (faults.TooDeep b)) some more p q = absurd (refused_or_too_deep file_told max_levels ws late a b p q)
one_answer ws (Err (faults.TooDeep a)) (Ok g) some more p q = absurd (parsed_or_too_deep file_told max_levels ws late g a q p)
one_answer ws (Err (faults.TooDeep a)) (Err (faults.Syntax b)) some more p q = absurd (refused_or_too_deep file_told max_levels ws late b a q p)
one_answer ws (Err (faults.TooDeep a)) (Err (faults.TooDeep b)) some more p q = ap (λ a. let r : Result SvFile ParseFault = Err (faults.TooDeep a) in r) (one_too_deep file_told max_levels ws late a b p q)
one_answer ws (Err faults.NoMemory) b some more p q = absurd (some refl)
one_answer ws a (Err faults.NoMemory) some more p q = absurd (more refl)
