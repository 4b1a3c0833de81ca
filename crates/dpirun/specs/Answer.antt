-- The answer of the program to its words and files.
use Rattle.std.specs.Prelude.{◌≡◌, ℕ, ℤ, pos, negsuc, true, false, List, [], ◌∷◌, ◌++◌, Option, Some, None, nat_lt, get_or, codes, option_map, option_and_then, if◌then◌else◌}
use Rattle.std.specs.Fmt.{signed_decimal}
use Rattle.std.specs.Option.{option_map_or}
use Rattle.dpi_lex.specs.Lexed.{Lexed}
use Rattle.dpi_lex.specs.Place.{line_of, column_of}
use Rattle.dpi_lex.specs.Words.{words_of, place_of}
use Rattle.dpi_ports.specs.Told.{Contents, Holds}
use Rattle.dpi_text.specs.FaultLine.{fault_line_of}
use Rattle.dpirun.specs.Command.{FileNames, language_of, is_command, pair_of, first_of}
use Rattle.dpirun.specs.Faults.{code_bytes, IsRefusal}
use Rattle.dpirun.specs.Pair.{CallOf, call_of, body_of, sum_of, plus}
use Rattle.dpirun.specs.Rules.{first_broken, broken_in, rule_bytes}
use Rattle.dpirun.specs.Sources.{Source, Sources, files_of, AreSources}
use Rattle.dpirun.specs.declared.outcome.Sum.{Sum}
use Rattle.dpirun.specs.declared.pair.Body.{Body}
use Rattle.dpirun.specs.declared.refusal.Code.{Code}
use Rattle.dpirun.specs.declared.rules.Broken.{Broken}

-- what a run comes to: its status, and what it prints to both sinks
pub record Outcome : Type 0 where
  pub status : ℕ
  pub out : List ℕ
  pub err : List ℕ

-- the words are no line of the command
abbrev pub bad_words : Outcome
bad_words = record { status = 2; out = []; err = codes "dpirun: bad words\n" }

-- a file is refused at this line and column, with this code
abbrev pub refused : List ℕ → ℕ → ℕ → List ℕ → Outcome
refused file line column code = record { status = 1; out = []; err = fault_line_of file line column code }

-- the files break no rule, and aren't of the form that runs
abbrev pub not_built : List ℕ → Outcome
not_built file = refused file 1 1 (codes "NotBuilt")

-- a file could not be read
abbrev pub unread : List ℕ → Outcome
unread file = record { status = 7; out = []; err = codes "dpirun: cannot read " ++ file ++ codes "\n" }

-- the number, where int holds it
abbrev pub held_by_int : ℤ → Option ℤ
held_by_int (pos n) = if nat_lt n 2147483648 then Some (pos n) else None
held_by_int (negsuc n) = if nat_lt n 2147483648 then Some (negsuc n) else None

-- the run of a pair: the sum in decimal and a line feed, or the trap at the `+` of the C file
abbrev pub ran : List ℕ → Sum → Outcome
ran file sum =
    option_map_or (λ value. record { status = 0; out = signed_decimal value ++ codes "\n"; err = [] }) sum.value
    (record { status = 3; out = []; err = fault_line_of file sum.line sum.column (codes "trap SignedOverflow") })

-- the sum of a body, and the place of its `+`, in a C file with these tokens
abbrev pub sum_of_body : CallOf → Lexed → Body → Sum
sum_of_body call l body = record {
  value = held_by_int (sum_of call.left call.right body);
  line = line_of l.text (place_of l plus);
  column = column_of l.text (place_of l plus);
}

-- the sum that a C file makes of the call in a SystemVerilog file, where both are of the form that runs
abbrev pub sum_of_tokens : Lexed → Lexed → Option Sum
sum_of_tokens sv c = option_and_then (λ call. option_map (sum_of_body call c) (body_of call.function (words_of c))) (call_of (words_of sv))

-- the same of files of both languages, where there is one of each
abbrev pub sum_of_files : List Source → List Source → Option Sum
sum_of_files (sv ∷ []) (c ∷ []) = sum_of_tokens sv.lexed c.lexed
sum_of_files _ _ = None

-- what a pair of files comes to
abbrev pub run_of_pair : FileNames → List Source → List Source → Outcome
run_of_pair files sv c = option_map_or (ran files.c) (sum_of_files sv c) (not_built files.sv)

-- what files come to that break no rule
abbrev pub run_of : List (List ℕ) → Sources → Outcome
run_of words s = option_map_or (λ files. run_of_pair files s.sv s.c) (pair_of words) (not_built (first_of words))

-- the file of that number, from 0; one without a name and a text where there is none
abbrev pub file_at : List Source → ℕ → Source
file_at files number = get_or files number (record { name = []; lexed = record { text = []; tokens = [] } })

-- the file is refused at that token, with this code
abbrev pub refused_at : Source → ℕ → List ℕ → Outcome
refused_at s token code =
    refused s.name (line_of s.lexed.text (place_of s.lexed token)) (column_of s.lexed.text (place_of s.lexed token)) code

-- the files break this rule: the one in which it is broken is refused
abbrev pub refused_by : Sources → Broken → Outcome
refused_by s b =
    refused_at (file_at (files_of (broken_in b.rules) s) b.violation.file) b.violation.token (rule_bytes b.rules b.violation.rule)

-- what files come to that are accepted by themselves
abbrev pub outcome_of : List (List ℕ) → Sources → Outcome
outcome_of words s = option_map_or (refused_by s) (first_broken s) (run_of words s)

module _ (told : Option Contents) where
  -- the file is one of a command's, and those before it are accepted by themselves
  pub record Reaches (words : List (List ℕ)) (file : List ℕ) : Type 0 where
    pub command : is_command words ≡ true
    pub before : List (List ℕ)
    pub after : List (List ℕ)
    pub split : words ≡ before ++ file ∷ after
    pub sources : Sources
    pub read : AreSources told before sources

  -- the file has a text, where its source tells that, which is refused
  pub record IsRefusedAs (file : List ℕ) (line column : ℕ) (code : Code) : Type 0 where
    pub text : List ℕ
    pub held : Holds told file text
    pub place : ℕ
    pub refusal : IsRefusal (language_of file) text code place
    pub line_is : line ≡ line_of text place
    pub column_is : column ≡ column_of text place

  -- The outcome is the answer: to words that are no command; to a file that is refused by itself while those before it aren't; to
  -- files that are accepted by themselves and together break a rule; or to files that break none.
  pub data IsAnswer (words : List (List ℕ)) (outcome : Outcome) : Type 0 where
    other_words : is_command words ≡ false → outcome ≡ bad_words → IsAnswer words outcome
    refusal : (file : List ℕ) (line column : ℕ) (code : Code) → Reaches words file → IsRefusedAs file line column code
        → outcome ≡ refused file line column (code_bytes code) → IsAnswer words outcome
    rule_broken : is_command words ≡ true → (s : Sources) → AreSources told words s → (b : Broken) → first_broken s ≡ Some b
        → outcome ≡ refused_by s b → IsAnswer words outcome
    accepted : is_command words ≡ true → (s : Sources) → AreSources told words s → first_broken s ≡ None
        → outcome ≡ run_of words s → IsAnswer words outcome
