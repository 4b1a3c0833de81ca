-- What comes of the files of a command.
use Rattle.std.proofs.Common.{◌≡◌, ◌≤◌, ◌<◌, ℕ, ℤ, zero, suc, Bool, true, false, ◌&&◌, nat_lt, List, [], ◌∷◌, ◌++◌, Option, Some, None, Result, Ok, Err, IfOk, OnOk, IfSome, inl, inr, length, map, take, take_all, drop, get_or, slice_get, option_map, refl, sym, ap, subst, ◌∙◌, arith}
use Rattle.std.proofs.lemmas.Bool.Decides.{nat_tests}
use Rattle.std.proofs.lemmas.Option.{slice_get-map, slice_get-get_or}
use Rattle.std.specs.List.{list_all}
use Rattle.std.specs.Option.{option_map_or}
use Rattle.dpi_ports.specs.Told.{Contents, HasRisen, Takes}
use Rattle.dpirun.specs.Answer.{Outcome, not_built, ran, sum_of_files, run_of_pair, run_of, refused_by, outcome_of, Reaches, IsAnswer, other_words, refusal, rule_broken, accepted}
use Rattle.dpirun.specs.Command.{FileNames, is_file, is_command, pair_of, first_of}
use Rattle.dpirun.specs.Ends.{Ends, IsDue, answered, failed}
use Rattle.dpirun.specs.Program.{Printed, Answers, LeavesUnread}
use Rattle.dpirun.specs.Readings.{Adds}
use Rattle.dpirun.specs.Refusals.{WhenRefused, IsOfFile, ComesOf}
use Rattle.dpirun.specs.Rules.{first_broken}
use Rattle.dpirun.specs.Sources.{Sources, AreSources}
use Rattle.dpirun.specs.declared.outcome.Sum.{Sum}
use Rattle.dpirun.specs.declared.reading.ReadFault.{ReadFault}
use Rattle.dpirun.specs.declared.reading.ReadFault.TheVariants.{Refused, Unread, NoMemory}
use Rattle.dpirun.specs.declared.rules.Broken.{Broken}

-- no test both fails and holds
truth : true ≡ false → ⊥
truth e = cc

-- what holds of each value of a result
pub if_ok : {T E : Type 0} (r : Result T E) (P Q : T → Type 0) → ((v : T) → P v → Q v) → IfOk r P → IfOk r Q
if_ok (Ok v) P Q f h = f v h
if_ok (Err e) P Q f h = tt

-- a count that rose later rose
risen_later : (old mid new : ℕ) → old ≤ mid → HasRisen mid new → HasRisen old new
risen_later old mid new h (inl rose) = inl (omega arith)
risen_later old mid new h (inr last) = inr last

-- a file that isn't accepted ends the call, where its source still tells what it told
pub fault_ends : (told now : Option Contents) (words : List (List ℕ)) (file : List ℕ) (e : ReadFault) (old mid new : ℕ) (last : Option (List ℕ)) (outcome : Outcome)
    → now ≡ told → Reaches told words file → WhenRefused (IsOfFile now file) e
    → old ≤ mid → (e ≡ Unread → HasRisen mid new) → (e ≡ Unread → IfSome last (λ name. name ≡ file)) → ComesOf file e outcome
    → Ends told words old new last outcome
fault_ends told now words file (Refused r) old mid new last outcome kept reached is later risen named comes =
    inl (refusal file r.line r.column r.code reached (subst (λ t. IsOfFile t file r) kept is) comes)
fault_ends told now words file Unread old mid new last outcome kept reached is later risen named comes = inr (record {
  file = file;
  reached = reached;
  risen = risen_later old mid new later (risen refl);
  last_is = named refl;
  is = comes;
})
fault_ends told now words file NoMemory old mid new last outcome kept reached is later risen named comes = absurd comes

-- files that are accepted by themselves end the call
pub sources_end : (told : Option Contents) (words : List (List ℕ)) (s : Sources) (old new : ℕ) (last : Option (List ℕ)) (outcome : Outcome)
    → is_command words ≡ true → AreSources told words s → outcome ≡ outcome_of words s → Ends told words old new last outcome
sources_end told words s old new last outcome command all is = inl (by (first_broken s) refl)
  where
    by : (o : Option Broken) → first_broken s ≡ o → IsAnswer told words outcome
    by (Some b) e = rule_broken command s all b e (is ∙ ap (λ o. option_map_or (refused_by s) o (run_of words s)) e)
    by None e = accepted command s all e (is ∙ ap (λ o. option_map_or (refused_by s) o (run_of words s)) e)

-- what was due when an outcome was cut short
pub due : (told : Option Contents) (words : List (List ℕ)) (old new : ℕ) (last : Option (List ℕ)) (outcome : Outcome)
    → Ends told words old new last outcome → IsDue told words outcome
due told words old new last outcome (inl a) = answered outcome a
due told words old new last outcome (inr u) =
    let P : Outcome → Type 0 = λ o. IsDue told words o in
    subst P (sym u.is) (failed u.file u.reached)

-- the words before one, that one, and those behind it
split_at : (ws : List (List ℕ)) (i : ℕ) (w : List ℕ) → slice_get ws i ≡ Some w → ws ≡ take i ws ++ w ∷ drop (suc i) ws
split_at [] i w is = cc
split_at (x ∷ xs) zero w is = let same : x ≡ w = cc in ap (λ y. y ∷ xs) same
split_at (x ∷ xs) (suc i) w is = ap (λ l. x ∷ l) (split_at xs i w is)

-- the words up to one
take_more : (ws : List (List ℕ)) (i : ℕ) (w : List ℕ) → slice_get ws i ≡ Some w → take (suc i) ws ≡ take i ws ++ w ∷ []
take_more [] i w is = cc
take_more (x ∷ xs) zero w is = let same : x ≡ w = cc in ap (λ y. y ∷ []) same
take_more (x ∷ xs) (suc i) w is = ap (λ l. x ∷ l) (take_more xs i w is)

-- no file was read yet
pub no_sources : (told : Option Contents) (s : Sources) → s ≡ record { sv = []; sv_trees = []; c = []; c_trees = [] } → AreSources told [] s
no_sources told s is =
    let P : Sources → Type 0 = λ t. AreSources told [] t in
    subst P (sym is) (record { sv_names = refl; sv_read = tt; c_names = refl; c_read = tt })

-- one file more was read
pub sources_more : (told now : Option Contents) (words : List (List ℕ)) (i : ℕ) (file : List ℕ) (s t : Sources) → now ≡ told
    → slice_get words i ≡ Some file → AreSources told (take i words) s → Adds now file s t → AreSources told (take (suc i) words) t
sources_more told now words i file s t kept is before adds =
    let P : List (List ℕ) → Type 0 = λ ws. AreSources told ws t in
    subst P (sym (take_more words i file is)) (subst (λ n. Adds n file s t) kept adds (take i words) before)

-- the file is reached behind those
pub reached_at : (told : Option Contents) (words : List (List ℕ)) (i : ℕ) (file : List ℕ) (s : Sources) → is_command words ≡ true
    → slice_get words i ≡ Some file → AreSources told (take i words) s → Reaches told words file
reached_at told words i file s command is before = record {
  command = command;
  before = take i words;
  after = drop (suc i) words;
  split = split_at words i file is;
  sources = s;
  read = before;
}

-- all files were read
pub all_sources : (told : Option Contents) (words : List (List ℕ)) (i : ℕ) (s : Sources) → length words ≤ i → AreSources told (take i words) s
    → AreSources told words s
all_sources told words i s past read =
    let P : List (List ℕ) → Type 0 = λ ws. AreSources told ws s in
    subst P (take_all i words past) read

-- a command has at most a thousand words
pub few_words : (words : List (List ℕ)) → is_command words ≡ true → length words ≤ 1000
few_words words command = by (nat_lt 0 (length words)) refl (nat_lt (length words) 1001) refl
  where
    by : (a : Bool) → nat_lt 0 (length words) ≡ a → (b : Bool) → nat_lt (length words) 1001 ≡ b → length words ≤ 1000
    by false least b most = absurd (truth (sym command ∙ ap (λ t. (t && nat_lt (length words) 1001) && list_all is_file words) least))
    by true least true most = grind (arith, nat_tests)
    by true least false most =
        absurd (truth (sym command ∙ ap (λ t. (nat_lt 0 (length words) && t) && list_all is_file words) most ∙ ap (λ t. (t && false) && list_all is_file words) least))

-- the name of an item of a list
pub named_at : {S : Type 0} (name_of : S → List ℕ) (items all : List S) (i : ℕ) (item : S) (file : List ℕ) → items ≡ all → i < length items
    → item ≡ get_or items i item → file ≡ name_of item → slice_get (map name_of all) i ≡ Some file
named_at {S = S} name_of items all i item file same inside is named =
    let P : List S → Type 0 = λ xs. slice_get (map name_of xs) i ≡ Some file in
    subst P same
    (slice_get-map name_of items i ∙ ap (option_map name_of) (slice_get-get_or items i item inside) ∙ ap (λ x. Some (name_of x)) (sym is) ∙ ap Some (sym named))

-- what holds where a call succeeds
pub on_ok : {T E : Type 0} (r : Result T E) (P Q : Type 0) → (P → Q) → OnOk r P → OnOk r Q
on_ok (Ok v) P Q f h = f h
on_ok (Err e) P Q f h = tt

-- the first of a command's words
pub first_named : {S : Type 0} (name_of : S → List ℕ) (items : List S) (item : S) (file : List ℕ) → is_command (map name_of items) ≡ true → item ≡ get_or items 0 item → file ≡ name_of item
    → first_of (map name_of items) ≡ file
first_named name_of [] item file command is named = cc
first_named name_of (x ∷ xs) item file command is named = let same : x ≡ item = sym is in ap name_of same ∙ sym named

-- the status of a run
ran_low : (file : List ℕ) (line column : ℕ) (v : Option ℤ) → (ran file (record { value = v; line = line; column = column })).status ≤ 6
ran_low file line column (Some v) = omega arith
ran_low file line column None = omega arith

pair_low : (files : FileNames) (o : Option Sum) → (option_map_or (ran files.c) o (not_built files.sv)).status ≤ 6
pair_low files (Some sum) = ran_low files.c sum.line sum.column sum.value
pair_low files None = omega arith

run_low : (words : List (List ℕ)) (s : Sources) → (run_of words s).status ≤ 6
run_low words s = by (pair_of words)
  where
    by : (o : Option FileNames) → (option_map_or (λ files. run_of_pair files s.sv s.c) o (not_built (first_of words))).status ≤ 6
    by (Some files) = pair_low files (sum_of_files s.sv s.c)
    by None = omega arith

-- and that of any answer
answer_low : (told : Option Contents) (words : List (List ℕ)) (outcome : Outcome) → IsAnswer told words outcome → outcome.status ≤ 6
answer_low told words outcome (other_words other is) = rw is (omega arith)
answer_low told words outcome (refusal file line column code reached refused is) = rw is (omega arith)
answer_low told words outcome (rule_broken command s all b broken is) = rw is (omega arith)
answer_low told words outcome (accepted command s all clean is) = rw is (run_low words s)

-- however the call ends
pub ends_low : (told : Option Contents) (words : List (List ℕ)) (old new : ℕ) (last : Option (List ℕ)) (outcome : Outcome)
    → Ends told words old new last outcome → outcome.status ≤ 7
ends_low told words old new last outcome (inl a) = omega (arith, answer_low told words outcome a)
ends_low told words old new last outcome (inr u) = rw u.is (omega arith)

-- an outcome of status 7 stands for a file that isn't read
pub unread_of : (told : Option Contents) (words : List (List ℕ)) (old new : ℕ) (last : Option (List ℕ)) (outcome : Outcome) (sinks : Printed) (status : ℕ)
    → Ends told words old new last outcome → (status ≤ 7 → status ≡ outcome.status)
    → (status ≤ 7 → Takes sinks.out_old sinks.out_new outcome.out) → (status ≤ 7 → Takes sinks.err_old sinks.err_new outcome.err)
    → status ≡ 7 → LeavesUnread told words old new last sinks
unread_of told words old new last outcome sinks status (inl a) whole out err seven =
    absurd (omega (arith, seven, whole (omega (arith, seven)), answer_low told words outcome a))
unread_of told words old new last outcome sinks status (inr u) whole out err seven =
    let few : status ≤ 7 = omega (arith, seven) in
    record { outcome = outcome; is = u; takes = record { out = out few; err = err few } }

-- an outcome of a status that isn't 7 is an answer
pub answers_of : (told : Option Contents) (words : List (List ℕ)) (old new : ℕ) (last : Option (List ℕ)) (outcome : Outcome) (sinks : Printed) (status : ℕ)
    → Ends told words old new last outcome → (status ≤ 7 → status ≡ outcome.status)
    → (status ≤ 7 → Takes sinks.out_old sinks.out_new outcome.out) → (status ≤ 7 → Takes sinks.err_old sinks.err_new outcome.err)
    → status ≤ 6 → Answers told words sinks status
answers_of told words old new last outcome sinks status (inl a) whole out err low =
    let few : status ≤ 7 = omega (arith, low) in
    record { outcome = outcome; is = a; status_is = sym (whole few); takes = record { out = out few; err = err few } }
answers_of told words old new last outcome sinks status (inr u) whole out err low =
    let few : status ≤ 7 = omega (arith, low) in
    let seven : outcome.status ≡ 7 = ap (λ (o : Outcome). o.status) u.is in
    absurd (omega (arith, low, whole few, seven))
