-- Declarations one after another.
use Rattle.std.proofs.Common.{◌≡◌, ℕ, suc, ◌+◌, ◌<◌, ◌≤◌, List, [], ◌∷◌, ◌++◌, length, drop, get_or, refl, sym, ap, ◌∙◌, add-one, append_assoc, Option, Some, None, Result, Ok, Err}
use Rattle.std.specs.Prelude.{flat_map, map, unwrap_or, option_map}
use Rattle.std.proofs.Math.Seq.{drop-cons}
use Rattle.std.proofs.lemmas.List.{drop_all}
use Rattle.std.proofs.lemmas.List.Folds.{flat_map-map}
use Rattle.dpi_ports.specs.declared.no_memory.NoMemory.{NoMemory}
use Rattle.dpi_rules.specs.declared.violation.Violation.{Violation}
use Rattle.dpi_rules.specs.Least.{noted}
use Rattle.dpi_rules.proofs.Firsts.{noted-append}
use Rattle.sv_names.specs.Names.{Names, added}
use Rattle.sv_names.specs.Declaring.{Declared, Declares, IsDeclared, IsDeclaring, with_all, second, seconds}

pub with_all-append : (names : Names) (ds es : List Declared) → with_all names (ds ++ es) ≡ with_all (with_all names ds) es
with_all-append names [] es = refl
with_all-append names (d ∷ ds) es = with_all-append (added names d.name d.entry) ds es

pub seconds-append : (file : ℕ) (names : Names) (ds es : List Declared) → seconds file names (ds ++ es) ≡ seconds file names ds ++ seconds file (with_all names ds) es
seconds-append file names [] es = refl
seconds-append file names (d ∷ ds) es =
    ap (λ vs. second file d.entry.token (names d.name) ++ vs) (seconds-append file (added names d.name d.entry) ds es)
    ∙ sym (append_assoc (second file d.entry.token (names d.name)) (seconds file (added names d.name d.entry) ds) (seconds file (with_all names (d ∷ ds)) es))

noted_two : (file : ℕ) (names : Names) (found : Option Violation) (ds es : List Declared) → noted (noted found (seconds file names ds)) (seconds file (with_all names ds) es) ≡ noted found (seconds file names (ds ++ es))
noted_two file names found ds es =
    sym (noted-append found (seconds file names ds) (seconds file (with_all names ds) es)) ∙ ap (noted found) (sym (seconds-append file names ds es))

-- nothing declared
pub declared_none : (file : ℕ) (names : Names) (found : Option Violation) → IsDeclared file [] names found names found
declared_none file names found = record { names_are = refl; found_are = refl }

-- one list declared, and then another
pub declared_both : {file : ℕ} {ds es : List Declared} {names names' names'' : Names} {found found' found'' : Option Violation} → IsDeclared file ds names found names' found' → IsDeclared file es names' found' names'' found'' → IsDeclared file (ds ++ es) names found names'' found''
declared_both {file} {ds} {es} {names} {names'} {names''} {found} {found'} {found''} d e = record {
  names_are = e.names_are ∙ ap (λ n. with_all n es) d.names_are ∙ sym (with_all-append names ds es);
  found_are = e.found_are ∙ ap (λ n. noted found' (seconds file n es)) d.names_are ∙ ap (λ o. noted o (seconds file (with_all names ds) es)) d.found_are ∙ noted_two file names found ds es;
}

pub declares_both : {file : ℕ} {ds : List Declared} (es : List Declared) {names names' : Names} (names'' : Names) {found found' : Option Violation} (found'' : Option Violation) (r : Result (Unit {0}) NoMemory) → IsDeclared file ds names found names' found' → Declares file es names' found' r names'' found'' → Declares file (ds ++ es) names found r names'' found''
declares_both es names'' found'' (Ok u) d e = declared_both d e
declares_both es names'' found'' (Err x) d e = tt

pub rest_of : {X : Type 0} (xs : List X) (i : ℕ) (x : X) → i < length xs → x ≡ get_or xs i x → drop i xs ≡ x ∷ drop (i + 1) xs
rest_of xs i x h e = rw add-one (drop-cons xs i x h ∙ ap (λ y. y ∷ drop (suc i) xs) (sym e))

-- some of those left over declared
pub declaring_more : {file : ℕ} {all left ds : List Declared} (more : List Declared) {names0 names names' : Names} {found0 found found' : Option Violation} → left ≡ ds ++ more → IsDeclared file ds names found names' found' → IsDeclaring file all names0 found0 left names found → IsDeclaring file all names0 found0 more names' found'
declaring_more {file} {all} {left} {ds} more {names0} {names} {names'} {found0} {found} {found'} split d loop = record {
  names_same = loop.names_same ∙ ap (with_all names) split ∙ with_all-append names ds more ∙ ap (λ n. with_all n more) (sym d.names_are);
  found_same = loop.found_same ∙ ap (λ es. noted found (seconds file names es)) split ∙ sym (noted_two file names found ds more) ∙ ap (λ v. noted v (seconds file (with_all names ds) more)) (sym d.found_are) ∙ ap (λ n. noted found' (seconds file n more)) (sym d.names_are);
}

-- one more
pub declaring_next : {X : Type 0} (of : X → List Declared) {file : ℕ} {all ds : List Declared} {names0 names names' : Names} {found0 found found' : Option Violation} (xs : List X) (i : ℕ) (x : X) → i < length xs → x ≡ get_or xs i x → of x ≡ ds → IsDeclared file ds names found names' found' → IsDeclaring file all names0 found0 (flat_map of (drop i xs)) names found → IsDeclaring file all names0 found0 (flat_map of (drop (i + 1) xs)) names' found'
declaring_next of xs i x h e o d loop =
    let more = flat_map of (drop (i + 1) xs) in
    declaring_more more (ap (flat_map of) (rest_of xs i x h e) ∙ ap (λ es. es ++ more) o) d loop

-- nothing is left
pub declaring_last : {X : Type 0} (of : X → List Declared) {file : ℕ} {all : List Declared} {names0 names : Names} {found0 found : Option Violation} (xs : List X) (i : ℕ) → length xs ≤ i → IsDeclaring file all names0 found0 (flat_map of (drop i xs)) names found → IsDeclared file all names0 found0 names found
declaring_last {X} of {file} {all} {names0} {names} {found0} {found} xs i h loop =
    let none = ap (flat_map of) (drop_all i xs h) in
    record {
      names_are = sym (loop.names_same ∙ ap (with_all names) none);
      found_are = sym (loop.found_same ∙ ap (λ ds. noted found (seconds file names ds)) none);
    }
