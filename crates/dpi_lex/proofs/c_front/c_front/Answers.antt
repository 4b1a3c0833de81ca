use Rattle.std.proofs.Common.{◌≡◌, true, false, sym, ◌∙◌, get_or, arith}
use Rattle.std.specs.Prelude.{nat_eq}
use Rattle.std.proofs.lemmas.Bool.Decides.{nat_tests}
use Rattle.dpi_lex.specs.declared.form.Form.TheVariants.{Skipped, Whole}
use Rattle.dpi_lex.specs.declared.language.Language.TheVariants.{C}
use Rattle.dpi_lex.specs.declared.token.Kind.TheVariants.{Word, Sign}
use Rattle.dpi_lex.specs.Bytes.{is_apostrophe, is_name_byte, is_quote, is_escape}
use Rattle.dpi_lex.specs.C.{c_forms, c_signs, hash_forms, character_forms}
use Rattle.dpi_lex.specs.CNumbers.{c_number_form}
use Rattle.dpi_lex.specs.Shapes.{form_if, is_space, is_name, is_listed, slash_form, text_form}
use Rattle.dpi_lex.proofs.Classes.{front_of-by, front_of-with}
use Rattle.dpi_lex.proofs.CClasses.{c_forms-space, c_forms-slash, c_forms-hash, c_forms-name}
use Rattle.dpi_lex.proofs.CClasses.{c_forms-number, c_forms-character, c_forms-text, c_forms-sign}
use Rattle.dpi_lex.proofs.c_front.c_front.Goals as goal

pub returns-then-is_space-clause-stretch : goal.returns-then-is_space-clause-stretch
returns-then-is_space-clause-stretch c =
    let rest = c.args.rest.now in
    c.space.ensures.stretch
    ∙ sym (front_of-by c_forms c.args.begins (λ front. form_if (is_space front) Skipped) rest
    c.requires.some (λ more after. c_forms-space c.args.begins (get_or rest 0 0) more after
    (sym c.is_space.ensures ∙ c.if-is_space.true)))

pub returns-then-is_name_start-clause-stretch : goal.returns-then-is_name_start-clause-stretch
returns-then-is_name_start-clause-stretch c =
    let rest = c.args.rest.now in
    c.name.ensures.stretch
    ∙ sym (front_of-by c_forms c.args.begins
    (λ front. form_if (is_name (is_name_byte C) front) (Whole Word)) rest c.requires.some
    (λ more after. c_forms-name c.args.begins (get_or rest 0 0) more after
    (sym c.is_name_start.ensures ∙ c.if-is_name_start.true)))

pub returns-then-is_digit-clause-stretch : goal.returns-then-is_digit-clause-stretch
returns-then-is_digit-clause-stretch c =
    let rest = c.args.rest.now in
    c.c_number.ensures.stretch
    ∙ sym (front_of-by c_forms c.args.begins (c_number_form) rest c.requires.some
    (λ more after. c_forms-number c.args.begins (get_or rest 0 0) more after
    (sym c.is_digit.ensures ∙ c.if-is_digit.true)))

pub returns-then-first-eq47-clause-stretch : goal.returns-then-first-eq47-clause-stretch
returns-then-first-eq47-clause-stretch c =
    let rest = c.args.rest.now in
    let start : nat_eq 47 (get_or rest 0 0) ≡ true = grind (arith, nat_tests) in
    c.c_slash.ensures.stretch
    ∙ sym (front_of-by c_forms c.args.begins (slash_form c_signs) rest c.requires.some
    (λ more after. c_forms-slash c.args.begins (get_or rest 0 0) more after start))

pub returns-then-first-eq35-clause-stretch : goal.returns-then-first-eq35-clause-stretch
returns-then-first-eq35-clause-stretch c =
    let rest = c.args.rest.now in
    let start : nat_eq 35 (get_or rest 0 0) ≡ true = grind (arith, nat_tests) in
    c.hash.ensures.stretch
    ∙ sym (front_of-with c_forms hash_forms c.args.begins c.args.begins rest c.requires.some
    (λ more after. c_forms-hash c.args.begins (get_or rest 0 0) more after start))

pub returns-then-first-eq39-clause-stretch : goal.returns-then-first-eq39-clause-stretch
returns-then-first-eq39-clause-stretch c =
    let rest = c.args.rest.now in
    let start : is_apostrophe (get_or rest 0 0) ≡ true = grind (arith, nat_tests) in
    c.character.ensures.stretch
    ∙ sym (front_of-with c_forms character_forms c.args.begins false rest c.requires.some
    (λ more after. c_forms-character c.args.begins (get_or rest 0 0) more after start))

pub returns-then-first-eq34-clause-stretch : goal.returns-then-first-eq34-clause-stretch
returns-then-first-eq34-clause-stretch c =
    let rest = c.args.rest.now in
    let start : is_quote (get_or rest 0 0) ≡ true = grind (arith, nat_tests) in
    c.text.ensures.stretch
    ∙ sym (front_of-by c_forms c.args.begins (text_form (is_escape C)) rest c.requires.some
    (λ more after. c_forms-text c.args.begins (get_or rest 0 0) more after start))

pub returns-else-first-eq34-clause-stretch : goal.returns-else-first-eq34-clause-stretch
returns-else-first-eq34-clause-stretch c =
    let rest = c.args.rest.now in
    let slash : nat_eq 47 (get_or rest 0 0) ≡ false = grind (arith, nat_tests) in
    let hash : nat_eq 35 (get_or rest 0 0) ≡ false = grind (arith, nat_tests) in
    let apostrophe : is_apostrophe (get_or rest 0 0) ≡ false = grind (arith, nat_tests) in
    let quote : is_quote (get_or rest 0 0) ≡ false = grind (arith, nat_tests) in
    c.sign.ensures.stretch
    ∙ sym (front_of-by c_forms c.args.begins
    (λ front. form_if (is_listed c_signs front) (Whole Sign)) rest c.requires.some
    (λ more after. c_forms-sign c.args.begins (get_or rest 0 0) more after
    (sym c.is_space.ensures ∙ c.if-is_space.false) slash hash (sym c.is_name_start.ensures
    ∙ c.if-is_name_start.false) (sym c.is_digit.ensures ∙ c.if-is_digit.false) apostrophe
    quote))
