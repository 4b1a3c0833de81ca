use Rattle.std.proofs.Common.{◌≡◌, ◌&&◌, true, false, sym, ◌∙◌, get_or, arith}
use Rattle.std.specs.Prelude.{codes, nat_eq}
use Rattle.std.proofs.lemmas.Bool.Decides.{nat_tests}
use Rattle.dpi_lex.specs.declared.form.Form.TheVariants.{Skipped, Whole}
use Rattle.dpi_lex.specs.declared.language.Language.TheVariants.{SystemVerilog}
use Rattle.dpi_lex.specs.declared.token.Kind.TheVariants.{Word, Sign}
use Rattle.dpi_lex.specs.Bytes.{is_apostrophe, is_name_byte, is_quote, is_escape}
use Rattle.dpi_lex.specs.Shapes.{form_if, is_space, is_line_of, is_name, is_listed, slash_form}
use Rattle.dpi_lex.specs.Shapes.{text_form}
use Rattle.dpi_lex.specs.SvNumbers.{sv_number_form}
use Rattle.dpi_lex.specs.SystemVerilog.{sv_forms, sv_signs, system_names, apostrophe_form}
use Rattle.dpi_lex.proofs.Classes.{front_of-by}
use Rattle.dpi_lex.proofs.SvClasses.{sv_forms-space, sv_forms-slash, sv_forms-directive}
use Rattle.dpi_lex.proofs.SvClasses.{sv_forms-name, sv_forms-system, sv_forms-number}
use Rattle.dpi_lex.proofs.SvClasses.{sv_forms-apostrophe, sv_forms-text, sv_forms-sign}
use Rattle.dpi_lex.proofs.sv_front.sv_front.Goals as goal

pub returns-then-is_space-clause-stretch : goal.returns-then-is_space-clause-stretch
returns-then-is_space-clause-stretch c =
    let rest = c.args.rest.now in
    c.space.ensures.stretch
    ∙ sym (front_of-by sv_forms c.args.begins (λ front. form_if (is_space front) Skipped) rest
    c.requires.some (λ more after. sv_forms-space c.args.begins (get_or rest 0 0) more after
    (sym c.is_space.ensures ∙ c.if-is_space.true)))

pub returns-then-is_name_start-clause-stretch : goal.returns-then-is_name_start-clause-stretch
returns-then-is_name_start-clause-stretch c =
    let rest = c.args.rest.now in
    c.name.ensures.stretch
    ∙ sym (front_of-by sv_forms c.args.begins
    (λ front. form_if (is_name (is_name_byte SystemVerilog) front) (Whole Word)) rest
    c.requires.some (λ more after. sv_forms-name c.args.begins (get_or rest 0 0) more after
    (sym c.is_name_start.ensures ∙ c.if-is_name_start.true)))

pub returns-then-is_digit-clause-stretch : goal.returns-then-is_digit-clause-stretch
returns-then-is_digit-clause-stretch c =
    let rest = c.args.rest.now in
    c.sv_number.ensures.stretch
    ∙ sym (front_of-by sv_forms c.args.begins (sv_number_form) rest c.requires.some
    (λ more after. sv_forms-number c.args.begins (get_or rest 0 0) more after
    (sym c.is_digit.ensures ∙ c.if-is_digit.true)))

pub returns-then-first-eq47-clause-stretch : goal.returns-then-first-eq47-clause-stretch
returns-then-first-eq47-clause-stretch c =
    let rest = c.args.rest.now in
    let start : nat_eq 47 (get_or rest 0 0) ≡ true = grind (arith, nat_tests) in
    c.sv_slash.ensures.stretch
    ∙ sym (front_of-by sv_forms c.args.begins (slash_form sv_signs) rest c.requires.some
    (λ more after. sv_forms-slash c.args.begins (get_or rest 0 0) more after start))

pub returns-then-first-eq96-clause-stretch : goal.returns-then-first-eq96-clause-stretch
returns-then-first-eq96-clause-stretch c =
    let rest = c.args.rest.now in
    let start : nat_eq 96 (get_or rest 0 0) ≡ true = grind (arith, nat_tests) in
    c.directive.ensures.stretch
    ∙ sym (front_of-by sv_forms c.args.begins
    (λ front. form_if (c.args.begins && is_line_of (codes "`timescale") front) Skipped) rest
    c.requires.some (λ more after. sv_forms-directive c.args.begins (get_or rest 0 0) more after
    start))

pub returns-then-first-eq36-clause-stretch : goal.returns-then-first-eq36-clause-stretch
returns-then-first-eq36-clause-stretch c =
    let rest = c.args.rest.now in
    let start : nat_eq 36 (get_or rest 0 0) ≡ true = grind (arith, nat_tests) in
    c.system_name.ensures.stretch
    ∙ sym (front_of-by sv_forms c.args.begins
    (λ front. form_if (is_listed system_names front) (Whole Word)) rest c.requires.some
    (λ more after. sv_forms-system c.args.begins (get_or rest 0 0) more after start))

pub returns-then-first-eq39-clause-stretch : goal.returns-then-first-eq39-clause-stretch
returns-then-first-eq39-clause-stretch c =
    let rest = c.args.rest.now in
    let start : is_apostrophe (get_or rest 0 0) ≡ true = grind (arith, nat_tests) in
    c.apostrophe.ensures.stretch
    ∙ sym (front_of-by sv_forms c.args.begins (apostrophe_form) rest c.requires.some
    (λ more after. sv_forms-apostrophe c.args.begins (get_or rest 0 0) more after start))

pub returns-then-first-eq34-clause-stretch : goal.returns-then-first-eq34-clause-stretch
returns-then-first-eq34-clause-stretch c =
    let rest = c.args.rest.now in
    let start : is_quote (get_or rest 0 0) ≡ true = grind (arith, nat_tests) in
    c.text.ensures.stretch
    ∙ sym (front_of-by sv_forms c.args.begins (text_form (is_escape SystemVerilog)) rest
    c.requires.some (λ more after. sv_forms-text c.args.begins (get_or rest 0 0) more after
    start))

pub returns-else-first-eq34-clause-stretch : goal.returns-else-first-eq34-clause-stretch
returns-else-first-eq34-clause-stretch c =
    let rest = c.args.rest.now in
    let slash : nat_eq 47 (get_or rest 0 0) ≡ false = grind (arith, nat_tests) in
    let tick : nat_eq 96 (get_or rest 0 0) ≡ false = grind (arith, nat_tests) in
    let dollar : nat_eq 36 (get_or rest 0 0) ≡ false = grind (arith, nat_tests) in
    let apostrophe : is_apostrophe (get_or rest 0 0) ≡ false = grind (arith, nat_tests) in
    let quote : is_quote (get_or rest 0 0) ≡ false = grind (arith, nat_tests) in
    c.sign.ensures.stretch
    ∙ sym (front_of-by sv_forms c.args.begins
    (λ front. form_if (is_listed sv_signs front) (Whole Sign)) rest c.requires.some
    (λ more after. sv_forms-sign c.args.begins (get_or rest 0 0) more after
    (sym c.is_space.ensures ∙ c.if-is_space.false) slash tick (sym c.is_name_start.ensures
    ∙ c.if-is_name_start.false) dollar (sym c.is_digit.ensures ∙ c.if-is_digit.false) apostrophe
    quote))
