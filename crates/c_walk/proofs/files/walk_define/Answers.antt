use Rattle.std.proofs.Common.{◌∙◌, refl, ap}
use Rattle.dpi_lex.specs.Define.{define_name}
use Rattle.dpi_literal.specs.Constants.{define_value}
use Rattle.dpi_rules.specs.Least.{noted}
use Rattle.c_names.specs.declared.entry.Thing.TheVariants as things
use Rattle.c_names.specs.Scopes.{scopes_of, innermost}
use Rattle.c_walk.specs.Around.{around_of, at}
use Rattle.c_walk.specs.Declarations.{new_name_violations}
use Rattle.c_walk.specs.File.{define_walk}
use Rattle.c_walk.proofs.Noted.{named_says}
use Rattle.c_walk.proofs.files.walk_define.Goals as goal

pub returns : goal.returns
returns c =
    let a = around_of c.args.outside.now in
    let d = c.args.define.now in
    let names = scopes_of c.args.scopes.now in
    let name = c.c_define_name-name.result.now in
    let is_name = c.c_define_name-name.ensures ∙ ap define_name c.as_slice-bytes.ensures in
    let is_value = c.c_define_value.ensures ∙ ap define_value c.as_slice-bytes.ensures in
    let news = rw is_name at (rw c.here.ensures at (rw c.at.ensures at c.note_new_name.ensures)) in
    named_says (define_walk a d) name (record { token = d.token; thing = things.Number c.c_define_value.result.of }) names (scopes_of c.declare.new.self) c.args.found.now c.note_new_name.new.found c.declare.result
    (λ s. rw is_name (rw is_value refl))
    (λ s h. news ∙ ap (λ m. noted c.args.found.now (new_name_violations (at a d.token) (define_name d.bytes) (innermost m (define_name d.bytes)))) h)
    c.declare.ensures
