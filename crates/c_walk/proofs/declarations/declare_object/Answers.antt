use Rattle.std.proofs.Common.{◌∙◌, refl, ap}
use Rattle.dpi_rules.specs.Least.{noted}
use Rattle.c_names.specs.declared.entry.Thing.TheVariants as things
use Rattle.c_names.specs.Scopes.{scopes_of, innermost}
use Rattle.c_walk.specs.Around.{around_of, at}
use Rattle.c_walk.specs.Objects.{operand_of}
use Rattle.c_walk.specs.Declarations.{entry, new_name_violations, object_walk}
use Rattle.c_walk.proofs.Noted.{named_says}
use Rattle.c_walk.proofs.declarations.declare_object.Goals as goal

pub returns : goal.returns
returns c =
    let a = around_of c.args.outside.now in
    let n = c.args.name.now in
    let o = c.args.object in
    let names = scopes_of c.args.scopes.now in
    let news = rw c.as_slice-bytes.ensures at (rw c.here.ensures at (rw c.at.ensures at c.note_new_name.ensures)) in
    let declares = rw c.operand.ensures at (rw c.as_slice-bytes.ensures at c.declare.ensures) in
    named_says (object_walk a n o) n.bytes (entry n (things.Object (operand_of o) o.lasts)) names (scopes_of c.declare.new.self) c.args.found.now c.note_new_name.new.found c.declare.result
    (λ s. refl)
    (λ s h. news ∙ ap (λ m. noted c.args.found.now (new_name_violations (at a n.token) n.bytes (innermost m n.bytes))) h)
    declares
