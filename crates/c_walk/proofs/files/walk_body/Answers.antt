use Rattle.std.proofs.Common.{◌∙◌, map, sym, ap}
use Rattle.dpi_rules.specs.Least.{noted}
use Rattle.c_tree.specs.declared.statements.Block.{out-Block}
use Rattle.c_names.specs.Names.{names_of}
use Rattle.c_names.specs.Scopes.{scopes_of}
use Rattle.c_walk.specs.Sight.{Sight, in_turn}
use Rattle.c_walk.specs.Around.{around_of}
use Rattle.c_walk.specs.Statements.{in_part}
use Rattle.c_walk.specs.File.{body_violations}
use Rattle.c_walk.proofs.Trees.{block_is}
use Rattle.c_walk.proofs.files.walk_body.Goals as goal

pub returns-in_ok-walk_parts-in-Block : goal.returns-in_ok-walk_parts-in-Block
returns-in_ok-walk_parts-in-Block c =
    let a = around_of c.args.outside.now in
    let s : Sight = record { outer = scopes_of c.args.scopes.now; inner = names_of c.args.scope } in
    let parts = in_turn (map (in_part a) (out-Block c.in-Block.block).parts) in
    let b = (rw c.as_slice.ensures at c.in_ok-walk_parts-in-Block.ensures) s c.in_ok-enter-in-Block.ensures in
    record {
      scopes_are = c.leave.ensures s.outer (parts s).inner b.scopes_are;
      found_are = b.found_are ∙ ap (λ w. noted c.args.found.now (w s).found) (sym (block_is a c.in-Block.block)) ∙ ap (λ x. noted c.args.found.now (body_violations a x s)) (sym c.in-Block.is);
    }
