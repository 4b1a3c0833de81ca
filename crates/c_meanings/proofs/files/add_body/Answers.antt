use Rattle.std.proofs.Common.{◌∙◌, ◌++◌, map, refl, sym, ap}
use Rattle.std.proofs.lemmas.List.{append-nil}
use Rattle.c_tree.specs.declared.statements.Block.{out-Block}
use Rattle.c_names.specs.Names.{names_of}
use Rattle.c_names.specs.Scopes.{scopes_of}
use Rattle.c_walk.specs.Sight.{Sight}
use Rattle.c_walk.specs.Around.{around_of}
use Rattle.c_meanings.specs.Sight.{in_turn}
use Rattle.c_meanings.specs.Statements.{in_part}
use Rattle.c_meanings.specs.File.{body_facts}
use Rattle.c_meanings.proofs.Trees.{block_is}
use Rattle.c_meanings.proofs.files.add_body.Goals as goal

pub returns-in-Prototype : goal.returns-in-Prototype
returns-in-Prototype c = rw c.in-Prototype.is (record { scopes_are = refl; list_is = sym (append-nil c.args.list.now.items) })

pub returns-in_ok-add_parts-in-Block : goal.returns-in_ok-add_parts-in-Block
returns-in_ok-add_parts-in-Block c =
    let a = around_of c.args.outside.now in
    let s : Sight = record { outer = scopes_of c.args.scopes.now; inner = names_of c.args.scope } in
    let parts = in_turn (map (in_part a) (out-Block c.in-Block.block).parts) in
    let old = c.args.list.now.items in
    let b = (rw c.as_slice.ensures at c.in_ok-add_parts-in-Block.ensures) s c.in_ok-enter-in-Block.ensures in
    record {
      scopes_are = c.leave.ensures s.outer (parts s).inner b.scopes_are;
      list_is = b.list_is ∙ ap (λ w. old ++ (w s).facts) (sym (block_is a c.in-Block.block)) ∙ ap (λ x. old ++ body_facts a x s) (sym c.in-Block.is);
    }
