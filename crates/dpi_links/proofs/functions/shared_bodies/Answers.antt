use Rattle.std.proofs.Common.{ap, sym, ◌∙◌, map, false}
use Rattle.std.specs.Option.{option_or}
use Rattle.c_functions.specs.Declarations.{told}
use Rattle.dpi_links.specs.Firsts.{first_given}
use Rattle.dpi_links.specs.Functions.{bodies_of, first_body}
use Rattle.dpi_links.proofs.Gathered.{gathered_next, gathered_last, first_map}
use Rattle.dpi_links.proofs.functions.shared_bodies.Goals as goal

pub loop-declarations-init : goal.loop-declarations-init
loop-declarations-init c = record {
  same = λ q. ap (λ o. option_or o (first_given (λ ds. first_body false (map told ds)) c.args.table.now q)) (sym (c.new-bodies.ensures q));
}

pub loop-declarations-preserved : goal.loop-declarations-preserved
loop-declarations-preserved c =
    let here = rw c.as_slice.ensures at c.in_ok-add_bodies.ensures in
    gathered_next (λ ds. first_body false (map told ds)) c.args.table.now c.loop-declarations.declarations-index c.declarations-item.result
    c.loop-declarations-test.true c.declarations-item.is (bodies_of c.add_bodies.new.self) here c.loop-declarations.invariant

pub returns : goal.returns
returns c = λ q.
    gathered_last (λ ds. first_body false (map told ds)) c.args.table.now c.loop-declarations.declarations-index c.loop-declarations-test.false c.loop-declarations.invariant q
    ∙ first_map (map told) (first_body false) c.args.table.now q
