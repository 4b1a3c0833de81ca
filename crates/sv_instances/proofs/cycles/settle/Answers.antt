use Rattle.std.proofs.Common.{◌≡◌, false, true, length, rules}
use Rattle.sv_instances.specs.Preorder.{children_of}
use Rattle.sv_instances.specs.Tops.{marked}
use Rattle.sv_instances.specs.Cycles.{are_marked}
use Rattle.sv_instances.proofs.Free.{free_more}
use Rattle.sv_instances.proofs.cycles.settle.Goals as goal

pub returns-then-are_marked : goal.returns-then-are_marked
returns-then-are_marked c =
    let marks = c.args.marks.now in
    let children = c.args.children.now in
    let fresh : marked marks c.args.number ≡ false = search rules in
    let all : are_marked marks (children_of children c.args.number) ≡ true = search rules in
    let long : length c.mark.new.marks ≡ length marks = search rules in
    free_more children marks c.mark.new.marks c.args.number long fresh all c.mark.ensures c.requires
