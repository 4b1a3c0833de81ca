use Rattle.std.proofs.Common.{flat_map}
use Rattle.sv_judge.specs.Calls.{env_of}
use Rattle.sv_walk.specs.Heads.{item_values}
use Rattle.sv_walk.proofs.Comparing.{compared_noted}
use Rattle.sv_walk.proofs.heads.note_compared.Goals as goal

pub returns : goal.returns
returns c =
    compared_noted (env_of c.args.place.now) c.args.token c.args.e.now (flat_map item_values c.args.items.now) c.new-values.result.items c.compare.new.values.items c.compare_items.new.values.items c.deref.result.now
    c.args.found.now c.compare.new.found c.compare_items.new.found c.note_case.new.found
    c.new-values.ensures.items c.in_ok-compare.ensures c.in_ok-compare_items.ensures c.deref.ensures.value c.note_case.ensures
