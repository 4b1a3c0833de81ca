use Rattle.std.proofs.Common.{◌≡◌, rules, refl, arith}
use Rattle.sv_instances.specs.Modules.{numbers_of}
use Rattle.sv_instances.proofs.ModuleLists.{numbering_next, numbering_last}
use Rattle.sv_instances.proofs.modules.numbers_of.Goals as goal

pub loop-placed-init : goal.loop-placed-init
loop-placed-init c = record { counted = refl; numbering = record { numbers_are = λ q. search rules; found_same = refl } }

pub loop-placed-preserved : goal.loop-placed-preserved
loop-placed-preserved c =
    let name = c.as_slice-name.ensures in
    let is : c.loop-placed.number ≡ c.loop-placed.placed-index = c.loop-placed.invariant.counted in
    let earlier : c.copied.result ≡ numbers_of c.loop-placed.numbers c.as_slice-name.result.now = search rules in
    let here = rw name at earlier in
    let more = rw name at c.in_ok-add_number.ensures in
    record {
      counted = omega arith;
      numbering = numbering_next c.add_number.new.numbers c.args.modules.now c.loop-placed.placed-index c.placed-item.result c.loop-placed.number c.copied.result c.loop-placed-test.true c.placed-item.is is here more c.note_second.ensures c.loop-placed.invariant.numbering;
    }

pub returns : goal.returns
returns c = numbering_last c.args.modules.now c.loop-placed.placed-index c.loop-placed-test.false c.loop-placed.invariant.numbering
