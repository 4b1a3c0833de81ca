use Rattle.std.proofs.Common.{◌≡◌, ℕ, List}
use Rattle.std.specs.Prelude.{option_map}
use Rattle.c_functions.specs.Declarations.{told}
use Rattle.c_functions.specs.Again.{firsts_of, added}
use Rattle.c_functions.proofs.Walking.{walks_one}
use Rattle.c_functions.proofs.again.note_next.Goals as goal

pub returns : goal.returns
returns c =
    let old = c.args.firsts.now in
    let d = told c.args.declaration in
    let more : (q : List ℕ) → firsts_of c.add.new.self q ≡ added (firsts_of old) d.name d q = rw c.as_slice-name.ensures at c.in_ok-add.ensures in
    let is : option_map told c.get.result ≡ firsts_of old d.name = rw c.as_slice-name.ensures at c.get.ensures in
    λ before tells. walks_one c.args.compared d old c.add.new.self (option_map told c.get.result) before tells more is c.note_later.ensures
