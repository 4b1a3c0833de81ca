use Rattle.std.proofs.Common.{◌≡◌, ℕ, List, Some}
use Rattle.std.specs.Prelude.{if◌then◌else◌}
use Rattle.std.specs.Str.{bytes_eq}
use Rattle.c_functions.specs.Objects.{told}
use Rattle.c_functions.specs.Shared.{kept_of, with_one}
use Rattle.c_functions.proofs.Kept.{keeps_more}
use Rattle.c_functions.proofs.definitions.Definitions.add.Goals as goal

pub returns-in_ok-set : goal.returns-in_ok-set
returns-in_ok-set c =
    let old = c.args.self.now in
    let o = told c.args.object in
    let d = c.with_one-defined.result in
    let name = c.as_slice-name.ensures in
    let is : d ≡ with_one (kept_of old o.name) o = rw (c.get.ensures, name) at c.with_one-defined.ensures in
    let more : (q : List ℕ) → kept_of c.set.new.self q ≡ (if bytes_eq o.name q then Some d else kept_of old q) = rw name at c.in_ok-set.ensures in
    λ os keeps. keeps_more old c.set.new.self os o d c.if-not-object.true is more keeps
