use Rattle.std.proofs.Common.{◌≡◌, ◌+◌, ◌≤◌, ap, sym, ◌∙◌, arith, is_ok, false}
use Rattle.std.proofs.lemmas.Bool.{false≢true}
use Rattle.slab.specs.Slab.{get, slab_len}
use Rattle.c_memory.specs.Rows.{find_in}
use Rattle.c_memory.proofs.Tables.{length-numbered}
use Rattle.c_memory.proofs.objects.Objects.reserve.Goals as goal

pub returns-clause-numbers : goal.returns-clause-numbers
returns-clause-numbers c =
    omega (
      arith,
      length-numbered (find_in c.reserve.new.self.items (get c.reserve-2.new.self))
          (c.self.inside.given + 1),
    )

pub returns-in_err-reserve-2-clause-enough : goal.returns-in_err-reserve-2-clause-enough
returns-in_err-reserve-2-clause-enough c = λ some enough.
    let spare = ap (λ m. m.spare) c.self.view_is in
    let room : slab_len c.self.inside.slab + c.args.n ≤ c.self.inside.slab.capacity =
    omega (arith, spare, enough, some) in
    let was : is_ok c.reserve-2.result ≡ false = ap is_ok c.in_err-reserve-2.was in
    absurd (false≢true (sym was ∙ c.reserve-2.ensures.succeeds room))
