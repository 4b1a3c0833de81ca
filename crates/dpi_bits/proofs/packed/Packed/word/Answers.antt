use Rattle.std.proofs.Common.{◌≡◌, ◌+◌, ◌*◌, length, get_or, ap, ◌∙◌, arith}
use Rattle.dpi_bits.specs.Words.{bit_in, blank}
use Rattle.dpi_bits.proofs.Held.{held_at}
use Rattle.dpi_bits.proofs.InPlace.{width_is, held_is}
use Rattle.dpi_bits.proofs.Numbered.{word_is}
use Rattle.dpi_bits.proofs.packed.Packed.word.Goals as goal

pub bounds-deref-j : goal.bounds-deref-j
bounds-deref-j c =
    let e : length c.args.self.now ≡ c.self.inside.width = width_is _ c.self.inside.words.items _ c.self.view_is in
    rw c.deref.ensures (omega (arith, c.self.invariant.count))

pub returns : goal.returns
returns c =
    word_is c.fitting.result c.args.self.now c.args.j c.fitting.ensures.aval c.fitting.ensures.bval
    (λ i h.
    ap (λ w. bit_in w i) (c.fitting.ensures.word ∙ ap (λ ws. get_or ws c.args.j blank) c.deref.ensures)
    ∙ held_at c.self.inside.words.items (32 * c.args.j + i) c.args.j i (omega arith) (omega arith)
    ∙ held_is c.self.inside.width c.self.inside.words.items c.args.self.now c.self.view_is c.self.invariant (32 * c.args.j + i))
