use Rattle.std.proofs.Common.{◌≡◌, ◌/◌, ◌%◌, length, get_or, refl, sym, ap, ◌∙◌, arith}
use Rattle.dpi_bits.specs.declared.bit.Bit.TheVariants.{X}
use Rattle.dpi_bits.specs.Words.{bit_in, blank}
use Rattle.dpi_bits.proofs.Held.{held_at, get_or-bits_of}
use Rattle.dpi_bits.proofs.InPlace.{width_is}
use Rattle.dpi_bits.proofs.packed.Packed.bit.Goals as goal

pub bounds-deref-i : goal.bounds-deref-i
bounds-deref-i c =
    let e : length c.args.self.now ≡ c.self.inside.width = width_is _ c.self.inside.words.items _ c.self.view_is in
    rw c.deref.ensures (omega (arith, c.self.invariant.count))

pub returns : goal.returns
returns c =
    let e : length c.args.self.now ≡ c.self.inside.width = width_is _ c.self.inside.words.items _ c.self.view_is in
    c.bit.ensures
    ∙ ap (λ ws. bit_in (get_or ws (c.args.i / 32) blank) (c.args.i % 32)) c.deref.ensures
    ∙ held_at c.self.inside.words.items c.args.i (c.args.i / 32) (c.args.i % 32) refl refl
    ∙ sym (get_or-bits_of c.self.inside.width c.self.inside.words.items c.args.i X (omega arith))
    ∙ ap (λ l. get_or l c.args.i X) c.self.view_is
