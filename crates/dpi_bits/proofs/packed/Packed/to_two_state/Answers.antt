use Rattle.std.proofs.Common.{◌≡◌, length, map, refl, sym, ap, ◌∙◌, arith}
use Rattle.dpi_bits.specs.Words.{held}
use Rattle.dpi_bits.specs.Lists.{two_state}
use Rattle.dpi_bits.proofs.InPlace.{closed_view, held_is}
use Rattle.dpi_bits.proofs.ListsAt.{map_at, length-map_bits}
use Rattle.dpi_bits.proofs.packed.Packed.to_two_state.Goals as goal

pub returns : goal.returns
returns c =
    let e : c.as_mut_slice.result.now ≡ c.self.inside.words.items = c.as_mut_slice.ensures.value in
    let kept : length c.clear_unknown.new.words ≡ length c.as_mut_slice.result.now = c.clear_unknown.auto.words in
    closed_view c.self.inside.width c.self.inside.words.items c.clear_unknown.new.words c.args.self.now (map two_state c.args.self.now)
    c.self.invariant c.self.view_is (kept ∙ ap length e) (length-map_bits two_state c.args.self.now)
    (λ i h.
    c.clear_unknown.ensures i (omega arith)
    ∙ ap (λ ws. two_state (held ws i)) e
    ∙ ap two_state (held_is c.self.inside.width c.self.inside.words.items c.args.self.now c.self.view_is c.self.invariant i)
    ∙ sym (map_at two_state refl c.args.self.now i))
