use Rattle.std.proofs.Common.{◌≡◌, ℕ, length, get_or, ap, sym, ◌∙◌, arith}
use Rattle.dpi_bits.specs.declared.bit.Bit.TheVariants.{Zero}
use Rattle.dpi_bits.specs.Words.{held}
use Rattle.dpi_bits.specs.Sought.{is_sought}
use Rattle.dpi_bits.proofs.InPlace.{width_is, held_is}
use Rattle.dpi_bits.proofs.packed.Packed.stands.Goals as goal

pub stands_in-requires-clause-alike : goal.stands_in-requires-clause-alike
stands_in-requires-clause-alike c =
    let e : length c.args.self.now ≡ c.self.inside.width = width_is _ c.self.inside.words.items _ c.self.view_is in
    let f : length c.args.other.now ≡ c.other.inside.width = width_is _ c.other.inside.words.items _ c.other.view_is in
    rw (c.as_slice.ensures, c.as_slice-2.ensures) (omega (arith, c.self.invariant.count, c.other.invariant.count))

pub returns-clause-nowhere : goal.returns-clause-nowhere
returns-clause-nowhere c f i h l =
    let e : length c.args.self.now ≡ c.self.inside.width = width_is _ c.self.inside.words.items _ c.self.view_is in
    let first : held c.as_slice.result.now i ≡ get_or c.args.self.now i Zero = ap (λ ws. held ws i) c.as_slice.ensures ∙ held_is c.self.inside.width c.self.inside.words.items c.args.self.now c.self.view_is c.self.invariant i in
    let second : held c.as_slice-2.result.now i ≡ get_or c.args.other.now i Zero = ap (λ ws. held ws i) c.as_slice-2.ensures ∙ held_is c.other.inside.width c.other.inside.words.items c.args.other.now c.other.view_is c.other.invariant i in
    ap (λ b. is_sought c.args.sought b (get_or c.args.other.now i Zero)) (sym first)
    ∙ ap (is_sought c.args.sought (held c.as_slice.result.now i)) (sym second)
    ∙ c.stands_in.ensures.nowhere f i h (omega arith)

pub returns-clause-somewhere : goal.returns-clause-somewhere
returns-clause-somewhere c t =
    let e : length c.args.self.now ≡ c.self.inside.width = width_is _ c.self.inside.words.items _ c.self.view_is in
    let place = c.stands_in.ensures.somewhere t in
    let i : ℕ = place.0 in
    let first : held c.as_slice.result.now i ≡ get_or c.args.self.now i Zero = ap (λ ws. held ws i) c.as_slice.ensures ∙ held_is c.self.inside.width c.self.inside.words.items c.args.self.now c.self.view_is c.self.invariant i in
    let second : held c.as_slice-2.result.now i ≡ get_or c.args.other.now i Zero = ap (λ ws. held ws i) c.as_slice-2.ensures ∙ held_is c.other.inside.width c.other.inside.words.items c.args.other.now c.other.view_is c.other.invariant i in (
      i,
      place.1,
      omega arith,
      ap (λ b. is_sought c.args.sought b (get_or c.args.other.now i Zero)) (sym first)
          ∙ ap (is_sought c.args.sought (held c.as_slice.result.now i)) (sym second)
          ∙ place.3,
    )
