use Rattle.std.proofs.Common.{◌≡◌, ℕ, ◌*◌, ◌<◌, length, get_or, refl, sym, ap, ◌∙◌, arith}
use Rattle.dpi_bits.specs.declared.bit.Bit.TheVariants.{Zero}
use Rattle.dpi_bits.specs.declared.word.Table.{Table}
use Rattle.dpi_bits.specs.declared.word.Table.TheVariants.{And, Or, Xor, Merge}
use Rattle.dpi_bits.specs.Bits.{table_bit}
use Rattle.dpi_bits.specs.Lists.{pairwise}
use Rattle.dpi_bits.specs.Words.{held}
use Rattle.dpi_bits.proofs.InPlace.{width_is, held_is, closed, closed_view}
use Rattle.dpi_bits.proofs.ListsAt.{pairwise_at, length-pairwise}
use Rattle.dpi_bits.proofs.packed.Packed.combine_with.Goals as goal

zeros : (t : Table) → table_bit t Zero Zero ≡ Zero
zeros And = refl
zeros Or = refl
zeros Xor = refl
zeros Merge = refl

pub combine-requires : goal.combine-requires
combine-requires c =
    let e : length c.args.self.now ≡ c.self.inside.width = width_is _ c.self.inside.words.items _ c.self.view_is in
    let f : length c.args.other.now ≡ c.other.inside.width = width_is _ c.other.inside.words.items _ c.other.view_is in
    ap length c.as_mut_slice.ensures.value ∙ omega (arith, c.self.invariant.count, c.other.invariant.count, c.requires) ∙ sym (ap length c.as_slice.ensures)

holds : (c : goal.After-self-1) → (i : ℕ) → i < 32 * length c.combine.new.words → held c.combine.new.words i ≡ get_or (pairwise (table_bit c.args.table) c.args.self.now c.args.other.now) i Zero
holds c i h =
    let kept : length c.combine.new.words ≡ length c.as_mut_slice.result.now = c.combine.auto.words in
    c.combine.ensures i (omega arith)
    ∙ ap (λ ws. table_bit c.args.table (held ws i) (held c.as_slice.result.now i)) c.as_mut_slice.ensures.value
    ∙ ap (λ b. table_bit c.args.table b (held c.as_slice.result.now i)) (held_is c.self.inside.width c.self.inside.words.items c.args.self.now c.self.view_is c.self.invariant i)
    ∙ ap (λ ws. table_bit c.args.table (get_or c.args.self.now i Zero) (held ws i)) c.as_slice.ensures
    ∙ ap (table_bit c.args.table (get_or c.args.self.now i Zero)) (held_is c.other.inside.width c.other.inside.words.items c.args.other.now c.other.view_is c.other.invariant i)
    ∙ sym (pairwise_at (table_bit c.args.table) (zeros c.args.table) c.args.self.now c.args.other.now c.requires i)

pub returns : goal.returns
returns c =
    let kept : length c.combine.new.words ≡ length c.as_mut_slice.result.now = c.combine.auto.words in
    closed_view c.self.inside.width c.self.inside.words.items c.combine.new.words c.args.self.now (pairwise (table_bit c.args.table) c.args.self.now c.args.other.now)
    c.self.invariant c.self.view_is (kept ∙ ap length c.as_mut_slice.ensures.value) (length-pairwise (table_bit c.args.table) c.args.self.now c.args.other.now c.requires) (holds c)

pub invariant_of-self : goal.invariant_of-self
invariant_of-self c =
    let kept : length c.combine.new.words ≡ length c.as_mut_slice.result.now = c.combine.auto.words in
    closed c.self.inside.width c.self.inside.words.items c.combine.new.words c.args.self.now (pairwise (table_bit c.args.table) c.args.self.now c.args.other.now)
    c.self.invariant c.self.view_is (kept ∙ ap length c.as_mut_slice.ensures.value) (length-pairwise (table_bit c.args.table) c.args.self.now c.args.other.now c.requires) (holds c)
