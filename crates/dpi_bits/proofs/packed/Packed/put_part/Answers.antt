use Rattle.std.proofs.Common.{◌≡◌, ℕ, ◌*◌, ◌<◌, List, length, get_or, sym, ap, ◌∙◌, arith, w64}
use Rattle.std.proofs.lemmas.Int.{to_z-of_z}
use Rattle.dpi_bits.specs.declared.bit.Bit.TheVariants.{Zero}
use Rattle.dpi_bits.specs.declared.word.Word4.{Word4}
use Rattle.dpi_bits.specs.Words.{held}
use Rattle.dpi_bits.specs.Layout.{overlaid, window_onto}
use Rattle.dpi_bits.specs.Parts.{put}
use Rattle.dpi_bits.proofs.Cut.{put_over, length-put}
use Rattle.dpi_bits.proofs.InPlace.{width_is, held_is, closed, closed_view}
use Rattle.dpi_bits.proofs.packed.Packed.put_part.Goals as goal

-- the words hold the list with the other put into it
holds : (c : goal.After-self-1) → (i : ℕ) → i < 32 * length c.overlay.new.words → held c.overlay.new.words i ≡ get_or (put c.args.low c.args.value.now c.args.self.now) i Zero
holds c i h =
    let e : c.as_mut_slice.result.now ≡ c.self.inside.words.items = c.as_mut_slice.ensures.value in
    let kept : length c.overlay.new.words ≡ length c.as_mut_slice.result.now = c.overlay.auto.words in
    let from : List Word4 = c.value.inside.words.items in
    let bits : ℕ = c.value.inside.width in
    let width : ℕ = c.width-width.result in
    c.overlay.ensures i (omega arith)
    ∙ ap (λ ws. overlaid c.as_slice.result.now bits c.onto_bit-window.result.start c.onto_bit-window.result.back width i (held ws i)) e
    ∙ ap (overlaid c.as_slice.result.now bits c.onto_bit-window.result.start c.onto_bit-window.result.back width i) (held_is c.self.inside.width c.self.inside.words.items c.args.self.now c.self.view_is c.self.invariant i)
    ∙ ap (λ ws. overlaid ws bits c.onto_bit-window.result.start c.onto_bit-window.result.back width i (get_or c.args.self.now i Zero)) c.as_slice.ensures
    ∙ ap (λ w. overlaid from bits w.start w.back width i (get_or c.args.self.now i Zero)) (c.onto_bit-window.ensures ∙ ap window_onto (to_z-of_z w64 c.args.low c.ranges.low))
    ∙ put_over from bits width c.args.value.now c.args.self.now (sym (width_is _ from _ c.value.view_is)) c.width-width.ensures.bits
    (λ k l. held_is bits from c.args.value.now c.value.view_is c.value.invariant k) c.value.invariant.most c.width-width.ensures.most c.args.low i

pub returns : goal.returns
returns c =
    let kept : length c.overlay.new.words ≡ length c.as_mut_slice.result.now = c.overlay.auto.words in
    closed_view c.self.inside.width c.self.inside.words.items c.overlay.new.words c.args.self.now (put c.args.low c.args.value.now c.args.self.now)
    c.self.invariant c.self.view_is (kept ∙ ap length c.as_mut_slice.ensures.value) (length-put c.args.low c.args.value.now c.args.self.now) (holds c)

pub invariant_of-self : goal.invariant_of-self
invariant_of-self c =
    let kept : length c.overlay.new.words ≡ length c.as_mut_slice.result.now = c.overlay.auto.words in
    closed c.self.inside.width c.self.inside.words.items c.overlay.new.words c.args.self.now (put c.args.low c.args.value.now c.args.self.now)
    c.self.invariant c.self.view_is (kept ∙ ap length c.as_mut_slice.ensures.value) (length-put c.args.low c.args.value.now c.args.self.now) (holds c)
