use Rattle.std.proofs.Common.{◌≡◌, ℕ, ◌*◌, ◌<◌, [], ◌∷◌, length, get_or, pos, sym, ap, ◌∙◌, arith}
use Rattle.dpi_bits.specs.declared.word.Word4.{Word4}
use Rattle.dpi_bits.specs.declared.bit.Bit.TheVariants.{Zero}
use Rattle.dpi_bits.specs.Words.{held}
use Rattle.dpi_bits.specs.Layout.{overlaid}
use Rattle.dpi_bits.specs.Lists.{word_bits}
use Rattle.dpi_bits.specs.Parts.{put}
use Rattle.dpi_bits.proofs.Held.{held_at}
use Rattle.dpi_bits.proofs.InPlace.{width_is, held_is, closed, closed_view}
use Rattle.dpi_bits.proofs.ListsAt.{length-word_bits, word_bits_at, length-put_pos}
use Rattle.dpi_bits.proofs.PutOver.{put_at}
use Rattle.dpi_bits.proofs.packed.Packed.set_word.Goals as goal

pub overlay-requires-clause-back : goal.overlay-requires-clause-back
overlay-requires-clause-back c =
    let e : length c.args.self.now ≡ c.self.inside.width = width_is _ c.self.inside.words.items _ c.self.view_is in
    omega (arith, c.self.invariant.most)

one_word : (word : Word4) (k : ℕ) → k < 32 → held (word ∷ []) k ≡ get_or (word_bits word) k Zero
one_word word k h = sym (held_at (word ∷ []) k 0 k (omega arith) (omega arith)) ∙ sym (word_bits_at word k h)

pub returns : goal.returns
returns c =
    let e : c.as_mut_slice.result.now ≡ c.self.inside.words.items = c.as_mut_slice.ensures.value in
    let kept : length c.overlay.new.words ≡ length c.as_mut_slice.result.now = c.overlay.auto.words in
    closed_view c.self.inside.width c.self.inside.words.items c.overlay.new.words c.args.self.now (put (pos (32 * c.args.j)) (word_bits c.args.word) c.args.self.now)
    c.self.invariant c.self.view_is (kept ∙ ap length e) (length-put_pos (32 * c.args.j) (word_bits c.args.word) c.args.self.now)
    (λ i h.
    c.overlay.ensures i (omega arith)
    ∙ ap (λ ws. overlaid (c.args.word ∷ []) 32 0 (32 * c.args.j) c.width-width.result i (held ws i)) e
    ∙ ap (overlaid (c.args.word ∷ []) 32 0 (32 * c.args.j) c.width-width.result i) (held_is c.self.inside.width c.self.inside.words.items c.args.self.now c.self.view_is c.self.invariant i)
    ∙ put_at (c.args.word ∷ []) 32 c.width-width.result (word_bits c.args.word) c.args.self.now (sym (length-word_bits c.args.word)) c.width-width.ensures.bits (one_word c.args.word) i (32 * c.args.j))

pub invariant_of-self : goal.invariant_of-self
invariant_of-self c =
    let e : c.as_mut_slice.result.now ≡ c.self.inside.words.items = c.as_mut_slice.ensures.value in
    let kept : length c.overlay.new.words ≡ length c.as_mut_slice.result.now = c.overlay.auto.words in
    closed c.self.inside.width c.self.inside.words.items c.overlay.new.words c.args.self.now (put (pos (32 * c.args.j)) (word_bits c.args.word) c.args.self.now)
    c.self.invariant c.self.view_is (kept ∙ ap length e) (length-put_pos (32 * c.args.j) (word_bits c.args.word) c.args.self.now)
    (λ i h.
    c.overlay.ensures i (omega arith)
    ∙ ap (λ ws. overlaid (c.args.word ∷ []) 32 0 (32 * c.args.j) c.width-width.result i (held ws i)) e
    ∙ ap (overlaid (c.args.word ∷ []) 32 0 (32 * c.args.j) c.width-width.result i) (held_is c.self.inside.width c.self.inside.words.items c.args.self.now c.self.view_is c.self.invariant i)
    ∙ put_at (c.args.word ∷ []) 32 c.width-width.result (word_bits c.args.word) c.args.self.now (sym (length-word_bits c.args.word)) c.width-width.ensures.bits (one_word c.args.word) i (32 * c.args.j))
