use Rattle.std.proofs.Common.{◌≡◌, ℕ, ◌+◌, ◌-◌, ◌*◌, ◌<◌, ◌≤◌, ◌⊎◌, inl, inr, Bool, true, get_or, sym, ap, ◌∙◌, arith}
use Rattle.dpi_bits.specs.Words.{bit_in, blank, held}
use Rattle.dpi_bits.specs.Sought.{is_sought}
use Rattle.dpi_bits.proofs.Found.{found, unfound}
use Rattle.dpi_bits.proofs.Held.{held_at}
use Rattle.dpi_bits.proofs.sought.Sought.stands_in.Goals as goal

pub returns-then-mask-ones_between-ne0-clause-somewhere : goal.returns-then-mask-ones_between-ne0-clause-somewhere
returns-then-mask-ones_between-ne0-clause-somewhere c _ =
    let p : ℕ → Bool = λ k. is_sought c.args.self (bit_in (get_or c.args.a.now c.loop-j.j blank) k) (bit_in (get_or c.args.b.now c.loop-j.j blank) k) in
    let place : (k : ℕ) × (k < 32) × (k < c.min-used.result) × (p k ≡ true) = found c.mask.result c.ones_between.result c.min-used.result p c.mask.ensures (omega arith) c.if-mask-ones_between-ne0.true c.ones_between.ensures.above in
    let k : ℕ = place.0 in (
      32 * c.loop-j.j + k,
      omega arith,
      omega arith,
      ap (λ b. is_sought c.args.self b (held c.args.b.now (32 * c.loop-j.j + k))) (sym (held_at c.args.a.now (32 * c.loop-j.j + k) c.loop-j.j k (omega arith) (omega arith)))
          ∙ ap (is_sought c.args.self (bit_in (get_or c.args.a.now c.loop-j.j blank) k)) (sym (held_at c.args.b.now (32 * c.loop-j.j + k) c.loop-j.j k (omega arith) (omega arith)))
          ∙ place.3,
    )

pub loop-j-preserved : goal.loop-j-preserved
loop-j-preserved c i h l u =
    let p : ℕ → Bool = λ k. is_sought c.args.self (bit_in (get_or c.args.a.now c.loop-j.j blank) k) (bit_in (get_or c.args.b.now c.loop-j.j blank) k) in
    let k : ℕ = i - 32 * c.loop-j.j in
    let cases : (i < 32 * c.loop-j.j) ⊎ (32 * c.loop-j.j ≤ i) = search arith in
    elim cases [
      | inl before ↦ c.loop-j.invariant i h before u
      | inr here ↦
          ap (λ b. is_sought c.args.self b (held c.args.b.now i)) (sym (held_at c.args.a.now i c.loop-j.j k (omega arith) (omega arith)))
          ∙ ap (is_sought c.args.self (bit_in (get_or c.args.a.now c.loop-j.j blank) k)) (sym (held_at c.args.b.now i c.loop-j.j k (omega arith) (omega arith)))
          ∙ unfound c.mask.result c.ones_between.result c.min-used.result p c.mask.ensures c.if-mask-ones_between-ne0.false (λ n m. c.ones_between.ensures.inside n (omega arith) m) k (omega arith) (omega arith)
    ]
