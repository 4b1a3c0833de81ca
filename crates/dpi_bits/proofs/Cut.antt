-- What windows make of a list.
use Rattle.std.proofs.Common.{◌≡◌, ℕ, suc, ◌+◌, ◌<◌, ◌≤◌, ◌⊎◌, inl, inr, min, Bool, false, ℤ, pos, negsuc, List, ◌++◌, length, get_or, replicate, refl, ap, sym, ◌∙◌, arith, length-append}
use Rattle.std.proofs.lemmas.List.{ext_get_or, length-replicate, length-take, get_or-take, get_or_append_left, get_or-append_right, take-append-le}
use Rattle.dpi_bits.specs.declared.bit.Bit.{Bit}
use Rattle.dpi_bits.specs.declared.bit.Bit.TheVariants.{Zero, X}
use Rattle.dpi_bits.specs.declared.word.Word4.{Word4}
use Rattle.dpi_bits.specs.Words.{held}
use Rattle.dpi_bits.specs.Layout.{overlaid, window_from, window_onto}
use Rattle.dpi_bits.specs.Parts.{spread, part, put, resized, extension, shifted_left, shifted_right}
use Rattle.dpi_bits.proofs.ListsAt.{put_pos_before, put_pos_within, length-put_pos, length-put_neg}
use Rattle.dpi_bits.proofs.PutOver.{put_at, put_below, overlaid_far, overlaid_deep}
use Rattle.dpi_bits.proofs.Spread.{spread_all_past, spread_all_before}

least : (m n : ℕ) → m ≤ n → min m n ≡ m
least m n h = omega arith

pub resized_is : (width : ℕ) (signed : Bool) (bits : List Bit) → spread bits 0 0 (extension signed bits) width ≡ resized width signed bits
unfolding spread
resized_is width signed bits = refl

pub at_low : (bits : List Bit) (low width : ℕ) → spread bits low 0 X width ≡ part (pos low) width bits
unfolding spread
at_low bits low width = refl

at_below : (bits : List Bit) (below width : ℕ) → spread bits 0 (suc below) X width ≡ part (negsuc below) width bits
unfolding spread
at_below bits below width = refl

pub part_is : (bits : List Bit) (low : ℤ) (width : ℕ) → length bits ≤ 1024 → width ≤ 1024 → spread bits (window_from low X).start (window_from low X).back X width ≡ part low width bits
part_is bits (pos low) width h k =
    let near : (low ≤ 1024) ⊎ (1024 ≤ low) = search arith in
    elim near [
      | inl l ↦ ap (λ n. spread bits n 0 X width) (least low 1024 l) ∙ at_low bits low width
      | inr l ↦ spread_all_past bits (min low 1024) X width (omega arith) ∙ sym (spread_all_past bits low X width (omega arith)) ∙ at_low bits low width
    ]
part_is bits (negsuc below) width h k =
    let near : (suc below ≤ 1024) ⊎ (1024 ≤ suc below) = search arith in
    elim near [
      | inl l ↦ ap (λ n. spread bits 0 n X width) (least (suc below) 1024 l) ∙ at_below bits below width
      | inr l ↦ spread_all_before bits (min (suc below) 1024) X width (omega arith) ∙ sym (spread_all_before bits (suc below) X width (omega arith)) ∙ at_below bits below width
    ]

pub length-put : (low : ℤ) (value old : List Bit) → length (put low value old) ≡ length old
length-put (pos low) value old = length-put_pos low value old
length-put (negsuc below) value old = length-put_neg (suc below) value old

pub put_over : (from : List Word4) (bits width : ℕ) (value old : List Bit) → bits ≡ length value → width ≡ length old
    → ((k : ℕ) → k < bits → held from k ≡ get_or value k Zero) → bits ≤ 1024 → width ≤ 1024 → (low : ℤ) (i : ℕ)
    → overlaid from bits (window_onto low).start (window_onto low).back width i (get_or old i Zero) ≡ get_or (put low value old) i Zero
put_over from bits width value old e f same most most' (pos low) i = overlaid_far from bits low width i (get_or old i Zero) most' ∙ put_at from bits width value old e f same i low
put_over from bits width value old e f same most most' (negsuc below) i = overlaid_deep from bits (suc below) width i (get_or old i Zero) most ∙ put_below from bits width value old e f same i below

-- a list put above another that was extended with 0
pub joined : (low high : List Bit) (w n : ℕ) → n ≡ length low → w ≡ length high + length low → put (pos n) high (resized w false low) ≡ low ++ high
joined low high w n e f =
    let wide : List Bit = resized w false low in
    let size : length wide ≡ w = length-take w (low ++ replicate w Zero) ∙ omega (arith, length-append low (replicate w Zero), length-replicate w Zero) in
    ext_get_or Zero (put (pos n) high wide) (low ++ high) (length-put_pos n high wide ∙ omega (arith, length-append low high, size))
    (λ i l.
    let inside : i < length wide = omega (arith, length-put_pos n high wide) in
    let cases : (i < n) ⊎ (n ≤ i) = search arith in
    elim cases [
      | inl below ↦
          put_pos_before n high wide i inside below
          ∙ get_or-take w (low ++ replicate w Zero) i Zero (omega (arith, size))
          ∙ get_or_append_left low (replicate w Zero) Zero i (omega arith)
          ∙ sym (get_or_append_left low high Zero i (omega arith))
      | inr above ↦
          put_pos_within n high wide i inside above (omega (arith, size))
          ∙ sym (get_or-append_right low high n i Zero (sym e) above)
    ])

pub window_outside : (low : ℤ) (outside : Bit) → (window_from low outside).outside ≡ outside
window_outside (pos low) outside = refl
window_outside (negsuc below) outside = refl

raised_is : (bits : List Bit) (n : ℕ) → spread bits 0 n Zero (length bits) ≡ shifted_left n bits
unfolding spread
raised_is bits n = take-append-le (length bits) (replicate n Zero ++ bits) (replicate (length bits) Zero) (omega (arith, length-append (replicate n Zero) bits))

lowered_is : (bits : List Bit) (n : ℕ) (filling : Bit) → spread bits n 0 filling (length bits) ≡ shifted_right n filling bits
unfolding spread
lowered_is bits n filling = refl

pub shifted_left_is : (bits : List Bit) (n : ℕ) → length bits ≤ 1024 → spread bits 0 (min n 1024) Zero (length bits) ≡ shifted_left n bits
shifted_left_is bits n h =
    let near : (n ≤ 1024) ⊎ (1024 ≤ n) = search arith in
    elim near [
      | inl l ↦ ap (λ k. spread bits 0 k Zero (length bits)) (least n 1024 l) ∙ raised_is bits n
      | inr l ↦ spread_all_before bits (min n 1024) Zero (length bits) (omega arith) ∙ sym (spread_all_before bits n Zero (length bits) (omega arith)) ∙ raised_is bits n
    ]

pub shifted_right_is : (bits : List Bit) (n : ℕ) (filling : Bit) → length bits ≤ 1024 → spread bits (min n 1024) 0 filling (length bits) ≡ shifted_right n filling bits
shifted_right_is bits n filling h =
    let near : (n ≤ 1024) ⊎ (1024 ≤ n) = search arith in
    elim near [
      | inl l ↦ ap (λ k. spread bits k 0 filling (length bits)) (least n 1024 l) ∙ lowered_is bits n filling
      | inr l ↦ spread_all_past bits (min n 1024) filling (length bits) (omega arith) ∙ sym (spread_all_past bits n filling (length bits) (omega arith)) ∙ lowered_is bits n filling
    ]
