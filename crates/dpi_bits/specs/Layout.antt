-- Which words a packed value has, and what a window puts into them.
use Rattle.std.specs.Prelude.{◌≡◌, ℕ, zero, suc, min, ℤ, pos, negsuc, ◌+◌, ◌-◌, ◌/◌, ◌≤◌, ltb, if◌then◌else◌, List, length}
use Rattle.dpi_bits.specs.declared.bit.Bit.{Bit}
use Rattle.dpi_bits.specs.declared.bit.Bit.TheVariants.{Zero}
use Rattle.dpi_bits.specs.declared.window.Window.{Window}
use Rattle.dpi_bits.specs.declared.word.Word4.{Word4}
use Rattle.dpi_bits.specs.Words.{aval, held}

-- 1 to 1,024 bits in as many words as they need, the unused bits 0
pub record IsCanonical (width : ℕ) (words : List Word4) : Type 0 where
  pub least : 1 ≤ width
  pub most : width ≤ 1024
  pub count : length words ≡ (width + 31) / 32
  pub unused : (i : ℕ) → width ≤ i → held words i ≡ Zero

-- bit i of a list of that width under a window on words: the window's bit, else the old one
unfoldable pub overlaid : List Word4 → ℕ → ℕ → ℕ → ℕ → ℕ → Bit → Bit
overlaid from bits start back width i old =
    if ltb i width
    then (if ltb (start + i) back
    then old
    else (if ltb (start + i - back) bits then held from (start + i - back) else old))
    else Zero

-- the window from a bit on, which lies at most 1,024 bits off
abbrev pub window_from : ℤ → Bit → Window
window_from (pos low) outside = record { start = min low 1024; back = 0; outside = outside }
window_from (negsuc below) outside =
    record { start = 0; back = min (suc below) 1024; outside = outside }

-- the window through which a list lies from a bit of another on
abbrev pub window_onto : ℤ → Window
window_onto (pos low) = record { start = 0; back = min low 1024; outside = Zero }
window_onto (negsuc below) = record { start = min (suc below) 1024; back = 0; outside = Zero }

-- how many of the first bits of words have 1 as their first digit
unfoldable pub digits_below : List Word4 → ℕ → ℕ
digits_below words zero = 0
digits_below words (suc n) = digits_below words n + aval (held words n)
