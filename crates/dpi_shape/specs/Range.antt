-- A declared range.
use Rattle.std.specs.Prelude.{◌≡◌, ℕ, ◌+◌, ◌≤◌, ◌↔◌, ℤ, ◌-ℤ◌, ◌≤ℤ◌, ◌<ℤ◌, unsigned_abs}
use Rattle.std.specs.Int.{int_min, int_max}
use Rattle.dpi_shape.specs.declared.range.Range.{Range}

-- the lower of the two bounds
abbrev pub lower : Range → ℤ
lower r = int_min r.left r.right

-- the higher of the two bounds
abbrev pub upper : Range → ℤ
upper r = int_max r.left r.right

-- how many indices lie from the one bound to the other
abbrev pub size : Range → ℕ
size r = unsigned_abs (r.left -ℤ r.right) + 1

-- the index lies between the bounds
abbrev pub IsIndex : Range → ℤ → Type 0
IsIndex r i = (lower r ≤ℤ i) × (i ≤ℤ upper r)

-- as many indices, and the same direction where they are two or more
pub record IsAlike (r q : Range) : Type 0 where
  pub sizes : size r ≡ size q
  pub directions : 2 ≤ size r → ((r.left <ℤ r.right) ↔ (q.left <ℤ q.right))
