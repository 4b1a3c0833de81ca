-- Types that the code finds the same are equal.
use Rattle.std.proofs.Common.{◌≡◌, ℕ, Bool, true, false, refl, ap, arith, Option, Some, None}
use Rattle.std.specs.Prelude.{◌==◌, ◌&&◌}
use Rattle.std.proofs.lemmas.Bool.{false≢true}
use Rattle.std.proofs.lemmas.Bool.Decides.{nat_tests}
use denote.Enum.Bare.{same_true}
use Rattle.c_base.specs.contracts.base.CBase.{the_type}
use Rattle.c_base.specs.declared.base.CBase.{CBase}
use Rattle.c_base.specs.declared.ctype.CType.{CType}
use Rattle.c_typing.specs.Pointers.{same_base, agree}
use Rattle.c_functions.specs.declared.sizes.ObjectType.{ObjectType}
use Rattle.c_functions.specs.Same.{same_type}
use Rattle.c_functions.specs.Shared.{same_cells, same_object}

first_holds : (a b : Bool) → (a && b) ≡ true → a ≡ true
first_holds true b h = refl
first_holds false b h = h

second_holds : (a b : Bool) → (a && b) ≡ true → b ≡ true
second_holds true b h = h
second_holds false b h = absurd (false≢true h)

agree_is : (a b : Bool) → agree a b ≡ true → a ≡ b
agree_is true true h = refl
agree_is true false h = absurd (false≢true h)
agree_is false true h = absurd (false≢true h)
agree_is false false h = refl

count_is : (m n : ℕ) → (m == n) ≡ true → m ≡ n
count_is m n h = grind (arith, nat_tests)

base_is : (a b : CBase) → same_base a b ≡ true → a ≡ b
base_is a b h = same_true the_type tt a b h

type_is : (s t : CType) → same_type s t ≡ true → s ≡ t
type_is s t h =
    let rest = second_holds (same_base s.base t.base) (agree s.base_const t.base_const && (s.stars == t.stars && agree s.inner_const t.inner_const)) h in
    let more = second_holds (agree s.base_const t.base_const) (s.stars == t.stars && agree s.inner_const t.inner_const) rest in
    let base = base_is s.base t.base (first_holds (same_base s.base t.base) _ h) in
    let base_const = agree_is s.base_const t.base_const (first_holds (agree s.base_const t.base_const) _ rest) in
    let stars = count_is s.stars t.stars (first_holds (s.stars == t.stars) _ more) in
    let inner = agree_is s.inner_const t.inner_const (second_holds (s.stars == t.stars) _ more) in
    λ i. record { base = base i; base_const = base_const i; stars = stars i; inner_const = inner i }

cells_are : (m n : Option ℕ) → same_cells m n ≡ true → m ≡ n
cells_are None None h = refl
cells_are None (Some n) h = absurd (false≢true h)
cells_are (Some m) None h = absurd (false≢true h)
cells_are (Some m) (Some n) h = ap (λ k. Some k) (count_is m n h)

pub same_object_is : (s t : ObjectType) → same_object s t ≡ true → s ≡ t
same_object_is s t h =
    let rest = second_holds (same_type s.of t.of) (agree s.constant t.constant && same_cells s.cells t.cells) h in
    let of = type_is s.of t.of (first_holds (same_type s.of t.of) _ h) in
    let constant = agree_is s.constant t.constant (first_holds (agree s.constant t.constant) _ rest) in
    let cells = cells_are s.cells t.cells (second_holds (agree s.constant t.constant) _ rest) in
    λ i. record { of = of i; constant = constant i; cells = cells i }
