-- The front of joined lists.
use Rattle.std.proofs.Common.{◌≡◌, ℕ, zero, suc, ◌+◌, ◌-◌, ◌<◌, ◌≤◌, List, [], ◌∷◌, ◌++◌, length, take, drop, get_or, flat_map, refl, sym, ap, ◌∙◌, append_assoc, arith, add-one, slice_get}
use Rattle.std.proofs.lemmas.List.{length-take, take_all}
use Rattle.sv_instances.specs.declared.preorder.Child.{Child}
use Rattle.sv_instances.specs.declared.preorder.Instance.{Instance}
use Rattle.sv_instances.specs.Preorder.{from_instance, inside, children_of}
use Rattle.sv_instances.proofs.ModuleLists.{rest_of}

pub take_twice : {X : Type 0} (n : ℕ) (xs ys : List X) → take n (take n xs ++ ys) ≡ take n (xs ++ ys)
take_twice zero xs ys = refl
take_twice (suc n) [] ys = refl
take_twice (suc n) (x ∷ xs) ys = ap (λ zs. x ∷ zs) (take_twice n xs ys)

pub no_more : {X : Type 0} (n : ℕ) (xs : List X) → length (take n xs) ≤ n
no_more n xs = omega (arith, length-take n xs)

-- a full list takes no more
pub take_full : {X : Type 0} (n : ℕ) (xs ys : List X) → length xs ≤ n → n ≤ length xs → xs ≡ take n (xs ++ ys)
take_full zero [] ys h k = refl
take_full zero (x ∷ xs) ys h k = absurd (omega arith)
take_full (suc n) [] ys h k = absurd (omega arith)
take_full (suc n) (x ∷ xs) ys h k = ap (λ zs. x ∷ zs) (take_full n xs ys (omega arith) (omega arith))

append-nil : {X : Type 0} (xs : List X) → xs ++ [] ≡ xs
append-nil [] = refl
append-nil (x ∷ xs) = ap (λ ys. x ∷ ys) (append-nil xs)

pub take_none : {X : Type 0} (n : ℕ) (xs : List X) → length xs ≤ n → xs ≡ take n (xs ++ [])
take_none n xs h = sym (ap (take n) (append-nil xs) ∙ take_all n xs h)

-- one child more, in the loop over the children of an instance
pub take_next : {X Y : Type 0} (n : ℕ) (f : X → List Y) (xs : List X) (i : ℕ) (x : X) (list : List Y) {list' goal : List Y} → i < length xs → x ≡ get_or xs i x → list' ≡ take n (list ++ f x) → take n (list ++ flat_map f (drop i xs)) ≡ goal → take n (list' ++ flat_map f (drop (i + 1) xs)) ≡ goal
take_next n f xs i x list {list'} {goal} h e l k =
    let rest = flat_map f (drop (i + 1) xs) in
    ap (λ ys. take n (ys ++ rest)) l
    ∙ take_twice n (list ++ f x) rest
    ∙ ap (take n) (append_assoc list (f x) rest)
    ∙ ap (λ ys. take n (list ++ flat_map f ys)) (sym (rest_of xs i x h e))
    ∙ k

-- no level is left, else an instance and those inside it
pub levels_from : (children : List (List Child)) (levels : ℕ) (x : Instance) → 0 < levels → from_instance children levels x ≡ x ∷ flat_map (λ c. from_instance children (levels - 1) (inside x.name c)) (children_of children x.module_number)
levels_from children zero x h = absurd (omega arith)
levels_from children (suc n) x h =
    let e : suc n - 1 ≡ n = omega arith in
    rw e refl

front : {X : Type 0} (n : ℕ) (xs : List X) → slice_get (take (suc n) xs) n ≡ slice_get xs n
front n [] = refl
front zero (x ∷ xs) = refl
front (suc n) (x ∷ xs) = front n xs

-- the element behind so many, in a front that has it
pub get_front : {X : Type 0} (n : ℕ) (xs : List X) → slice_get (take (n + 1) xs) n ≡ slice_get xs n
get_front n xs = rw add-one (front n xs)
