-- Levels past the number of instances that are listed.
use Rattle.std.proofs.Common.{◌≡◌, ℕ, zero, suc, ◌≤◌, List, [], ◌∷◌, ◌++◌, take, flat_map, refl, sym, ap, ◌∙◌, arith}
use Rattle.sv_instances.specs.declared.preorder.Child.{Child}
use Rattle.sv_instances.specs.declared.preorder.Instance.{Instance}
use Rattle.sv_instances.specs.Preorder.{from_instance, inside, top, children_of, LevelsSuffice}
use Rattle.sv_instances.proofs.Takes.{take_twice}

take_inner : {X : Type 0} (n m : ℕ) (xs ys : List X) → n ≤ m → take n (xs ++ ys) ≡ take n (xs ++ take m ys)
take_inner zero m xs ys h = refl
take_inner (suc n) zero xs ys h = absurd (omega arith)
take_inner (suc n) (suc m) [] [] h = refl
take_inner (suc n) (suc m) [] (y ∷ ys) h = ap (λ zs. y ∷ zs) (take_inner n m [] ys (omega arith))
take_inner (suc n) (suc m) (x ∷ xs) ys h = ap (λ zs. x ∷ zs) (take_inner n (suc m) xs ys (omega arith))

take_flat : {X Y : Type 0} (n : ℕ) (f g : X → List Y) → ((x : X) → take n (f x) ≡ take n (g x)) → (xs : List X) → take n (flat_map f xs) ≡ take n (flat_map g xs)
take_flat n f g h [] = refl
take_flat n f g h (x ∷ xs) =
    let fs = flat_map f xs in
    let gs = flat_map g xs in
    sym (take_twice n (f x) fs)
    ∙ ap (λ ys. take n (ys ++ fs)) (h x)
    ∙ take_twice n (g x) fs
    ∙ take_inner n n (g x) fs (omega arith)
    ∙ ap (λ ys. take n (g x ++ ys)) (take_flat n f g h xs)
    ∙ sym (take_inner n n (g x) gs (omega arith))

levels_enough : (children : List (List Child)) (n m : ℕ) (x : Instance) → n ≤ m → take n (from_instance children n x) ≡ take n (from_instance children m x)
levels_enough children zero m x h = refl
levels_enough children (suc n) zero x h = absurd (omega arith)
levels_enough children (suc n) (suc m) x h =
    ap (λ ys. x ∷ ys)
    (take_flat n (λ c. from_instance children n (inside x.name c)) (λ c. from_instance children m (inside x.name c))
    (λ c. levels_enough children n m (inside x.name c) (omega arith)) (children_of children x.module_number))

pub enough : LevelsSuffice
enough children tops most levels h =
    take_flat most (λ c. from_instance children most (top c)) (λ c. from_instance children levels (top c))
    (λ c. levels_enough children most levels (top c) h) tops
