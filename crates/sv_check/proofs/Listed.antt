-- Files without violations have no more instances than are listed.
use Rattle.std.proofs.Common.{◌≡◌, ℕ, zero, suc, ◌≤◌, List, [], ◌∷◌, ◌++◌, length, take, refl, arith, Option, Some, None}
use Rattle.std.specs.Prelude.{slice_get, flat_map}
use Rattle.std.proofs.lemmas.List.{take_all}
use Rattle.sv_tree.specs.declared.items.SvFile.{SvFile}
use Rattle.sv_instances.specs.declared.preorder.Instance.{Instance}
use Rattle.sv_instances.specs.Modules.{modules_in, number_of, second_modules}
use Rattle.sv_instances.specs.Instances.{all_unknown}
use Rattle.sv_instances.specs.Cycles.{cycle_violations}
use Rattle.sv_instances.specs.Preorder.{count_violations}
use Rattle.sv_scopes.specs.Instances.{children, instances, instance_violations}
use Rattle.sv_check.specs.Modules.{module_violations}
use Rattle.sv_check.specs.Check.{forms_from, violations}

left_none : {A : Type 0} (xs ys : List A) → xs ++ ys ≡ [] → xs ≡ []
left_none [] ys h = refl
left_none (x ∷ xs) ys h = absurd (cc)

right_none : {A : Type 0} (xs ys : List A) → xs ++ ys ≡ [] → ys ≡ []
right_none [] ys h = h
right_none (x ∷ xs) ys h = absurd (cc)

not_counted : (o : Option Instance) → count_violations o ≡ [] → o ≡ None
not_counted None h = refl
not_counted (Some x) h = absurd (cc)

is_short : {A : Type 0} (n : ℕ) (xs : List A) → slice_get xs n ≡ None → length xs ≤ n
is_short n [] h = omega arith
is_short zero (x ∷ xs) h = absurd (cc)
is_short (suc n) (x ∷ xs) h = omega (arith, is_short n xs h)

all_taken : (n m : ℕ) (xs : List Instance) → n ≤ m → count_violations (slice_get xs n) ≡ [] → take m xs ≡ xs
all_taken n m xs h none = let short = is_short n xs (not_counted (slice_get xs n) none) in take_all m xs (omega arith)

pub all_listed : (files : List SvFile) → violations files ≡ [] → take 1001 (instances 1001 (modules_in files)) ≡ instances 1001 (modules_in files)
all_listed files clean =
    let ms = modules_in files in
    let forms = forms_from 0 files in
    let front = left_none (forms ++ instance_violations 1001 ms) (flat_map module_violations ms) clean in
    let of_instances = right_none forms (instance_violations 1001 ms) front in
    let counted = right_none (second_modules ms ++ all_unknown (number_of ms) ms ++ cycle_violations (children ms)) (count_violations (slice_get (instances 1001 ms) 1000)) of_instances in
    all_taken 1000 1001 (instances 1001 ms) (omega arith) counted
