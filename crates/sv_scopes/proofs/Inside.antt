-- The module of each scope stands in the files.
use Rattle.std.proofs.Common.{◌≡◌, ℕ, zero, suc, ◌+◌, List, [], ◌∷◌, ◌++◌, length, refl, sym, ap, ◌∙◌, subst, append_assoc, length-append, arith, Option, Some, None, true, inl, inr}
use Rattle.std.specs.Prelude.{◌⊎◌, IsSome, option_and_then, slice_get}
use Rattle.std.proofs.lemmas.Option.{same_Some}
use Rattle.sv_tree.specs.declared.items.Module.{Module}
use Rattle.sv_tree.specs.declared.items.SvFile.{SvFile}
use Rattle.sv_instances.specs.declared.preorder.Instance.{Instance}
use Rattle.sv_scopes.specs.declared.homes.Home.{Home}
use Rattle.sv_scopes.specs.declared.scopes.Scope.{Scope}
use Rattle.sv_scopes.specs.Homes.{homes_from, file_homes, homes_in, module_at}
use Rattle.sv_scopes.specs.Scopes.{scope_at, instance_scopes, scopes_of}

get_middle : {A : Type 0} (xs ys : List A) (y : A) → slice_get (xs ++ y ∷ ys) (length xs) ≡ Some y
get_middle [] ys y = refl
get_middle (x ∷ xs) ys y = get_middle xs ys y

get_either : {A : Type 0} (xs ys : List A) (n : ℕ) (x : A) → slice_get (xs ++ ys) n ≡ Some x → (slice_get xs n ≡ Some x) ⊎ ((m : ℕ) × (slice_get ys m ≡ Some x))
get_either [] ys n x e = inr (n, e)
get_either (z ∷ xs) ys zero x e = inl e
get_either (z ∷ xs) ys (suc n) x e = get_either xs ys n x e

stands : (before after : List SvFile) (f : SvFile) (done left : List Module) (m : Module) → f.modules ≡ done ++ m ∷ left → module_at (before ++ f ∷ after) (record { file = length before; number = length done }) ≡ Some m
stands before after f done left m e =
    ap (option_and_then (λ (x : SvFile). slice_get x.modules (length done))) (get_middle before after f)
    ∙ ap (λ ms. slice_get ms (length done)) e
    ∙ get_middle done left m

in_file : (before after : List SvFile) (f : SvFile) (file number : ℕ) (done left : List Module) (n : ℕ) (h : Home) → file ≡ length before → number ≡ length done → f.modules ≡ done ++ left → slice_get (homes_from file number left) n ≡ Some h → IsSome (module_at (before ++ f ∷ after) h)
in_file before after f file number done [] n h b d e g = absurd (cc)
in_file before after f file number done (m ∷ ms) zero h b d e g =
    let P : Option Module → Type 0 = λ o. IsSome o in
    let here : record { file = length before; number = length done } ≡ h =
    ap (λ k. record { file = k; number = length done }) (sym b) ∙ ap (λ k. record { file = file; number = k }) (sym d) ∙ same_Some _ h g in
    subst P (sym (ap (module_at (before ++ f ∷ after)) (sym here) ∙ stands before after f done ms m e)) refl
in_file before after f file number done (m ∷ ms) (suc n) h b d e g =
    in_file before after f file (number + 1) (done ++ m ∷ []) ms n h b (ap (λ k. k + 1) d ∙ sym (length-append done (m ∷ []))) (e ∙ sym (append_assoc done (m ∷ []) ms)) g

in_files : (before fs : List SvFile) (file n : ℕ) (h : Home) → file ≡ length before → slice_get (file_homes file fs) n ≡ Some h → IsSome (module_at (before ++ fs) h)
in_files before [] file n h b g = absurd (cc)
in_files before (f ∷ fs) file n h b g = elim (get_either (homes_from file 0 f.modules) (file_homes (file + 1) fs) n h g) [
  | inl here ↦ in_file before fs f file 0 [] f.modules n h b refl refl here
  | inr there ↦
      let P : List SvFile → Type 0 = λ xs. IsSome (module_at xs h) in
      subst P (append_assoc before (f ∷ []) fs) (in_files (before ++ f ∷ []) fs (file + 1) there.0 h (ap (λ k. k + 1) b ∙ sym (length-append before (f ∷ []))) there.1)
]

-- where a module of the files stands, there is one
pub home_inside : (files : List SvFile) (n : ℕ) (h : Home) → slice_get (homes_in files) n ≡ Some h → IsSome (module_at files h)
home_inside files n h g = in_files [] files 0 n h refl g

from_home : (homes : List Home) (i : Instance) (o : Option Home) (rest : List Scope) (n : ℕ) (s : Scope) → slice_get homes i.module_number ≡ o → slice_get (scope_at i o ++ rest) n ≡ Some s → ((m : ℕ) × (slice_get homes m ≡ Some s.home)) ⊎ ((m : ℕ) × (slice_get rest m ≡ Some s))
from_home homes i None rest n s e g = inr (n, g)
from_home homes i (Some home) rest zero s e g = inl (i.module_number, e ∙ ap (λ (x : Scope). Some x.home) (same_Some _ s g))
from_home homes i (Some home) rest (suc n) s e g = inr (n, g)

-- the module of a scope stands among these
pub scope_home : (homes : List Home) (is : List Instance) (n : ℕ) (s : Scope) → slice_get (scopes_of homes is) n ≡ Some s → (m : ℕ) × (slice_get homes m ≡ Some s.home)
scope_home homes [] n s g = absurd (cc)
scope_home homes (i ∷ is) n s g = elim (from_home homes i (slice_get homes i.module_number) (scopes_of homes is) n s refl g) [
  | inl found ↦ found
  | inr later ↦ scope_home homes is later.0 s later.1
]
